-- Lemmas on steps: each command keeps a tree.
use Rattle.std.proofs.Common.{◌≡◌, ℕ, ◌+◌, ◌≤◌, List, [], ◌∷◌, ◌++◌, length, take, drop, Bool, true, false, ◌&&◌}
use Rattle.std.proofs.Common.{Option, Some, None, Result, Ok, Err, nat_lt, if◌then◌else◌, refl, sym, subst, arith}
use Rattle.std.proofs.Common.{ltb-false}
use Rattle.std.specs.List.{AllByRecursion}
use Rattle.std.proofs.lemmas.Bool.{or_parts, not-false, cond-true, cond-false}
use Rattle.std.proofs.lemmas.List.{length-append, length-take, length-drop, take-append-drop}
use Rattle.store_model.specs.declared.refusal.Refusal.{Refusal}
use Rattle.store_model.specs.declared.refusal.Refusal.TheVariants as refusals
use Rattle.store_model.specs.Lists.{IsBytes}
use Rattle.store_model.specs.Parameters.{Parameters}
use Rattle.store_model.specs.Paths.{Path, Name, is_root}
use Rattle.store_model.specs.Trees.{Tree, IsNode, IsTree, file_limit, attribute_limit, is_directory, contents}
use Rattle.store_model.specs.Trees.{attributes_at, with_attribute, without_attribute}
use Rattle.store_model.specs.Trees.Node.{Directory, File}
use Rattle.store_model.specs.Pages.{page_count}
use Rattle.store_model.specs.Commands.{Command, IsCommand}
use Rattle.store_model.specs.Commands.Command.{Make, Write, Cut, Rename, Remove, Prune, ListChildren, Read, Space}
use Rattle.store_model.specs.Commands.Command.{Digest, SetAttribute, UnsetAttribute, GetAttribute, ListAttributes}
use Rattle.store_model.specs.Commands.Reply.{Refused}
use Rattle.store_model.specs.Steps.{Step, Condition, first_refusal, conditions, refusal_of, next_tree, may_fill}
use Rattle.store_model.specs.Steps.{lacks_version, step, step_by}
use Rattle.store_model.specs.Lists.{overwrite}
use Rattle.store_model.specs.Grammar.{parse}
use Rattle.store_model.specs.Scripts.{line_limit, answer, answer_by, tree_by, tree_after}
use Rattle.store_model.proofs.ListsLemmas.{all_append, all_front, all_back, bytes_from_all, all_from_bytes}
use Rattle.store_model.proofs.GrammarLemmas.{IsCommand-parse}
use Rattle.store_model.proofs.TreesLemmas.{IsTree-with_node, IsTree-make, IsTree-without, IsTree-without_subtree}
use Rattle.store_model.proofs.TreesLemmas.{contents_of_tree, AreAttributes-attributes_at, entry_at}
use Rattle.store_model.proofs.TreesLemmasAttributes.{AreAttributes-with_attribute, AreAttributes-without_attribute}
use Rattle.store_model.proofs.TreesLemmasAttributes.{IsTree-with_attributes}
use Rattle.store_model.proofs.TreesLemmasMoves.{IsTree-moved}

-- each condition fails, where a command is not refused
abbrev pub AllFail : List Condition → Type 0
AllFail cs = AllByRecursion (λ condition. condition.0 ≡ false) cs

-- where there is no refusal, each condition fails
pub all_fail : (cs : List Condition) → first_refusal cs ≡ None → AllFail cs
unfolding first_refusal
all_fail [] e = tt
all_fail (condition ∷ cs) e =
    (elim condition.0 as (λ b. (if b then Some condition.1 else first_refusal cs) ≡ None
    → (b ≡ false) × AllByRecursion (λ condition. condition.0 ≡ false) cs) [
      | true ↦ λ e. cc
      | false ↦ λ e. (refl, all_fail cs e)
    ]) e

-- ---- the contents that a file gets

-- each element up to a place
all_take : {X : Type 0} (P : X → Type 0) (n : ℕ) (xs : List X) → AllByRecursion P xs → AllByRecursion P (take n xs)
all_take P n xs h = all_front P (take n xs) (drop n xs) (subst (AllByRecursion P) (sym (take-append-drop n xs)) h)

-- each element from a place on
all_drop : {X : Type 0} (P : X → Type 0) (n : ℕ) (xs : List X) → AllByRecursion P xs → AllByRecursion P (drop n xs)
all_drop P n xs h = all_back P (take n xs) (drop n xs) (subst (AllByRecursion P) (sym (take-append-drop n xs)) h)

-- a file cut short is a node
file_cut : (len : ℕ) (old : List ℕ) → length old ≤ file_limit → IsBytes old → IsNode (File (take len old))
file_cut len old l h = (simp length-take (omega arith), bytes_from_all _ (all_take _ len old (all_from_bytes old h)))

-- a file written over is a node, where what is written stays below the limit
file_overwritten : (old : List ℕ) (at : ℕ) (bytes : List ℕ) → length old ≤ file_limit → IsBytes old
    → at + length bytes ≤ file_limit → IsBytes bytes → IsNode (File (overwrite old at bytes))
file_overwritten old at bytes l h fits g = (
  simp (length-append, length-take, length-drop) (omega arith),
  bytes_from_all _ (all_append _ (take at old ++ bytes) (drop (at + length bytes) old)
      (all_append _ (take at old) bytes (all_take _ at old (all_from_bytes old h)) (all_from_bytes bytes g))
      (all_drop _ (at + length bytes) old (all_from_bytes old h))),
)

-- ---- each command

-- what is no directory is not the root
not_root_from_other : (t : Tree) (p : Path) → is_directory t p ≡ false → is_root p ≡ false
not_root_from_other t [] h = cc
not_root_from_other t (n ∷ p) h = refl

-- a file that replaces no directory loses none
no_directory_lost : (t : Tree) (p : Path) (bytes : List ℕ) → is_directory t p ≡ false → is_directory t p ≡ true
    → File bytes ≡ Directory
no_directory_lost t p bytes other is = cc

-- `make`
made : (t : Tree) (p : Path) → IsTree t → IsCommand (Make p) → AllFail (conditions t (Make p))
    → IsTree (next_tree t (Make p))
unfolding conditions
made t p h is fail = IsTree-make t p h is fail.0 (not-false _ (fail.1).0) ((fail.1).1).0

-- `write`
written : (t : Tree) (p : Path) (at : ℕ) (bytes : List ℕ) → IsTree t → IsCommand (Write p at bytes)
    → AllFail (conditions t (Write p at bytes)) → IsTree (next_tree t (Write p at bytes))
unfolding conditions next_tree
written t p at bytes h is fail =
    let other = (fail.1).0 in
    let old = contents_of_tree t p h in
    IsTree-with_node t p (File (overwrite (contents t p) at bytes)) h
    is.0 (not_root_from_other t p other) (not-false _ fail.0)
    (file_overwritten (contents t p) at bytes
    old.0 old.1 (ltb-false file_limit (at + length bytes) (((fail.1).1).1).0) is.2)
    (no_directory_lost t p _ other)

-- `cut`
shortened : (t : Tree) (p : Path) (len : ℕ) → IsTree t → IsCommand (Cut p len) → AllFail (conditions t (Cut p len))
    → IsTree (next_tree t (Cut p len))
unfolding conditions next_tree
shortened t p len h is fail =
    let other = (fail.1).0 in
    let below = not_root_from_other t p other in
    let old = contents_of_tree t p h in
    let entry = entry_at t p h below (not-false _ fail.0) in
    IsTree-with_node t p (File (take len (contents t p))) h is.0 below
    (entry.2).parent_directory (file_cut len (contents t p) old.0 old.1) (no_directory_lost t p _ other)

-- `rename`
renamed : (t : Tree) (p q : Path) → IsTree t → IsCommand (Rename p q) → AllFail (conditions t (Rename p q))
    → IsTree (next_tree t (Rename p q))
unfolding conditions next_tree
renamed t p q h is fail =
    let roots = or_parts (is_root p) _ fail.0 in
    let rest = (fail.1).1 in
    IsTree-moved t p q h is.1 roots.0 roots.1 rest.0 (not-false _ (rest.1).0) ((rest.1).1).0 (((rest.1).1).1).0

-- `remove`
removed : (t : Tree) (p : Path) → IsTree t → AllFail (conditions t (Remove p)) → IsTree (next_tree t (Remove p))
unfolding conditions next_tree
removed t p h fail = IsTree-without t p h ((fail.1).1).0

-- `set`
attribute_set : (t : Tree) (p : Path) (a : Name) (bytes : List ℕ) → IsTree t → IsCommand (SetAttribute p a bytes)
    → AllFail (conditions t (SetAttribute p a bytes)) → IsTree (next_tree t (SetAttribute p a bytes))
unfolding conditions next_tree
attribute_set t p a bytes h is fail =
    let rest = (fail.1).1 in
    IsTree-with_attributes t p (with_attribute (attributes_at t p) a bytes) h
    (AreAttributes-with_attribute p (attributes_at t p) a bytes (AreAttributes-attributes_at t p h)
    (record {
      name = is.1;
      fits = not-false _ (rest.1).0;
      short = ltb-false attribute_limit (length bytes) rest.0;
      bytes = is.2;
    }))

-- `unset`
attribute_unset : (t : Tree) (p : Path) (a : Name) → IsTree t → IsTree (next_tree t (UnsetAttribute p a))
unfolding next_tree
attribute_unset t p a h = IsTree-with_attributes t p (without_attribute (attributes_at t p) a) h
    (AreAttributes-without_attribute p (attributes_at t p) a (AreAttributes-attributes_at t p h))

-- the tree after a command that is not refused
pub IsTree-next_tree : (t : Tree) (c : Command) → IsTree t → IsCommand c → refusal_of t c ≡ None
    → IsTree (next_tree t c)
unfolding next_tree
IsTree-next_tree t (Make p) h is e = made t p h is (all_fail (conditions t (Make p)) e)
IsTree-next_tree t (Write p at bytes) h is e = written t p at bytes h is (all_fail (conditions t (Write p at bytes)) e)
IsTree-next_tree t (Cut p len) h is e = shortened t p len h is (all_fail (conditions t (Cut p len)) e)
IsTree-next_tree t (Rename p q) h is e = renamed t p q h is (all_fail (conditions t (Rename p q)) e)
IsTree-next_tree t (Remove p) h is e = removed t p h (all_fail (conditions t (Remove p)) e)
IsTree-next_tree t (Prune p) h is e = IsTree-without_subtree t p h
IsTree-next_tree t (ListChildren p) h is e = h
IsTree-next_tree t (Read p at len) h is e = h
IsTree-next_tree t Space h is e = h
IsTree-next_tree t Digest h is e = h
IsTree-next_tree t (SetAttribute p a bytes) h is e =
    attribute_set t p a bytes h is (all_fail (conditions t (SetAttribute p a bytes)) e)
IsTree-next_tree t (UnsetAttribute p a) h is e = attribute_unset t p a h
IsTree-next_tree t (GetAttribute p a) h is e = h
IsTree-next_tree t (ListAttributes p) h is e = h

-- ---- steps and answers

-- the tree of one of two steps, by a test
pub picked_tree : (P : Tree → Type 0) (b : Bool) (x y : Step) → P x.tree → P y.tree → P (if b then x else y).tree
picked_tree P true x y h g = h
picked_tree P false x y h g = g

-- the tree after a step, whichever refusal holds
stepped : (t : Tree) (c : Command) (p : Parameters) (o : Option Refusal) → IsTree t → IsCommand c → refusal_of t c ≡ o
    → IsTree (step_by t c p o).tree
stepped t c p (Some refusal) h is e = h
stepped t c p None h is e = picked_tree IsTree (may_fill c && nat_lt p.slots (page_count (next_tree t c) p)) _ _ h
    (IsTree-next_tree t c h is e)

-- the step of a command that its image's version lacks
pub step_of_version : (t : Tree) (c : Command) (p : Parameters) → lacks_version c p ≡ true → step t c p ≡ record {
  reply = Refused refusals.Version;
  tree = t;
}
unfolding step
step_of_version t c p lacks = cond-true (lacks_version c p) _ _ lacks

-- and of one that it has
pub step_by_refusal : (t : Tree) (c : Command) (p : Parameters) → lacks_version c p ≡ false
    → step t c p ≡ step_by t c p (refusal_of t c)
unfolding step
step_by_refusal t c p has = cond-false (lacks_version c p) _ _ has

-- a step keeps a tree
pub IsTree-step : (t : Tree) (c : Command) (p : Parameters) → IsTree t → IsCommand c → IsTree (step t c p).tree
unfolding step
IsTree-step t c p h is = picked_tree IsTree (lacks_version c p) _ _ h (stepped t c p (refusal_of t c) h is refl)

-- so does the answer to a line
answered : (t : Tree) (text : List ℕ) (p : Parameters) (parsed : Result Command Refusal) → IsTree t
    → parse text ≡ parsed → IsTree (answer_by t parsed p).tree
answered t text p (Err refusal) h e = h
answered t text p (Ok c) h e = IsTree-step t c p h (IsCommand-parse text c e)

-- the answer to any line keeps a tree
pub IsTree-answer : (t : Tree) (text : List ℕ) (p : Parameters) → IsTree t → IsTree (answer t text p).tree
unfolding answer
IsTree-answer t text p h = picked_tree IsTree (nat_lt line_limit (length text)) _ _ h
    (answered t text p (parse text) h refl)

-- what each answer keeps of a tree, answers one after another keep
pub tree_by_keeps : {Q : Type 0} (P : Tree → Type 0) (answered : Tree → Q → Step)
    → ((t : Tree) (question : Q) → P t → P (answered t question).tree) → (t : Tree) (questions : List Q) → P t
    → P (tree_by answered t questions)
unfolding tree_by
tree_by_keeps P answered keeps t [] h = h
tree_by_keeps P answered keeps t (question ∷ questions) h =
    tree_by_keeps P answered keeps (answered t question).tree questions (keeps t question h)

-- the answers to lines keep a tree
pub IsTree-tree_after : (t : Tree) (texts : List (List ℕ)) (p : Parameters) → IsTree t → IsTree (tree_after t texts p)
unfolding tree_after
IsTree-tree_after t texts p h = tree_by_keeps IsTree (λ u text. answer u text p)
    (λ u text g. IsTree-answer u text p g) t texts h
