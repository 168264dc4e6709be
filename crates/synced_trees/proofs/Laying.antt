-- The steps of a dump that are laid over another tree: those of some paths and attributes, one after another.
use Rattle.std.proofs.Common.{◌≡◌, ℕ, List, [], ◌∷◌, map, length, Bool, true, false, not, ◌&&◌, cond, nat_lt}
use Rattle.std.proofs.Common.{Option, Some, None, is_some, refl, sym, ap, subst, ◌∙◌}
use Rattle.std.specs.List.{filter}
use Rattle.std.specs.Option.{option_or}
use Rattle.std.proofs.Common.{Ordering, Less, Equal, Greater}
use Rattle.std.specs.Ordering.{eq_by_cmp, is_eq}
use Rattle.std.specs.FinMap.{find}
use Rattle.std.proofs.lemmas.Bool.{false≢true, and_parts, not-false}
use Rattle.store_model.specs.Parameters.{Parameters}
use Rattle.store_model.specs.Paths.{Path, Name, is_root, name_cmp, same_path, parent}
use Rattle.store_model.specs.Trees.{Tree, Node, IsTree, node_at, attributes_at, attribute_at, is_directory}
use Rattle.store_model.specs.Trees.{is_directory_node, exists, contents, contents_of, with_node}
use Rattle.store_model.specs.Trees.{with_attribute}
use Rattle.store_model.specs.Trees.Node.{Directory, File}
use Rattle.store_model.specs.Lists.{overwrite}
use Rattle.store_model.specs.Pages.{IsTreeUnder}
use Rattle.store_model.specs.Commands.{Command, IsCommand}
use Rattle.store_model.specs.Steps.{Condition, first_refusal, conditions, refusal_of, next_tree}
use Rattle.store_model.proofs.TreesLemmasPaths.{same_from_test, same_path-itself}
use Rattle.store_model.proofs.TreesLemmasSteps.{AllFail, all_fail, IsTree-next_tree}
use Rattle.store_model.proofs.PathsLemmasPlaces.{same_name_from_tie}
use Rattle.store_model.proofs.TreesLemmasAttributes.{node_at-with_node, attributes_at-with_node}
use Rattle.store_model.proofs.TreesLemmasAttributes.{node_at-with_attributes, attribute_at-set}
use Rattle.dump_streams.specs.Dumps.{DumpStep, command_of_step, after_step}
use Rattle.dump_streams.specs.Dumps.DumpStep.{Make, Write, Set}
use Rattle.dump_streams.proofs.Chains.{Chain}
use Rattle.dump_streams.proofs.NextTrees.{goes_on}
use Rattle.dump_streams.proofs.DumpSteps.{step_of_next}
use Rattle.synced_trees.specs.Leading.{AreAllowed, led_by}

-- ---- what a command is refused for

-- where each condition fails, there is no refusal
pub none_refuses : (cs : List Condition) → AllFail cs → first_refusal cs ≡ None
unfolding first_refusal
none_refuses [] fail = refl
none_refuses (condition ∷ cs) fail =
    ap (λ b. cond b (Some condition.1) (first_refusal cs)) fail.0 ∙ none_refuses cs fail.1

-- what is no directory is not the root
pub not_root : (t : Tree) (x : Path) → is_directory t x ≡ false → is_root x ≡ false
not_root t [] h = cc
not_root t (n ∷ x) h = refl

-- nor is what is absent
pub not_root_absent : (t : Tree) (x : Path) → exists t x ≡ false → is_root x ≡ false
not_root_absent t [] h = cc
not_root_absent t (n ∷ x) h = refl

-- the answer `Equal`, from its test
pub equal_from_test : (o : Ordering) → is_eq o ≡ true → o ≡ Equal
equal_from_test Less e = cc
equal_from_test Equal e = refl
equal_from_test Greater e = cc

-- ---- one thing laid over another

-- what is told, where it is taken and told, and else what is kept
abbrev pub laid : {X : Type 0} → Bool → Option X → Option X → Option X
laid true told kept = option_or told kept
laid false told kept = kept

laid_put : {X : Type 0} (w c : Bool) (v : X) (told kept : Option X) → (c ≡ true → w ≡ true)
    → cond c (Some v) (laid w told kept) ≡ laid w (cond c (Some v) told) kept
laid_put true true v told kept h = refl
laid_put false true v told kept h = let never = h refl in absurd (false≢true never)
laid_put w false v told kept h = refl

laid_past : {X : Type 0} (w c : Bool) (v : X) (told kept : Option X) → (c ≡ true → w ≡ false)
    → laid w told kept ≡ laid w (cond c (Some v) told) kept
laid_past true true v told kept h = let never = h refl in absurd (false≢true (sym never))
laid_past true false v told kept h = refl
laid_past false c v told kept h = refl

directory_there : (w : Bool) (told kept : Option Node) → is_directory_node told ≡ true
    → (w ≡ false → is_directory_node kept ≡ true) → is_directory_node (laid w told kept) ≡ true
directory_there true None kept h g = cc
directory_there true (Some n) kept h g = h
directory_there false told kept h g = g refl

no_directory_there : (told kept : Option Node) → is_directory_node told ≡ false → is_directory_node kept ≡ false
    → is_directory_node (option_or told kept) ≡ false
no_directory_there None kept h g = g
no_directory_there (Some n) kept h g = h

some_there : {X : Type 0} (w : Bool) (told kept : Option X) → is_some told ≡ true
    → (w ≡ false → is_some kept ≡ true) → is_some (laid w told kept) ≡ true
some_there true None kept h g = cc
some_there true (Some n) kept h g = refl
some_there false told kept h g = g refl

none_there : {X : Type 0} (told kept : Option X) → is_some told ≡ false → kept ≡ None
    → is_some (option_or told kept) ≡ false
none_there None kept h g = ap is_some g
none_there (Some n) kept h g = cc

contents_there : (told kept : Option Node) → contents_of kept ≡ []
    → contents_of (option_or told kept) ≡ contents_of told
contents_there None kept g = g
contents_there (Some n) kept g = refl

-- ---- what stays along a dump

-- a directory that a step finds is one after it
kept_directory : (t : Tree) (s : DumpStep) (x : Path) → refusal_of t (command_of_step s) ≡ None
    → is_directory t x ≡ true → is_directory (after_step t s) x ≡ true
unfolding next_tree conditions
kept_directory t (Make y) x allowed is =
    let fail = all_fail (conditions t (Command.Make y)) allowed in
    ap is_directory_node (node_at-with_node t y x Directory fail.0) ∙ by_test (same_path x y)
  where
    by_test : (b : Bool) → is_directory_node (cond b (Some Directory) (node_at t x)) ≡ true
    by_test true = refl
    by_test false = is
kept_directory t (Write y at bytes) x allowed is =
    let fail = all_fail (conditions t (Command.Write y at bytes)) allowed in
    ap is_directory_node (node_at-with_node t y x (File (overwrite (contents t y) at bytes))
    (not_root t y (fail.1).0)) ∙ by_test (fail.1).0 (same_path x y) refl
  where
    by_test : is_directory t y ≡ false → (b : Bool) → same_path x y ≡ b
        → is_directory_node (cond b (Some (File (overwrite (contents t y) at bytes))) (node_at t x)) ≡ true
    by_test other true same = absurd (false≢true (sym other ∙ ap (is_directory t) (sym (same_from_test x y same)) ∙ is))
    by_test other false same = is
kept_directory t (Set y a bytes) x allowed is =
    ap is_directory_node (node_at-with_attributes t y x (with_attribute (attributes_at t y) a bytes)) ∙ is

-- and what it finds is there after it
kept_there : (t : Tree) (s : DumpStep) (x : Path) → refusal_of t (command_of_step s) ≡ None
    → exists t x ≡ true → exists (after_step t s) x ≡ true
unfolding next_tree conditions
kept_there t (Make y) x allowed is =
    let fail = all_fail (conditions t (Command.Make y)) allowed in
    ap is_some (node_at-with_node t y x Directory fail.0) ∙ by_test (same_path x y)
  where
    by_test : (b : Bool) → is_some (cond b (Some Directory) (node_at t x)) ≡ true
    by_test true = refl
    by_test false = is
kept_there t (Write y at bytes) x allowed is =
    let fail = all_fail (conditions t (Command.Write y at bytes)) allowed in
    ap is_some (node_at-with_node t y x (File (overwrite (contents t y) at bytes)) (not_root t y (fail.1).0))
    ∙ by_test (same_path x y)
  where
    by_test : (b : Bool) → is_some (cond b (Some (File (overwrite (contents t y) at bytes))) (node_at t x)) ≡ true
    by_test true = refl
    by_test false = is
kept_there t (Set y a bytes) x allowed is =
    ap is_some (node_at-with_attributes t y x (with_attribute (attributes_at t y) a bytes)) ∙ is

-- so it is to the end of the dump
pub directory_to_end : (cs : List DumpStep) (t u : Tree) (p : Parameters) (x : Path) → IsTreeUnder t p
    → Chain t cs u p → is_directory t x ≡ true → is_directory u x ≡ true
directory_to_end [] t u p x under same is = ap (λ (v : Tree). is_directory v x) (sym same) ∙ is
directory_to_end (c ∷ cs) t u p x under chain is =
    directory_to_end cs (after_step t c) u p x (goes_on t c p under chain.0).under chain.1
    (kept_directory t c x (step_of_next t c p under chain.0).allowed is)

pub there_to_end : (cs : List DumpStep) (t u : Tree) (p : Parameters) (x : Path) → IsTreeUnder t p
    → Chain t cs u p → exists t x ≡ true → exists u x ≡ true
there_to_end [] t u p x under same is = ap (λ (v : Tree). exists v x) (sym same) ∙ is
there_to_end (c ∷ cs) t u p x under chain is =
    there_to_end cs (after_step t c) u p x (goes_on t c p under chain.0).under chain.1
    (kept_there t c x (step_of_next t c p under chain.0).allowed is)

-- ---- what may be laid over a tree

-- The directories that are made, the paths that are written, and the attributes that are named, of a tree b that is
-- laid over m: what is written m has not, or as an empty file; and what else b has stands in m as a directory or a file
-- too.
pub record MayLie (b m : Tree) (made written : Path → Bool) : Type 0 where
  pub directory : (x : Path) → is_directory b x ≡ true → made x ≡ written x
  pub absent : (x : Path) → written x ≡ true → is_directory b x ≡ true → node_at m x ≡ None
  pub blank : (x : Path) → written x ≡ true → contents m x ≡ []
  pub no_directory : (x : Path) → written x ≡ true → is_directory m x ≡ false
  pub there : (x : Path) → written x ≡ false → exists b x ≡ true → exists m x ≡ true
  pub alike : (x : Path) → written x ≡ false → is_directory b x ≡ true → is_directory m x ≡ true

-- the steps that are laid over it
abbrev pub chosen : (Path → Bool) → (Path → Bool) → (Path → Name → Bool) → DumpStep → Bool
chosen made written named (Make x) = made x
chosen made written named (Write x at bytes) = written x
chosen made written named (Set x a bytes) = named x a

abbrev pub chosen_commands : (Path → Bool) → (Path → Bool) → (Path → Name → Bool) → List DumpStep → List Command
chosen_commands made written named steps = map command_of_step (filter (chosen made written named) steps)

module _ (b m : Tree) (made written : Path → Bool) (named : Path → Name → Bool) (p : Parameters) where
  -- the first steps of b, which are the dump of t, are laid over m, and r is what is left
  pub record IsLaid (t r : Tree) : Type 0 where
    pub is_tree : IsTree r
    pub nodes : (x : Path) → node_at r x ≡ laid (written x) (node_at t x) (node_at m x)
    pub names : (x : Path) (a : Name) → attribute_at r x a ≡ laid (named x a) (attribute_at t x a) (attribute_at m x a)

  -- what one more step leads to
  abbrev Laid : DumpStep → Tree → Tree → Type 0
  Laid s t r = (refusal_of r (command_of_step s) ≡ None) × IsLaid (after_step t s) (after_step r s)

  -- what a directory of t is in r
  directory_of : (t r : Tree) → MayLie b m made written → IsLaid t r
      → ((x : Path) → is_directory t x ≡ true → is_directory b x ≡ true)
      → (x : Path) → is_directory t x ≡ true → is_directory r x ≡ true
  directory_of t r may inv ends x is = ap is_directory_node (inv.nodes x)
      ∙ directory_there (written x) (node_at t x) (node_at m x) is (λ w. may.alike x w (ends x is))

  there_of : (t r : Tree) → MayLie b m made written → IsLaid t r
      → ((x : Path) → exists t x ≡ true → exists b x ≡ true)
      → (x : Path) → exists t x ≡ true → exists r x ≡ true
  there_of t r may inv ends x is = ap is_some (inv.nodes x)
      ∙ some_there (written x) (node_at t x) (node_at m x) is (λ w. may.there x w (ends x is))

  -- a node that is put at a written path of both
  node_put : (t t' r r' : Tree) (x : Path) (n : Node) → IsLaid t r → written x ≡ true
      → ((y : Path) → node_at t' y ≡ cond (same_path y x) (Some n) (node_at t y))
      → ((y : Path) → node_at r' y ≡ cond (same_path y x) (Some n) (node_at r y))
      → (y : Path) → node_at r' y ≡ laid (written y) (node_at t' y) (node_at m y)
  node_put t t' r r' x n inv w is is' y =
      is' y ∙ ap (cond (same_path y x) (Some n)) (inv.nodes y)
      ∙ laid_put (written y) (same_path y x) n (node_at t y) (node_at m y)
      (λ s. ap written (same_from_test y x s) ∙ w)
      ∙ ap (λ (o : Option Node). laid (written y) o (node_at m y)) (sym (is y))

  -- and one at a path that is not written
  node_past : (t t' r : Tree) (x : Path) (n : Node) → IsLaid t r → written x ≡ false
      → ((y : Path) → node_at t' y ≡ cond (same_path y x) (Some n) (node_at t y))
      → (y : Path) → node_at r y ≡ laid (written y) (node_at t' y) (node_at m y)
  node_past t t' r x n inv w is y =
      inv.nodes y
      ∙ laid_past (written y) (same_path y x) n (node_at t y) (node_at m y)
      (λ s. ap written (same_from_test y x s) ∙ w)
      ∙ ap (λ (o : Option Node). laid (written y) o (node_at m y)) (sym (is y))

  -- attributes that stay in both
  names_stay : (t t' r r' : Tree) → IsLaid t r
      → ((y : Path) (a : Name) → attribute_at t' y a ≡ attribute_at t y a)
      → ((y : Path) (a : Name) → attribute_at r' y a ≡ attribute_at r y a)
      → (y : Path) (a : Name) → attribute_at r' y a ≡ laid (named y a) (attribute_at t' y a) (attribute_at m y a)
  names_stay t t' r r' inv is is' y a =
      is' y a ∙ inv.names y a ∙ ap (λ (o : Option (List ℕ)). laid (named y a) o (attribute_at m y a)) (sym (is y a))

  attribute_of_node : (t : Tree) (x : Path) (n : Node) (y : Path) (a : Name)
      → attribute_at (with_node t x n) y a ≡ attribute_at t y a
  attribute_of_node t x n y a = ap (find name_cmp a) (attributes_at-with_node t x y n)

  made_here : (t r : Tree) (x : Path) → MayLie b m made written → IsLaid t r → written x ≡ true
      → ((y : Path) → is_directory t y ≡ true → is_directory b y ≡ true) → is_directory b x ≡ true
      → IsCommand (Command.Make x) → refusal_of t (Command.Make x) ≡ None → Laid (Make x) t r
  unfolding next_tree conditions
  made_here t r x may inv w ends is valid allowed =
      let fail = all_fail (conditions t (Command.Make x)) allowed in
      let up = directory_of t r may inv ends (parent x) (not-false _ (fail.1).0) in
      let none : exists r x ≡ false = ap is_some (inv.nodes x)
      ∙ ap (λ (c : Bool). is_some (laid c (node_at t x) (node_at m x))) w
      ∙ none_there (node_at t x) (node_at m x) ((fail.1).1).0 (may.absent x w is) in
      let free : refusal_of r (Command.Make x) ≡ None = none_refuses (conditions r (Command.Make x))
      (fail.0, (ap not up, (none, tt))) in (
        free,
        record {
          is_tree = IsTree-next_tree r (Command.Make x) inv.is_tree valid free;
          nodes = node_put t (with_node t x Directory) r (with_node r x Directory) x Directory inv w
              (λ y. node_at-with_node t x y Directory fail.0) (λ y. node_at-with_node r x y Directory fail.0);
          names = names_stay t (with_node t x Directory) r (with_node r x Directory) inv
              (attribute_of_node t x Directory) (attribute_of_node r x Directory);
        },
      )

  wrote : (t r : Tree) (x : Path) (at : ℕ) (bytes : List ℕ) → MayLie b m made written → IsLaid t r → written x ≡ true
      → ((y : Path) → is_directory t y ≡ true → is_directory b y ≡ true)
      → IsCommand (Command.Write x at bytes) → refusal_of t (Command.Write x at bytes) ≡ None
      → Laid (Write x at bytes) t r
  unfolding next_tree conditions
  wrote t r x at bytes may inv w ends valid allowed =
      let fail = all_fail (conditions t (Command.Write x at bytes)) allowed in
      let below = not_root t x (fail.1).0 in
      let up = directory_of t r may inv ends (parent x) (not-false _ fail.0) in
      let here : node_at r x ≡ option_or (node_at t x) (node_at m x) = inv.nodes x
      ∙ ap (λ (c : Bool). laid c (node_at t x) (node_at m x)) w in
      let file : is_directory r x ≡ false = ap is_directory_node here
      ∙ no_directory_there (node_at t x) (node_at m x) (fail.1).0 (may.no_directory x w) in
      let same : contents r x ≡ contents t x = ap contents_of here
      ∙ contents_there (node_at t x) (node_at m x) (may.blank x w) in
      let free : refusal_of r (Command.Write x at bytes) ≡ None =
      none_refuses (conditions r (Command.Write x at bytes)) (
        ap not up,
        (
          file,
          (
            ap (λ (c : List ℕ). nat_lt (length c) at) same ∙ ((fail.1).1).0,
            (((fail.1).1).1),
          ),
        ),
      ) in
      let n : Node = File (overwrite (contents t x) at bytes) in
      let n' : Node = File (overwrite (contents r x) at bytes) in
      let nodes_are : n' ≡ n = ap (λ (c : List ℕ). File (overwrite c at bytes)) same in (
        free,
        record {
          is_tree = IsTree-next_tree r (Command.Write x at bytes) inv.is_tree valid free;
          nodes = node_put t (with_node t x n) r (with_node r x n') x n inv w
              (λ y. node_at-with_node t x y n below)
              (λ y. node_at-with_node r x y n' below
              ∙ ap (λ (k : Node). cond (same_path y x) (Some k) (node_at r y)) nodes_are);
          names = names_stay t (with_node t x n) r (with_node r x n') inv
              (attribute_of_node t x n) (attribute_of_node r x n');
        },
      )

  named_here : (x y : Path) (a e : Name) → (same_path y x && eq_by_cmp name_cmp e a) ≡ true → (c : Bool)
      → named x a ≡ c → named y e ≡ c
  named_here x y a e s c is =
      let both = and_parts (same_path y x) (eq_by_cmp name_cmp e a) s in
      let path : y ≡ x = same_from_test y x both.0 in
      let name : e ≡ a = same_name_from_tie e a (equal_from_test (name_cmp e a) both.1) in
      (λ i. named (path i) (name i)) ∙ is

  set_here : (t r : Tree) (x : Path) (a : Name) (bytes : List ℕ) → MayLie b m made written → IsLaid t r
      → named x a ≡ true → ((y : Path) → exists t y ≡ true → exists b y ≡ true)
      → IsCommand (Command.SetAttribute x a bytes) → refusal_of t (Command.SetAttribute x a bytes) ≡ None
      → Laid (Set x a bytes) t r
  unfolding next_tree conditions
  set_here t r x a bytes may inv w ends valid allowed =
      let fail = all_fail (conditions t (Command.SetAttribute x a bytes)) allowed in
      let is = not-false _ (fail.1).0 in
      let is' = there_of t r may inv ends x is in
      let free : refusal_of r (Command.SetAttribute x a bytes) ≡ None =
      none_refuses (conditions r (Command.SetAttribute x a bytes)) (fail.0, (ap not is', (fail.1).1)) in (
        free,
        record {
          is_tree = IsTree-next_tree r (Command.SetAttribute x a bytes) inv.is_tree valid free;
          nodes = λ y. node_at-with_attributes r x y (with_attribute (attributes_at r x) a bytes) ∙ inv.nodes y
              ∙ ap (λ (o : Option Node). laid (written y) o (node_at m y))
              (sym (node_at-with_attributes t x y (with_attribute (attributes_at t x) a bytes)));
          names = λ y e. attribute_at-set r x y a e bytes fail.0 is'
              ∙ ap (cond (same_path y x && eq_by_cmp name_cmp e a) (Some bytes)) (inv.names y e)
              ∙ laid_put (named y e) (same_path y x && eq_by_cmp name_cmp e a) bytes (attribute_at t y e)
              (attribute_at m y e) (λ s. named_here x y a e s true w)
              ∙ ap (λ (o : Option (List ℕ)). laid (named y e) o (attribute_at m y e))
              (sym (attribute_at-set t x y a e bytes fail.0 is));
        },
      )

  -- what is made on the way is a directory at the end
  made_to_end : (t : Tree) (x : Path) (rest : List DumpStep) → IsTreeUnder t p → Chain t (Make x ∷ rest) b p
      → is_root x ≡ false → is_directory b x ≡ true
  unfolding next_tree
  made_to_end t x rest under chain below =
      directory_to_end rest (after_step t (Make x)) b p x (goes_on t (Make x) p under chain.0).under chain.1
      (ap is_directory_node (node_at-with_node t x x Directory below
      ∙ ap (λ c. cond c (Some Directory) (node_at t x)) (same_path-itself x)))

  -- a step that is not laid over it
  past : (t r : Tree) (s : DumpStep) (rest : List DumpStep) → MayLie b m made written → IsLaid t r → IsTreeUnder t p
      → Chain t (s ∷ rest) b p → chosen made written named s ≡ false
      → refusal_of t (command_of_step s) ≡ None → IsLaid (after_step t s) r
  unfolding next_tree conditions
  past t r (Make x) rest may inv under chain w allowed =
      let fail = all_fail (conditions t (Command.Make x)) allowed in
      let is = made_to_end t x rest under chain fail.0 in record {
        is_tree = inv.is_tree;
        nodes = node_past t (with_node t x Directory) r x Directory inv (sym (may.directory x is) ∙ w)
            (λ y. node_at-with_node t x y Directory fail.0);
        names = names_stay t (with_node t x Directory) r r inv (attribute_of_node t x Directory) (λ y a. refl);
      }
  past t r (Write x at bytes) rest may inv under chain w allowed =
      let fail = all_fail (conditions t (Command.Write x at bytes)) allowed in
      let n : Node = File (overwrite (contents t x) at bytes) in record {
        is_tree = inv.is_tree;
        nodes = node_past t (with_node t x n) r x n inv w (λ y. node_at-with_node t x y n (not_root t x (fail.1).0));
        names = names_stay t (with_node t x n) r r inv (attribute_of_node t x n) (λ y a. refl);
      }
  past t r (Set x a bytes) rest may inv under chain w allowed =
      let fail = all_fail (conditions t (Command.SetAttribute x a bytes)) allowed in record {
        is_tree = inv.is_tree;
        nodes = λ y. inv.nodes y ∙ ap (λ (o : Option Node). laid (written y) o (node_at m y))
            (sym (node_at-with_attributes t x y (with_attribute (attributes_at t x) a bytes)));
        names = λ y e. inv.names y e
            ∙ laid_past (named y e) (same_path y x && eq_by_cmp name_cmp e a) bytes (attribute_at t y e)
            (attribute_at m y e) (λ s. named_here x y a e s false w)
            ∙ ap (λ (o : Option (List ℕ)). laid (named y e) o (attribute_at m y e))
            (sym (attribute_at-set t x y a e bytes fail.0 (not-false _ (fail.1).0)));
      }

  -- one that is
  taken : (t r : Tree) (s : DumpStep) (rest : List DumpStep) → MayLie b m made written → IsLaid t r → IsTreeUnder t p
      → Chain t (s ∷ rest) b p → chosen made written named s ≡ true → Laid s t r
  unfolding next_tree conditions
  taken t r (Make x) rest may inv under chain w =
      let step = step_of_next t (Make x) p under chain.0 in
      let fail = all_fail (conditions t (Command.Make x)) step.allowed in
      let is = made_to_end t x rest under chain fail.0 in
      made_here t r x may inv (sym (may.directory x is) ∙ w) (λ y. directory_to_end (Make x ∷ rest) t b p y under chain)
      is step.command step.allowed
  taken t r (Write x at bytes) rest may inv under chain w =
      let step = step_of_next t (Write x at bytes) p under chain.0 in
      wrote t r x at bytes may inv w (λ y. directory_to_end (Write x at bytes ∷ rest) t b p y under chain)
      step.command step.allowed
  taken t r (Set x a bytes) rest may inv under chain w =
      let step = step_of_next t (Set x a bytes) p under chain.0 in
      set_here t r x a bytes may inv w (λ y. there_to_end (Set x a bytes ∷ rest) t b p y under chain)
      step.command step.allowed

  -- the steps of b that are left are laid over it
  pub laying : (rest : List DumpStep) (t r : Tree) → MayLie b m made written → IsTreeUnder t p → Chain t rest b p
      → IsLaid t r
      → AreAllowed r (chosen_commands made written named rest)
      × IsLaid b (led_by r (chosen_commands made written named rest))
  laying [] t r may under same inv = (tt, subst (λ (u : Tree). IsLaid u r) same inv)
  laying (s ∷ rest) t r may under chain inv =
      let step = step_of_next t s p under chain.0 in
      let goes = goes_on t s p under chain.0 in
      by_test (λ r' inv'. laying rest (after_step t s) r' may goes.under chain.1 inv') (chosen made written named s)
      refl
      step.allowed
    where
      by_test : ((r' : Tree) → IsLaid (after_step t s) r'
          → AreAllowed r' (chosen_commands made written named rest)
          × IsLaid b (led_by r' (chosen_commands made written named rest)))
          → (c : Bool) → chosen made written named s ≡ c → refusal_of t (command_of_step s) ≡ None
          → AreAllowed r (map command_of_step (cond c (s ∷ filter (chosen made written named) rest)
          (filter (chosen made written named) rest)))
          × IsLaid b (led_by r (map command_of_step (cond c (s ∷ filter (chosen made written named) rest)
          (filter (chosen made written named) rest))))
      by_test more true is allowed =
          let one = taken t r s rest may inv under chain is in
          let others = more (after_step r s) one.1 in
          ((one.0, others.0), others.1)
      by_test more false is allowed = more r (past t r s rest may inv under chain is allowed)
