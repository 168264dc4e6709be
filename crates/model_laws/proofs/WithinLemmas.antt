-- What commands at or below a path leave elsewhere.
use Rattle.std.proofs.Common.{◌≡◌, ℕ, ◌≤◌, List, [], ◌∷◌, ◌++◌, map, length, drop, Bool, true, false, not, ◌&&◌, ◌||◌}
use Rattle.std.proofs.Common.{cond, nat_lt, T, Option, Some, None, is_some, Result, Ok, Err, refl, sym, ap, ap₂, subst}
use Rattle.std.proofs.Common.{◌∙◌, append_assoc}
use Rattle.std.specs.List.{AllByRecursion}
use Rattle.std.specs.FinMap.{find, put, is_sorted}
use Rattle.std.specs.FinMap.Entries.{find-put, where_key, find-where_key, same_entries}
use Rattle.std.proofs.lemmas.Bool.{and_parts, false_from_ne_true, both_ways, cond-true, cond-false, le-ltb}
use Rattle.std.proofs.lemmas.Bool.{not_from_false}
use Rattle.store_model.specs.declared.refusal.Refusal.{Refusal}
use Rattle.store_model.specs.declared.refusal.Refusal.TheVariants as refusals
use Rattle.store_model.specs.Parameters.{Parameters}
use Rattle.store_model.specs.Paths.{Path, is_root, path_cmp, same_path, is_inside, is_at_or_inside}
use Rattle.store_model.specs.Trees.{Tree, Entry, Attributes, node_of, attributes_of, IsTree, exists, node_at}
use Rattle.store_model.specs.Trees.{attributes_at, moved_path, attributed, without, without_subtree, moved}
use Rattle.store_model.specs.Pages.{page_count}
use Rattle.store_model.specs.Commands.{Command, IsCommand}
use Rattle.store_model.specs.Commands.Command.{Make, Write, Cut, Rename, Remove, Prune, ListChildren, Read, Space}
use Rattle.store_model.specs.Commands.Command.{Digest, SetAttribute, UnsetAttribute, GetAttribute, ListAttributes}
use Rattle.store_model.specs.Steps.{Step, step, step_by, first_refusal, conditions, refusal_of, next_tree, may_fill}
use Rattle.store_model.specs.Steps.{is_on_attributes, lacks_version}
use Rattle.store_model.specs.Grammar.{parse}
use Rattle.store_model.specs.Scripts.{answer, answer_by, line_limit, tree_after, tree_by, state_by}
use Rattle.store_model.proofs.TreesLemmas.{is_some-node_of}
use Rattle.store_model.proofs.TreesLemmasMoves.{find-tree_of, nothing_below}
use Rattle.store_model.proofs.TreesLemmasPaths.{path_cmp_total, same_from_tie, same_from_test, same_path-itself}
use Rattle.store_model.proofs.TreesLemmasPaths.{at_or_inside-append, at_or_inside-split, moved_path_there}
use Rattle.store_model.proofs.TreesLemmasPaths.{moved_path_elsewhere}
use Rattle.store_model.proofs.TreesLemmasSteps.{picked_tree, IsTree-step, IsTree-tree_after}
use Rattle.store_model.proofs.ScriptsLemmas.{tree_after-append}
use Rattle.store_model.proofs.GrammarLemmas.{IsCommand-parse}
use Rattle.model_laws.specs.Within.{works_within, asks_within, stays_within}

-- ---- paths

-- what lies at or below a path that lies at or below another lies at or below that
inside_of_inside : (x p at : Path) → is_at_or_inside p at ≡ true → is_at_or_inside x p ≡ true
    → is_at_or_inside x at ≡ true
inside_of_inside x p at outer inner =
    let below = at_or_inside-split p at outer in
    let e : x ≡ at ++ (drop (length at) p ++ drop (length p) x) =
    at_or_inside-split x p inner ∙ ap (λ (q : Path). q ++ drop (length p) x) below
    ∙ append_assoc at (drop (length at) p) (drop (length p) x) in
    subst (λ (y : Path). is_at_or_inside y at ≡ true) (sym e)
    (at_or_inside-append at (drop (length at) p ++ drop (length p) x))

-- a path lies at itself
itself : (at : Path) → is_at_or_inside at at ≡ true
itself at = ap (λ (b : Bool). b || is_inside at at) (same_path-itself at)

-- a path elsewhere is none of those at or below
elsewhere_differs : (x p at : Path) → is_at_or_inside p at ≡ true → is_at_or_inside x at ≡ false → same_path x p ≡ false
elsewhere_differs x p at inside outside =
    false_from_ne_true _ (λ s. both_ways _ outside
    (subst (λ (y : Path). is_at_or_inside y at ≡ true) (sym (same_from_test x p s)) inside))

-- and it lies below none of them
elsewhere_is_outside : (x p at : Path) → is_at_or_inside p at ≡ true → is_at_or_inside x at ≡ false
    → is_at_or_inside x p ≡ false
elsewhere_is_outside x p at inside outside =
    false_from_ne_true _ (λ s. both_ways _ outside (inside_of_inside x p at inside s))

-- ---- one command

-- an entry that is put at or below
put_elsewhere : (t : Tree) (p at x : Path) (entry : Entry) → is_at_or_inside p at ≡ true → is_at_or_inside x at ≡ false
    → find path_cmp x (put path_cmp p entry t) ≡ find path_cmp x t
put_elsewhere t p at x entry inside outside = find-put path_cmp path_cmp_total x p entry t
    ∙ ap (λ b. cond b (Some entry) (find path_cmp x t)) (elsewhere_differs x p at inside outside)

-- attributes that are put at or below
attributed_elsewhere : (t : Tree) (p at x : Path) (attributes : Attributes) (o : Option Entry)
    → is_at_or_inside p at ≡ true → is_at_or_inside x at ≡ false
    → find path_cmp x (attributed t p attributes o) ≡ find path_cmp x t
attributed_elsewhere t p at x attributes None inside outside = refl
attributed_elsewhere t p at x attributes (Some entry) inside outside = put_elsewhere t p at x _ inside outside

-- entries that a test of their paths keeps
kept_elsewhere : (t : Tree) (keep : Path → Bool) (x : Path) → keep x ≡ true
    → find path_cmp x (where_key path_cmp keep t) ≡ find path_cmp x t
kept_elsewhere t keep x k = find-where_key path_cmp keep x (λ y e. ap keep (sym (same_from_tie x y e))) t
    ∙ cond-true _ _ None k

-- a path that moves from at or below to at or below is no path elsewhere, before or after
moves_elsewhere : (x q from to at : Path) → is_at_or_inside from at ≡ true → is_at_or_inside to at ≡ true
    → is_at_or_inside x at ≡ false → same_path x (moved_path from to q) ≡ same_path x q
moves_elsewhere x q from to at source target outside =
    elim (is_at_or_inside q from) as (λ b. is_at_or_inside q from ≡ b
    → same_path x (moved_path from to q) ≡ same_path x q) [
      | true ↦ λ e.
          ap (same_path x) (moved_path_there from to q e)
          ∙ elsewhere_differs x (to ++ drop (length from) q) at
          (inside_of_inside (to ++ drop (length from) q) to at target
          (at_or_inside-append to (drop (length from) q))) outside
          ∙ sym (elsewhere_differs x q at (inside_of_inside q from at source e) outside)
      | false ↦ λ e. ap (same_path x) (moved_path_elsewhere from to q e)
    ] refl

-- the entries of a moved tree
moved_elsewhere : (t : Tree) (from to at x : Path) → is_at_or_inside from at ≡ true → is_at_or_inside to at ≡ true
    → is_at_or_inside x at ≡ false → find path_cmp x (map (λ e. (moved_path from to e.0, e.1)) t) ≡ find path_cmp x t
moved_elsewhere [] from to at x source target outside = refl
moved_elsewhere (e ∷ t) from to at x source target outside =
    ap₂ (λ b o. cond b (Some e.1) o) (moves_elsewhere x e.0 from to at source target outside)
    (moved_elsewhere t from to at x source target outside)

-- what a command at or below leaves elsewhere
next_elsewhere : (t : Tree) (c : Command) (at x : Path) → works_within at c ≡ true → is_at_or_inside x at ≡ false
    → find path_cmp x (next_tree t c) ≡ find path_cmp x t
unfolding next_tree without without_subtree moved
next_elsewhere t (Make p) at x within outside = put_elsewhere t p at x _ within outside
next_elsewhere t (Write p from bytes) at x within outside = put_elsewhere t p at x _ within outside
next_elsewhere t (Cut p len) at x within outside = put_elsewhere t p at x _ within outside
next_elsewhere t (Rename p q) at x within outside =
    let both = and_parts _ _ within in
    find-tree_of x (map (λ e. (moved_path p q e.0, e.1)) t) ∙ moved_elsewhere t p q at x both.0 both.1 outside
next_elsewhere t (Remove p) at x within outside =
    kept_elsewhere t (λ y. not (same_path y p)) x (not_from_false _ (elsewhere_differs x p at within outside))
next_elsewhere t (Prune p) at x within outside =
    kept_elsewhere t (λ y. not (is_at_or_inside y p)) x (not_from_false _ (elsewhere_is_outside x p at within outside))
next_elsewhere t (ListChildren p) at x within outside = refl
next_elsewhere t (Read p from len) at x within outside = refl
next_elsewhere t Space at x within outside = refl
next_elsewhere t Digest at x within outside = refl
next_elsewhere t (SetAttribute p a bytes) at x within outside =
    attributed_elsewhere t p at x _ (find path_cmp p t) within outside
next_elsewhere t (UnsetAttribute p a) at x within outside =
    attributed_elsewhere t p at x _ (find path_cmp p t) within outside
next_elsewhere t (GetAttribute p a) at x within outside = refl
next_elsewhere t (ListAttributes p) at x within outside = refl

-- what holds of a tree, and of what a command that is not refused makes of it, holds after its step
pub after_step : (P : Tree → Type 0) (t : Tree) (c : Command) (p : Parameters) → P t
    → P (next_tree t c) → P (step t c p).tree
unfolding step
after_step P t c p h g = picked_tree P (lacks_version c p) _ _ h (by_refusal (refusal_of t c))
  where
    by_refusal : (o : Option Refusal) → P (step_by t c p o).tree
    by_refusal (Some refusal) = h
    by_refusal None = picked_tree P (may_fill c && nat_lt p.slots (page_count (next_tree t c) p)) _ _ h g

-- so a step leaves the same elsewhere
step_elsewhere : (t : Tree) (c : Command) (p : Parameters) (at x : Path) → works_within at c ≡ true
    → is_at_or_inside x at ≡ false → find path_cmp x (step t c p).tree ≡ find path_cmp x t
step_elsewhere t c p at x within outside =
    after_step (λ u. find path_cmp x u ≡ find path_cmp x t) t c p refl (next_elsewhere t c at x within outside)

-- what stands at a path is what is found there
node_at_from_find : (t u : Tree) (x : Path) → find path_cmp x t ≡ find path_cmp x u → node_at t x ≡ node_at u x
node_at_from_find t u [] e = refl
node_at_from_find t u (n ∷ x) e = ap node_of e

pub node_at-step_elsewhere : (t : Tree) (c : Command) (p : Parameters) (at x : Path) → works_within at c ≡ true
    → is_at_or_inside x at ≡ false → node_at (step t c p).tree x ≡ node_at t x
node_at-step_elsewhere t c p at x within outside =
    node_at_from_find (step t c p).tree t x (step_elsewhere t c p at x within outside)

pub attributes_at-step_elsewhere : (t : Tree) (c : Command) (p : Parameters) (at x : Path) → works_within at c ≡ true
    → is_at_or_inside x at ≡ false → attributes_at (step t c p).tree x ≡ attributes_at t x
attributes_at-step_elsewhere t c p at x within outside = ap attributes_of (step_elsewhere t c p at x within outside)

-- ---- lines

read_elsewhere : (t : Tree) (asked : Result Command Refusal) (p : Parameters) (at x : Path)
    → asks_within at asked ≡ true → is_at_or_inside x at ≡ false
    → find path_cmp x (answer_by t asked p).tree ≡ find path_cmp x t
read_elsewhere t (Err refusal) p at x within outside = refl
read_elsewhere t (Ok c) p at x within outside = step_elsewhere t c p at x within outside

answer_elsewhere : (t : Tree) (text : List ℕ) (p : Parameters) (at x : Path) → stays_within at text ≡ true
    → is_at_or_inside x at ≡ false → find path_cmp x (answer t text p).tree ≡ find path_cmp x t
unfolding answer
answer_elsewhere t text p at x within outside =
    picked_tree (λ u. find path_cmp x u ≡ find path_cmp x t) (nat_lt line_limit (length text)) _ _ refl
    (read_elsewhere t (parse text) p at x within outside)

lines_elsewhere : (t : Tree) (texts : List (List ℕ)) (p : Parameters) (at x : Path)
    → AllByRecursion (λ text. stays_within at text ≡ true) texts → is_at_or_inside x at ≡ false
    → find path_cmp x (tree_after t texts p) ≡ find path_cmp x t
unfolding tree_after tree_by state_by
lines_elsewhere t [] p at x within outside = refl
lines_elsewhere t (text ∷ texts) p at x within outside =
    lines_elsewhere (answer t text p).tree texts p at x within.1 outside
    ∙ answer_elsewhere t text p at x within.0 outside

pub node_at-lines_elsewhere : (t : Tree) (texts : List (List ℕ)) (p : Parameters) (at x : Path)
    → AllByRecursion (λ text. stays_within at text ≡ true) texts → is_at_or_inside x at ≡ false
    → node_at (tree_after t texts p) x ≡ node_at t x
node_at-lines_elsewhere t texts p at x within outside =
    node_at_from_find (tree_after t texts p) t x (lines_elsewhere t texts p at x within outside)

pub attributes_at-lines_elsewhere : (t : Tree) (texts : List (List ℕ)) (p : Parameters) (at x : Path)
    → AllByRecursion (λ text. stays_within at text ≡ true) texts → is_at_or_inside x at ≡ false
    → attributes_at (tree_after t texts p) x ≡ attributes_at t x
attributes_at-lines_elsewhere t texts p at x within outside =
    ap attributes_of (lines_elsewhere t texts p at x within outside)

-- ---- what was removed

-- where nothing stands at a path, nothing is found there or below
none_found : (t : Tree) (at x : Path) → IsTree t → exists t at ≡ false → is_at_or_inside x at ≡ true
    → find path_cmp x t ≡ None
none_found t at x h none inside = by_find (find path_cmp x t)
    (λ is. both_ways _ (nothing_below t at h none x (found t x is)) inside)
  where
    found : (t : Tree) (x : Path) → is_some (find path_cmp x t) ≡ true → exists t x ≡ true
    found t [] is = refl
    found t (n ∷ x) is = is_some-node_of (find path_cmp (n ∷ x) t) ∙ is

    by_find : (o : Option Entry) → (is_some o ≡ true → ⊥) → o ≡ None
    by_find None never = refl
    by_find (Some entry) never = absurd (never refl)

-- without a path and all below it nothing is found there
none_left : (t : Tree) (at x : Path) → is_at_or_inside x at ≡ true → find path_cmp x (without_subtree t at) ≡ None
unfolding without_subtree
none_left t at x inside = find-where_key path_cmp (λ y. not (is_at_or_inside y at)) x
    (λ y e. ap (λ (z : Path). not (is_at_or_inside z at)) (sym (same_from_tie x y e))) t
    ∙ ap (λ b. cond (not b) (find path_cmp x t) None) inside

-- behind `prune` nothing is found at the path or below it, whether or not it was refused
pruned : (t : Tree) (at x : Path) (p : Parameters) → IsTree t → is_root at ≡ false → is_at_or_inside x at ≡ true
    → find path_cmp x (step t (Prune at) p).tree ≡ None
unfolding step conditions first_refusal next_tree may_fill is_on_attributes
pruned t at x p h below inside =
    elim (is_root at) as (λ r. is_root at ≡ r
    → find path_cmp x (step_by t (Prune at) p
    (cond r (Some refusals.Root) (cond (not (exists t at)) (Some refusals.Missing) None))).tree ≡ None) [
      | true ↦ λ e. absurd (both_ways _ below e)
      | false ↦ λ e.
          elim (exists t at) as (λ b. exists t at ≡ b
          → find path_cmp x (step_by t (Prune at) p (cond (not b) (Some refusals.Missing) None)).tree ≡ None) [
            | true ↦ λ is. none_left t at x inside
            | false ↦ λ none. none_found t at x h none inside
          ] refl
    ] refl

-- the root stands in every tree
not_root : (t : Tree) (at : Path) → exists t at ≡ false → is_root at ≡ false
not_root t [] none = absurd (both_ways _ none refl)
not_root t (n ∷ at) none = refl

in_order : (t : Tree) → IsTree t → T (is_sorted path_cmp t)
in_order t h = subst T (sym h.sorted) tt

-- the tree in which nothing stood at the path is had again by a `prune` of it, behind lines that change nothing
-- elsewhere
pruned_step : (t : Tree) (texts : List (List ℕ)) (p : Parameters) (at : Path) → IsTree t → exists t at ≡ false
    → AllByRecursion (λ text. stays_within at text ≡ true) texts → IsCommand (Prune at)
    → (step (tree_after t texts p) (Prune at) p).tree ≡ t
pruned_step t texts p at h none within is =
    let v = tree_after t texts p in
    let hv = IsTree-tree_after t texts p h in
    let below = not_root t at none in
    let hw = IsTree-step v (Prune at) p hv is in
    same_entries path_cmp path_cmp_total same_from_tie (step v (Prune at) p).tree t (in_order _ hw) (in_order t h) (λ x.
    elim (is_at_or_inside x at) as (λ b. is_at_or_inside x at ≡ b
    → find path_cmp x (step v (Prune at) p).tree ≡ find path_cmp x t) [
      | true ↦ λ inside. pruned v at x p hv below inside ∙ sym (none_found t at x h none inside)
      | false ↦ λ outside. step_elsewhere v (Prune at) p at x (itself at) outside
          ∙ lines_elsewhere t texts p at x within outside
    ] refl)

-- the line `prune` is answered as its command
answer_of_parsed : (t : Tree) (text : List ℕ) (c : Command) (p : Parameters) → length text ≤ line_limit
    → parse text ≡ Ok c → answer t text p ≡ step t c p
unfolding answer
answer_of_parsed t text c p fits e =
    cond-false (nat_lt line_limit (length text)) _ _ (le-ltb line_limit (length text) fits)
    ∙ ap (λ asked. answer_by t asked p) e

after_one : (t : Tree) (text : List ℕ) (p : Parameters) → tree_after t (text ∷ []) p ≡ (answer t text p).tree
unfolding tree_after tree_by state_by
after_one t text p = refl

pub tree_after-pruned : (t : Tree) (texts : List (List ℕ)) (text : List ℕ) (p : Parameters) (at : Path) → IsTree t
    → exists t at ≡ false → AllByRecursion (λ text. stays_within at text ≡ true) texts → length text ≤ line_limit
    → parse text ≡ Ok (Prune at)
    → tree_after t (texts ++ text ∷ []) p ≡ t
tree_after-pruned t texts text p at h none within fits e =
    tree_after-append t texts (text ∷ []) p ∙ after_one (tree_after t texts p) text p
    ∙ ap (λ (s : Step). s.tree) (answer_of_parsed (tree_after t texts p) text (Prune at) p fits e)
    ∙ pruned_step t texts p at h none within (IsCommand-parse text (Prune at) e)
