-- The steps of a removal lead to the tree without the paths, or stop at one that is not to be removed.
use Rattle.std.proofs.Common.{◌≡◌, List, [], ◌∷◌, ◌++◌, Bool, true, false, not, ◌&&◌, ◌||◌, cond, Option, Some, None}
use Rattle.std.proofs.Common.{is_some, refl, sym, ap, ap₂, subst, ◌∙◌, arith, Less, Greater}
use Rattle.std.specs.Prelude.{Contains}
use Rattle.std.proofs.lemmas.List.Elements.{Contains-append_right}
use Rattle.std.specs.Ordering.{ordering_reverse}
use Rattle.std.specs.Cmp.{tied_itself}
use Rattle.std.specs.List.{AllByRecursion}
use Rattle.std.specs.FinMap.{find}
use Rattle.std.proofs.lemmas.Bool.{false_from_ne_true, cond-false}
use Rattle.std.proofs.lemmas.Bool.{or_from, or_left}
use Rattle.std.proofs.lemmas.List.{append-nil}
use Rattle.std.proofs.lemmas.List.Folds.{list_any-append}
use Rattle.store_model.specs.declared.refusal.Refusal.{Refusal}
use Rattle.store_model.specs.declared.refusal.Refusal.TheVariants as refusals
use Rattle.store_model.specs.Parameters.{Parameters}
use Rattle.store_model.specs.Paths.{Path, is_root, path_cmp, same_path, parent, is_inside, is_at_or_inside}
use Rattle.store_model.specs.Trees.{Tree, Entry, Node, IsTree, node_at, is_directory, is_directory_node, exists}
use Rattle.store_model.specs.Steps.{conditions, first_refusal, next_tree, is_on_attributes, has_child}
use Rattle.store_model.proofs.ListsLemmas.{all_back, all_append}
use Rattle.store_model.proofs.PathsLemmasPlaces.{below_longer}
use Rattle.store_model.proofs.TreesLemmasPaths.{path_cmp_total, same_from_test, at_or_inside-split}
use Rattle.store_model.proofs.TreesLemmasPaths.{last_step}
use Rattle.store_model.proofs.TreesLemmas.{IsTree-without, IsTree-without_subtree, find-root}
use Rattle.store_model.proofs.TreesLemmasAttributes.{find-without, find-without_subtree}
use Rattle.tree_changes.specs.Conditional.{Conditional, refusal_under, why_refused, tree_behind, Leads, Stops}
use Rattle.tree_changes.specs.Meant.{HasJust}
use Rattle.tree_changes.specs.Removals.{goes_with, goes, removed_at, removal_refusal, IsRemoved}
use Rattle.tree_changes.specs.Removals.{RefusesRemoval, removal, removal_step, IsBefore, AreInOrder}
use Rattle.tree_changes.specs.Removals.{removal_steps}
use Rattle.tree_changes.proofs.Folds.{leads_to_all, stops_at}
use Rattle.tree_changes.proofs.Standings.{has_itself, same_node, none_found_below, same_children}

-- ---- the order of paths

-- a path does not stand before itself, nor before one above it
not_before_itself : (q : Path) → path_cmp q q ≡ Less → ⊥
not_before_itself q less = let tie = tied_itself path_cmp_total q in cc

turned : (q d : Path) → path_cmp q d ≡ Less → path_cmp d q ≡ Greater
turned q d less = path_cmp_total.antisymm d q ∙ ap ordering_reverse less

not_below : (q d : Path) → path_cmp q d ≡ Less → is_at_or_inside q d ≡ false
not_below q d less = false_from_ne_true _ (λ below. by _ (at_or_inside-split q d below))
  where
    by : (s : Path) → q ≡ d ++ s → ⊥
    by [] e = not_before_itself d (subst (λ y. path_cmp y d ≡ Less) (e ∙ append-nil d) less)
    by (n ∷ s) e =
        let later = below_longer d n s in
        let greater = turned q d less in
        let same : path_cmp d q ≡ Less = ap (path_cmp d) e ∙ later in cc

-- those before a path in the order
before_it : (recursive : Bool) (done rest : List Path) (q : Path) → AreInOrder recursive (done ++ q ∷ rest)
    → AllByRecursion (λ d. IsBefore recursive d q) done
unfolding AreInOrder
before_it recursive [] rest q order = tt
before_it recursive (d ∷ done) rest q order =
    ((all_back (IsBefore recursive d) done (q ∷ rest) order.0).0, before_it recursive done rest q order.1)

-- so it does not go with one of them
not_gone : (recursive : Bool) (done : List Path) (q : Path) → AllByRecursion (λ d. IsBefore recursive d q) done
    → goes recursive done q ≡ false
not_gone recursive [] q h = refl
not_gone true (d ∷ done) q h = or_from _ _ (not_below q d h.0) (not_gone true done q h.1)
not_gone false (d ∷ done) q h =
    or_from _ _ (false_from_ne_true _ (λ s. not_before_itself d
    (subst (λ y. path_cmp d y ≡ Less) (same_from_test q d s) h.0))) (not_gone false done q h.1)

-- nor does a child of it, where only the paths themselves go
child_not_gone : (done : List Path) (q x : Path) → AllByRecursion (λ d. IsBefore false d q) done → is_root x ≡ false
    → same_path (parent x) q ≡ true → goes false done x ≡ false
child_not_gone [] q x h below s = refl
child_not_gone (d ∷ done) q x h below s =
    or_from _ _ (false_from_ne_true _ (λ same.
    let step = last_step x below in
    let is : x ≡ q ++ step.0 ∷ [] = step.1 ∙ ap (λ y. y ++ step.0 ∷ []) (same_from_test (parent x) q s) in
    let later : path_cmp q x ≡ Less = ap (path_cmp q) is ∙ below_longer q step.0 [] in
    let sooner : path_cmp x q ≡ Less = ap (λ y. path_cmp y q) (same_from_test x d same) ∙ h.0 in
    let greater = turned x q sooner in cc)) (child_not_gone done q x h.1 below s)

-- ---- one step

-- why the command is refused
of_command : (recursive : Bool) (p : Parameters) (w : Tree) (q : Path)
    → refusal_under p w (removal recursive q) ≡ removal_refusal recursive false w q
unfolding conditions first_refusal is_on_attributes
of_command true p w q = refl
of_command false p w q = refl

-- why the step is, by the tree that it comes to
module _ (p : Parameters) (w : Tree) (q : Path) where
  -- a command that finds something is refused alike
  forced_there : (r : Bool) → exists w q ≡ true → removal_refusal r false w q ≡ removal_refusal r true w q
  forced_there r there = ap (λ b. first_refusal ((is_root q, refusals.Root) ∷ (not b, refusals.Missing)
      ∷ (not r && (is_directory w q && has_child w q), refusals.NotEmpty) ∷ [])) there

  no_root : (y : Path) → exists w y ≡ false → is_root y ≡ false
  no_root [] none = cc
  no_root (n ∷ y) none = refl

  no_directory : (o : Option Node) → is_some o ≡ false → is_directory_node o ≡ false
  no_directory None none = refl
  no_directory (Some n) none = cc

  -- where nothing stands there is no reason, if that is passed over
  no_reason : (r : Bool) → exists w q ≡ false → removal_refusal r true w q ≡ None
  unfolding first_refusal
  no_reason true none = ap (λ b. cond b (Some refusals.Root) None) (no_root q none)
  no_reason false none =
      ap₂ (λ a b. cond a (Some refusals.Root) (cond (b && has_child w q) (Some refusals.NotEmpty) None))
      (no_root q none) (no_directory (node_at w q) none)

  forced_step : (r b : Bool) → exists w q ≡ b → why_refused p w (removal_step r true q) ≡ removal_refusal r true w q
  forced_step true true e = ap (λ b. cond b (refusal_under p w (removal true q)) None) e ∙ of_command true p w q
      ∙ forced_there true e
  forced_step false true e = ap (λ b. cond b (refusal_under p w (removal false q)) None) e ∙ of_command false p w q
      ∙ forced_there false e
  forced_step true false e = ap (λ b. cond b (refusal_under p w (removal true q)) None) e ∙ sym (no_reason true e)
  forced_step false false e = ap (λ b. cond b (refusal_under p w (removal false q)) None) e ∙ sym (no_reason false e)

  -- why the step is, by the tree that it comes to
  of_step : (recursive forced : Bool)
      → why_refused p w (removal_step recursive forced q) ≡ removal_refusal recursive forced w q
  of_step true false = of_command true p w q
  of_step false false = of_command false p w q
  of_step true true = forced_step true (exists w q) refl
  of_step false true = forced_step false (exists w q) refl

-- ---- behind some paths

-- what is left at a path that does not go
left_there : (recursive : Bool) (done : List Path) (t w : Tree) (q : Path) → HasJust (removed_at recursive done t) w
    → goes recursive done q ≡ false → find path_cmp q w ≡ find path_cmp q t
left_there recursive done t w q has stays = has.each q ∙ cond-false _ None (find path_cmp q t) stays

-- children of a path stay where only paths before it go
same_child : (done : List Path) (t w : Tree) (q x : Path) → IsTree t → HasJust (removed_at false done t) w
    → AllByRecursion (λ d. IsBefore false d q) done → same_path (parent x) q ≡ true
    → is_some (find path_cmp x w) ≡ is_some (find path_cmp x t)
same_child done t w q [] tree has before s =
    ap is_some (find-root w has.is_tree ∙ sym (find-root t tree))
same_child done t w q (n ∷ x) tree has before s =
    ap is_some (left_there false done t w (n ∷ x) has (child_not_gone done q (n ∷ x) before refl s))

-- so the reason is that of the tree as it was
module _ (recursive forced : Bool) (done : List Path) (t w : Tree) (q : Path) (tree : IsTree t)
    (has : HasJust (removed_at recursive done t) w) (before : AllByRecursion (λ d. IsBefore recursive d q) done) where
  node_stays : node_at w q ≡ node_at t q
  node_stays = same_node w t q (left_there recursive done t w q has (not_gone recursive done q before))

pub same_reason : (recursive forced : Bool) (done : List Path) (t w : Tree) (q : Path) → IsTree t
    → HasJust (removed_at recursive done t) w → AllByRecursion (λ d. IsBefore recursive d q) done
    → removal_refusal recursive forced w q ≡ removal_refusal recursive forced t q
same_reason true forced done t w q tree has before =
    ap (λ (o : Option Node). first_refusal ((is_root q, refusals.Root)
    ∷ (not forced && not (is_some o), refusals.Missing) ∷ (false, refusals.NotEmpty) ∷ []))
    (node_stays true forced done t w q tree has before)
same_reason false forced done t w q tree has before =
    ap₂ (λ (o : Option Node) (b : Bool). first_refusal ((is_root q, refusals.Root)
    ∷ (not forced && not (is_some o), refusals.Missing) ∷ (is_directory_node o && b, refusals.NotEmpty) ∷ []))
    (node_stays false forced done t w q tree has before)
    (same_children w t q (λ x s. same_child done t w q x tree has before s))

-- ---- the tree behind a step

-- the third condition, where there is no reason
not_full : (recursive forced : Bool) (w : Tree) (q : Path) → removal_refusal recursive forced w q ≡ None
    → (not recursive && (is_directory w q && has_child w q)) ≡ false
unfolding first_refusal
not_full recursive forced w q none = by (is_root q) (not forced && not (exists w q))
    (not recursive && (is_directory w q && has_child w q)) none
  where
    by : (a b c : Bool) → cond a (Some refusals.Root) (cond b (Some refusals.Missing)
        (cond c (Some refusals.NotEmpty) None)) ≡ None → c ≡ false
    by true b c e = cc
    by false true c e = cc
    by false false true e = cc
    by false false false e = refl

-- a command that is carried out
removed_tree : (recursive : Bool) (w : Tree) (q : Path) → IsTree w
    → (not recursive && (is_directory w q && has_child w q)) ≡ false
    → HasJust (λ x. cond (goes_with recursive x q) None (find path_cmp x w)) (next_tree w (removal recursive q))
unfolding next_tree
removed_tree true w q tree free = record {
  is_tree = IsTree-without_subtree w q tree;
  each = λ x. find-without_subtree w q x;
}
removed_tree false w q tree free = record {
  is_tree = IsTree-without w q tree free;
  each = λ x. find-without w q x;
}

-- one that is passed over: nothing stands there, nor below
passed_over : (recursive : Bool) (w : Tree) (q : Path) → IsTree w → exists w q ≡ false
    → HasJust (λ x. cond (goes_with recursive x q) None (find path_cmp x w)) w
passed_over recursive w q tree none = record {
  is_tree = tree;
  each = λ x. by x (goes_with recursive x q) refl;
}
  where
    lies_below : (r : Bool) (x : Path) → goes_with r x q ≡ true → is_at_or_inside x q ≡ true
    lies_below true x e = e
    lies_below false x e = or_left (same_path x q) (is_inside x q) e

    by : (x : Path) (b : Bool) → goes_with recursive x q ≡ b
        → find path_cmp x w ≡ cond b None (find path_cmp x w)
    by x true e = none_found_below w q x tree none (lies_below recursive x e)
    by x false e = refl

-- either
behind_step : (recursive forced : Bool) (w : Tree) (q : Path) → IsTree w
    → removal_refusal recursive forced w q ≡ None
    → HasJust (λ x. cond (goes_with recursive x q) None (find path_cmp x w))
    (tree_behind w (removal_step recursive forced q))
behind_step true false w q tree none = removed_tree true w q tree refl
behind_step false false w q tree none = removed_tree false w q tree (not_full false false w q none)
behind_step true true w q tree none = by (exists w q) refl
  where
    by : (b : Bool) → exists w q ≡ b → HasJust (λ x. cond (goes_with true x q) None (find path_cmp x w))
        (cond b (next_tree w (removal true q)) w)
    by true e = removed_tree true w q tree refl
    by false e = passed_over true w q tree e
behind_step false true w q tree none = by (exists w q) refl
  where
    by : (b : Bool) → exists w q ≡ b → HasJust (λ x. cond (goes_with false x q) None (find path_cmp x w))
        (cond b (next_tree w (removal false q)) w)
    by true e = removed_tree false w q tree (not_full false true w q none)
    by false e = passed_over false w q tree e

-- one path more goes
one_more : (recursive : Bool) (done : List Path) (t w v : Tree) (q : Path) → HasJust (removed_at recursive done t) w
    → HasJust (λ x. cond (goes_with recursive x q) None (find path_cmp x w)) v
    → HasJust (removed_at recursive (done ++ q ∷ []) t) v
one_more recursive done t w v q has next = record {
  is_tree = next.is_tree;
  each = λ x. next.each x ∙ ap (cond (goes_with recursive x q) None) (has.each x)
      ∙ by (goes_with recursive x q) (goes recursive done x) (find path_cmp x t)
      ∙ ap (λ b. cond b None (find path_cmp x t)) (sym (list_any-append (goes_with recursive x) done (q ∷ [])));
}
  where
    by : (a b : Bool) (o : Option Entry) → cond a None (cond b None o) ≡ cond (b || (a || false)) None o
    by true true o = refl
    by true false o = refl
    by false true o = refl
    by false false o = refl

-- ---- all steps

module _ (recursive forced : Bool) (paths : List Path) (p : Parameters) (t : Tree) (tree : IsTree t)
    (order : AreInOrder recursive paths) where
  -- some paths were removed
  abbrev Gone : List Path → Tree → Type 0
  Gone done w = IsRemoved recursive forced done t w

  none_gone : Gone [] t
  none_gone = record { allowed = tt; standing = has_itself t tree }

  before : (done rest : List Path) (q : Path) → paths ≡ done ++ q ∷ rest
      → AllByRecursion (λ d. IsBefore recursive d q) done
  before done rest q e =
      before_it recursive done rest q (subst (λ (xs : List Path). AreInOrder recursive xs) e order)

  reason : (done rest : List Path) (q : Path) (w : Tree) → paths ≡ done ++ q ∷ rest → Gone done w
      → why_refused p w (removal_step recursive forced q) ≡ removal_refusal recursive forced t q
  reason done rest q w e gone = of_step p w q recursive forced
      ∙ same_reason recursive forced done t w q tree gone.standing (before done rest q e)

  goes_on : (done rest : List Path) (q : Path) (w : Tree) → paths ≡ done ++ q ∷ rest → Gone done w
      → why_refused p w (removal_step recursive forced q) ≡ None
      → Gone (done ++ q ∷ []) (tree_behind w (removal_step recursive forced q))
  goes_on done rest q w e gone none = record {
    allowed = all_append _ done (q ∷ []) gone.allowed (sym (reason done rest q w e gone) ∙ none, tt);
    standing = one_more recursive done t w _ q gone.standing
        (behind_step recursive forced w q gone.standing.is_tree (sym (of_step p w q recursive forced) ∙ none));
  }

  pub removal_leads : (u : Tree) → Leads p t (removal_steps recursive forced paths) u
      → IsRemoved recursive forced paths t u
  removal_leads u chain = leads_to_all p (removal_step recursive forced) Gone paths goes_on t u none_gone chain

  pub removal_stops : (g : Conditional) (why : Refusal) → Stops p t (removal_steps recursive forced paths) g why
      → RefusesRemoval recursive forced paths t g why
  removal_stops g why stops =
      let at = stops_at p (removal_step recursive forced) Gone paths goes_on t g why none_gone stops in (
        at.element,
        at.step_is,
        record {
          named = subst (λ (xs : List Path). Contains xs at.element) (sym at.all_are)
              (Contains-append_right at.done (at.element ∷ at.rest) at.element (0, omega arith, refl));
          reason = sym (reason at.done at.rest at.element at.tree at.all_are at.holds) ∙ at.refused;
        },
      )
