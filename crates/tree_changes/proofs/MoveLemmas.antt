-- The steps of a move lead to the tree with what was moved at its new place, or stop where it is refused.
use Rattle.std.proofs.Common.{◌≡◌, ◌⊎◌, inl, inr, List, [], ◌∷◌, ◌++◌, length, drop, Bool, true, false, not, ◌&&◌}
use Rattle.std.proofs.Common.{◌||◌, cond, Option, Some, None, is_some, IsTrue, refl, sym, ap, ap₂, subst, ◌∙◌, arith}
use Rattle.std.proofs.Common.{length-append, ⊎_elim}
use Rattle.std.specs.List.{list_any, filter}
use Rattle.std.specs.FinMap.{find}
use Rattle.std.proofs.lemmas.Bool.{both_ways, false_from_ne_true, cond-true, cond-false, or_parts, or_from, not-false}
use Rattle.std.proofs.lemmas.Bool.{and_left, or_left}
use Rattle.store_model.specs.declared.refusal.Refusal.{Refusal}
use Rattle.store_model.specs.declared.refusal.Refusal.TheVariants as refusals
use Rattle.store_model.specs.Parameters.{Parameters}
use Rattle.store_model.specs.Paths.{Path, is_root, is_path, path_cmp, same_path, parent, is_inside, is_at_or_inside}
use Rattle.store_model.specs.Paths.{replanted}
use Rattle.store_model.specs.Trees.{Tree, Entry, Node, IsTree, node_at, exists, is_directory, is_directory_node}
use Rattle.store_model.specs.Trees.{is_file}
use Rattle.store_model.specs.Trees.{is_file_node, moved, without}
use Rattle.store_model.specs.Commands.Command.{Rename, Remove}
use Rattle.store_model.specs.Steps.{conditions, first_refusal, next_tree, is_on_attributes, refusal_of, outgrows}
use Rattle.store_model.specs.Steps.{has_child}
use Rattle.store_model.specs.Steps.{is_too_long}
use Rattle.store_model.proofs.TreesLemmasPaths.{same_from_test, same_path-from_equal, at_or_inside-append}
use Rattle.store_model.proofs.TreesLemmasPaths.{at_or_inside-split, moved_path-below, moved_path_elsewhere, last_step}
use Rattle.store_model.proofs.TreesLemmas.{IsTree-without}
use Rattle.store_model.proofs.TreesLemmasMoves.{IsTree-moved, nothing_below, find-moved, find-moved_away}
use Rattle.store_model.proofs.TreesLemmasAttributes.{find-without}
use Rattle.store_model.proofs.TreesLemmasSteps.{all_fail}
use Rattle.tree_changes.specs.Conditional.{Conditional, refusal_under, why_refused, tree_behind, Leads, Stops}
use Rattle.tree_changes.specs.Conditional.{always_done, done_at_file}
use Rattle.tree_changes.specs.Meant.{HasJust}
use Rattle.tree_changes.specs.Moves.{moved_at, is_in_the_way, move_refusal, IsMoved, move_steps}
use Rattle.tree_changes.proofs.Standings.{same_node, told_alike}
use Rattle.tree_changes.proofs.ParentLemmas.{not_both}

-- ---- a move that is carried out

-- the conditions of it
pub record MovesAt (w : Tree) (from to : Path) : Type 0 where
  pub from_below : is_root from ≡ false
  pub to_below : is_root to ≡ false
  pub there : exists w from ≡ true
  pub outside : is_inside to from ≡ false
  pub up : is_directory w (parent to) ≡ true
  pub none : exists w to ≡ false
  pub fits : outgrows w from to ≡ false

pub moves_at : (w : Tree) (from to : Path) → refusal_of w (Rename from to) ≡ None → MovesAt w from to
unfolding conditions
moves_at w from to none =
    let fail = all_fail (conditions w (Rename from to)) none in
    let roots = or_parts (is_root from) (is_root to) fail.0 in
    record {
      from_below = roots.0;
      to_below = roots.1;
      there = not-false _ (fail.1).0;
      outside = ((fail.1).1).0;
      up = not-false _ (((fail.1).1).1).0;
      none = ((((fail.1).1).1).1).0;
      fits = (((((fail.1).1).1).1).1).0;
    }

-- two fronts of one path: one is a front of the other
comparable : (a b s r : Path) → a ++ s ≡ b ++ r → (is_at_or_inside a b ≡ true) ⊎ (is_at_or_inside b a ≡ true)
comparable a b s r e = by (split a b s r e)
  where
    split : (a b s r : Path) → a ++ s ≡ b ++ r → ((c : Path) × (a ≡ b ++ c)) ⊎ ((c : Path) × (b ≡ a ++ c))
    split [] b s r e = inr (b, refl)
    split (n ∷ a) [] s r e = inl (n ∷ a, refl)
    split (n ∷ a) (m ∷ b) s r e =
        let first : n ≡ m = cc in
        let rest : a ++ s ≡ b ++ r = cc in
        ⊎_elim (λ x. inl (x.0, ap₂ (λ k y. k ∷ y) first x.1)) (λ x. inr (x.0, ap₂ (λ k y. k ∷ y) (sym first) x.1))
        (split a b s r rest)

    by : ((c : Path) × (a ≡ b ++ c)) ⊎ ((c : Path) × (b ≡ a ++ c))
        → (is_at_or_inside a b ≡ true) ⊎ (is_at_or_inside b a ≡ true)
    by (inl x) = inl (ap (λ y. is_at_or_inside y b) x.1 ∙ at_or_inside-append b x.0)
    by (inr x) = inr (ap (λ y. is_at_or_inside y a) x.1 ∙ at_or_inside-append a x.0)

-- the new path is neither the old one nor below it
apart : (w : Tree) (from to : Path) → MovesAt w from to → is_at_or_inside to from ≡ false
apart w from to at = or_from _ _
    (false_from_ne_true _ (λ s. both_ways _ at.none (ap (exists w) (same_from_test to from s) ∙ at.there)))
    at.outside

-- what was below the old path was not below the new one
away : (w : Tree) (from to s : Path) → IsTree w → MovesAt w from to → is_at_or_inside (from ++ s) to ≡ false
away w from to s tree at = false_from_ne_true _ (λ below.
    ⊎_elim
    (λ inside. both_ways _ (nothing_below w to tree at.none from at.there) inside)
    (λ inside. both_ways _ (apart w from to at) inside)
    (comparable from to s _ (at_or_inside-split (from ++ s) to below)))

-- what stands after it
pub moved_tree : (w : Tree) (from to : Path) → IsTree w → IsTrue (is_path to) → MovesAt w from to
    → HasJust (moved_at from to w) (next_tree w (Rename from to))
unfolding next_tree replanted
moved_tree w from to tree path at = record {
  is_tree = IsTree-moved w from to tree path at.from_below at.to_below at.outside at.up at.none at.fits;
  each = λ x. by x (is_at_or_inside x to) refl (is_at_or_inside x from) refl;
}
  where
    by : (x : Path) (b : Bool) → is_at_or_inside x to ≡ b → (c : Bool) → is_at_or_inside x from ≡ c
        → find path_cmp x (moved w from to)
        ≡ cond b (find path_cmp (from ++ drop (length to) x) w) (cond c None (find path_cmp x w))
    by x true there c away_from =
        let s = drop (length to) x in
        ap (λ y. find path_cmp y (moved w from to)) (at_or_inside-split x to there ∙ sym (moved_path-below from to s))
        ∙ find-moved w from to (from ++ s) tree at.none (away w from to s tree at)
    by x false there true below = find-moved_away w from to x tree at.none below there
    by x false there false elsewhere =
        ap (λ y. find path_cmp y (moved w from to)) (sym (moved_path_elsewhere from to x elsewhere))
        ∙ find-moved w from to x tree at.none there

-- ---- where nothing is replaced

in_the_way_is : (b : Bool) (a : Bool) → b ≡ false → (a && not b) ≡ a
in_the_way_is true true e = cc
in_the_way_is true false e = refl
in_the_way_is false true e = refl
in_the_way_is false false e = refl

-- the conditions, as the bits that they test
abbrev refusal_by : (r m i u x o : Bool) → Option Refusal
refusal_by r m i u x o = cond r (Some refusals.Root) (cond m (Some refusals.Missing) (cond i (Some refusals.Inside)
    (cond u (Some refusals.Parent) (cond x (Some refusals.Exists) (cond o (Some refusals.Path) None)))))

plain_reason : (forced : Bool) (p : Parameters) (w : Tree) (from to : Path)
    → (forced && is_file w to && not (same_path from to)) ≡ false
    → why_refused p w (always_done (Rename from to)) ≡ move_refusal forced from to w
unfolding conditions first_refusal is_on_attributes
plain_reason forced p w from to other =
    ap (λ x. refusal_by (is_root from || is_root to) (not (exists w from)) (is_inside to from)
    (not (is_directory w (parent to))) x (outgrows w from to)) (sym (in_the_way_is _ (exists w to) other))

-- ---- where a file is replaced

-- a test is passed alike where what is left out does not pass it
passed_alike : {X : Type 0} (test keep : X → Bool) (xs : List X) → ((x : X) → keep x ≡ false → test x ≡ false)
    → list_any test (filter keep xs) ≡ list_any test xs
passed_alike test keep [] fails = refl
passed_alike test keep (x ∷ xs) fails = by (keep x) refl (passed_alike test keep xs fails)
  where
    by : (b : Bool) → keep x ≡ b → list_any test (filter keep xs) ≡ list_any test xs
        → list_any test (cond b (x ∷ filter keep xs) (filter keep xs)) ≡ (test x || list_any test xs)
    by true k rest = ap (λ o. test x || o) rest
    by false k rest = rest ∙ ap (λ o. o || list_any test xs) (sym (fails x k))

module _ (t : Tree) (from to : Path) (tree : IsTree t) (file : is_file t to ≡ true)
    (other : same_path from to ≡ false) where
  -- the tree without the file
  abbrev rest : Tree
  rest = without t to

  file_below : is_root to ≡ false
  file_below = by to file
    where
      by : (y : Path) → is_file t y ≡ true → is_root y ≡ false
      by [] is = cc
      by (n ∷ y) is = refl

  no_directory : is_directory t to ≡ false
  no_directory = false_from_ne_true _ (λ is. both_ways _ (not_both (node_at t to) is) file)

  file_there : exists t to ≡ true
  file_there = by (node_at t to) file
    where
      by : (o : Option Node) → is_file_node o ≡ true → is_some o ≡ true
      by None is = cc
      by (Some n) is = refl

  rest_tree : IsTree rest
  rest_tree = IsTree-without t to tree (and_left _ _ no_directory)

  -- elsewhere all stays
  stays : (x : Path) → same_path x to ≡ false → node_at rest x ≡ node_at t x
  stays x s = same_node rest t x (find-without t to x ∙ cond-false _ None (find path_cmp x t) s)

  same_turned : same_path to from ≡ false
  same_turned = false_from_ne_true _ (λ s. both_ways _ other (same_path-from_equal from to (sym
      (same_from_test to from s))))

  parent_other : same_path (parent to) to ≡ false
  parent_other = false_from_ne_true _ (λ s.
      let step = last_step to file_below in
      let same : parent to ≡ to = same_from_test (parent to) to s in
      absurd (omega (arith, ap length step.1, ap length same, length-append (parent to) (step.0 ∷ []))))

  gone : exists rest to ≡ false
  gone = ap is_some (node_at_gone to file_below)
    where
      node_at_gone : (y : Path) → is_root y ≡ false → node_at (without t y) y ≡ None
      node_at_gone [] below = cc
      node_at_gone (n ∷ y) below = ap (λ o. found o) (find-without t (n ∷ y) (n ∷ y)
          ∙ cond-true _ None (find path_cmp (n ∷ y) t) (same_path-from_equal (n ∷ y) (n ∷ y) refl))
        where
          found : Option Entry → Option Node
          found None = None
          found (Some e) = Some e.node

  -- no path grows too long but those that move
  grows_alike : is_inside to from ≡ false → outgrows rest from to ≡ outgrows t from to
  unfolding outgrows without
  grows_alike outside =
      passed_alike (λ (e : Path × Entry). is_at_or_inside e.0 from
      && is_too_long (replanted from to e.0) e.1.attributes) (λ (e : Path × Entry). not (same_path e.0 to)) t
      (λ e kept. and_left _ _ (ap (λ y. is_at_or_inside y from) (same_from_test e.0 to (not-false _ kept))
      ∙ or_from _ _ same_turned outside))

  by_inside : (r m u x : Bool) (i : Bool) (o other_o : Bool) → (i ≡ false → o ≡ other_o)
      → refusal_by r m i u x o ≡ refusal_by r m i u x other_o
  by_inside r m u x true o other_o alike = refl
  by_inside r m u x false o other_o alike = ap (refusal_by r m false u x) (alike refl)

  -- the move that follows is refused alike
  replaced_reason : (p : Parameters)
      → why_refused p rest (always_done (Rename from to)) ≡ move_refusal true from to t
  unfolding conditions first_refusal is_on_attributes
  replaced_reason p =
      ap₂ (λ (o u : Option Node). refusal_by (is_root from || is_root to) (not (is_some o)) (is_inside to from)
      (not (is_directory_node u)) (exists rest to) (outgrows rest from to)) (stays from other)
      (stays (parent to) parent_other)
      ∙ ap (λ x. refusal_by (is_root from || is_root to) (not (exists t from)) (is_inside to from)
      (not (is_directory t (parent to))) x (outgrows rest from to)) (gone ∙ sym no_way)
      ∙ by_inside (is_root from || is_root to) (not (exists t from)) (not (is_directory t (parent to)))
      (is_in_the_way true from to t) (is_inside to from) (outgrows rest from to) (outgrows t from to) grows_alike
    where
      no_way : is_in_the_way true from to t ≡ false
      no_way = ap₂ (λ a b. exists t to && not (true && a && not b)) file other ∙ by (exists t to)
        where
          by : (a : Bool) → (a && false) ≡ false
          by true = refl
          by false = refl

  -- the file that goes is never refused
  removal_allowed : (p : Parameters) → why_refused p t (done_at_file (Remove to)) ≡ None
  unfolding conditions first_refusal is_on_attributes
  removal_allowed p =
      ap₂ (λ (a b : Bool). cond a (cond b (Some refusals.Root) (cond (not (exists t to)) (Some refusals.Missing)
      (cond (is_directory t to && has_child t to) (Some refusals.NotEmpty) None))) None) file file_below
      ∙ ap₂ (λ (a b : Bool). cond (not a) (Some refusals.Missing) (cond (b && has_child t to) (Some refusals.NotEmpty)
      None)) file_there no_directory

  -- what was there before stands at each path
  told_before : MovesAt rest from to → (x : Path) → moved_at from to rest x ≡ moved_at from to t x
  unfolding replanted
  told_before at x = by (is_at_or_inside x to) refl
    where
      found : (y : Path) → same_path y to ≡ false → find path_cmp y rest ≡ find path_cmp y t
      found y s = find-without t to y ∙ cond-false _ None (find path_cmp y t) s

      by : (b : Bool) → is_at_or_inside x to ≡ b
          → cond b (find path_cmp (from ++ drop (length to) x) rest) (cond (is_at_or_inside x from) None
          (find path_cmp x rest))
          ≡ cond b (find path_cmp (from ++ drop (length to) x) t) (cond (is_at_or_inside x from) None
          (find path_cmp x t))
      by true there = found (from ++ drop (length to) x) (false_from_ne_true _ (λ s.
          both_ways _ (away rest from to (drop (length to) x) rest_tree at) (or_left _ _ s)))
      by false there = ap (cond (is_at_or_inside x from) None) (found x (or_parts _ _ there).0)

-- ---- all steps

module _ (p : Parameters) (t : Tree) (from to : Path) (tree : IsTree t) where
  -- one step, where nothing is replaced
  one_leads : (forced : Bool) → IsTrue (is_path to) → (forced && is_file t to && not (same_path from to)) ≡ false
      → (u : Tree) → Leads p t (always_done (Rename from to) ∷ []) u → IsMoved forced from to t u
  unfolding Leads is_on_attributes
  one_leads forced path other u chain = record {
    allowed = sym (plain_reason forced p t from to other) ∙ chain.0;
    standing = subst (λ (v : Tree). HasJust (moved_at from to t) v) chain.1
        (moved_tree t from to tree path (moves_at t from to chain.0));
  }

  two_lead : IsTrue (is_path to) → same_path from to ≡ false → (b : Bool) → is_file t to ≡ b → (u : Tree)
      → Leads p t (done_at_file (Remove to) ∷ always_done (Rename from to) ∷ []) u → IsMoved true from to t u
  unfolding Leads next_tree is_on_attributes
  two_lead path other true file u chain =
      let rest_chain = subst (λ (b : Bool). Leads p (cond b (without t to) t) (always_done (Rename from to) ∷ []) u)
      file chain.1 in
      let at = moves_at (without t to) from to rest_chain.0 in
      record {
        allowed = sym (replaced_reason t from to tree file other p) ∙ rest_chain.0;
        standing = subst (λ (v : Tree). HasJust (moved_at from to t) v) rest_chain.1
            (told_alike _ _ _ (told_before t from to tree file other at)
            (moved_tree (without t to) from to (rest_tree t from to tree file other) path at));
      }
  two_lead path other false file u chain =
      let rest_chain = subst (λ (b : Bool). Leads p (cond b (without t to) t) (always_done (Rename from to) ∷ []) u)
      file chain.1 in
      one_leads true path (ap₂ (λ a b. true && a && not b) file other) u rest_chain

  pub move_leads : (forced : Bool) → IsTrue (is_path to) → (u : Tree) → Leads p t (move_steps forced from to) u
      → IsMoved forced from to t u
  move_leads false path u chain = one_leads false path refl u chain
  move_leads true path u chain = by (same_path from to) refl chain
    where
      both : (a : Bool) → (true && a && not true) ≡ false
      both true = refl
      both false = refl

      by : (s : Bool) → same_path from to ≡ s
          → Leads p t (cond (true && not s) (done_at_file (Remove to) ∷ always_done (Rename from to) ∷ [])
          (always_done (Rename from to) ∷ [])) u → IsMoved true from to t u
      by true s chain = one_leads true path (ap (λ b. true && is_file t to && not b) s ∙ both (is_file t to)) u chain
      by false s chain = two_lead path s (is_file t to) refl u chain

  -- one step stops alone
  one_stops : (forced : Bool) → (forced && is_file t to && not (same_path from to)) ≡ false
      → (g : Conditional) (why : Refusal) → (first rest : List Conditional)
      → always_done (Rename from to) ∷ [] ≡ first ++ g ∷ rest → (w : Tree) → Leads p t first w
      → why_refused p w g ≡ Some why
      → (g ≡ always_done (Rename from to)) × (move_refusal forced from to t ≡ Some why)
  unfolding Leads
  one_stops forced other g why [] rest e w same refused =
      let this : always_done (Rename from to) ≡ g = cc in (
        sym this,
        sym (plain_reason forced p t from to other)
            ∙ ap₂ (why_refused p) same this ∙ refused,
      )
  one_stops forced other g why (c ∷ []) rest e w chain refused = cc
  one_stops forced other g why (c ∷ d ∷ first) rest e w chain refused = cc

  two_stop : same_path from to ≡ false → (b : Bool) → is_file t to ≡ b → (g : Conditional) (why : Refusal)
      → (first rest : List Conditional)
      → done_at_file (Remove to) ∷ always_done (Rename from to) ∷ [] ≡ first ++ g ∷ rest → (w : Tree)
      → Leads p t first w → why_refused p w g ≡ Some why
      → (g ≡ always_done (Rename from to)) × (move_refusal true from to t ≡ Some why)
  unfolding Leads next_tree is_on_attributes
  two_stop other true file g why [] rest e w same refused =
      let this : done_at_file (Remove to) ≡ g = cc in
      let none : why_refused p w g ≡ None =
      ap₂ (why_refused p) (sym same) (sym this) ∙ removal_allowed t from to tree file other p in cc
  two_stop other true file g why (c ∷ []) rest e w chain refused =
      let first_is : done_at_file (Remove to) ≡ c = cc in
      let this : always_done (Rename from to) ≡ g = cc in
      let same : cond (is_file t to) (without t to) t ≡ w = ap (tree_behind t) first_is ∙ chain.1 in (
        sym this,
        sym (replaced_reason t from to tree file other p)
            ∙ ap₂ (why_refused p) (ap (λ b. cond b (without t to) t) (sym file) ∙ same) this ∙ refused,
      )
  two_stop other true file g why (c ∷ d ∷ []) rest e w chain refused = cc
  two_stop other true file g why (c ∷ d ∷ f ∷ first) rest e w chain refused = cc
  two_stop other false file g why [] rest e w same refused =
      let this : done_at_file (Remove to) ≡ g = cc in
      let none : why_refused p w g ≡ None =
      ap₂ (why_refused p) (sym same) (sym this)
      ∙ ap (λ b. cond b (refusal_under p t (Remove to)) None) file in cc
  two_stop other false file g why (c ∷ first) rest e w chain refused =
      let first_is : done_at_file (Remove to) ≡ c = cc in
      let behind : always_done (Rename from to) ∷ [] ≡ first ++ g ∷ rest = cc in
      one_stops true (ap₂ (λ a b. true && a && not b) file other) g why first rest behind w
      (subst (λ (v : Tree). Leads p v first w)
      (ap (tree_behind t) (sym first_is) ∙ ap (λ b. cond b (without t to) t) file) chain.1) refused

  pub move_stops : (forced : Bool) → (g : Conditional) (why : Refusal) → Stops p t (move_steps forced from to) g why
      → (g ≡ always_done (Rename from to)) × (move_refusal forced from to t ≡ Some why)
  move_stops false g why stops =
      one_stops false refl g why stops.first stops.rest stops.changes_are stops.tree stops.leads stops.refused
  move_stops true g why stops = by (same_path from to) refl stops.changes_are
    where
      both : (a : Bool) → (true && a && not true) ≡ false
      both true = refl
      both false = refl

      by : (s : Bool) → same_path from to ≡ s
          → cond (true && not s) (done_at_file (Remove to) ∷ always_done (Rename from to) ∷ [])
          (always_done (Rename from to) ∷ []) ≡ stops.first ++ g ∷ stops.rest
          → (g ≡ always_done (Rename from to)) × (move_refusal true from to t ≡ Some why)
      by true s e = one_stops true (ap (λ b. true && is_file t to && not b) s ∙ both (is_file t to)) g why stops.first
          stops.rest e stops.tree stops.leads stops.refused
      by false s e = two_stop s (is_file t to) refl g why stops.first stops.rest e stops.tree stops.leads stops.refused
