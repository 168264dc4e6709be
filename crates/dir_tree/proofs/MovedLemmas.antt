-- Lemmas on the blocks of a moved tree.
use Rattle.std.proofs.Common.{◌≡◌, ℕ, List, [], ◌∷◌, ◌++◌, length, drop, Bool, true, false, cond, IsTrue, ◌⊎◌, inl, inr}
use Rattle.std.proofs.Common.{⊎_elim, Option, Some, None, refl, sym, ap, ap₂, ◌∙◌, append_assoc}
use Rattle.std.specs.FinMap.{find}
use Rattle.std.proofs.lemmas.Bool.{both_ways, false_from_ne_true, or_parts, not-false, or_cases}
use Rattle.std.proofs.lemmas.List.{drop_at}
use Rattle.store_model.specs.Parameters.{Parameters}
use Rattle.store_model.specs.Paths.{Path, Name, is_root, is_path, attribute_mark, attribute_place, path_cmp, same_path}
use Rattle.store_model.specs.Paths.{is_inside, is_at_or_inside, replanted}
use Rattle.store_model.specs.Trees.{Tree, IsTree, exists, node_of, attributes_at, moved_path, moved}
use Rattle.store_model.specs.Commands.Command.{Rename}
use Rattle.store_model.specs.Steps.{refusal_of, conditions, outgrows}
use Rattle.store_model.proofs.TreesLemmasPaths.{same_from_test, same_path-from_equal, at_or_inside-append}
use Rattle.store_model.proofs.TreesLemmasPaths.{at_or_inside-split, not_root-append, moved_path-below}
use Rattle.store_model.proofs.TreesLemmasPaths.{moved_path_elsewhere}
use Rattle.store_model.proofs.TreesLemmasMoves.{find-moved, find-moved_away, nothing_below}
use Rattle.store_model.proofs.TreesLemmasAttributes.{attributes_at-moved, attributes_at-moved_away}
use Rattle.store_model.proofs.TreesLemmasSteps.{all_fail}
use Rattle.tree_pairs.specs.Blocks.{BlockMap}
use Rattle.tree_pairs.proofs.TreeBlocks.{block_value, attribute_block, tree_blocks}
use Rattle.tree_pairs.proofs.PlaceLemmas.{IsAttributePlace, IsPlain, form_of, plain_blocks, attribute_blocks}
use Rattle.tree_pairs.proofs.PlaceLemmas.{attribute_inside, no_attributes}
use Rattle.dir_tree.proofs.NextLemmas.{some_is}
use Rattle.dir_tree.proofs.OwnerLemmas.{IsOwned, owner_of, owner_inside, owner_stands}

-- ---- replanted paths

pub back_again : (from to y : Path) → is_at_or_inside y from ≡ true → replanted to from (replanted from to y) ≡ y
unfolding replanted
back_again from to y at = ap (λ z. from ++ z) (drop_at to (drop (length from) y) (length to) refl)
    ∙ sym (at_or_inside-split y from at)

pub replanted_within : (from to y : Path) → is_at_or_inside (replanted from to y) to ≡ true
unfolding replanted
replanted_within from to y = at_or_inside-append to (drop (length from) y)

pub replanted_below : (from to y : Path) → is_root to ≡ false → is_root (replanted from to y) ≡ false
unfolding replanted
replanted_below from to y below = not_root-append to (drop (length from) y) below

-- a replanted path is the moved one
replanted_moved : (from to y : Path) → is_at_or_inside y to ≡ true → moved_path from to (replanted to from y) ≡ y
unfolding replanted
replanted_moved from to y at = moved_path-below from to (drop (length to) y) ∙ sym (at_or_inside-split y to at)

-- attributes are replanted with their paths
pub replanted_attribute : (from to q : Path) (a : Name) → is_at_or_inside q from ≡ true
    → replanted from to (attribute_place q a) ≡ attribute_place (replanted from to q) a
unfolding replanted
replanted_attribute from to q a at =
    let s = drop (length from) q in
    ap (λ z. to ++ drop (length from) z) (ap (λ z. z ++ (attribute_mark ∷ a) ∷ []) (at_or_inside-split q from at)
    ∙ append_assoc from s ((attribute_mark ∷ a) ∷ []))
    ∙ ap (λ z. to ++ z) (drop_at from (s ++ (attribute_mark ∷ a) ∷ []) (length from) refl)
    ∙ sym (append_assoc to s ((attribute_mark ∷ a) ∷ []))

-- ---- a move that is not refused

pub record IsMove (t : Tree) (from to : Path) : Type 0 where
  pub from_below : is_root from ≡ false
  pub to_below : is_root to ≡ false
  pub stands : exists t from ≡ true
  pub apart : is_inside to from ≡ false
  pub free : exists t to ≡ false
  pub short : outgrows t from to ≡ false

pub is_move : (t : Tree) (from to : Path) → refusal_of t (Rename from to) ≡ None → IsMove t from to
unfolding conditions
is_move t from to none =
    let fails = all_fail (conditions t (Rename from to)) none in
    let roots = or_parts (is_root from) (is_root to) fails.0 in
    record {
      from_below = roots.0;
      to_below = roots.1;
      stands = not-false (exists t from) fails.1.0;
      apart = fails.1.1.0;
      free = fails.1.1.1.1.0;
      short = fails.1.1.1.1.1.0;
    }

-- ---- two paths of which neither lies below the other

-- of two fronts of one path the one is a front of the other
fronts : (a b s r : Path) → a ++ s ≡ b ++ r → (is_at_or_inside a b ≡ true) ⊎ (is_at_or_inside b a ≡ true)
fronts a b s r e =
    ⊎_elim (λ (h : (u : Path) × (a ≡ b ++ u)). inl (ap (λ z. is_at_or_inside z b) h.1 ∙ at_or_inside-append b h.0))
    (λ (h : (u : Path) × (b ≡ a ++ u)). inr (ap (λ z. is_at_or_inside z a) h.1 ∙ at_or_inside-append a h.0))
    (front a b e)
  where
    front : (a b : Path) → a ++ s ≡ b ++ r → ((u : Path) × (a ≡ b ++ u)) ⊎ ((u : Path) × (b ≡ a ++ u))
    front [] b e = inr (b, refl)
    front (n ∷ a) [] e = inl (n ∷ a, refl)
    front (n ∷ a) (m ∷ b) e =
        let first : n ≡ m = cc in
        let rest : a ++ s ≡ b ++ r = cc in
        ⊎_elim (λ (h : (u : Path) × (a ≡ b ++ u)). inl (h.0, ap₂ ◌∷◌ first h.1))
        (λ (h : (u : Path) × (b ≡ a ++ u)). inr (h.0, ap₂ ◌∷◌ (sym first) h.1)) (front a b rest)

no_common : (a b z : Path) → is_at_or_inside a b ≡ false → is_at_or_inside b a ≡ false → is_at_or_inside z a ≡ true
    → is_at_or_inside z b ≡ false
no_common a b z f g at =
    false_from_ne_true _ (λ also. ⊎_elim (λ h. absurd (both_ways _ f h)) (λ h. absurd (both_ways _ g h))
    (fronts a b (drop (length a) z) (drop (length b) z)
    (sym (at_or_inside-split z a at) ∙ at_or_inside-split z b also)))

module _ (t : Tree) (from to : Path) (h : IsTree t) (m : IsMove t from to) where
  from_outside : is_at_or_inside from to ≡ false
  from_outside = nothing_below t to h m.free from m.stands

  to_outside : is_at_or_inside to from ≡ false
  to_outside =
      false_from_ne_true _ (λ at. ⊎_elim
      (λ same. absurd (both_ways _ m.free (ap (exists t) (same_from_test to from same) ∙ m.stands)))
      (λ inside. absurd (both_ways _ m.apart inside))
      (or_cases (same_path to from) (is_inside to from) at))

  -- no path lies in both subtrees
  pub old_not_new : (z : Path) → is_at_or_inside z from ≡ true → is_at_or_inside z to ≡ false
  old_not_new z at = no_common from to z from_outside to_outside at

  pub new_not_old : (z : Path) → is_at_or_inside z to ≡ true → is_at_or_inside z from ≡ false
  new_not_old z at = no_common to from z to_outside from_outside at

-- ---- what is found in a moved tree

-- no block is at a path at which nothing stands, or below it
pub nothing_at : (t : Tree) (p : Parameters) (to y : Path) (j : ℕ) → IsTree t → IsTrue (is_path to)
    → exists t to ≡ false → is_at_or_inside y to ≡ true → tree_blocks t p y j ≡ None
nothing_at t p to y j h path free inside = by_value (tree_blocks t p y j) refl
  where
    not_owned : IsOwned t y j → ⊥
    not_owned own = both_ways _ (nothing_below t to h free own.owner (owner_stands t y j own))
        (sym (owner_inside t y j own to path) ∙ inside)

    by_value : (o : Option (List ℕ)) → tree_blocks t p y j ≡ o → tree_blocks t p y j ≡ None
    by_value None e = e
    by_value (Some v) e = absurd (not_owned (owner_of t p y j h (some_is (tree_blocks t p y j) v e)))

-- the blocks, with those of one subtree in the place of another's
abbrev pub moved_blocks : Path → Path → BlockMap → BlockMap
moved_blocks from to blocks y j = cond (is_at_or_inside y from) None
    (cond (is_at_or_inside y to) (blocks (replanted to from y) j) (blocks y j))

module _ (t : Tree) (from to : Path) (h : IsTree t) (m : IsMove t from to) (path : IsTrue (is_path from))
    (path_to : IsTrue (is_path to)) (next : IsTree (moved t from to)) (p : Parameters) where
  -- at the old place there is nothing
  blocks_away : (y : Path) (j : ℕ) → is_at_or_inside y from ≡ true → tree_blocks (moved t from to) p y j ≡ None
  blocks_away y j inside = by_form (form_of y)
    where
      by_form : IsAttributePlace y ⊎ IsPlain y → tree_blocks (moved t from to) p y j ≡ None
      by_form (inl at) =
          let owner : is_at_or_inside at.path from ≡ true =
          sym (attribute_inside at.path at.name from path)
          ∙ ap (λ z. is_at_or_inside z from) (sym at.place_is) ∙ inside in
          ap (λ z. tree_blocks (moved t from to) p z j) at.place_is
          ∙ attribute_blocks (moved t from to) p.version at.path at.name j next
          ∙ ap (λ held. attribute_block held (attribute_mark ∷ at.name) j)
          (attributes_at-moved_away t from to at.path h m.free owner (old_not_new t from to h m at.path owner))
          ∙ no_attributes (attribute_mark ∷ at.name) j
      by_form (inr plain) = plain_blocks (moved t from to) p.version y j plain
          ∙ ap (λ o. block_value (node_of o) p.version j)
          (find-moved_away t from to y h m.free inside (old_not_new t from to h m y inside))

  -- what the tree has at a path is at the moved path afterwards
  attribute_moved : (x y : Path) (a : Name) (j : ℕ) → is_at_or_inside x to ≡ false → moved_path from to x ≡ y
      → tree_blocks t p (attribute_place x a) j ≡ tree_blocks (moved t from to) p (attribute_place y a) j
  attribute_moved x y a j outside is =
      attribute_blocks t p.version x a j h ∙ ap (λ held. attribute_block held (attribute_mark ∷ a) j)
      (sym (attributes_at-moved t from to x h m.free outside) ∙ ap (attributes_at (moved t from to)) is)
      ∙ sym (attribute_blocks (moved t from to) p.version y a j next)

  plain_moved : (x y : Path) (j : ℕ) → IsPlain x → IsPlain y → is_at_or_inside x to ≡ false → moved_path from to x ≡ y
      → tree_blocks t p x j ≡ tree_blocks (moved t from to) p y j
  plain_moved x y j plain plain_to outside is =
      plain_blocks t p.version x j plain ∙ ap (λ o. block_value (node_of o) p.version j)
      (sym (find-moved t from to x h m.free outside) ∙ ap (λ z. find path_cmp z (moved t from to)) is)
      ∙ sym (plain_blocks (moved t from to) p.version y j plain_to)

  -- at the new place
  blocks_there : (y : Path) (j : ℕ) → is_at_or_inside y to ≡ true
      → tree_blocks t p (replanted to from y) j ≡ tree_blocks (moved t from to) p y j
  blocks_there y j inside = by_form (form_of y) (form_of (replanted to from y))
    where
      outside : (x : Path) → is_at_or_inside (replanted to from x) to ≡ false
      outside x = old_not_new t from to h m (replanted to from x) (replanted_within to from x)

      by_form : IsAttributePlace y ⊎ IsPlain y → IsAttributePlace (replanted to from y) ⊎ IsPlain (replanted to from y)
          → tree_blocks t p (replanted to from y) j ≡ tree_blocks (moved t from to) p y j
      by_form (inl at) form =
          let owner : is_at_or_inside at.path to ≡ true =
          sym (attribute_inside at.path at.name to path_to)
          ∙ ap (λ z. is_at_or_inside z to) (sym at.place_is) ∙ inside in
          ap (λ z. tree_blocks t p z j) (ap (replanted to from) at.place_is
          ∙ replanted_attribute to from at.path at.name owner)
          ∙ attribute_moved (replanted to from at.path) at.path at.name j (outside at.path)
          (replanted_moved from to at.path owner) ∙ ap (λ z. tree_blocks (moved t from to) p z j) (sym at.place_is)
      by_form (inr plain) (inl at) =
          let owner : is_at_or_inside at.path from ≡ true =
          sym (attribute_inside at.path at.name from path) ∙ ap (λ z. is_at_or_inside z from) (sym at.place_is)
          ∙ replanted_within to from y in
          let is : y ≡ attribute_place (replanted from to at.path) at.name =
          sym (back_again to from y inside) ∙ ap (replanted from to) at.place_is
          ∙ replanted_attribute from to at.path at.name owner in
          absurd (both_ways _ (plain.other (replanted from to at.path) at.name)
          (same_path-from_equal y (attribute_place (replanted from to at.path) at.name) is))
      by_form (inr plain) (inr old) = plain_moved (replanted to from y) y j old plain (outside y)
          (replanted_moved from to y inside)

  -- elsewhere
  blocks_elsewhere : (y : Path) (j : ℕ) → is_at_or_inside y from ≡ false → is_at_or_inside y to ≡ false
      → tree_blocks t p y j ≡ tree_blocks (moved t from to) p y j
  blocks_elsewhere y j old new = by_form (form_of y)
    where
      by_form : IsAttributePlace y ⊎ IsPlain y → tree_blocks t p y j ≡ tree_blocks (moved t from to) p y j
      by_form (inl at) =
          let away : is_at_or_inside at.path from ≡ false =
          sym (attribute_inside at.path at.name from path)
          ∙ ap (λ z. is_at_or_inside z from) (sym at.place_is) ∙ old in
          let apart : is_at_or_inside at.path to ≡ false =
          sym (attribute_inside at.path at.name to path_to) ∙ ap (λ z. is_at_or_inside z to) (sym at.place_is) ∙ new
          in
          ap (λ z. tree_blocks t p z j) at.place_is
          ∙ attribute_moved at.path at.path at.name j apart (moved_path_elsewhere from to at.path away)
          ∙ ap (λ z. tree_blocks (moved t from to) p z j) (sym at.place_is)
      by_form (inr plain) = plain_moved y y j plain plain new (moved_path_elsewhere from to y old)

  pub tree_blocks-moved : (y : Path) (j : ℕ) → moved_blocks from to (tree_blocks t p) y j
      ≡ tree_blocks (moved t from to) p y j
  tree_blocks-moved y j = by_tests (is_at_or_inside y from) (is_at_or_inside y to) refl refl
    where
      by_tests : (a b : Bool) → is_at_or_inside y from ≡ a → is_at_or_inside y to ≡ b
          → cond a None (cond b (tree_blocks t p (replanted to from y) j) (tree_blocks t p y j))
          ≡ tree_blocks (moved t from to) p y j
      by_tests true b f g = sym (blocks_away y j f)
      by_tests false true f g = blocks_there y j g
      by_tests false false f g = blocks_elsewhere y j f g
