-- Lemmas on attributes: their pairs in a tree's list, and what a list becomes where one is put or taken.
use Rattle.std.proofs.Common.{◌≡◌, ℕ, zero, suc, List, [], ◌∷◌, Bool, true, false, not, cond, ◌&&◌, ◌⊎◌, inl, inr}
use Rattle.std.proofs.Common.{IsTrue, Option, Some, None, refl, sym, ap, ap₂, subst, ◌∙◌, arith, nat_cmp}
use Rattle.std.specs.Ordering.{is_eq, eq_by_cmp}
use Rattle.std.specs.Option.{option_map}
use Rattle.std.specs.List.{AllByRecursion, filter}
use Rattle.std.specs.FinMap.{find, put}
use Rattle.store_model.specs.Parameters.{Parameters}
use Rattle.store_model.specs.Paths.{Path, Name, is_root, is_path, is_attribute_name, fits_attribute, attribute_mark}
use Rattle.store_model.specs.Paths.{attribute_place, attribute_key, name_cmp, path_cmp, same_path, key_cmp}
use Rattle.store_model.specs.Pairs.{attribute_value, pairs}
use Rattle.store_model.specs.Trees.{Tree, Entry, Attributes, IsAttribute, IsTree, node_of, attributes_at, attribute_at}
use Rattle.store_model.specs.Trees.{exists, with_attributes, with_attribute, without_attribute}
use Rattle.store_model.proofs.PathsLemmas.{place_of_attribute}
use Rattle.store_model.proofs.PathsLemmasPlaces.{same_name_from_tie, order_of_attributes}
use Rattle.store_model.proofs.TreesLemmas.{entry_at, AreAttributes-attributes_at}
use Rattle.store_model.proofs.TreesLemmasAttributes.{with_these, find-with_attribute, find-without_attribute}
use Rattle.store_model.proofs.TreesLemmasAttributes.{find-with_attributes, attributes_at-with_attributes}
use Rattle.store_model.proofs.TreesLemmasPaths.{same_from_test, tie_from_test}
use Rattle.tree_pairs.proofs.TreeBlocks.{block_value, attribute_block, tree_blocks}
use Rattle.tree_pairs.proofs.PlaceLemmas.{IsAttributePlace, IsPlain, form_of, attributes_apart, plain_blocks}
use Rattle.tree_pairs.proofs.PlaceLemmas.{attribute_blocks}
use Rattle.tree_pairs.proofs.BlocksLemmas.{tied_number, other_numbers, pairs_have_blocks, pairs_from_blocks}
use Rattle.tree_pairs.proofs.ChangesLemmas.{same_path-sym, put_any, take_any}

-- ---- an attribute that is there

-- what is known of each attribute, at what a search finds
attribute_from_all : (P : Name × List ℕ → Type 0) (a : Name) (bytes : List ℕ) (attributes : Attributes)
    → AllByRecursion P attributes → find name_cmp a attributes ≡ Some bytes → P (a, bytes)
attribute_from_all P a bytes [] h e = cc
attribute_from_all P a bytes (b ∷ attributes) h e =
    (elim (eq_by_cmp name_cmp a b.0) as (λ c. eq_by_cmp name_cmp a b.0 ≡ c
    → cond c (Some b.1) (find name_cmp a attributes) ≡ Some bytes → P (a, bytes)) [
      | true ↦ λ s e. let name : b.0 ≡ a = sym (same_name_from_tie a b.0 (tie_from_test (name_cmp a b.0) s))
          in let value : b.1 ≡ bytes = cc in subst P (λ i. (name i, value i)) h.0
      | false ↦ λ s e. attribute_from_all P a bytes attributes h.1 e
    ]) refl e

-- it is one
pub attribute_found : (t : Tree) (x : Path) (a : Name) (bytes : List ℕ) → IsTree t → attribute_at t x a ≡ Some bytes
    → IsAttribute x (a, bytes)
attribute_found t x a bytes h found =
    attribute_from_all (IsAttribute x) a bytes (attributes_at t x) (AreAttributes-attributes_at t x h).each found

-- so a name that the path's field has no room for is not there
pub unfit_attribute : (t : Tree) (x : Path) (a : Name) → IsTree t → fits_attribute x a ≡ false
    → attribute_at t x a ≡ None
unfit_attribute t x a h unfit = by_found (attribute_at t x a) refl
  where
    by_found : (o : Option (List ℕ)) → attribute_at t x a ≡ o → o ≡ None
    by_found None e = refl
    by_found (Some bytes) e = let fits = (attribute_found t x a bytes h e).fits in cc

-- the list has its pair
pub find_attribute : (t : Tree) (p : Parameters) (x : Path) (a : Name) → IsTree t → IsTrue (is_path x)
    → IsTrue (is_attribute_name a) → IsTrue (fits_attribute x a)
    → find key_cmp (attribute_key x a) (pairs t p) ≡ option_map attribute_value (attribute_at t x a)
find_attribute t p x a h path name fits =
    (pairs_have_blocks t p h).each (attribute_place x a) 0 (place_of_attribute x a path name fits) (omega arith)
    ∙ attribute_blocks t p.version x a 0 h

-- ---- the blocks of a tree with other attributes at a path

-- each node stays
node_kept : (t : Tree) (x y : Path) (attributes : Attributes)
    → node_of (find path_cmp y (with_attributes t x attributes)) ≡ node_of (find path_cmp y t)
node_kept t x y attributes = ap node_of (find-with_attributes t x y attributes)
    ∙ same_node (same_path y x) (find path_cmp y t)
  where
    same_node : (b : Bool) (o : Option Entry) → node_of (cond b (with_these attributes o) o) ≡ node_of o
    same_node true None = refl
    same_node true (Some entry) = refl
    same_node false o = refl

-- where the attributes of a path differ at one name, the blocks differ at its place
module _ (t : Tree) (p : Parameters) (x : Path) (attributes : Attributes) (a : Name) (value : Option (List ℕ))
    (changed : (b : Name) → find name_cmp b attributes ≡ cond (eq_by_cmp name_cmp b a) value (attribute_at t x b)) where
  own_blocks : (b : Name) (j : ℕ) → cond (eq_by_cmp name_cmp b a && eq_by_cmp nat_cmp j 0)
      (option_map attribute_value value) (attribute_block (attributes_at t x) (attribute_mark ∷ b) j)
      ≡ attribute_block attributes (attribute_mark ∷ b) j
  own_blocks b zero =
      ap (λ c. cond (eq_by_cmp name_cmp b a && c) (option_map attribute_value value)
      (option_map attribute_value (attribute_at t x b))) (tied_number 0) ∙ picked (eq_by_cmp name_cmp b a)
      ∙ ap (option_map attribute_value) (sym (changed b))
    where
      picked : (c : Bool) → cond (c && true) (option_map attribute_value value)
          (option_map attribute_value (attribute_at t x b))
          ≡ option_map attribute_value (cond c value (attribute_at t x b))
      picked true = refl
      picked false = refl
  own_blocks b (suc j) =
      ap (λ c. cond (eq_by_cmp name_cmp b a && c) (option_map attribute_value value) None)
      (other_numbers (suc j) 0 (λ is. absurd (omega arith))) ∙ none (eq_by_cmp name_cmp b a)
    where
      none : (c : Bool) → cond (c && false) (option_map attribute_value value) None ≡ None
      none true = refl
      none false = refl

  blocks_at_attribute : (q : Path) (b : Name) (j : ℕ) (same : Bool) → same_path q x ≡ same
      → cond (same_path (attribute_place q b) (attribute_place x a) && eq_by_cmp nat_cmp j 0)
      (option_map attribute_value value) (attribute_block (attributes_at t q) (attribute_mark ∷ b) j)
      ≡ attribute_block (cond same attributes (attributes_at t q)) (attribute_mark ∷ b) j
  blocks_at_attribute q b j true e =
      ap (λ z. cond (same_path (attribute_place z b) (attribute_place x a) && eq_by_cmp nat_cmp j 0)
      (option_map attribute_value value) (attribute_block (attributes_at t z) (attribute_mark ∷ b) j))
      (same_from_test q x e)
      ∙ ap (λ o. cond (is_eq o && eq_by_cmp nat_cmp j 0) (option_map attribute_value value)
      (attribute_block (attributes_at t x) (attribute_mark ∷ b) j)) (order_of_attributes x b a) ∙ own_blocks b j
  blocks_at_attribute q b j false e =
      ap (λ c. cond (c && eq_by_cmp nat_cmp j 0) (option_map attribute_value value)
      (attribute_block (attributes_at t q) (attribute_mark ∷ b) j)) (attributes_apart q x b a e)

  tree_blocks-with_attributes : (y : Path) (j : ℕ) → IsTree t → IsTree (with_attributes t x attributes)
      → is_root x ≡ false → exists t x ≡ true
      → cond (same_path y (attribute_place x a) && eq_by_cmp nat_cmp j 0) (option_map attribute_value value)
      (tree_blocks t p y j) ≡ tree_blocks (with_attributes t x attributes) p y j
  tree_blocks-with_attributes y j h g below is = by_form (form_of y)
    where
      by_form : IsAttributePlace y ⊎ IsPlain y
          → cond (same_path y (attribute_place x a) && eq_by_cmp nat_cmp j 0) (option_map attribute_value value)
          (tree_blocks t p y j) ≡ tree_blocks (with_attributes t x attributes) p y j
      by_form (inl at) =
          ap (λ z. cond (same_path z (attribute_place x a) && eq_by_cmp nat_cmp j 0) (option_map attribute_value value)
          (tree_blocks t p z j)) at.place_is
          ∙ ap (cond (same_path (attribute_place at.path at.name) (attribute_place x a) && eq_by_cmp nat_cmp j 0)
          (option_map attribute_value value)) (attribute_blocks t p.version at.path at.name j h)
          ∙ blocks_at_attribute at.path at.name j (same_path at.path x) refl
          ∙ ap (λ z. attribute_block z (attribute_mark ∷ at.name) j)
          (sym (attributes_at-with_attributes t x at.path attributes below is))
          ∙ sym (attribute_blocks (with_attributes t x attributes) p.version at.path at.name j g)
          ∙ ap (λ z. tree_blocks (with_attributes t x attributes) p z j) (sym at.place_is)
      by_form (inr plain) =
          ap (λ c. cond (c && eq_by_cmp nat_cmp j 0) (option_map attribute_value value) (tree_blocks t p y j))
          (plain.other x a)
          ∙ plain_blocks t p.version y j plain ∙ ap (λ o. block_value o p.version j) (sym (node_kept t x y attributes))
          ∙ sym (plain_blocks (with_attributes t x attributes) p.version y j plain)

-- ---- from the list to the pairs of a tree with other attributes

-- where an attribute's pair is put
pub pairs-with_attribute : (t : Tree) (p : Parameters) (x : Path) (a : Name) (bytes : List ℕ) → IsTree t
    → is_root x ≡ false → exists t x ≡ true → IsTrue (is_attribute_name a) → IsTrue (fits_attribute x a)
    → IsTree (with_attributes t x (with_attribute (attributes_at t x) a bytes))
    → put key_cmp (attribute_key x a) (attribute_value bytes) (pairs t p)
    ≡ pairs (with_attributes t x (with_attribute (attributes_at t x) a bytes)) p
pairs-with_attribute t p x a bytes h below is name fits g =
    let path = ((entry_at t x h below is).2).path in
    let attributes = with_attribute (attributes_at t x) a bytes in
    pairs_from_blocks (with_attributes t x attributes) p
    (put key_cmp (attribute_key x a) (attribute_value bytes) (pairs t p)) g
    (put_any (tree_blocks t p) (tree_blocks (with_attributes t x attributes) p) (attribute_place x a) 0
    (attribute_value bytes) (pairs t p) (place_of_attribute x a path name fits) (omega arith)
    (λ y j. tree_blocks-with_attributes t p x attributes a (Some bytes)
    (λ b. find-with_attribute (attributes_at t x) a b bytes) y j h g below is)
    (pairs_have_blocks t p h))

-- where one is taken
pub pairs-without_attribute : (t : Tree) (p : Parameters) (x : Path) (a : Name) → IsTree t → is_root x ≡ false
    → exists t x ≡ true → IsTrue (is_attribute_name a) → IsTrue (fits_attribute x a)
    → IsTree (with_attributes t x (without_attribute (attributes_at t x) a))
    → filter (λ pair. not (eq_by_cmp key_cmp (attribute_key x a) pair.0)) (pairs t p)
    ≡ pairs (with_attributes t x (without_attribute (attributes_at t x) a)) p
pairs-without_attribute t p x a h below is name fits g =
    let path = ((entry_at t x h below is).2).path in
    let attributes = without_attribute (attributes_at t x) a in
    pairs_from_blocks (with_attributes t x attributes) p
    (filter (λ pair. not (eq_by_cmp key_cmp (attribute_key x a) pair.0)) (pairs t p)) g
    (take_any (tree_blocks t p) (tree_blocks (with_attributes t x attributes) p) (attribute_place x a) 0 (pairs t p)
    (place_of_attribute x a path name fits) (omega arith)
    (λ y j. taken y j ∙ tree_blocks-with_attributes t p x attributes a None
    (λ b. find-without_attribute (attributes_at t x) a b) y j h g below is)
    (pairs_have_blocks t p h))
  where
    swapped : (b : Bool) (o : Option (List ℕ)) → cond (not b) o None ≡ cond b None o
    swapped true o = refl
    swapped false o = refl

    tie_with_first : (j : ℕ) → eq_by_cmp nat_cmp 0 j ≡ eq_by_cmp nat_cmp j 0
    tie_with_first zero = refl
    tie_with_first (suc j) = other_numbers 0 (suc j) (λ is. absurd (omega arith))
        ∙ sym (other_numbers (suc j) 0 (λ is. absurd (omega arith)))

    taken : (y : Path) (j : ℕ) → cond (not (same_path (attribute_place x a) y && eq_by_cmp nat_cmp 0 j))
        (tree_blocks t p y j) None ≡ cond (same_path y (attribute_place x a) && eq_by_cmp nat_cmp j 0)
        None (tree_blocks t p y j)
    taken y j = swapped (same_path (attribute_place x a) y && eq_by_cmp nat_cmp 0 j) (tree_blocks t p y j)
        ∙ ap₂ (λ b c. cond (b && c) None (tree_blocks t p y j))
        (same_path-sym (attribute_place x a) y) (tie_with_first j)
