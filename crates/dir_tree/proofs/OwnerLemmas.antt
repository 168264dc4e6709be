-- Lemmas on the blocks of a tree: each belongs to a path that stands in it, as one of the path's own or as an
-- attribute.
use Rattle.std.proofs.Common.{◌≡◌, ℕ, zero, suc, ◌<◌, ◌≤◌, ◌∷◌, List, length, Bool, true, false, ◌⊎◌, inl, inr, IsTrue}
use Rattle.std.proofs.Common.{Option, Some, None, is_some, refl, sym, ap, subst, ◌∙◌, arith, nat_lt, ltb-true}
use Rattle.std.proofs.Common.{ltb-false}
use Rattle.std.specs.Option.{option_map}
use Rattle.std.specs.Prelude.{IsSome}
use Rattle.std.specs.FinMap.{find}
use Rattle.store_model.specs.declared.version.Version.{Version}
use Rattle.store_model.specs.Parameters.{Parameters}
use Rattle.store_model.specs.Paths.{Path, Name, is_path, is_place, is_attribute_name, fits_attribute, attribute_mark}
use Rattle.store_model.specs.Paths.{attribute_place, path_cmp, is_at_or_inside}
use Rattle.store_model.specs.Pairs.{file_block, is_inline, attribute_value}
use Rattle.store_model.specs.Trees.{Tree, Node, Entry, IsNode, IsTree, IsEntry, file_limit, exists, node_of}
use Rattle.store_model.specs.Trees.{attributes_of, attributes_at, attribute_at}
use Rattle.store_model.specs.Trees.Node.{Directory, File}
use Rattle.store_model.proofs.PathsLemmas.{place_of_path, place_of_attribute}
use Rattle.store_model.proofs.TreesLemmas.{find_from_all, exists-find}
use Rattle.tree_pairs.proofs.TreeBlocks.{file_block_value, block_value, attribute_block, tree_blocks}
use Rattle.tree_pairs.proofs.BlocksLemmas.{run_value-none, length-run_at}
use Rattle.tree_pairs.proofs.PlaceLemmas.{IsAttributePlace, IsPlain, form_of, plain_blocks, path_blocks}
use Rattle.tree_pairs.proofs.PlaceLemmas.{attribute_blocks, attribute_inside, first_of_attribute, no_attributes}
use Rattle.tree_pairs.proofs.AttributeLemmas.{attribute_found}

pub no_block : (o : Option (List ℕ)) → IsSome o → o ≡ None → ⊥
no_block None h e = cc
no_block (Some v) h e = cc

-- the block at the place is an attribute's of the path
pub record IsAttributeAt (t : Tree) (owner y : Path) (i : ℕ) : Type 0 where
  pub name : Name
  pub place_is : y ≡ attribute_place owner name
  pub named : IsTrue (is_attribute_name name)
  pub fits : IsTrue (fits_attribute owner name)
  pub first : i ≡ 0
  pub found : IsSome (attribute_at t owner name)

-- the block belongs to a path of the tree
pub record IsOwned (t : Tree) (y : Path) (i : ℕ) : Type 0 where
  pub owner : Path
  pub entry : Entry
  pub found : find path_cmp owner t ≡ Some entry
  pub is : IsEntry t (owner, entry)
  pub of : (y ≡ owner) ⊎ IsAttributeAt t owner y i

-- so does each that is there
pub owner_of : (t : Tree) (p : Parameters) (y : Path) (i : ℕ) → IsTree t → IsSome (tree_blocks t p y i) → IsOwned t y i
owner_of t p y i h there = by_form (form_of y)
  where
    of_plain : IsPlain y → (o : Option Entry) → find path_cmp y t ≡ o → IsOwned t y i
    of_plain plain None e =
        absurd (no_block (tree_blocks t p y i) there
        (plain_blocks t p.version y i plain ∙ ap (λ o. block_value (node_of o) p.version i) e))
    of_plain plain (Some entry) e = record {
      owner = y;
      entry = entry;
      found = e;
      is = find_from_all (IsEntry t) y entry t h.entries e;
      of = inl refl;
    }

    blocks_are : (at : IsAttributePlace y) → tree_blocks t p y i
        ≡ attribute_block (attributes_at t at.path) (attribute_mark ∷ at.name) i
    blocks_are at = ap (λ z. tree_blocks t p z i) at.place_is ∙ attribute_blocks t p.version at.path at.name i h

    by_bytes : (at : IsAttributePlace y) → i ≡ 0 → (o : Option (List ℕ)) → attribute_at t at.path at.name ≡ o
        → IsAttributeAt t at.path y i
    by_bytes at e None f =
        absurd (no_block (tree_blocks t p y i) there
        (blocks_are at ∙ ap (attribute_block (attributes_at t at.path) (attribute_mark ∷ at.name)) e
        ∙ ap (option_map attribute_value) f))
    by_bytes at e (Some bytes) f =
        let is = attribute_found t at.path at.name bytes h f in
        record {
          name = at.name;
          place_is = at.place_is;
          named = is.name;
          fits = is.fits;
          first = e;
          found = subst IsSome (sym f) refl;
        }

    by_number : (at : IsAttributePlace y) (j : ℕ) → i ≡ j → IsAttributeAt t at.path y i
    by_number at zero e = by_bytes at e (attribute_at t at.path at.name) refl
    by_number at (suc j) e =
        absurd (no_block (tree_blocks t p y i) there
        (blocks_are at ∙ ap (attribute_block (attributes_at t at.path) (attribute_mark ∷ at.name)) e
        ∙ first_of_attribute (attributes_at t at.path) (attribute_mark ∷ at.name) j))

    of_attribute : (at : IsAttributePlace y) (o : Option Entry) → find path_cmp at.path t ≡ o → IsOwned t y i
    of_attribute at None e =
        absurd (no_block (tree_blocks t p y i) there
        (blocks_are at ∙ ap (λ o. attribute_block (attributes_of o) (attribute_mark ∷ at.name) i) e
        ∙ no_attributes (attribute_mark ∷ at.name) i))
    of_attribute at (Some entry) e = record {
      owner = at.path;
      entry = entry;
      found = e;
      is = find_from_all (IsEntry t) at.path entry t h.entries e;
      of = inr (by_number at i refl);
    }

    by_form : IsAttributePlace y ⊎ IsPlain y → IsOwned t y i
    by_form (inl at) = of_attribute at (find path_cmp at.path t) refl
    by_form (inr plain) = of_plain plain (find path_cmp y t) refl

-- a block lies where its owner does
pub owner_inside : (t : Tree) (y : Path) (i : ℕ) (own : IsOwned t y i) (x : Path) → IsTrue (is_path x)
    → is_at_or_inside y x ≡ is_at_or_inside own.owner x
owner_inside t y i own x path = by_form own.of
  where
    by_form : (y ≡ own.owner) ⊎ IsAttributeAt t own.owner y i → is_at_or_inside y x ≡ is_at_or_inside own.owner x
    by_form (inl e) = ap (λ z. is_at_or_inside z x) e
    by_form (inr at) = ap (λ z. is_at_or_inside z x) at.place_is ∙ attribute_inside own.owner at.name x path

-- it stands at a place
pub owned_place : (t : Tree) (y : Path) (i : ℕ) → IsOwned t y i → IsTrue (is_place y)
owned_place t y i own = by_form own.of
  where
    by_form : (y ≡ own.owner) ⊎ IsAttributeAt t own.owner y i → IsTrue (is_place y)
    by_form (inl e) = subst (λ (z : Path). IsTrue (is_place z)) (sym e) (place_of_path own.owner own.is.path)
    by_form (inr at) = subst (λ (z : Path). IsTrue (is_place z)) (sym at.place_is)
        (place_of_attribute own.owner at.name own.is.path at.named at.fits)

-- and its owner stands in the tree
pub owner_stands : (t : Tree) (y : Path) (i : ℕ) (own : IsOwned t y i) → exists t own.owner ≡ true
owner_stands t y i own = exists-find t own.owner own.is.below_root ∙ ap is_some own.found

-- ---- the last number, which no block has

no_far_file_block : (inline : Bool) (bytes : List ℕ) (j : ℕ) → length bytes ≤ file_limit → file_limit < suc j
    → file_block_value inline bytes (suc j) ≡ None
no_far_file_block true bytes j l h = refl
no_far_file_block false bytes j l h = run_value-none _ (let e = length-run_at file_block bytes j in omega arith)

no_far_block : (node : Node) (version : Version) (j : ℕ) → IsNode node → file_limit < j
    → block_value (Some node) version j ≡ None
no_far_block node version zero is h = absurd (omega arith)
no_far_block Directory version (suc j) is h = refl
no_far_block (File bytes) version (suc j) is h = no_far_file_block (is_inline version (length bytes)) bytes j is.0 h

-- a block that is there has a lower number
pub lower_number : (t : Tree) (p : Parameters) (y : Path) (i : ℕ) → IsTree t → i < 4294967296
    → IsSome (tree_blocks t p y i) → i < 4294967295
lower_number t p y i h l there = by_test (nat_lt i 4294967295) refl
  where
    own : IsOwned t y i
    own = owner_of t p y i h there

    not_far : file_limit < i → (y ≡ own.owner) ⊎ IsAttributeAt t own.owner y i → ⊥
    not_far far (inl e) =
        no_block (tree_blocks t p y i) there
        (ap (λ z. tree_blocks t p z i) e ∙ path_blocks t p.version own.owner i own.is.path
        ∙ ap (λ o. block_value (node_of o) p.version i) own.found
        ∙ no_far_block own.entry.node p.version i own.is.node far)
    not_far far (inr at) = let first = at.first in omega arith

    by_test : (b : Bool) → nat_lt i 4294967295 ≡ b → i < 4294967295
    by_test true e = ltb-true i 4294967295 e
    by_test false e = let more = ltb-false i 4294967295 e in absurd (not_far (omega arith) own.of)
