-- What a reader's call promises, by what it tested.
use Rattle.std.proofs.Common.{◌≡◌, ℕ, ◌<◌, ◌≤◌, List, [], ◌∷◌, ◌++◌, length, true, false, ◌⊎◌, inl, inr, refl, sym}
use Rattle.std.proofs.Common.{subst}
use Rattle.std.specs.List.{list_all}
use Rattle.store_model.specs.declared.version.Version.{Version}
use Rattle.store_model.specs.Parameters.{Parameters}
use Rattle.store_model.specs.Paths.{Path, Name, is_name, fits_field, attribute_place, attribute_key}
use Rattle.store_model.specs.Pairs.{Pair, attribute_value}
use Rattle.store_model.specs.Trees.{attribute_limit}
use Rattle.store_model.proofs.ListsLemmas.{first_true}
use Rattle.store_model.proofs.PathsLemmas.{place_of_path, place_of_attribute}
use Rattle.store_model.proofs.PathsLemmasPlaces.{attribute_is_no_path, same_attribute_place}
use Rattle.store_model.proofs.TreesLemmasLayouts.{keys_tell_places}
use Rattle.path_keys.specs.Reading.{HasNoAttribute}
use Rattle.tree_pairs.specs.declared.kind.Kind.{Kind}
use Rattle.tree_pairs.specs.TreeCalls.{pairs_limit}
use Rattle.tree_pairs.specs.declared.reader.TreeReader.{TreeReader}
use Rattle.tree_pairs.specs.Fronts.{BeginTree, IsFirst, MayHaveAttribute}
use Rattle.tree_pairs.specs.Seen.{MayFollow, MayBeNext, size_of, HasSeen}
use Rattle.tree_pairs.specs.ReaderCalls.{AddsPair}
use Rattle.tree_pairs.proofs.Readings.{IsNextFirst, IsNextAttribute, between, seen_begins, next_told}

-- a pair is taken
pub taken : (old new : TreeReader) (pair : Pair) → new.version ≡ old.version
    → ((s : List Pair) (p : Parameters) → HasSeen old s p → HasSeen new (s ++ pair ∷ []) p) → AddsPair old new pair true
taken old new pair version seen = record {
  seen = seen;
  begins = λ s p has. seen_begins new (s ++ pair ∷ []) p (seen s p has);
  refused = λ s p has few. tt;
  unchanged = tt;
  version = version;
}

-- a pair is refused
pub refused : (old : TreeReader) (pair : Pair)
    → ((s : List Pair) (p : Parameters) → HasSeen old s p → length s < pairs_limit → BeginTree (s ++ pair ∷ []) p → ⊥)
    → AddsPair old old pair false
refused old pair none = record {
  seen = λ s p has. tt;
  begins = λ s p has. tt;
  refused = none;
  unchanged = refl;
  version = refl;
}

-- a pair is refused that is no attribute, and no first pair which may stand next
pub first_refused : (old : TreeReader) (key_bytes value : List ℕ) → size_of old.last.kind ≤ old.read
    → HasNoAttribute key_bytes → ((path : Path) (kind : Kind) → IsFirst old.version path kind key_bytes value
    → MayFollow old.last.path old.last.kind path → ⊥) → AddsPair old old (key_bytes, value) false
first_refused old key_bytes value whole no_attribute none =
    refused old (key_bytes, value)
    (λ s p has few begins. by_next (next_told old s p key_bytes value (between old s p has whole) begins))
  where
    by_next : IsNextFirst old key_bytes value ⊎ IsNextAttribute old key_bytes value → ⊥
    by_next (inl next) = none next.path next.kind next.first next.follows
    by_next (inr next) = let is = next.may_have
        in no_attribute next.path next.name is.path_is is.below_root is.name_is is.fits next.key_is

-- the key of an attribute is that of no other, and of no path
one_attribute : (x y : Path) (a b : Name) → MayHaveAttribute x a → MayHaveAttribute y b
    → attribute_key x a ≡ attribute_key y b → (x ≡ y) × (a ≡ b)
one_attribute x y a b is other same =
    same_attribute_place x y a b
    (keys_tell_places (attribute_place x a) (attribute_place y b) (place_of_attribute x a is.path_is is.name_is is.fits)
    (place_of_attribute y b other.path_is other.name_is other.fits) same)

no_first : (version : Version) (y x : Path) (a : Name) (kind : Kind) (value : List ℕ) → MayHaveAttribute x a
    → IsFirst version y kind (attribute_key x a) value → ⊥
no_first version y x a kind value is first =
    attribute_is_no_path x y a (first_true (list_all is_name y) (fits_field y) first.path_is)
    (keys_tell_places (attribute_place x a) y (place_of_attribute x a is.path_is is.name_is is.fits)
    (place_of_path y first.path_is) first.key_is)

-- an attribute is refused that may not stand next, or whose value is no attribute's
pub attribute_refused : (old : TreeReader) (path : Path) (name : Name) (value : List ℕ)
    → size_of old.last.kind ≤ old.read → MayHaveAttribute path name
    → (MayBeNext old.version old.last.path old.attribute path name → (bytes : List ℕ) → length bytes ≤ attribute_limit
    → value ≡ attribute_value bytes → ⊥) → AddsPair old old (attribute_key path name, value) false
attribute_refused old path name value whole is none =
    refused old (attribute_key path name, value)
    (λ s p has few begins. by_next (next_told old s p (attribute_key path name) value
    (between old s p has whole) begins))
  where
    by_next : IsNextFirst old (attribute_key path name) value ⊎ IsNextAttribute old (attribute_key path name) value → ⊥
    by_next (inl next) = no_first old.version next.path path name next.kind value is next.first
    by_next (inr next) =
        let same = one_attribute next.path path next.name name next.may_have is (sym next.key_is) in
        none (subst (λ (b : Name). MayBeNext old.version old.last.path old.attribute path b)
        same.1 (subst (λ (y : Path). MayBeNext old.version old.last.path old.attribute y next.name)
        same.0 next.may)) next.bytes next.short next.value_is
