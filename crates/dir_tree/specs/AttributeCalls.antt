-- What the inner calls on attributes do.
use Rattle.std.specs.Prelude.{◌≡◌, ◌≤◌, ◌-◌, ◌^◌, ℕ, nat_lt, not, true, false, List, [], ◌∷◌, map, length, Option, Some}
use Rattle.std.specs.Prelude.{None, IsTrue, IsSome, IfSome, MatchOption, Result, Ok, Err, IfOk}
use Rattle.std.specs.Ordering.{is_le}
use Rattle.store_model.specs.declared.refusal.Refusal.{Refusal}
use Rattle.store_model.specs.declared.refusal.Refusal.TheVariants as refusals
use Rattle.store_model.specs.Parameters.{Parameters}
use Rattle.store_model.specs.Paths.{Path, Name, is_root, is_path, is_attribute_name, fits_attribute, attribute_key, key}
use Rattle.store_model.specs.Paths.{key_cmp}
use Rattle.store_model.specs.Pairs.{Pair, attribute_value}
use Rattle.store_model.specs.Trees.{Tree, attribute_limit, attributes_at, attribute_at}
use Rattle.store_model.specs.Commands.{AttributeSize}
use Rattle.store_model.specs.Steps.{Condition, first_refusal, size_of_attribute}
use Rattle.store_base.specs.declared.store_fault.Fault.{Fault}
use Rattle.store_base.specs.Faults.{disk_faults_after}
use Rattle.ordered_pairs.specs.PairsState.{PairsState, IsObservable}
use Rattle.tree_pairs.specs.TreeCalls.{HoldsTree, KeepsPairs}
use Rattle.dir_tree.specs.declared.attributes.Found.{Found}

-- the conditions of an attribute that is to be set, but for those of its path
abbrev pub set_conditions : Path → Name → List ℕ → List Condition
set_conditions path name bytes = (nat_lt attribute_limit (length bytes), refusals.Big)
    ∷ (not (fits_attribute path name), refusals.Path) ∷ []

-- the pair of an attribute that may be set
pub record IsSetPairOf (path : Path) (name : Name) (bytes : List ℕ) (pair : Pair) : Type 0 where
  pub path_is : IsTrue (is_path path)
  pub named : IsTrue (is_attribute_name name)
  pub fits : IsTrue (fits_attribute path name)
  pub allowed : first_refusal (set_conditions path name bytes) ≡ None
  pub key_is : pair.0 ≡ attribute_key path name
  pub value_is : pair.1 ≡ attribute_value bytes

-- the pair of an attribute that is to be set, or why it is not
abbrev pub IsSetPair : Path → Name → List ℕ → Result Pair Refusal → Type 0
IsSetPair path name bytes (Ok pair) = IsSetPairOf path name bytes pair
IsSetPair path name bytes (Err refusal) = first_refusal (set_conditions path name bytes) ≡ Some refusal

-- what is read of an attribute from its pair
pub record IsReadOf (path : Path) (pair : Pair) (found : Found) : Type 0 where
  pub named : IsTrue (is_attribute_name found.name)
  pub fits : IsTrue (fits_attribute path found.name)
  pub key_is : found.key ≡ pair.0
  pub place_is : pair.0 ≡ attribute_key path found.name
  pub size : (bytes : List ℕ) → length bytes ≤ attribute_limit → pair.1 ≡ attribute_value bytes
      → found.size ≡ length bytes

-- what a pair says of an attribute of the path, if it is one's
abbrev pub IsReadAttribute : Path → Pair → Option Found → Type 0
IsReadAttribute path pair (Some found) = IsReadOf path pair found
IsReadAttribute path pair None = (name : Name) → IsTrue (is_path path) → is_root path ≡ false
    → IsTrue (is_attribute_name name) → IsTrue (fits_attribute path name) → pair.0 ≡ attribute_key path name → ⊥

-- the path has no attribute from a key on
abbrev pub LacksAttribute : List ℕ → Path → Tree → Type 0
LacksAttribute from path t = (name : Name) → IsSome (attribute_at t path name)
    → is_le (key_cmp from (attribute_key path name)) ≡ true → ⊥

-- the path has the attribute, and from the key on none that stands before it
pub record IsFirstAttribute (from : List ℕ) (path : Path) (t : Tree) (found : Found) : Type 0 where
  pub bytes : List ℕ
  pub there : attribute_at t path found.name ≡ Some bytes
  pub size : found.size ≡ length bytes
  pub key_is : found.key ≡ attribute_key path found.name
  pub behind : is_le (key_cmp from (attribute_key path found.name)) ≡ true
  pub first : (name : Name) → IsSome (attribute_at t path name) → is_le (key_cmp from (attribute_key path name)) ≡ true
      → is_le (key_cmp (attribute_key path found.name) (attribute_key path name)) ≡ true

-- a call that finds the first attribute of a path from a key on that stands behind the path's blocks
pub record FindsAttribute (from : List ℕ) (path : Path) (old new : PairsState)
    (result : Result (Option Found) Fault) : Type 0 where
  pub faults : new.faults ≡ disk_faults_after old.faults result
  pub keeps : KeepsPairs old new
  pub named : IfOk result (λ found. IfSome found (λ attribute. IsTrue (is_attribute_name attribute.name)))
  pub found : IsObservable old → (t : Tree) (p : Parameters) → HoldsTree old t p → IsTrue (is_path path)
      → is_le (key_cmp (key path (2 ^ 32 - 1)) from) ≡ true
      → IfOk result (λ found. MatchOption found (LacksAttribute from path t) (IsFirstAttribute from path t))

-- a call that lists the attributes of a path
pub record ListsAttributes (path : Path) (old new : PairsState)
    (result : Result (List AttributeSize) Fault) : Type 0 where
  pub faults : new.faults ≡ disk_faults_after old.faults result
  pub keeps : KeepsPairs old new
  pub listed : IsObservable old → (t : Tree) (p : Parameters) → HoldsTree old t p
      → IfOk result (λ entries. entries ≡ map size_of_attribute (attributes_at t path))
