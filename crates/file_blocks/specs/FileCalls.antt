-- What the inner calls do to the pairs of one file. Those on its blocks say nothing of its first pair, which may still
-- tell an older length.
use Rattle.std.specs.Prelude.{◌≡◌, ◌⊎◌, ℕ, zero, suc, ◌+◌, ◌≤◌, Bool, cond, List, [], length, take, drop, Option, Some}
use Rattle.std.specs.Prelude.{None, Result, IfOk, OnOk}
use Rattle.store_model.specs.Lists.{overwrite, run_at}
use Rattle.store_model.specs.Paths.{Path}
use Rattle.store_model.specs.Pairs.{Pair, file_block, value_limit, inline_value}
use Rattle.store_base.specs.declared.store_fault.Fault.{Fault}
use Rattle.store_base.specs.Faults.{disk_faults_after}
use Rattle.ordered_pairs.specs.PairsState.{PairsState, IsObservable}
use Rattle.tree_pairs.specs.Blocks.{BlockMap, run_value, with_blocks, HasBlocks}
use Rattle.tree_pairs.specs.Kinds.{file_first}
use Rattle.tree_pairs.specs.TreeCalls.{KeepsPairs}

-- some first pair, and the blocks of these bytes behind it
abbrev pub file_blocks : Option (List ℕ) → List ℕ → ℕ → Option (List ℕ)
file_blocks first bytes zero = first
file_blocks first bytes (suc i) = run_value (run_at file_block bytes i)

-- the list has the blocks of these bytes at a path, and other paths have theirs
abbrev pub HasFile : Path → Option (List ℕ) → List ℕ → BlockMap → List Pair → Type 0
HasFile path first bytes others s = HasBlocks (with_blocks path (file_blocks first bytes) others) s

-- the first pair of a file with these bytes, in one form: there is none for a file that isn't there, which has no bytes
abbrev pub IsFirst : Bool → List ℕ → Option (List ℕ) → Type 0
IsFirst inline bytes first = ((first ≡ None) × (bytes ≡ [])) ⊎ (first ≡ Some (file_first inline bytes))

-- the list has a file of these bytes at a path, in one form and with this first pair, and other paths have their blocks
abbrev pub StandsAs : Bool → Path → Option (List ℕ) → List ℕ → BlockMap → List Pair → Type 0
StandsAs inline path first bytes others s = IsFirst inline bytes first
    × HasFile path first (cond inline [] bytes) others s

-- the bytes of a block's value: none where there is no pair
abbrev pub block_bytes : Option (List ℕ) → List ℕ
block_bytes None = []
block_bytes (Some bytes) = bytes

-- a call that puts these bytes at a place of a file, over what is there and past the end, where it has at most so many
pub record PutsFileBytes {T : Type 0} (path : Path) (size at : ℕ) (piece : List ℕ) (old new : PairsState)
    (result : Result T Fault) : Type 0 where
  pub faults : new.faults ≡ disk_faults_after old.faults result
  pub observable : IsObservable old → OnOk result (IsObservable new)
  pub written : IsObservable old → (first : Option (List ℕ)) (bytes : List ℕ) (others : BlockMap) → at ≤ length bytes
      → length bytes ≤ size → HasFile path first bytes others old.pairs
      → OnOk result (HasFile path first (overwrite bytes at piece) others new.pairs)
  -- it adds at most a pair for each byte
  pub added : IsObservable old → OnOk result (length new.pairs ≤ length old.pairs + length piece)

-- a call that cuts a file to its first bytes, where it has at most so many
pub record CutsBytes {T : Type 0} (path : Path) (size len : ℕ) (old new : PairsState)
    (result : Result T Fault) : Type 0 where
  pub faults : new.faults ≡ disk_faults_after old.faults result
  pub observable : IsObservable old → OnOk result (IsObservable new)
  pub cut : IsObservable old → (first : Option (List ℕ)) (bytes : List ℕ) (others : BlockMap) → length bytes ≤ size
      → HasFile path first bytes others old.pairs
      → OnOk result (HasFile path first (take len bytes) others new.pairs)

-- a call that reads so many bytes of a file from a place on
pub record ReadsFileBytes (path : Path) (at count : ℕ) (old new : PairsState)
    (result : Result (List ℕ) Fault) : Type 0 where
  pub faults : new.faults ≡ disk_faults_after old.faults result
  pub keeps : KeepsPairs old new
  pub read : IsObservable old → (first : Option (List ℕ)) (bytes : List ℕ) (others : BlockMap)
      → at + count ≤ length bytes → HasFile path first bytes others old.pairs
      → IfOk result (λ read. read ≡ take count (drop at bytes))

-- a call that reads so many bytes from a place on of the file that begins with this pair, in either form
pub record ReadsFile (path : Path) (first : Option (List ℕ)) (at count : ℕ) (old new : PairsState)
    (result : Result (List ℕ) Fault) : Type 0 where
  pub faults : new.faults ≡ disk_faults_after old.faults result
  pub keeps : KeepsPairs old new
  pub read : IsObservable old → (inline : Bool) (bytes : List ℕ) (others : BlockMap) → at + count ≤ length bytes
      → StandsAs inline path first bytes others old.pairs
      → IfOk result (λ read. read ≡ take count (drop at bytes))

-- a call that gives the one pair's value of so many first bytes of the file that begins with this pair
pub record ReadsFront (path : Path) (first : Option (List ℕ)) (len : ℕ) (old new : PairsState)
    (result : Result (List ℕ) Fault) : Type 0 where
  pub faults : new.faults ≡ disk_faults_after old.faults result
  pub keeps : KeepsPairs old new
  pub read : IsObservable old → (inline : Bool) (bytes : List ℕ) (others : BlockMap) → len ≤ length bytes
      → StandsAs inline path first bytes others old.pairs
      → IfOk result (λ value. value ≡ inline_value (take len bytes))

-- a call that leaves a file that begins with this pair, of at most so many bytes, no blocks
pub record DropsBlocks {T : Type 0} (path : Path) (first : Option (List ℕ)) (size : ℕ) (old new : PairsState)
    (result : Result T Fault) : Type 0 where
  pub faults : new.faults ≡ disk_faults_after old.faults result
  pub observable : IsObservable old → OnOk result (IsObservable new)
  pub dropped : IsObservable old → (inline : Bool) (bytes : List ℕ) (others : BlockMap) → length bytes ≤ size
      → StandsAs inline path first bytes others old.pairs
      → OnOk result (HasFile path first [] others new.pairs)
  -- it adds at most one pair
  pub added : IsObservable old → OnOk result (length new.pairs ≤ length old.pairs + 1)

-- a call after which the bytes of a file that begins with this pair stand in blocks, in whichever form it was
pub record FillsBlocks {T : Type 0} (path : Path) (first : Option (List ℕ)) (old new : PairsState)
    (result : Result T Fault) : Type 0 where
  pub faults : new.faults ≡ disk_faults_after old.faults result
  pub observable : IsObservable old → OnOk result (IsObservable new)
  pub filled : IsObservable old → (inline : Bool) (bytes : List ℕ) (others : BlockMap)
      → StandsAs inline path first bytes others old.pairs
      → OnOk result (HasFile path first bytes others new.pairs)
  -- it adds at most a pair for each byte
  pub added : IsObservable old → OnOk result (length new.pairs ≤ length old.pairs + value_limit)
