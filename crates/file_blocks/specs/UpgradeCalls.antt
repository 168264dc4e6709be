-- What an upgrade of a tree's pairs to version 2 does, and what its inner calls do.
use Rattle.std.specs.Prelude.{◌≡◌, ◌⊎◌, ℕ, ◌≤◌, false, List, [], length, take, Option, Some, None, IsTrue, IsSome}
use Rattle.std.specs.Prelude.{IfSome, MatchOption, Result, IfOk, OnOk}
use Rattle.std.specs.FinMap.{find, put}
use Rattle.std.specs.declared.cmp.Ordering.TheVariants.{Less}
use Rattle.store_model.specs.declared.version.Version.TheVariants.{Two}
use Rattle.store_model.specs.Parameters.{Parameters, with_version}
use Rattle.store_model.specs.Paths.{Path, Name, is_root, is_path, is_attribute_name, fits_attribute, attribute_place}
use Rattle.store_model.specs.Paths.{path_cmp, key, key_cmp}
use Rattle.store_model.specs.Pairs.{Pair, file_value, inline_limit, inline_value}
use Rattle.store_model.specs.Trees.{Tree}
use Rattle.store_base.specs.declared.store_fault.Fault.{Fault}
use Rattle.store_base.specs.Faults.{disk_faults_after}
use Rattle.ordered_pairs.specs.PairsState.{PairsState, IsObservable, without}
use Rattle.tree_pairs.specs.Blocks.{BlockMap, HasBlocks}
use Rattle.tree_pairs.specs.TreeCalls.{HoldsTree, KeepsPairs}
use Rattle.file_blocks.specs.declared.inlining.Entry.{Entry}

-- A call after which the list has the pairs of the same tree under version 2, whichever version's they were.
-- After a fault nothing is promised of the pairs.
pub record InlinesShortFiles {T : Type 0} (old new : PairsState) (result : Result T Fault) : Type 0 where
  pub faults : new.faults ≡ disk_faults_after old.faults result
  pub hidden : IsObservable new → IsObservable old
  pub observable : IsObservable old → OnOk result (IsObservable new)
  pub fewer : IsObservable old → OnOk result (length new.pairs ≤ length old.pairs)
  pub upgraded : IsObservable old → (t : Tree) (p : Parameters) → HoldsTree old t p
      → OnOk result (HoldsTree new t (with_version p Two))

-- ---- the next entry

-- the last number of a block, which no block of an entry has
abbrev pub last_block : ℕ
last_block = 4294967295

-- the place is an attribute of a path that has a first block
pub record IsAttributeOf (blocks : BlockMap) (place : Path) : Type 0 where
  pub path : Path
  pub name : Name
  pub valid : IsTrue (is_path path)
  pub named : IsTrue (is_attribute_name name)
  pub fits : IsTrue (fits_attribute path name)
  pub place_is : place ≡ attribute_place path name
  pub there : IsSome (blocks path 0)

-- the blocks are those of entries and of their attributes: each place with a block has the first one, none has the last
-- that there could be, and each is a path or an attribute of one
pub record AreOfEntries (blocks : BlockMap) : Type 0 where
  pub first : (place : Path) (block : ℕ) → IsSome (blocks place block) → IsSome (blocks place 0)
  pub few : (place : Path) → blocks place last_block ≡ None
  pub owned : (place : Path) → IsSome (blocks place 0) → IsTrue (is_path place) ⊎ IsAttributeOf blocks place

-- there is no entry behind a path
abbrev pub LacksBehind : Path → BlockMap → Type 0
LacksBehind last blocks = (path : Path) → IsTrue (is_path path) → path_cmp last path ≡ Less → blocks path 0 ≡ None

-- the blocks have the entry, and none stands between the path and it
pub record IsFirstBehind (last : Path) (blocks : BlockMap) (entry : Entry) : Type 0 where
  pub there : blocks entry.path 0 ≡ Some entry.first
  pub behind : path_cmp last entry.path ≡ Less
  pub next : (other : Path) → IsTrue (is_path other) → path_cmp last other ≡ Less → path_cmp other entry.path ≡ Less
      → blocks other 0 ≡ None

-- the key is that of no first pair; the root has none
abbrev pub IsNoFirst : List ℕ → Type 0
IsNoFirst k = (path : Path) → IsTrue (is_path path) → is_root path ≡ false → k ≡ key path 0 → ⊥

-- a pair is an entry's first one
pub record IsFirstOf (pair : Pair) (entry : Entry) : Type 0 where
  pub valid : IsTrue (is_path entry.path)
  pub key_is : pair.0 ≡ key entry.path 0
  pub value_is : entry.first ≡ pair.1

-- the entry of a pair, where it is a first one
abbrev pub IsEntryOf : Pair → Option Entry → Type 0
IsEntryOf pair answer = MatchOption answer (IsNoFirst pair.0) (IsFirstOf pair)

-- a call that finds the first entry behind a path
pub record FindsEntry (last : Path) (old new : PairsState) (result : Result (Option Entry) Fault) : Type 0 where
  pub faults : new.faults ≡ disk_faults_after old.faults result
  pub hidden : IsObservable new → IsObservable old
  pub keeps : KeepsPairs old new
  pub valid : IfOk result (λ found. IfSome found (λ entry. IsTrue (is_path entry.path)))
  pub there : IsObservable old
      → IfOk result (λ found. IfSome found (λ entry. find key_cmp (key entry.path 0) old.pairs ≡ Some entry.first))
  pub found : IsObservable old → (blocks : BlockMap) → HasBlocks blocks old.pairs → AreOfEntries blocks
      → IfOk result (λ found. MatchOption found (LacksBehind last blocks) (IsFirstBehind last blocks))

-- ---- one file

-- the first value of a short file whose bytes, if it has any, stand in a block
abbrev pub IsShortInBlocks : List ℕ → Type 0
IsShortInBlocks first = (len : ℕ) × (len ≤ inline_limit) × (first ≡ file_value len)

-- the bytes of a block: none where there is no pair
abbrev pub block_bytes : Option (List ℕ) → List ℕ
block_bytes None = []
block_bytes (Some bytes) = bytes

-- the pairs with the bytes of a path's block in its first pair, and without the block
abbrev pub inlined : Path → List Pair → List Pair
inlined path pairs = put key_cmp (key path 0)
    (inline_value (take inline_limit (block_bytes (find key_cmp (key path 1) pairs)))) (without (key path 1) pairs)

-- the pairs after an entry's file was made inline, or was left as it is
abbrev pub IsInlined : Entry → List Pair → List Pair → Type 0
IsInlined entry before after = (IsShortInBlocks entry.first × (after ≡ inlined entry.path before))
    ⊎ ((IsShortInBlocks entry.first → ⊥) × (after ≡ before))

-- a call that makes an entry's file inline, where it is short and its bytes stand in a block
pub record InlinesFile {T : Type 0} (entry : Entry) (old new : PairsState) (result : Result T Fault) : Type 0 where
  pub faults : new.faults ≡ disk_faults_after old.faults result
  pub hidden : IsObservable new → IsObservable old
  pub observable : IsObservable old → OnOk result (IsObservable new)
  pub changed : IsObservable old → OnOk result (IsInlined entry old.pairs new.pairs)
