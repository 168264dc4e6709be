-- What a list of pairs has at each block of each place: of paths, and of their attributes.
use Rattle.std.specs.Prelude.{◌≡◌, ℕ, ◌^◌, ◌<◌, IsTrue, List, [], ◌∷◌, Option, Some, None, cond}
use Rattle.std.specs.FinMap.{find, is_sorted}
use Rattle.std.specs.List.{AllByRecursion}
use Rattle.store_model.specs.Paths.{Path, is_place, same_path, key, key_cmp}
use Rattle.store_model.specs.Pairs.{Pair}

-- the value of a place's block, if there is one. An attribute has block 0 alone
abbrev pub BlockMap : Type 0
BlockMap = Path → ℕ → Option (List ℕ)

-- a run of a file's bytes as a value: no run, no pair
abbrev pub run_value : List ℕ → Option (List ℕ)
run_value [] = None
run_value (c ∷ run) = Some (c ∷ run)

-- the blocks with others at one path
abbrev pub with_blocks : Path → (ℕ → Option (List ℕ)) → BlockMap → BlockMap
with_blocks path values blocks other block = cond (same_path other path) (values block) (blocks other block)

-- the pair's key is that of a block of a place
pub record IsBlockPair (pair : Pair) : Type 0 where
  pub path : Path
  pub block : ℕ
  pub valid : IsTrue (is_place path)
  pub in_range : block < 2 ^ 32
  pub key_is : pair.0 ≡ key path block

-- the list has these blocks and no other pair
pub record HasBlocks (blocks : BlockMap) (s : List Pair) : Type 0 where
  pub sorted : IsTrue (is_sorted key_cmp s)
  pub each : (path : Path) (block : ℕ) → IsTrue (is_place path) → block < 2 ^ 32
      → find key_cmp (key path block) s ≡ blocks path block
  pub only : AllByRecursion IsBlockPair s
