-- What kept levels say of keys.
use Rattle.std.specs.Prelude.{◌≡◌, ℕ, ◌+◌, ◌-◌, ◌<◌, List, length, slice_get, Option, Some}
use Rattle.std.specs.List.{All}
use Rattle.store_base.specs.Keys.{IsKey}
use Rattle.store_model.specs.Draws.{Draw, key_block, key_field}
use Rattle.drawn_levels.specs.declared.run.Run.{Run}
use Rattle.drawn_levels.specs.declared.kept.KeptLevels.{KeptLevels}

-- a key has the field of a run, and its number is this much above that of the run's first key
pub record IsInRun (run : Run) (place : ℕ) (key : List ℕ) : Type 0 where
  pub is_key : IsKey key
  pub field : key_field key ≡ key_field run.first
  pub number : key_block key ≡ key_block run.first + place

-- the level that is drawn for each key of a run stands among the levels, at the key's place
abbrev pub HoldsRun : Draw → List ℕ → Run → Type 0
HoldsRun d levels run = (key : List ℕ) (place : ℕ) → place < run.count → IsInRun run place key
    → slice_get levels (run.at + place) ≡ Some (d.level key)

-- the last run, if there is one
abbrev pub last_of : List Run → Option Run
last_of runs = slice_get runs (length runs - 1)

-- the levels of each run are kept, and those of the last one stand last
pub record HoldsLevels (d : Draw) (kept : KeptLevels) : Type 0 where
  pub runs : All (HoldsRun d kept.levels.items) kept.runs.items
  pub last : (run : Run) → last_of kept.runs.items ≡ Some run → run.at + run.count ≡ length kept.levels.items

-- a key is the next one behind those of the last run
pub record IsNext (kept : KeptLevels) (key : List ℕ) : Type 0 where
  pub run : Run
  pub is_last : last_of kept.runs.items ≡ Some run
  pub behind : IsInRun run run.count key
