-- A stream that is to give the pairs from a key on: how far each level of the list is read up to the key.
use Rattle.std.specs.Prelude.{◌≡◌, ℕ, zero, suc, ◌+◌, ◌<◌, ◌≤◌, List, length, Bool, true, false, Option, Some, None}
use Rattle.std.specs.Prelude.{Result, IfOk, IfSome, slice_get}
use Rattle.std.specs.Ordering.{is_lt}
use Rattle.store_base.specs.declared.store_fault.Fault.{Fault}
use Rattle.store_base.specs.declared.label.Lead as declared
use Rattle.store_base.specs.Leads.{model_lead}
use Rattle.store_model.specs.Paths.{key_cmp}
use Rattle.store_model.specs.Labels.{Lead}
use Rattle.store_model.specs.Draws.{Draw}
use Rattle.store_model.specs.Pairs.{Pair}
use Rattle.store_model.specs.Pages.{Cell}
use Rattle.store_model.specs.PageMaps.{PageMap}
use Rattle.node_pages.specs.PagesState.{PagesState, IsObservable}
use Rattle.skip_groups.specs.Floors.{lead_from}
use Rattle.skip_groups.specs.Searches.{IsPagesRead}
use Rattle.skip_levels.specs.Descent.{HoldsPairs}
use Rattle.skip_levels.specs.SearchPath.{below, path_cost_below}
use Rattle.pair_stream.specs.Streams.{AreReadTo, StandsBehind}
use Rattle.pair_stream.specs.declared.places.LevelPlace.{LevelPlace}
use Rattle.pair_stream.specs.declared.places.PairStream.{PairStream}

-- whether the key of a cell is below a key
abbrev pub is_below : List ℕ → Cell → Bool
is_below key cell = is_lt (key_cmp cell.key key)

-- there is a cell, and its key is below the key
abbrev pub IsBelow : List ℕ → Option Cell → Type 0
IsBelow key None = ⊥
IsBelow key (Some cell) = is_below key cell ≡ true

-- so many first cells have keys below the key, and the next one, if there is one, has not
pub record IsCountBelow (key : List ℕ) (cells : List Cell) (count : ℕ) : Type 0 where
  pub within : count ≤ length cells
  pub each : (i : ℕ) → i < count → IsBelow key (slice_get cells i)
  pub next : IfSome (slice_get cells count) (λ cell. is_below key cell ≡ false)

-- the last of so many first cells
abbrev pub last_before : List Cell → ℕ → Option Cell
last_before cells zero = None
last_before cells (suc n) = slice_get cells n

-- a group was read up to a key: so many cells, and this leads the group of the next lower level behind them
pub record IsReadBelow (lead : Lead) (key : List ℕ) (cells : List Cell) (read : ℕ × declared.Lead) : Type 0 where
  pub count : IsCountBelow key cells read.0
  pub next : model_lead read.1 ≡ lead_from (last_before cells read.0) lead

-- the map is that of the pages of a list of this height
pub record IsListOf (d : Draw) (s : List Pair) (m : PageMap) (height : ℕ) : Type 0 where
  pub holds : HoldsPairs d s m
  pub high : height ≡ d.height

-- what reading each level up to a key leaves of observable pages
pub record ReadsLevels (old new : PagesState) (height : ℕ) (key : List ℕ) (result : Result (List LevelPlace) Fault)
    : Type 0 where
  pub observable : IsObservable new
  pub unchanged : new.pages ≡ old.pages
  pub found : (d : Draw) (s : List Pair) → IsListOf d s old.pages height → IfOk result (AreReadTo d (below key s))
  pub lookups : (d : Draw) (s : List Pair) → IsListOf d s old.pages height
      → new.lookups ≤ old.lookups + path_cost_below d s key

-- reading each level up to a key
abbrev pub IsLevelsRead : (old new : PagesState) (height : ℕ) (key : List ℕ) (result : Result (List LevelPlace) Fault)
    → Type 0
IsLevelsRead old new height key result = IsPagesRead old new (ReadsLevels old new height key result) result

-- What a search for the place of a key leaves of observable pages: the stream stands behind the pairs below the key.
-- The groups of one search path were read, and one page of level 0 once more.
pub record StartsAt (old new : PagesState) (height : ℕ) (key : List ℕ) (result : Result PairStream Fault)
    : Type 0 where
  pub observable : IsObservable new
  pub unchanged : new.pages ≡ old.pages
  pub stands : (d : Draw) (s : List Pair) → IsListOf d s old.pages height
      → IfOk result (StandsBehind d s old.pages (below key s))
  pub lookups : (d : Draw) (s : List Pair) → IsListOf d s old.pages height
      → new.lookups ≤ old.lookups + path_cost_below d s key + 1

-- a search for the place of a key, for a stream that starts there
abbrev pub IsStartSearch : (old new : PagesState) (height : ℕ) (key : List ℕ) (result : Result PairStream Fault)
    → Type 0
IsStartSearch old new height key result = IsPagesRead old new (StartsAt old new height key result) result
