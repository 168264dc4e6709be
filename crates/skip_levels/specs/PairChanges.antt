-- A pair put into the pages of a list or taken out of them, level after level from the highest one that it stands on.
use Rattle.std.specs.Prelude.{◌≡◌, ◌⊎◌, ℕ, suc, ◌+◌, ◌<◌, ◌≤◌, List, length, Option, Some, None, Result, IfOk, OnOk}
use Rattle.std.specs.FinMap.{find, put}
use Rattle.store_base.specs.declared.store_fault.Fault.{Fault}
use Rattle.store_model.specs.Paths.{key_cmp}
use Rattle.store_model.specs.Draws.{Draw}
use Rattle.store_model.specs.Labels.{Lead}
use Rattle.store_model.specs.Pairs.{Pair}
use Rattle.store_model.specs.Pages.{pages_of_pairs}
use Rattle.store_model.specs.PageMaps.{PageMap, map_of_pages}
use Rattle.node_pages.specs.PagesState.{PagesState, IsObservable}
use Rattle.skip_levels.specs.CellChanges.{IsPagesCall}
use Rattle.skip_levels.specs.Descent.{HoldsPairs, IsKnownGroup}
use Rattle.skip_levels.specs.declared.walk.PathEnd.{PathEnd}
use Rattle.skip_levels.specs.PagePairs.{pairs_of_map}
use Rattle.ordered_pairs.specs.PairsState.{most_pairs, without}
use Rattle.skip_levels.specs.SearchPath.{leader_behind, not_above, levels_cost, path_cost, path_cost_below, low_cost}

-- a new key is put on its level first
pub record IsNew (d : Draw) (s : List Pair) (key : List ℕ) (top : ℕ) : Type 0 where
  pub lacks : find key_cmp key s ≡ None
  pub own : top ≡ d.level key

-- a key that is there keeps its levels: its value stands on level 0 alone
pub record IsThere (s : List Pair) (key : List ℕ) (top : ℕ) : Type 0 where
  pub value : List ℕ
  pub has : find key_cmp key s ≡ Some value
  pub lowest : top ≡ 0

-- the map is that of the pages of a list with room, and from this level on, in the group of that lead, a value is to
-- be put under the key
pub record IsPutting (d : Draw) (s : List Pair) (m : PageMap) (top : ℕ) (lead : Lead) (key : List ℕ) : Type 0 where
  pub holds : HoldsPairs d s m
  pub leads : lead ≡ leader_behind d top (not_above key s)
  pub room : length s < most_pairs
  pub place : IsNew d s key top ⊎ IsThere s key top

-- a value put under a key
pub record PutsPairFrom {T : Type 0} (old new : PagesState) (top : ℕ) (lead : Lead) (key value : List ℕ)
    (result : Result T Fault) : Type 0 where
  pub call : IsPagesCall old new result
  pub put : IsObservable old → (d : Draw) (s : List Pair) → IsPutting d s old.pages top lead key
      → OnOk result (new.pages ≡ map_of_pages (pages_of_pairs d (put key_cmp key value s)))
  pub lookups : IsObservable old → (d : Draw) (s : List Pair) → IsPutting d s old.pages top lead key
      → new.lookups ≤ old.lookups + levels_cost d s key 0 (suc top)

-- the map is that of the pages of a list that has the key, whose pair is to be taken out from this level on, in the
-- group of that lead
pub record IsTaking (d : Draw) (s : List Pair) (m : PageMap) (top : ℕ) (lead : Lead) (key : List ℕ) : Type 0 where
  pub holds : HoldsPairs d s m
  pub leads : lead ≡ leader_behind d top (not_above key s)
  pub value : List ℕ
  pub has : find key_cmp key s ≡ Some value
  pub own : top ≡ d.level key

-- the pair of a key taken out
pub record TakesPairFrom {T : Type 0} (old new : PagesState) (top : ℕ) (lead : Lead) (key : List ℕ)
    (result : Result T Fault) : Type 0 where
  pub call : IsPagesCall old new result
  pub taken : IsObservable old → (d : Draw) (s : List Pair) → IsTaking d s old.pages top lead key
      → OnOk result (new.pages ≡ map_of_pages (pages_of_pairs d (without key s)))
  pub lookups : IsObservable old → (d : Draw) (s : List Pair) → IsTaking d s old.pages top lead key
      → new.lookups ≤ old.lookups + (levels_cost d s key 0 (suc top) + path_cost_below d s key)

-- a value put under a key of the list that the pages hold, and what is then known
pub record PutsPairIn {T : Type 0} (d : Draw) (old new : PagesState) (key value : List ℕ) (behind : Option PathEnd)
    (result : Result T Fault) : Type 0 where
  pub call : IsPagesCall old new result
  pub known : IsObservable old → OnOk result (IsKnownGroup d (put key_cmp key value (pairs_of_map old.pages)) behind)
  pub put : IsObservable old
      → OnOk result (new.pages ≡ map_of_pages (pages_of_pairs d (put key_cmp key value (pairs_of_map old.pages))))
  pub lookups : IsObservable old → new.lookups ≤ old.lookups
      + (path_cost d (pairs_of_map old.pages) key + low_cost d (pairs_of_map old.pages) key)

-- the pair of a key taken out of the list that the pages hold, with its value as the answer, and what is then known
pub record TakesPairIn (d : Draw) (old new : PagesState) (key : List ℕ) (behind : Option PathEnd)
    (result : Result (Option (List ℕ)) Fault) : Type 0 where
  pub call : IsPagesCall old new result
  pub found : IsObservable old → IfOk result (λ value. value ≡ find key_cmp key (pairs_of_map old.pages))
  pub taken : IsObservable old
      → OnOk result (new.pages ≡ map_of_pages (pages_of_pairs d (without key (pairs_of_map old.pages))))
  pub known : IsObservable old → OnOk result (IsKnownGroup d (without key (pairs_of_map old.pages)) behind)
  pub lookups : IsObservable old → new.lookups ≤ old.lookups
      + (path_cost d (pairs_of_map old.pages) key
      + (low_cost d (pairs_of_map old.pages) key + path_cost_below d (pairs_of_map old.pages) key))
