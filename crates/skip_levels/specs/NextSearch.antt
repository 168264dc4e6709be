-- A search for the first pair whose key is not below a given one.
use Rattle.std.specs.Prelude.{◌≡◌, ℕ, ◌+◌, ◌≤◌, List, Option, Result, IfOk, slice_get}
use Rattle.store_base.specs.declared.store_fault.Fault.{Fault}
use Rattle.store_base.specs.Faults.{disk_faults_after}
use Rattle.store_model.specs.Draws.{Draw}
use Rattle.store_model.specs.Labels.Lead.{Leader}
use Rattle.store_model.specs.Pairs.{Pair}
use Rattle.store_model.specs.Pages.{Cell}
use Rattle.node_pages.specs.PagesState.{PagesState, IsObservable}
use Rattle.skip_groups.specs.Groups.{HoldsGroup}
use Rattle.ordered_pairs.specs.PairsState.{next_pair}
use Rattle.skip_levels.specs.SearchPath.{path_cost}
use Rattle.skip_groups.specs.Searches.{IsPagesRead}
use Rattle.skip_levels.specs.Descent.{IsKnownGroup, IsSearched}
use Rattle.skip_levels.specs.declared.walk.PathEnd.{PathEnd}
use Rattle.skip_groups.specs.Floors.{pair_in}

-- what asking for the first pair of a group makes of observable pages
pub record FindsFirstPair (old new : PagesState) (leader : List ℕ) (result : Result (Option Pair) Fault) : Type 0 where
  pub observable : IsObservable new
  pub unchanged : new.pages ≡ old.pages
  pub found : (cells : List Cell) → HoldsGroup old.pages 0 (Leader leader) cells
      → IfOk result (λ pair. pair ≡ pair_in (slice_get cells 0))

-- asking for the first pair of the group of level 0 that a key leads: one page at most
pub record IsFirstPair (old new : PagesState) (leader : List ℕ) (result : Result (Option Pair) Fault) : Type 0 where
  pub faults : new.faults ≡ disk_faults_after old.faults result
  pub lookups_kept : old.lookups ≤ new.lookups
  pub lookups_most : new.lookups ≤ old.lookups + 1
  pub hidden : IsObservable new → IsObservable old
  pub observed : IsObservable old → FindsFirstPair old new leader result

-- what a search for the next pair leaves of observable pages, and what is then known
pub record FindsNext (old new : PagesState) (height : ℕ) (known : Option PathEnd) (key : List ℕ)
    (behind : Option PathEnd) (result : Result (Option Pair) Fault) : Type 0 where
  pub observable : IsObservable new
  pub unchanged : new.pages ≡ old.pages
  pub found : (d : Draw) (s : List Pair) → IsSearched d s old.pages height known
      → IfOk result (λ pair. pair ≡ next_pair key s)
  pub right : (d : Draw) (s : List Pair) → IsSearched d s old.pages height known → IsKnownGroup d s behind
  pub lookups : (d : Draw) (s : List Pair) → IsSearched d s old.pages height known
      → new.lookups ≤ old.lookups + path_cost d s key + 1

-- a search for the first pair whose key is not below the given one, in pages of lists of this height
abbrev pub IsNextSearch : (old new : PagesState) (height : ℕ) (known : Option PathEnd) (key : List ℕ)
    (behind : Option PathEnd) (result : Result (Option Pair) Fault) → Type 0
IsNextSearch old new height known key behind result =
    IsPagesRead old new (FindsNext old new height known key behind result) result
