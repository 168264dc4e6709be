-- What a change of one key on one level does to a map of pages.
use Rattle.std.specs.Prelude.{◌≡◌, ℕ, ◌+◌, ◌≤◌, ◌<◌, List, [], ◌++◌, length, Result, IfOk}
use Rattle.std.specs.FinMap as maps
use Rattle.store_base.specs.declared.store_fault.Fault.{Fault}
use Rattle.std.specs.declared.cmp.Ordering.TheVariants.{Less, Greater}
use Rattle.store_base.specs.declared.label.Lead as declared
use Rattle.store_base.specs.Faults.{disk_faults_after}
use Rattle.store_base.specs.Leads.{model_lead}
use Rattle.store_model.specs.Labels.{Lead}
use Rattle.store_model.specs.Labels.Lead.{Leader}
use Rattle.store_model.specs.Pages.{Cell, Page, group_pages}
use Rattle.store_model.specs.PageMaps.{PageMap, map_of_pages}
use Rattle.node_pages.specs.PagesState.{PagesState, IsObservable, most_pages}
use Rattle.skip_groups.specs.Floors.{last_of, lead_from}
use Rattle.skip_groups.specs.Groups.{HoldsGroup, group_cost}
use Rattle.skip_groups.specs.GroupCells.{AreCells, side, merged}
use Rattle.skip_groups.specs.GroupChanges.{IsChange}
use Rattle.ordered_pairs.specs.PairsState.{most_pairs}

-- what holds of every call on pages, whatever it changes
pub record IsPagesCall {T : Type 0} (old new : PagesState) (result : Result T Fault) : Type 0 where
  pub faults : new.faults ≡ disk_faults_after old.faults result
  pub lookups_kept : old.lookups ≤ new.lookups
  pub hidden : IsObservable new → IsObservable old
  pub observable : IsObservable old → IsObservable new

-- the most pages that the lists of pairs have before, in and behind a change
abbrev pub most_list_pages : ℕ
most_list_pages = 2147483648

-- a group that the map holds can be changed: there are so few pages that its new ones have room
pub record PagesHaveRoom (m : PageMap) (level : ℕ) (lead : Lead) : Type 0 where
  pub cells : List Cell
  pub holds : HoldsGroup m level lead cells
  pub few : length cells ≤ most_pairs
  pub room : maps.len m ≤ most_list_pages

-- what a change of a level leaves: these pages, and what leads the group of the next lower level
pub record IsLeft (m : PageMap) (pages : List Page) (low : List Cell) (lead : Lead)
    (next : declared.Lead) : Type 0 where
  pub pages_are : m ≡ map_of_pages pages
  pub next_is : model_lead next ≡ lead_from (last_of low) lead

-- cells of a group that the map holds between other pages, and those that they are to become
pub record IsSetting (m : PageMap) (level : ℕ) (lead : Lead) (cells news : List Cell)
    (front back : List Page) : Type 0 where
  pub change : IsChange level lead front back (group_pages level lead cells) (group_pages level lead news)
  pub rising : AreCells level cells
  pub valid : AreCells level news
  pub holds : HoldsGroup m level lead cells
  pub few : length cells < most_pages
  pub pages_are : m ≡ map_of_pages (front ++ (group_pages level lead cells ++ back))

-- the cells of a key set in a group, in the place of those that it had there
pub record SetsCells (old new : PagesState) (level : ℕ) (lead : Lead) (key : List ℕ) (own : List Cell)
    (result : Result declared.Lead Fault) : Type 0 where
  pub call : IsPagesCall old new result
  pub set : IsObservable old → (cells : List Cell) (front back : List Page)
      → IsSetting old.pages level lead cells (merged key cells own cells) front back
      → IfOk result (IsLeft new.pages (front ++ (group_pages level lead (merged key cells own cells) ++ back))
      (side Less key cells) lead)
  pub lookups : IsObservable old → (cells : List Cell) → HoldsGroup old.pages level lead cells
      → new.lookups ≤ old.lookups + group_cost level cells

-- a group that the map holds, to be cut in two by the cells of a key: those below it stay under the lead, the others
-- go under the key
pub record IsSplitting (m : PageMap) (level : ℕ) (lead : Lead) (key : List ℕ) (own cells : List Cell)
    (front back : List Page) : Type 0 where
  pub first : IsChange level lead front back (group_pages level lead cells)
      (group_pages level lead (merged key cells [] []))
  pub second : IsChange level (Leader key) (front ++ group_pages level lead (merged key cells [] [])) back []
      (group_pages level (Leader key) (merged key [] own cells))
  -- each cell is below the key or above it
  pub sides : cells ≡ side Less key cells ++ side Greater key cells
  pub low_valid : AreCells level (merged key cells [] [])
  pub high_valid : AreCells level (merged key [] own cells)
  pub holds : HoldsGroup m level lead cells
  pub few : length cells < most_pages
  pub pages_are : m ≡ map_of_pages (front ++ (group_pages level lead cells ++ back))

-- a group cut in two by the cells of a key
pub record SplitsGroup (old new : PagesState) (level : ℕ) (lead : Lead) (key : List ℕ) (own : List Cell)
    (result : Result declared.Lead Fault) : Type 0 where
  pub call : IsPagesCall old new result
  pub split : IsObservable old → (cells : List Cell) (front back : List Page)
      → IsSplitting old.pages level lead key own cells front back
      → IfOk result
      (IsLeft new.pages (front ++ (group_pages level lead (merged key cells [] [])
      ++ (group_pages level (Leader key) (merged key [] own cells) ++ back))) (side Less key cells) lead)
  pub lookups : IsObservable old → (cells : List Cell) → HoldsGroup old.pages level lead cells
      → new.lookups ≤ old.lookups + group_cost level cells

-- two groups that the map holds, that of a key behind that of the lead, to be joined without the key
pub record IsJoining (m : PageMap) (level : ℕ) (lead : Lead) (key : List ℕ) (low high : List Cell)
    (front back : List Page) : Type 0 where
  pub first : IsChange level (Leader key) (front ++ group_pages level lead low) back
      (group_pages level (Leader key) high) []
  pub second : IsChange level lead front back (group_pages level lead low)
      (group_pages level lead (merged key low [] high))
  pub below : side Less key low ≡ low
  pub valid : AreCells level (merged key low [] high)
  pub low_holds : HoldsGroup m level lead low
  pub high_holds : HoldsGroup m level (Leader key) high
  pub low_few : length low < most_pages
  pub high_few : length high < most_pages
  pub pages_are : m
      ≡ map_of_pages (front ++ (group_pages level lead low ++ (group_pages level (Leader key) high ++ back)))

-- two groups joined
pub record JoinsGroups (old new : PagesState) (level : ℕ) (lead : Lead) (key : List ℕ)
    (result : Result declared.Lead Fault) : Type 0 where
  pub call : IsPagesCall old new result
  pub joined : IsObservable old → (low high : List Cell) (front back : List Page)
      → IsJoining old.pages level lead key low high front back
      → IfOk result (IsLeft new.pages (front ++ (group_pages level lead (merged key low [] high) ++ back))
      (side Less key low) lead)
  pub lookups : IsObservable old → (low high : List Cell) → HoldsGroup old.pages level lead low
      → HoldsGroup old.pages level (Leader key) high
      → new.lookups ≤ old.lookups + (group_cost level low + group_cost level high)
