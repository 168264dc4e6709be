-- What setting the cells of a key makes of the pages of its group.
use Rattle.std.specs.Prelude.{◌≡◌, ◌⊎◌, ℕ, ◌+◌, ◌<◌, ◌≤◌, List, [], ◌∷◌, ◌++◌, length, take, drop, slice_get, Some}
use Rattle.std.specs.Prelude.{Result, OnOk}
use Rattle.std.specs.List.{AllByRecursion, flat_map}
use Rattle.std.specs.declared.cmp.Ordering.TheVariants.{Less, Equal}
use Rattle.store_base.specs.declared.store_fault.Fault.{Fault}
use Rattle.store_base.specs.Leads as leads
use Rattle.store_model.specs.Labels.{Lead}
use Rattle.store_model.specs.Pages.{Cell, Page, page_room, group_pages}
use Rattle.node_pages.specs.LastPages.{pages_from}
use Rattle.node_pages.specs.PagesState.{PagesState}
use Rattle.skip_groups.specs.declared.new_cells.NewCells.{NewCells}
use Rattle.skip_groups.specs.declared.new_cells.Step.{Step}
use Rattle.skip_groups.specs.declared.new_cells.Step.TheVariants.{More, Done, Same}
use Rattle.skip_groups.specs.Floors.{last_of, lead_from}
use Rattle.skip_groups.specs.GroupCells.{AreCells, IsKept, IsFirstCell, IsMerged, side, merged}
use Rattle.skip_groups.specs.Searches.{IsGroupWalk}

-- the cells of pages, one after the other
abbrev pub cells_gathered : List Page → List Cell
cells_gathered pages = flat_map (λ page. page.cells) pages

-- the cells that come in the place of those of some pages of a group, behind pages that stay
abbrev pub ComeIn : ℕ → Lead → List ℕ → List Cell → List Page → List Page → NewCells → Type 0
ComeIn level lead key own stay [] made = (leads.model_lead made.next ≡ lead_from (last_of (cells_gathered stay)) lead)
    × (made.cells.cells ≡ [])
ComeIn level lead key own stay (first ∷ pages) made = IsFirstCell level key first
    × (AreCells level (merged key first.cells own (cells_gathered (first ∷ pages)))
    → IsMerged (lead_from (last_of (cells_gathered stay)) lead) key first.cells own (cells_gathered (first ∷ pages))
    (made.next, made.cells.cells))

-- what setting the cells of a key makes of so many first pages of a group
pub record IsCellsSet (level : ℕ) (lead : Lead) (key : List ℕ) (own : List Cell) (pages : List Page)
    (made : NewCells) : Type 0 where
  pub stay : List Page
  pub gone : List Page
  pub parts : pages ≡ stay ++ gone
  pub kept_is : made.kept ≡ length stay
  pub count_is : made.count ≡ length gone
  pub kept : AllByRecursion (IsKept level key) stay
  pub come : ComeIn level lead key own stay gone made
  pub few : length made.cells.cells ≤ length own + (length (cells_gathered gone) + length (cells_gathered gone))

-- the key's cells were set in one page alone, and it has as many cells as before
pub record IsAlone (page : Page) (made : NewCells) : Type 0 where
  pub one : made.count ≡ 1
  pub long : length made.cells.cells ≡ length page.cells

-- what is known behind a page
abbrev pub IsStep : ℕ → Lead → Page → NewCells → Step → Type 0
IsStep level lead page made More = page_room level ≤ length page.cells
IsStep level lead page made Done = (1 ≤ made.count) × ((length page.cells < page_room level) ⊎ IsAlone page made)
IsStep level lead page made Same = IsAlone page made
    × (slice_get (pages_from level lead made.kept made.cells.cells) 0 ≡ Some page)

-- where no page gave way, the key's cells come behind all others
pub record IsEnd (level : ℕ) (key : List ℕ) (own : List Cell) (old new : NewCells) : Type 0 where
  pub next : new.next ≡ old.next
  pub kept : new.kept ≡ old.kept
  pub count : new.count ≡ old.count
  pub some : 1 ≤ old.count → new.cells ≡ old.cells
  pub none : old.count ≡ 0 → old.cells.cells ≡ [] → AreCells level (side Equal key own)
      → new.cells.cells ≡ side Equal key own
  pub few : length new.cells.cells ≤ length old.cells.cells + length own

-- the pages of a group of other cells: the first ones stay, behind them come those of new cells, and then the last ones
pub record IsRenewed (level : ℕ) (lead : Lead) (cells news : List Cell) (made : NewCells) : Type 0 where
  pub pages : group_pages level lead news
      ≡ take made.kept (group_pages level lead cells)
      ++ (pages_from level lead made.kept made.cells.cells
      ++ drop (made.kept + made.count) (group_pages level lead cells))
  pub fits : made.kept + made.count < length (group_pages level lead cells)
      → length (pages_from level lead made.kept made.cells.cells) ≡ made.count

-- the pages of a group with the cells of a key set anew
pub record IsMade (level : ℕ) (lead : Lead) (key : List ℕ) (own cells : List Cell) (made : NewCells) : Type 0 where
  pub next : leads.model_lead made.next ≡ lead_from (last_of (side Less key cells)) lead
  pub renewed : IsRenewed level lead cells (merged key cells own cells) made

-- what comes into the group of these cells
pub record AreNew (level : ℕ) (lead : Lead) (key : List ℕ) (own cells : List Cell) (made : NewCells) : Type 0 where
  pub within : made.kept + made.count ≤ length (group_pages level lead cells)
  pub few : length made.cells.cells ≤ length own + (length cells + length cells)
  pub become : AreCells level cells → AreCells level (merged key cells own cells) → IsMade level lead key own cells made

-- what is known behind a page that others may follow
abbrev pub IsStepBehind : ℕ → Page → Step → Type 0
IsStepBehind level page More = page_room level ≤ length page.cells
IsStepBehind level page Done = length page.cells < page_room level
IsStepBehind level page Same = ⊥

-- reading the pages of the group that the lead leads on the level, for the cells of a key that are set there
abbrev pub IsNewCellsRead : {T : Type 0} (old new : PagesState) (level : ℕ) (lead : Lead) (key : List ℕ)
    (own : List Cell) (made : NewCells) (result : Result T Fault) → Type 0
IsNewCellsRead old new level lead key own made result =
    IsGroupWalk old new level lead (λ cells. OnOk result (AreNew level lead key own cells made)) result
