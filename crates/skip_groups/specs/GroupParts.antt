-- What parting the cells of a group by a key makes of it.
use Rattle.std.specs.Prelude.{◌≡◌, ℕ, ◌+◌, ◌≤◌, max, List, ◌++◌, length, Result, OnOk}
use Rattle.std.specs.List.{AllByRecursion}
use Rattle.std.specs.declared.cmp.Ordering.TheVariants.{Less, Greater}
use Rattle.store_base.specs.declared.store_fault.Fault.{Fault}
use Rattle.store_base.specs.Leads as leads
use Rattle.store_model.specs.Lists.{runs}
use Rattle.store_model.specs.Labels.{Lead}
use Rattle.store_model.specs.Pages.{Cell, Page, page_room, group_pages}
use Rattle.node_pages.specs.PagesState.{PagesState}
use Rattle.skip_groups.specs.declared.new_cells.NewCells.{NewCells}
use Rattle.skip_groups.specs.Floors.{last_of, lead_from}
use Rattle.skip_groups.specs.GroupCells.{AreCells, IsKept, side}
use Rattle.skip_groups.specs.NewCells.{cells_gathered}
use Rattle.skip_groups.specs.Searches.{IsGroupWalk}

-- So many first pages of a group in two parts: those that stay, and those that give way. The cells of these that are
-- below the key come in their place, and those above it come behind others.
pub record IsParted (level : ℕ) (lead : Lead) (key : List ℕ) (pages : List Page) (start : List Cell) (made : NewCells)
    (above : List Cell) : Type 0 where
  pub stay : List Page
  pub gone : List Page
  pub parts : pages ≡ stay ++ gone
  pub kept_is : made.kept ≡ length stay
  pub count_is : made.count ≡ length gone
  pub kept : AllByRecursion (IsKept level key) stay
  pub next : leads.model_lead made.next ≡ lead_from (last_of (cells_gathered stay)) lead
  pub low : AreCells level (side Less key (cells_gathered gone))
      → made.cells.cells ≡ side Less key (cells_gathered gone)
  pub high : AreCells level (start ++ side Greater key (cells_gathered gone))
      → above ≡ start ++ side Greater key (cells_gathered gone)
  pub few_low : length made.cells.cells ≤ length (cells_gathered gone)
  pub few_high : length above ≤ length start + length (cells_gathered gone)

-- reading all pages of the group that the lead leads on the level, to part its cells by the key
abbrev pub IsGroupParted : {T : Type 0} (old new : PagesState) (level : ℕ) (lead : Lead) (key : List ℕ)
    (start : List Cell) (made : NewCells) (above : List Cell) (result : Result T Fault) → Type 0
IsGroupParted old new level lead key start made above result =
    IsGroupWalk old new level lead
    (λ cells. OnOk result (IsParted level lead key (group_pages level lead cells) start made above)) result

-- how many pages are changed from the first one on that gives way
abbrev pub run_past : ℕ → NewCells → ℕ
run_past level made = max made.count (length (runs (page_room level) made.cells.cells))
