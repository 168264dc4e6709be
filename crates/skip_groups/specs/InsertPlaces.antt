-- Where the cell of a key comes into a page of its group that has room, and changes no other page.
use Rattle.std.specs.Prelude.{◌≡◌, ℕ, ◌<◌, List, [], ◌∷◌, length, take, Option, Some, None, Result, Ok, Err}
use Rattle.std.specs.declared.cmp.Ordering.TheVariants.{Less}
use Rattle.store_base.specs.declared.store_fault.Fault.{Fault}
use Rattle.store_model.specs.Labels.{Lead}
use Rattle.store_model.specs.Pages.{Cell, Page, page_room}
use Rattle.store_model.specs.PageMaps.{page_at}
use Rattle.node_pages.specs.Insertions.{TakesCell, with_cell}
use Rattle.node_pages.specs.PagesState.{PagesState, IsObservable}
use Rattle.skip_groups.specs.declared.new_cells.NewCells.{NewCells}
use Rattle.skip_groups.specs.GroupCells.{side, merged}
use Rattle.skip_groups.specs.Groups.{label_of}
use Rattle.skip_groups.specs.NewCells.{IsNewCellsRead}

-- a page with room takes the one cell of a key behind its cells below the key, and has then all that are to be there
pub record IsInsertPlace (level : ℕ) (key : List ℕ) (own : List Cell) (page : Page) (at : ℕ) : Type 0 where
  pub room : length page.cells < page_room level
  pub cell : Cell
  pub own_is : own ≡ cell ∷ []
  pub takes : TakesCell page at cell
  pub low : take at page.cells ≡ side Less key page.cells
  pub made : (with_cell page at cell).cells ≡ merged key page.cells own page.cells

-- the cells of a page with one more come in the place of those of that page, behind the pages that stay
abbrev pub with_place : NewCells → Page → ℕ → Cell → NewCells
with_place made page at cell = record {
  next = made.next;
  kept = made.kept;
  count = 1;
  cells = record { level = made.cells.level; cells = (with_cell page at cell).cells };
}

-- a group read up to the page behind those that stay, which takes the key's cell
pub record IsPlaceRead {T : Type 0} (old new : PagesState) (level : ℕ) (lead : Lead) (key : List ℕ) (own : List Cell)
    (made : NewCells) (at : ℕ) (result : Result T Fault) : Type 0 where
  pub page : Page
  pub place : IsInsertPlace level key own page at
  pub found : IsObservable new → page_at new.pages (label_of level lead made.kept) ≡ Some page
  pub read : IsNewCellsRead old new level lead key own (with_place made page at place.cell) result

-- Reading the pages of the group that the lead leads on the level, for the cells of a key that are set there. The
-- answer is the place of the key's cell in one page, where that page takes it.
abbrev pub IsSetRead : (old new : PagesState) (level : ℕ) (lead : Lead) (key : List ℕ) (own : List Cell)
    (made : NewCells) (result : Result (Option ℕ) Fault) → Type 0
IsSetRead old new level lead key own made (Ok (Some at)) =
    IsPlaceRead {T = Option ℕ} old new level lead key own made at (Ok (Some at))
IsSetRead old new level lead key own made (Ok None) =
    IsNewCellsRead {T = Option ℕ} old new level lead key own made (Ok None)
IsSetRead old new level lead key own made (Err fault) =
    IsNewCellsRead {T = Option ℕ} old new level lead key own made (Err fault)
