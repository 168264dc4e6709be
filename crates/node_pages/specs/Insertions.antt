-- A page with one cell more.
use Rattle.std.specs.Prelude.{ℕ, ◌≤◌, ◌∷◌, ◌++◌, take, drop, length}
use Rattle.store_model.specs.Pages.{Cell, Page, IsPage}

-- the page with a cell before that of this number, or behind all
abbrev pub with_cell : Page → ℕ → Cell → Page
with_cell page at cell = record page { cells = take at page.cells ++ cell ∷ drop at page.cells }

-- a page takes a cell at this place: it is a page with it
pub record TakesCell (page : Page) (at : ℕ) (cell : Cell) : Type 0 where
  pub within : at ≤ length page.cells
  pub valid : IsPage (with_cell page at cell)
