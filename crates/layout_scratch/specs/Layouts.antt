-- A table as pages and, for each slot, the number of the page that it holds.
use Rattle.std.specs.Prelude.{◌≡◌, ℕ, ◌<◌, List, map, length, Option, Some, None, slice_get}
use Rattle.std.specs.List.{AllByRecursion}
use Rattle.store_model.specs.Pages.{Page}
use Rattle.store_model.specs.Placement.{Table, pages_in}

-- what a slot holds that has the page of this number, or none
abbrev pub numbered_page : List Page → Option ℕ → Option Page
numbered_page pages None = None
numbered_page pages (Some number) = slice_get pages number

-- the table whose slots hold the pages of these numbers
abbrev pub table_of : List Page → List (Option ℕ) → Table
table_of pages places = map (numbered_page pages) places

-- the number is that of a page
abbrev pub IsNumber : List Page → Option ℕ → Type 0
IsNumber pages None = Unit {0}
IsNumber pages (Some number) = number < length pages

-- each number is that of a page, and the table holds as many pages as there are
pub record ArePlaces (pages : List Page) (places : List (Option ℕ)) : Type 0 where
  pub numbers : AllByRecursion (IsNumber pages) places
  pub used : length (pages_in (table_of pages places)) ≡ length pages
