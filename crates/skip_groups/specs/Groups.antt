-- The pages of one group in a map of pages.
use Rattle.std.specs.Prelude.{◌≡◌, ℕ, ◌+◌, ◌<◌, List, [], ◌∷◌, slice_get, ◌/◌, length}
use Rattle.std.specs.List.{AllByRecursion}
use Rattle.store_model.specs.Labels.{Lead, Label}
use Rattle.store_model.specs.Pages.{Cell, Page, IsPage, group_pages, page_room}
use Rattle.store_model.specs.PageMaps.{PageMap, page_at}

-- the label of a page of a group
abbrev pub label_of : ℕ → Lead → ℕ → Label
label_of level lead index = record { level = level; lead = lead; index = index }

-- the pages of one group, whose labels are numbered from a number on
abbrev pub AreNumbered : ℕ → Lead → ℕ → List Page → Type 0
AreNumbered level lead n [] = Unit {0}
AreNumbered level lead n (page ∷ pages) = (page.label ≡ label_of level lead n) × AreNumbered level lead (n + 1) pages

-- pages of one group, numbered from 0
pub record IsNumbered (level : ℕ) (lead : Lead) (pages : List Page) : Type 0 where
  pub numbered : AreNumbered level lead 0 pages
  pub valid : AllByRecursion IsPage pages

-- The map has the pages of these cells as the group that the lead leads on the level, and no other page of that
-- group. A group of no cell is not there.
pub record HoldsGroup (m : PageMap) (level : ℕ) (lead : Lead) (cells : List Cell) : Type 0 where
  pub each : (index : ℕ) → index < 4294967296
      → page_at m (label_of level lead index) ≡ slice_get (group_pages level lead cells) index

-- what reading a group costs: a lookup for each full page, and one that finds a page with room, or none
abbrev pub group_cost : ℕ → List Cell → ℕ
group_cost level cells = length cells / page_room level + 1
