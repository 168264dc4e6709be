-- The pages of a level while its pairs come: the last one may take further cells, and all others stay as they are.
use Rattle.std.specs.Prelude.{◌≡◌, ℕ, ◌<◌, ◌≤◌, List, [], ◌∷◌, ◌++◌, map, length, take, Option, Some, None}
use Rattle.std.specs.List.Sorted.{IsStrictlySortedBy}
use Rattle.store_model.specs.Paths.{key_cmp}
use Rattle.store_model.specs.Pairs.{Pair, IsPairs}
use Rattle.store_model.specs.Draws.{Draw}
use Rattle.store_model.specs.Pages.{Cell, Page, page_room, cell_on, level_pages}
use Rattle.rising_pages.specs.Ends.{all_but_last, last_of, list_of}

-- the pages of a level that stay as they are whatever pairs come
abbrev pub closed_pages : Draw → List Pair → ℕ → List Page
closed_pages d s level = all_but_last (level_pages d s level)

-- the last page of a level, which may take further cells
abbrev pub open_page : Draw → List Pair → ℕ → Option Page
open_page d s level = last_of (level_pages d s level)

-- the law that they stay: pages that are closed are the first of the level, whatever pairs come behind
abbrev pub ClosedStay : Draw → List Pair → List Pair → ℕ → Type 0
ClosedStay d s t level =
    take (length (closed_pages d s level)) (level_pages d (s ++ t) level) ≡ closed_pages d s level

-- the cell stands behind those of the page
abbrev pub StandsBehind : Option Page → ℕ → Cell → Type 0
StandsBehind None level cell = Unit {0}
StandsBehind (Some page) level cell = (page.label.level ≡ level)
    × IsStrictlySortedBy key_cmp (map (λ c. c.key) (page.cells ++ cell ∷ []))

-- the next cell of the level, up to level `top`, comes onto the page: it leads no group, and the page has room
abbrev pub HasRoom : Option Page → ℕ → ℕ → Type 0
HasRoom None level top = ⊥
HasRoom (Some page) level top = (top ≤ level) × (length page.cells < page_room level)

-- the next pair's cell comes to the open page of a level: the pair stands behind the others, and its key on the level
pub record Comes (d : Draw) (level top : ℕ) (s : List Pair) (y : Pair) (last : Option Page) (cell : Cell)
    : Type 0 where
  pub pairs : IsPairs (s ++ y ∷ [])
  pub few : length s < 4294967296
  pub low : level < 256
  pub top_is : top ≡ d.level y.0
  pub stands : level ≤ top
  pub cell_is : cell ≡ cell_on level y
  pub last_is : last ≡ open_page d s level

-- the pair has come: its cell is on the page that is open now, and the page that was closed is behind the closed ones
pub record HasCome (d : Draw) (level : ℕ) (s : List Pair) (y : Pair) (last closed : Option Page) : Type 0 where
  pub last_is : last ≡ open_page d (s ++ y ∷ []) level
  pub closed_is : closed_pages d (s ++ y ∷ []) level ≡ closed_pages d s level ++ list_of closed
