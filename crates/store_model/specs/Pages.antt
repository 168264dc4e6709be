-- How a list of pairs becomes pages: levels, groups, runs. This cut is the store's own.
use Rattle.std.specs.Prelude.{◌≡◌, ℕ, ◌≤◌, ◌<◌, List, [], ◌∷◌, map, length, Bool, Option, Some, None, nat_le, nat_lt}
use Rattle.std.specs.Prelude.{◌==◌, if◌then◌else◌, false}
use Rattle.std.specs.List.{filter, flat_map, enumerate_from, AllByRecursion}
use Rattle.std.specs.List.Sorted.{IsStrictlySortedBy}
use Rattle.store_model.specs.Lists.{IsBytes, runs, cut_before, numbers_below}
use Rattle.store_model.specs.Parameters.{Parameters}
use Rattle.store_model.specs.Paths.{key_len, key_cmp}
use Rattle.store_model.specs.Pairs.{Pair, IsValue, has_attributes, pairs}
use Rattle.store_model.specs.Trees.{Tree, IsTree}
use Rattle.store_model.specs.Labels.{Lead, Label, IsLabel}
use Rattle.store_model.specs.Labels.Lead.{Start, Leader}
use Rattle.store_model.specs.Draws.{Draw, draw_of}

-- a key, with its value at level 0 alone
pub record Cell : Type 0 where
  pub key : List ℕ
  pub value : Option (List ℕ)

-- a label and the cells of one run
pub record Page : Type 0 where
  pub label : Label
  pub cells : List Cell

-- the cells that a page of a level holds at most
abbrev pub page_room : ℕ → ℕ
page_room level = if level == 0 then 10 else 31

-- the cell of a pair on a level
abbrev pub cell_on : ℕ → Pair → Cell
cell_on level pair = if level == 0 then (record { key = pair.0; value = Some pair.1 }) else
    (record { key = pair.0; value = None })

-- the list of a level: a cell for each pair whose key's level is at least that
unfoldable pub level_list : Draw → List Pair → ℕ → List Cell
level_list d s level = map (cell_on level) (filter (λ pair. nat_le level (d.level pair.0)) s)

-- whether the list of a level is cut before the cell: its key stands on a higher level too
abbrev pub leads_group : Draw → ℕ → Cell → Bool
leads_group d level cell = nat_lt level (d.level cell.key)

-- the groups of a level: its list cut before each key that stands on a higher level
unfoldable pub groups : Draw → List Pair → ℕ → List (List Cell)
groups d s level = cut_before (leads_group d level) (level_list d s level)

-- what leads a group: its first key where that stands on a higher level, and else the start
unfoldable pub lead_of : Draw → ℕ → List Cell → Lead
lead_of d level [] = Start
lead_of d level (cell ∷ cells) = if leads_group d level cell then Leader cell.key else Start

-- a group is not empty and is cut nowhere within
abbrev pub IsGroup : Draw → ℕ → List Cell → Type 0
IsGroup d level [] = ⊥
IsGroup d level (cell ∷ cells) = AllByRecursion (λ other. leads_group d level other ≡ false) cells

-- a group that is led by its first key
abbrev pub IsLedGroup : Draw → ℕ → List Cell → Type 0
IsLedGroup d level [] = ⊥
IsLedGroup d level (cell ∷ cells) = lead_of d level (cell ∷ cells) ≡ Leader cell.key

-- the pages of one group: its runs, numbered from 0
unfoldable pub group_pages : ℕ → Lead → List Cell → List Page
group_pages level lead cells = map (λ run. record {
  label = record { level = level; lead = lead; index = run.0 };
  cells = run.1;
})
    (enumerate_from 0 (runs (page_room level) cells))

-- the pages of one level, group after group
unfoldable pub level_pages : Draw → List Pair → ℕ → List Page
level_pages d s level = flat_map (λ cells. group_pages level (lead_of d level cells) cells) (groups d s level)

-- the pages of a list of pairs, level after level
unfoldable pub pages_of_pairs : Draw → List Pair → List Page
pages_of_pairs d s = flat_map (level_pages d s) (numbers_below d.height)

-- the pages of a tree under the parameters
unfoldable pub pages : Tree → Parameters → List Page
pages t p = pages_of_pairs (draw_of p) (pairs t p)

-- how many pages a tree has
abbrev pub page_count : Tree → Parameters → ℕ
page_count t p = length (pages t p)

-- no path of the tree has an attribute
abbrev pub IsBare : Tree → Type 0
IsBare t = AllByRecursion (λ e. e.1.attributes ≡ []) t

-- a tree that an image with these parameters may hold, however many slots there are: under version 1 no path has an
-- attribute
pub record IsTreeUnder (t : Tree) (p : Parameters) : Type 0 where
  pub is_tree : IsTree t
  pub bare : has_attributes p.version ≡ false → IsBare t

-- a tree fits where its pages are no more than the slots, and under version 1 no path has an attribute
pub record Fits (t : Tree) (p : Parameters) : Type 0 where
  pub room : page_count t p ≤ p.slots
  pub bare : has_attributes p.version ≡ false → IsBare t

-- what the value of a cell may be on a level
abbrev pub IsCellValue : ℕ → Option (List ℕ) → Type 0
IsCellValue level (Some v) = (level ≡ 0) × IsValue v
IsCellValue level None = 0 < level

pub record IsCell (level : ℕ) (cell : Cell) : Type 0 where
  pub key_length : length cell.key ≡ key_len
  pub key_bytes : IsBytes cell.key
  pub value : IsCellValue level cell.value

-- what a slot can hold: 1 to 10 cells at level 0, 1 to 31 above, with keys that strictly rise
pub record IsPage (page : Page) : Type 0 where
  pub label : IsLabel page.label
  pub some_cell : 1 ≤ length page.cells
  pub room : length page.cells ≤ page_room page.label.level
  pub cells : AllByRecursion (IsCell page.label.level) page.cells
  pub rising : IsStrictlySortedBy key_cmp (map (λ c. c.key) page.cells)
