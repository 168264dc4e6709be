-- The cells of one group, and what a change of one key makes of them.
use Rattle.std.specs.Prelude.{◌≡◌, ◌⊎◌, ℕ, ◌<◌, ◌≤◌, List, [], ◌∷◌, ◌++◌, map, filter, length, take, drop, Bool, true}
use Rattle.std.specs.Prelude.{Option, Some, None, ◌==◌}
use Rattle.std.specs.List.{AllByRecursion}
use Rattle.std.specs.List.Sorted.{IsStrictlySortedBy}
use Rattle.std.specs.Option.{option_map}
use Rattle.std.specs.Ordering.{is_lt, ordering_index}
use Rattle.std.specs.declared.cmp.Ordering.{Ordering}
use Rattle.std.specs.declared.cmp.Ordering.TheVariants.{Less, Equal, Greater}
use Rattle.store_model.specs.Paths.{key_cmp}
use Rattle.store_model.specs.Pages.{Cell, Page, IsCell, page_room}
use Rattle.node_pages.specs.Cells.{CellList}
use Rattle.store_base.specs.declared.label.Lead as declared
use Rattle.store_base.specs.Leads as leads
use Rattle.store_model.specs.Labels.{Lead}
use Rattle.skip_groups.specs.Floors.{last_of, lead_from}

-- cells of a level whose keys strictly rise
pub record AreCells (level : ℕ) (cells : List Cell) : Type 0 where
  pub each : AllByRecursion (IsCell level) cells
  pub rising : IsStrictlySortedBy key_cmp (map (λ c. c.key) cells)

-- a list of cells of the level whose keys strictly rise
pub record IsRisingList (level : ℕ) (list : CellList) : Type 0 where
  pub level_is : list.level ≡ level
  pub cells : AreCells level list.cells

-- the key of the last of some cells
abbrev pub last_key_of : List Cell → Option (List ℕ)
last_key_of cells = option_map (λ (c : Cell). c.key) (last_of cells)

-- whether a key is above the last one, if there is one
abbrev pub is_behind : List ℕ → Option (List ℕ) → Bool
is_behind key None = true
is_behind key (Some last) = is_lt (key_cmp last key)

-- whether the key of a cell compares so with a key
abbrev pub compares : Ordering → List ℕ → Cell → Bool
compares order key cell = ordering_index (key_cmp cell.key key) == ordering_index order

-- the cells whose keys compare so with a key
abbrev pub side : Ordering → List ℕ → List Cell → List Cell
side order key cells = filter (compares order key) cells

-- cells below a key, cells of the key, and cells above it
abbrev pub merged : List ℕ → List Cell → List Cell → List Cell → List Cell
merged key low own high = (side Less key low ++ side Equal key own) ++ side Greater key high

-- what leads the next lower group of a search path, and the cells with those of the key
pub record IsMerged (lead : Lead) (key : List ℕ) (low own high : List Cell)
    (made : declared.Lead × List Cell) : Type 0 where
  pub next : leads.model_lead made.0 ≡ lead_from (last_of (side Less key low)) lead
  pub cells : made.1 ≡ merged key low own high

-- the cells from one place up to another are those of a key, between the cells below it and those above it
pub record AreBetween (key : List ℕ) (cells : List Cell) (at past : ℕ) : Type 0 where
  pub within : past ≤ length cells
  pub low : take at cells ≡ side Less key cells
  pub own : drop at (take past cells) ≡ side Equal key cells
  pub high : drop past cells ≡ side Greater key cells

-- a page that a change of the key leaves as it is: it has no room, and its cells are below the key
pub record IsKept (level : ℕ) (key : List ℕ) (page : Page) : Type 0 where
  pub full : page_room level ≤ length page.cells
  pub below : AllByRecursion (λ c. key_cmp c.key key ≡ Less) page.cells

-- the last of the cells of a page is not below a key
pub record EndsAbove (key : List ℕ) (cells : List Cell) : Type 0 where
  pub before : List Cell
  pub last : Cell
  pub parts : cells ≡ before ++ last ∷ []
  pub above : key_cmp last.key key ≡ Less → ⊥

-- a page that a change of the key does not leave as it is: it has room, or ends with a cell that is not below the key
abbrev pub IsFirstCell : ℕ → List ℕ → Page → Type 0
IsFirstCell level key page = (length page.cells < page_room level) ⊎ EndsAbove key page.cells
