-- Where pages lie in the table: greedy placement by rank (Blelloch and Golovin), and the order condition
-- of an ordered hash table (Amble and Knuth) that makes the table of a set of pages unique.
use Rattle.std.specs.Prelude.{◌≡◌, ℕ, ◌+◌, ◌%◌, ◌<◌, List, [], ◌∷◌, map, length, replicate, Bool, true, false, Option}
use Rattle.std.specs.Prelude.{Some, None, slice_get, slice_set}
use Rattle.std.specs.List.{find, filter_map, AllByRecursion}
use Rattle.std.specs.declared.cmp.Ordering.{Ordering}
use Rattle.std.specs.declared.cmp.Ordering.TheVariants.{Less}
use Rattle.store_model.specs.Lists.{numbers_below, in_order}
use Rattle.store_model.specs.Labels.{Label, label_cmp}
use Rattle.store_model.specs.Draws.{Draw}
use Rattle.store_model.specs.Pages.{Page, IsPage}

-- each slot is empty or holds a page
abbrev pub Table : Type 0
Table = List (Option Page)

-- slot number i of the probe sequence from a start: each slot once, going round
abbrev pub probe : ℕ → ℕ → ℕ → ℕ
probe slots start i = (start + i) % slots

-- the probe sequence of a label
unfoldable pub probes : Draw → Label → List ℕ
probes d l = map (probe d.slots (d.start l)) (numbers_below d.slots)

abbrev pub holds_nothing : Option (Option Page) → Bool
holds_nothing None = false
holds_nothing (Some None) = true
holds_nothing (Some (Some page)) = false

abbrev pub is_free : Table → ℕ → Bool
is_free table i = holds_nothing (slice_get table i)

-- the table with the page in that slot, and as it is where no slot is given, which comes of a full table alone
abbrev pub put_at : Table → Page → Option ℕ → Table
put_at table page None = table
put_at table page (Some i) = slice_set table i (Some page)

-- the table with the page in the first free slot of its probe sequence
unfoldable pub put_first_free : Draw → Table → Page → Table
put_first_free d table page = put_at table page (find (is_free table) (probes d page.label))

-- the pages put in one after another
unfoldable pub put_all : Draw → Table → List Page → Table
put_all d table [] = table
put_all d table (page ∷ pages) = put_all d (put_first_free d table page) pages

abbrev pub page_cmp : Page → Page → Ordering
page_cmp a b = label_cmp a.label b.label

-- the table of a list of pages: by rank, each in the first free slot of its probe sequence
unfoldable pub place : Draw → List Page → Table
place d pages = put_all d (replicate d.slots None) (in_order page_cmp pages)

-- what a slot holds, as it is
abbrev pub option_identity : Option Page → Option Page
option_identity o = o

-- the pages of a table, in the order of slots
unfoldable pub pages_in : Table → List Page
pages_in table = filter_map option_identity table

-- the slot holds a page
abbrev pub HoldsPage : Table → ℕ → Page → Type 0
HoldsPage table slot page = slice_get table slot ≡ Some (Some page)

-- each slot from a page's start up to its own, going round, holds a page of smaller label
abbrev pub IsInOrder : Draw → Table → Type 0
IsInOrder d table = (page : Page) (i : ℕ) → i < d.slots → HoldsPage table (probe d.slots (d.start page.label) i) page
    → (k : ℕ) → k < i → (other : Page) × HoldsPage table (probe d.slots (d.start page.label) k) other
    × (label_cmp other.label page.label ≡ Less)

-- an ordered table: as many slots as the draw's, each empty or with a page, in order
pub record IsOrderedTable (d : Draw) (table : Table) : Type 0 where
  pub slots : length table ≡ d.slots
  pub pages : AllByRecursion IsPage (pages_in table)
  pub in_order : IsInOrder d table
