-- Pages that were met on the way down, and what is known of them.
use Rattle.std.specs.Prelude.{◌≡◌, ℕ, zero, suc, ◌+◌, ◌<◌, ◌⊎◌, List, [], ◌∷◌, Option, Some, length}
use Rattle.std.specs.List.{Contains}
use Rattle.std.specs.List.Sorted.{IsStrictlySortedBy}
use Rattle.std.specs.FinMap as maps
use Rattle.std.specs.declared.cmp.Ordering.TheVariants.{Less}
use Rattle.store_model.specs.Labels.{Lead}
use Rattle.store_model.specs.Labels.Lead.{Start, Leader}
use Rattle.store_model.specs.Draws.{Draw}
use Rattle.store_model.specs.Pages.{Cell, Page, page_room}
use Rattle.store_model.specs.PageMaps.{PageMap, page_at}
use Rattle.layout_conditions.specs.Conditions.{AreRuns, AreGroups, AreMet}
use Rattle.layout_conditions.specs.Pages.{LeadsGroup, HasCell, IsLed}
use Rattle.skip_groups.specs.Groups.{label_of}
use Rattle.table_walk.specs.Streams.{HasKeyIn, cell_order, IsAbove, IsReached}

-- the map has the page
abbrev pub InMap : PageMap → Page → Type 0
InMap m page = page_at m page.label ≡ Some page

-- no two of the pages have one label
abbrev pub AreDistinct : List Page → Type 0
AreDistinct [] = Unit {0}
AreDistinct (page ∷ pages) = ((other : Page) → Contains pages other → other.label ≡ page.label → ⊥) × AreDistinct pages

-- the key that leads is among those of the stream
abbrev pub IsLeadIn : List Cell → Lead → Type 0
IsLeadIn stream Start = Unit {0}
IsLeadIn stream (Leader key) = HasKeyIn stream key

-- one of the cells of the level leads the page's group, which is of the level below
pub record IsLedBy (level : ℕ) (own : List Cell) (page : Page) : Type 0 where
  pub next : page.label.level + 1 ≡ level
  pub key : List ℕ
  pub lead_is : page.label.lead ≡ Leader key
  pub has : HasKeyIn own key

-- the second page is the next one of the first one's group
pub record IsNextRun (page next : Page) : Type 0 where
  pub level_is : next.label.level ≡ page.label.level
  pub lead_is : next.label.lead ≡ page.label.lead
  pub index_is : next.label.index ≡ page.label.index + 1

-- the leader's key stands on a higher level than this one
abbrev pub LeadsOn : Draw → ℕ → Lead → Type 0
LeadsOn d level Start = Unit {0}
LeadsOn d level (Leader key) = level < d.level key

-- the first cell of a group that a key leads is the leader's, and every other key ends on the level of the page
abbrev pub IsInPlace : Draw → ℕ → Lead → ℕ → ℕ → List ℕ → Type 0
IsInPlace d level (Leader leader) zero zero key = key ≡ leader
IsInPlace d level (Leader leader) zero (suc i) key = d.level key ≡ level
IsInPlace d level (Leader leader) (suc index) i key = d.level key ≡ level
IsInPlace d level Start index i key = d.level key ≡ level

-- the start leads
abbrev pub IsStart : Lead → Type 0
IsStart Start = Unit {0}
IsStart (Leader key) = ⊥

-- the conditions of pages that a walk tests
pub record MeetWalk (d : Draw) (There : Page → Type 0) : Type 0 where
  pub runs : AreRuns d There
  pub groups : AreGroups There
  pub met : AreMet There

module _ (d : Draw) (There : Page → Type 0) where
  -- Below some cells of a level, the groups that these lead were met, and all below them. The pages that were met keep
  -- the conditions by themselves. The stream has the cells of level 0, in the order of their keys.
  pub record Walked (level : ℕ) (own : List Cell) (pages : List Page) (stream : List Cell) : Type 0 where
    pub there : (page : Page) → Contains pages page → There page
    pub distinct : AreDistinct pages
    pub lower : (page : Page) → Contains pages page → page.label.level < level
    pub runs : AreRuns d (Contains pages)
    pub groups : AreGroups (Contains pages)
    -- each group is led by one of the cells, by a key of the level above, or by the start
    pub led : (page : Page) → Contains pages page → IsLed (Contains pages) page.label.level page.label.lead
        ⊎ IsLedBy level own page
    pub leads : (low : ℕ) (cell : Cell) → level ≡ low + 1 → Contains own cell → LeadsGroup (Contains pages) low cell.key
    -- no page of a group was left out behind a full one
    pub whole : (page next : Page) → Contains pages page → There next → IsNextRun page next
        → length page.cells ≡ page_room page.label.level → Contains pages next
    -- each key is one of the stream
    pub lead_keys : (page : Page) → Contains pages page → IsLeadIn stream page.label.lead
    pub page_keys : (page : Page) (cell : Cell) → Contains pages page → Contains page.cells cell
        → HasKeyIn stream cell.key
    pub own_keys : (cell : Cell) → Contains own cell → HasKeyIn stream cell.key
    -- the stream has the cells of level 0
    pub cells_from : (cell : Cell) → Contains stream cell
        → HasCell (Contains pages) 0 cell ⊎ ((level ≡ 0) × Contains own cell)
    pub cells_of : (cell : Cell) → HasCell (Contains pages) 0 cell → Contains stream cell
    pub own_cells : (cell : Cell) → level ≡ 0 → Contains own cell → Contains stream cell
    pub rising : IsStrictlySortedBy cell_order stream

  -- The runs of one group up to a number, with these cells, were met.
  pub record Opened (level : ℕ) (lead : Lead) (past : ℕ) (runs : List Page) (cells : List Cell) : Type 0 where
    pub there : (page : Page) → Contains runs page → There page
    pub distinct : AreDistinct runs
    pub are_runs : AreRuns d (Contains runs)
    pub levels : (page : Page) → Contains runs page → page.label.level ≡ level
    pub leads : (page : Page) → Contains runs page → page.label.lead ≡ lead
    pub below : (page : Page) → Contains runs page → page.label.index < past
    pub found : (index : ℕ) → index < past → (page : Page) × Contains runs page
        × (page.label ≡ label_of level lead index)
    pub cells_of : (page : Page) (cell : Cell) → Contains runs page → Contains page.cells cell → Contains cells cell
    pub cells_from : (cell : Cell) → Contains cells cell → (page : Page) × Contains runs page × Contains page.cells cell
    -- no key is above those of the last run
    pub last : (page : Page) (cell other : Cell) → Contains runs page → page.label.index + 1 ≡ past
        → Contains cells cell → Contains page.cells other
        → Contains page.cells cell ⊎ (cell_order cell other ≡ Less)

-- the last key of the walk is none of the lead's, or is not below it
abbrev pub IsPassed : Option (List ℕ) → Lead → Type 0
IsPassed last Start = Unit {0}
IsPassed last (Leader key) = IsReached last key

-- what comes of the group that the lead leads is above the last key, where the pages meet the conditions
abbrev pub IsAhead : Draw → (Page → Type 0) → ℕ → Option (List ℕ) → Lead → Type 0
IsAhead d There level last Start = MeetWalk d There → (page : Page) (cell : Cell) → There page
    → page.label ≡ label_of level Start 0 → Contains page.cells cell → IsAbove last cell.key
IsAhead d There level last (Leader key) = IsAbove last key

-- so many pages of the map were met, and so many are left
pub record AreMetOf (m : PageMap) (left : ℕ) (pages : List Page) : Type 0 where
  pub there : (page : Page) → Contains pages page → InMap m page
  pub distinct : AreDistinct pages
  pub count : length pages + left ≡ maps.len m

-- a walk comes to a group with these pages met before
pub record ComesTo (d : Draw) (m : PageMap) (level : ℕ) (lead : Lead) (left : ℕ) (last : Option (List ℕ))
    (pages : List Page) : Type 0 where
  pub met : AreMetOf m left pages
  pub passed : (page : Page) → Contains pages page → page.label.level < level + 1 → IsPassed last page.label.lead
  pub apart : (page : Page) → Contains pages page → page.label.level ≡ level → page.label.lead ≡ lead → ⊥
  pub led : IsLed (InMap m) level lead
  pub ahead : IsAhead d (InMap m) level last lead

-- a walk comes to a cell of a level with these pages met before
pub record ComesToCell (d : Draw) (m : PageMap) (level : ℕ) (cell : Cell) (left : ℕ) (last : Option (List ℕ))
    (pages : List Page) : Type 0 where
  pub met : AreMetOf m left pages
  pub passed : (other : Page) → Contains pages other → other.label.level < level → IsPassed last other.label.lead
  pub there : HasCell (InMap m) level cell
  pub above : IsAbove last cell.key

-- a walk comes to the cells of a page with these pages met before, that page among them
pub record ComesToCells (d : Draw) (m : PageMap) (page : Page) (left : ℕ) (last : Option (List ℕ))
    (pages : List Page) : Type 0 where
  pub met : AreMetOf m left pages
  pub there : InMap m page
  pub passed : (other : Page) → Contains pages other → other.label.level < page.label.level
      → IsPassed last other.label.lead
  pub ahead : MeetWalk d (InMap m) → (cell : Cell) → Contains page.cells cell → IsAbove last cell.key
