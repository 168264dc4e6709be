-- What the calls of a walk do.
use Rattle.std.specs.Prelude.{◌≡◌, ◌↔◌, ℕ, ◌+◌, ◌≤◌, List, [], ◌∷◌, ◌++◌, map, length, Bool, None, Result, IfOk}
use Rattle.std.specs.Prelude.{unwrap_or}
use Rattle.std.specs.Bool.{MatchBool}
use Rattle.std.specs.List.{Contains}
use Rattle.std.specs.List.Sorted.{IsStrictlySortedBy}
use Rattle.store_model.specs.Labels.{Lead}
use Rattle.store_model.specs.Labels.Lead.{Start, Leader}
use Rattle.store_model.specs.Paths.{key_cmp}
use Rattle.store_model.specs.Pairs.{Pair}
use Rattle.store_model.specs.Draws.{Draw}
use Rattle.store_model.specs.Pages.{Cell, Page}
use Rattle.store_model.specs.Placement.{Table, pages_in}
use Rattle.store_model.specs.Images.{slots_of}
use Rattle.store_model.specs.PageMaps.{PageMap, HoldsPages}
use Rattle.store_base.specs.declared.store_fault.Fault.{Fault}
use Rattle.store_base.specs.SlotsState.{SlotsState, IsObservable}
use Rattle.layout_conditions.specs.Conditions.{StandsIn, IsSound}
use Rattle.layout_conditions.specs.Pages.{AreRunOf, HasCell}
use Rattle.skip_groups.specs.Groups.{label_of}
use Rattle.table_walk.specs.IndexLookups.{ReadsOnly}
use Rattle.table_walk.specs.Streams.{GoesOn, IsAbove, Progress}
use Rattle.table_walk.specs.Walked.{InMap, LeadsOn, MeetWalk, Walked, ComesTo, ComesToCell, ComesToCells}

-- the pair of a cell of level 0
abbrev pub pair_of : Cell → Pair
pair_of cell = (cell.key, unwrap_or cell.value [])

-- what was taken is what was taken before, and some more pairs
abbrev pub HandsOn : (List Pair → Type 0) → (List Pair → Type 0) → Type 0
HandsOn Took TookNow = (pairs : List Pair) → Took pairs → (more : List Pair) × TookNow (pairs ++ more)

-- the cell above a group that its leader is
abbrev pub leader_cells : Lead → List Cell
leader_cells Start = []
leader_cells (Leader key) = record { key = key; value = None } ∷ []

-- below these cells of a level all was met: what was taken are the pairs of level 0
pub record IsWalked (d : Draw) (m : PageMap) (level : ℕ) (own : List Cell) (before after : Progress)
    (Took TookNow : List Pair → Type 0) : Type 0 where
  pub pages : List Page
  pub stream : List Cell
  pub walked : Walked d (InMap m) level own pages stream
  pub goes_on : GoesOn before.last stream after.last
  pub left : after.left + length pages ≡ before.left
  pub handed_on : (pairs : List Pair) → Took pairs → TookNow (pairs ++ map pair_of stream)

-- below the cells of a level all was met; the start leads none of it
pub record AreCellsWalked (d : Draw) (m : PageMap) (level : ℕ) (own : List Cell) (before after : Progress)
    (Took TookNow : List Pair → Type 0) : Type 0 where
  pub below : IsWalked d m level own before after Took TookNow
  pub keyed : (page : Page) → Contains below.pages page → page.label.lead ≡ Start → ⊥

-- the cells of a page were met, and all below them
pub record IsPageWalked (d : Draw) (m : PageMap) (page : Page) (before after : Progress)
    (Took TookNow : List Pair → Type 0) : Type 0 where
  pub cells : AreCellsWalked d m page.label.level page.cells before after Took TookNow
  pub run : AreRunOf d page.label.level page.label.lead page.label.index page.cells

-- a group was met, and all below it
pub record IsGroupWalked (d : Draw) (m : PageMap) (level : ℕ) (lead : Lead) (before after : Progress)
    (Took TookNow : List Pair → Type 0) : Type 0 where
  pub below : IsWalked d m (level + 1) (leader_cells lead) before after Took TookNow
  pub first : (page : Page) → InMap m page → page.label ≡ label_of level lead 0 → Contains below.pages page
  pub starts : (page : Page) → Contains below.pages page → page.label.lead ≡ Start
      → (lead ≡ Start) × (page.label.level ≡ level)

-- wherever the walk comes to the group, the pages don't meet the conditions
abbrev pub RefutesGroup : Draw → PageMap → ℕ → Lead → Progress → Type 0
RefutesGroup d m level lead before = (pages : List Page) → ComesTo d m level lead before.left before.last pages
    → MeetWalk d (InMap m) → ⊥

abbrev pub RefutesCell : Draw → PageMap → ℕ → Cell → Progress → Type 0
RefutesCell d m level cell before = (pages : List Page) → ComesToCell d m level cell before.left before.last pages
    → MeetWalk d (InMap m) → ⊥

abbrev pub RefutesCells : Draw → PageMap → Page → Progress → Type 0
RefutesCells d m page before = (pages : List Page) → ComesToCells d m page before.left before.last pages
    → MeetWalk d (InMap m) → ⊥

-- a walk over the group that the lead leads on the level, and over all below it
pub record WalksGroup (d : Draw) (old new : SlotsState) (level : ℕ) (lead : Lead) (before after : Progress)
    (Took TookNow : List Pair → Type 0) (result : Result Bool Fault) : Type 0 where
  pub reads : ReadsOnly old new result
  pub fewer : after.left ≤ before.left
  pub handed : HandsOn Took TookNow
  pub walked : (m : PageMap) → IsObservable old → HoldsPages d old.slots m → LeadsOn d level lead
      → IfOk result (λ whole. MatchBool whole (IsGroupWalked d m level lead before after Took TookNow)
      (RefutesGroup d m level lead before))

-- a walk over what is below a cell of a level, which the map has
pub record WalksCell (d : Draw) (old new : SlotsState) (level : ℕ) (cell : Cell) (before after : Progress)
    (Took TookNow : List Pair → Type 0) (result : Result Bool Fault) : Type 0 where
  pub reads : ReadsOnly old new result
  pub fewer : after.left ≤ before.left
  pub handed : HandsOn Took TookNow
  pub walked : (m : PageMap) → IsObservable old → HoldsPages d old.slots m → HasCell (InMap m) level cell
      → level ≤ d.level cell.key → IsAbove before.last cell.key
      → IfOk result (λ whole. MatchBool whole (AreCellsWalked d m level (cell ∷ []) before after Took TookNow)
      (RefutesCell d m level cell before))

-- a walk over the cells of a page, and over all below them
pub record WalksCells (d : Draw) (old new : SlotsState) (page : Page) (before after : Progress)
    (Took TookNow : List Pair → Type 0) (result : Result Bool Fault) : Type 0 where
  pub reads : ReadsOnly old new result
  pub fewer : after.left ≤ before.left
  pub handed : HandsOn Took TookNow
  pub walked : (m : PageMap) → IsObservable old → HoldsPages d old.slots m → InMap m page
      → LeadsOn d page.label.level page.label.lead
      → IfOk result (λ whole. MatchBool whole (IsPageWalked d m page before after Took TookNow)
      (RefutesCells d m page before))

-- the pages of the table meet the conditions, and what was taken are the pairs of level 0, in the order of their keys
pub record HoldsList (d : Draw) (table : Table) (Took TookNow : List Pair → Type 0) : Type 0 where
  pub meets : MeetWalk d (StandsIn table)
  pub cells : List Cell
  pub cells_are : (cell : Cell) → Contains cells cell ↔ HasCell (StandsIn table) 0 cell
  pub rising : IsStrictlySortedBy key_cmp (map (λ cell. cell.key) cells)
  pub handed_on : (pairs : List Pair) → Took pairs → TookNow (pairs ++ map pair_of cells)

-- a walk over all groups of a table that holds so many pages
pub record WalksTable (d : Draw) (old new : SlotsState) (used : ℕ) (Took TookNow : List Pair → Type 0)
    (result : Result Bool Fault) : Type 0 where
  pub reads : ReadsOnly old new result
  pub handed : HandsOn Took TookNow
  pub walked : (table : Table) → IsObservable old → old.slots ≡ slots_of table → IsSound d table
      → length (pages_in table) ≡ used
      → IfOk result (λ whole. MatchBool whole (HoldsList d table Took TookNow) (MeetWalk d (StandsIn table) → ⊥))
