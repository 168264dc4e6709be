-- The conditions by which slots are known to be the layout of a tree: each can be tested page by page.
use Rattle.std.specs.Prelude.{◌≡◌, ◌↔◌, ℕ, ◌+◌, ◌<◌, List, false}
use Rattle.std.specs.List.{Contains}
use Rattle.store_model.specs.Parameters.{Parameters}
use Rattle.store_model.specs.Trees.{Tree, IsTree}
use Rattle.store_model.specs.Pairs.{Pair, has_attributes, pairs}
use Rattle.store_model.specs.Draws.{Draw, draw_of}
use Rattle.store_model.specs.Pages.{Page, IsBare, cell_on}
use Rattle.store_model.specs.Placement.{Table, HoldsPage, IsOrderedTable}
use Rattle.store_model.specs.Images.{slots_of}
use Rattle.layout_conditions.specs.Pages.{KeysRise, LeadsBefore, AreRunOf, LeadsGroup, HasCell, HasKey, FollowsFull}
use Rattle.layout_conditions.specs.Pages.{IsLed}

-- the page stands in some slot of the table
abbrev pub StandsIn : Table → Page → Type 0
StandsIn table page = (slot : ℕ) × HoldsPage table slot page

-- Each slot is free or holds a page, of a level below the height, and the table is in order. So no label stands in
-- it twice.
pub record IsSound (d : Draw) (table : Table) : Type 0 where
  pub ordered : IsOrderedTable d table
  pub levels : (page : Page) → StandsIn table page → page.label.level < d.height

module _ (d : Draw) (There : Page → Type 0) where
  -- Within a group a page comes behind another one only where that is full and all its keys are smaller; the first has
  -- index 0. Where a key leads the group, its own cell is the very first, and it alone goes beyond this level.
  pub record AreRuns : Type 0 where
    pub levels : (page : Page) → There page → AreRunOf d page.label.level page.label.lead page.label.index page.cells
    pub numbered : (page : Page) → There page → 0 < page.label.index → FollowsFull There page

module _ (There : Page → Type 0) where
  -- Each key on a level above 0 leads a group of the level below. Keys rise from group to group, that of the start
  -- first.
  pub record AreGroups : Type 0 where
    pub leads : (level : ℕ) (key : List ℕ) → HasKey There (level + 1) key → LeadsGroup There level key
    pub rise : (a b : Page) → There a → There b → a.label.level ≡ b.label.level → LeadsBefore a.label.lead b.label.lead
        → KeysRise a.cells b.cells

  -- Every page is met on the way down: the start leads its group, or a key of the level above does.
  abbrev pub AreMet : Type 0
  AreMet = (page : Page) → There page → IsLed There page.label.level page.label.lead

  -- the cells of level 0 are the pairs of the tree, which is one, and under version 1 has no attributes
  pub record HoldTree (t : Tree) (p : Parameters) : Type 0 where
    pub tree : IsTree t
    pub bare : has_attributes p.version ≡ false → IsBare t
    pub cells : (pair : Pair) → HasCell There 0 (cell_on 0 pair) ↔ Contains (pairs t p) pair

-- The five conditions.
pub record MeetConditions (slots : List (List ℕ)) (p : Parameters) : Type 0 where
  pub table : Table
  pub slots_are : slots ≡ slots_of table
  -- what stands in each slot, and in which order
  pub sound : IsSound (draw_of p) table
  -- the pages of one group
  pub runs : AreRuns (draw_of p) (StandsIn table)
  -- the groups of one level
  pub groups : AreGroups (StandsIn table)
  -- no page besides
  pub met : AreMet (StandsIn table)
  -- a tree's pairs
  pub tree : Tree
  pub pairs_are : HoldTree (StandsIn table) tree p
