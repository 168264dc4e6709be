-- What is said of single pages among others: of their labels, their keys and the draw. Nothing is said of how pages
-- are made of a tree, or of where they are placed.
use Rattle.std.specs.Prelude.{◌≡◌, ℕ, zero, suc, ◌+◌, ◌<◌, List, [], ◌∷◌, length}
use Rattle.std.specs.List.{AllByRecursion, Contains}
use Rattle.std.specs.declared.cmp.Ordering.TheVariants.{Less}
use Rattle.store_model.specs.Paths.{key_cmp}
use Rattle.store_model.specs.Labels.{Lead}
use Rattle.store_model.specs.Labels.Lead.{Start, Leader}
use Rattle.store_model.specs.Draws.{Draw}
use Rattle.store_model.specs.Pages.{Cell, Page, page_room}

-- ---- keys

-- each key of the first cells is less than each of the second
abbrev pub KeysRise : List Cell → List Cell → Type 0
KeysRise first second = (a b : Cell) → Contains first a → Contains second b → key_cmp a.key b.key ≡ Less

-- the start leads in front of every key, and keys lead in their order
abbrev pub LeadsBefore : Lead → Lead → Type 0
LeadsBefore Start Start = ⊥
LeadsBefore Start (Leader key) = Unit {0}
LeadsBefore (Leader key) Start = ⊥
LeadsBefore (Leader a) (Leader b) = key_cmp a b ≡ Less

module _ (d : Draw) where
  -- the key of the cell stands on this level and on none above
  abbrev pub EndsOn : ℕ → Cell → Type 0
  EndsOn level cell = d.level cell.key ≡ level

  -- the first cell is the leader's own, whose key stands on a higher level too; the others end on this level
  abbrev pub AreLedBy : List ℕ → ℕ → List Cell → Type 0
  AreLedBy key level [] = ⊥
  AreLedBy key level (cell ∷ cells) = (cell.key ≡ key) × (level < d.level key) × AllByRecursion (EndsOn level) cells

  -- the cells are those of a run on this level: the first run of a group that a key leads begins with the leader's own
  -- cell
  abbrev pub AreRunOf : ℕ → Lead → ℕ → List Cell → Type 0
  AreRunOf level (Leader key) zero cells = AreLedBy key level cells
  AreRunOf level (Leader key) (suc index) cells = AllByRecursion (EndsOn level) cells
  AreRunOf level Start index cells = AllByRecursion (EndsOn level) cells

-- ---- pages among others

module _ (There : Page → Type 0) where
  -- there is the first page of the group that the key leads on the level
  pub record LeadsGroup (level : ℕ) (key : List ℕ) : Type 0 where
    pub page : Page
    pub there : There page
    pub label_is : page.label ≡ record { level = level; lead = Leader key; index = 0 }

  -- the cell stands in one of the pages of the level
  pub record HasCell (level : ℕ) (cell : Cell) : Type 0 where
    pub page : Page
    pub there : There page
    pub on_level : page.label.level ≡ level
    pub in_page : Contains page.cells cell

  -- the key stands on the level
  pub record HasKey (level : ℕ) (key : List ℕ) : Type 0 where
    pub cell : Cell
    pub key_is : cell.key ≡ key
    pub has : HasCell level cell

  -- the run before this one in its group is there, is full, and has smaller keys
  pub record FollowsFull (page : Page) : Type 0 where
    pub before : Page
    pub there : There before
    pub same_level : before.label.level ≡ page.label.level
    pub same_lead : before.label.lead ≡ page.label.lead
    pub index_is : before.label.index + 1 ≡ page.label.index
    pub full : length before.cells ≡ page_room page.label.level
    pub smaller : KeysRise before.cells page.cells

  -- what the key above or the start gives a group its place by
  abbrev pub IsLed : ℕ → Lead → Type 0
  IsLed level Start = Unit {0}
  IsLed level (Leader key) = HasKey (level + 1) key
