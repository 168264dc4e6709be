-- Staged pages that are those of a tree.
use Rattle.std.specs.Prelude.{◌≡◌, ◌≤◌, ℕ, true, false, List}
use Rattle.store_model.specs.declared.version.Version.TheVariants.{Two}
use Rattle.store_model.specs.Parameters.{Parameters, with_version, image_len}
use Rattle.store_model.specs.Trees.{Tree, IsTree}
use Rattle.store_model.specs.Draws.{draw_of}
use Rattle.store_model.specs.Pairs.{Pair, pairs}
use Rattle.store_model.specs.Pages.{page_count, Fits, pages, IsTreeUnder}
use Rattle.store_model.specs.PageMaps.{map_of_pages}
use Rattle.disk_model.specs.DiskState.{DiskState, IsObservable}
use Rattle.seeded_draw.specs.declared.any.AnyDraw.{AnyDraw}
use Rattle.seeded_draw.specs.AnyDrawn.{any_draw}
use Rattle.skip_levels.specs.Descent.{HoldsPairs}
use Rattle.skip_levels.specs.ListState.{ListState}
use Rattle.page_store.specs.StagedState.{StagedState, IsTold, Follows, without_changes}
use Rattle.image_check.specs.Standing.{IsFitting, Stands}

-- The disk stands at the tree, the pages in its table are the tree's, and nothing else is staged.
pub record StagesTreePages {D : Type 0} (state : D → DiskState) (t : Tree) (p : Parameters)
    (s : StagedState D AnyDraw) : Type 0 where
  pub stands : Stands (state s.disk) t p
  pub table_is : s.table ≡ map_of_pages (pages t p)
  pub map_is : s.map ≡ map_of_pages (pages t p)

-- Staged pages in an image of these parameters; over an observable disk, and while they are not spent, they are the
-- tree's.
pub record AreAt {D : Type 0} (state : D → DiskState) (t : Tree) (p : Parameters)
    (s : StagedState D AnyDraw) : Type 0 where
  pub params : s.params ≡ p
  pub draw : any_draw s.draw ≡ draw_of p
  pub size_is : (state s.disk).size ≡ image_len p.slots
  pub held : IsObservable (state s.disk) → s.is_spent ≡ false → StagesTreePages state t p s

-- Over an observable disk that stands at the tree, with the tree's pages in its table, the pages of the next one are
-- staged, which fits where the slots have room for them.
pub record IsStagedFor {D : Type 0} (state : D → DiskState) (t next : Tree) (p : Parameters)
    (s : StagedState D AnyDraw) : Type 0 where
  pub fitting : IsFitting t p
  pub tree : IsTree next
  pub params : s.params ≡ p
  pub draw : any_draw s.draw ≡ draw_of p
  pub size_is : (state s.disk).size ≡ image_len p.slots
  pub stands : IsObservable (state s.disk) → Stands (state s.disk) t p
  pub table_is : IsObservable (state s.disk) → s.table ≡ map_of_pages (pages t p)
  pub fits : IsObservable (state s.disk) → page_count next p ≤ p.slots → Fits next p
  pub holds : IsObservable (state s.disk) → HoldsPairs (draw_of p) (pairs next p) s.map

-- Over an observable disk that stands at the tree, with the tree's pages in its table, those that it has under
-- version 2 are staged.
pub record IsUpgradeStaged {D : Type 0} (state : D → DiskState) (t : Tree) (p : Parameters)
    (s : StagedState D AnyDraw) : Type 0 where
  pub fitting : IsFitting t p
  pub params : s.params ≡ p
  pub draw : any_draw s.draw ≡ draw_of p
  pub size_is : (state s.disk).size ≡ image_len p.slots
  pub stands : IsObservable (state s.disk) → Stands (state s.disk) t p
  pub table_is : IsObservable (state s.disk) → s.table ≡ map_of_pages (pages t p)
  pub holds : IsObservable (state s.disk) → HoldsPairs (draw_of p) (pairs t (with_version p Two)) s.map

-- a list over staged pages
abbrev pub TreeList : Type 0 → Type 0
TreeList D = ListState (StagedState D AnyDraw) AnyDraw

-- The pages of a list are those of a tree, which fits, and it is under the draw of the parameters; where its disk tells
-- its bytes, it is whole.
pub record IsListAt {D : Type 0} (state : D → DiskState) (t : Tree) (p : Parameters) (list : TreeList D) : Type 0 where
  pub fitting : IsFitting t p
  pub pages : AreAt state t p list.pages
  pub draw : any_draw list.draw ≡ draw_of p
  pub whole : IsObservable (state list.pages.disk) → list.is_whole ≡ true

-- A list of a tree, however many pages that has, which are staged over those of another one in the table; where its
-- disk tells its bytes, it is whole.
pub record IsListOver {D : Type 0} (state : D → DiskState) (t next : Tree) (p : Parameters)
    (list : TreeList D) : Type 0 where
  pub under : IsTreeUnder next p
  pub staged : IsStagedFor state t next p list.pages
  pub draw : any_draw list.draw ≡ draw_of p
  pub whole : IsObservable (state list.pages.disk) → list.is_whole ≡ true

-- such a list of a tree that fits
pub record IsListFor {D : Type 0} (state : D → DiskState) (t next : Tree) (p : Parameters)
    (list : TreeList D) : Type 0 where
  pub fitting : IsFitting next p
  pub over : IsListOver state t next p list

-- the most pages that a tree may have in the middle of a group: four times as many as the largest table has slots
abbrev pub most_staged : ℕ
most_staged = 262144

-- such a list of a tree that has no more
pub record IsListWithin {D : Type 0} (state : D → DiskState) (t next : Tree) (p : Parameters)
    (list : TreeList D) : Type 0 where
  pub over : IsListOver state t next p list
  pub few : IsObservable (state list.pages.disk) → page_count next p ≤ most_staged

-- what every call keeps of a list over staged pages
abbrev pub FollowsList : {D : Type 0} → (D → DiskState) → TreeList D → TreeList D → Type 0
FollowsList state old new = Follows state old.pages new.pages × (new.draw ≡ old.draw)

-- a list goes on under its draw, and is whole again
pub record GoesOn {D : Type 0} (state : D → DiskState) (old new : TreeList D) : Type 0 where
  pub draw : new.draw ≡ old.draw
  pub whole : IsObservable (state new.pages.disk) → new.is_whole ≡ true

-- with what is staged taken back, the pages hold a list under the draw
abbrev pub HoldsTable : {D : Type 0} → (D → DiskState) → TreeList D → Type 0
HoldsTable state list = IsTold state (without_changes list.pages)
    → (s : List Pair) × HoldsPairs (any_draw list.draw) s list.pages.table
