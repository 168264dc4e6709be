-- Staged pages, seen as one record, and what every call of `Pages` on them keeps.
use Rattle.std.specs.Prelude.{◌≡◌, ℕ, Bool, false, List, []}
use Rattle.std.proofs.Common.{refl, ◌∙◌}
use Rattle.std.specs.FinMap as maps
use Rattle.store_model.specs.Parameters.{Parameters}
use Rattle.store_model.specs.Draws.{Draw}
use Rattle.store_model.specs.PageMaps.{PageMap, IsPageMap}
use Rattle.disk_model.specs.DiskState.{DiskState, IsObservable, IsSound}
use Rattle.gate_journal.specs.ViewState.{KeepsView, KeepsView-refl, KeepsView-trans}
use Rattle.node_pages.specs.PagesState.{PagesState}
use Rattle.table_memory.specs.Memos.{Remembered, IsKnown}
use Rattle.table_memory.specs.OverlayState.{overlaid}
use Rattle.page_store.specs.PageImages.{table_slots, pages_in_table, SlotStandsAt}
use Rattle.table_memory.specs.Staging.{StagedPages, with_changes}

-- Staged pages at one moment: what the image is made with, its draw, the pages now, those in the table, what is staged,
-- what is remembered of the table, the disk, whether the value is spent, and how many pages were asked for. Where the
-- disk is not observable, and of a value that is spent, the maps mean nothing.
pub record StagedState (D W : Type 0) : Type 0 where
  pub params : Parameters
  pub draw : W
  pub map : PageMap
  pub table : PageMap
  pub staged : StagedPages
  pub memo : Remembered
  pub disk : D
  pub is_spent : Bool
  pub lookups : ℕ

-- the record of a value with these changes over its disk
abbrev pub staged_state : {D W : Type 0} → (D → DiskState) → Parameters → W → D → StagedPages → Remembered → ℕ
    → Bool → StagedState D W
staged_state state p draw disk changes memo lookups is_spent = record {
  params = p;
  draw = draw;
  map = with_changes (pages_in_table p.slots (state disk).bytes) changes;
  table = pages_in_table p.slots (state disk).bytes;
  staged = changes;
  memo = memo;
  disk = disk;
  is_spent = is_spent;
  lookups = lookups;
}

-- the pages once all changes were taken back: those of the table
abbrev pub without_changes : {D W : Type 0} → StagedState D W → StagedState D W
without_changes s = record s { map = s.table; staged = [] }

-- an observable disk stands at the pages in its table, with the changes they are pages under their labels, and both
-- are counted
pub record CountsPages (d : Draw) (p : Parameters) (disk : DiskState) (touched : List (ℕ × List ℕ))
    (changes : StagedPages) (used settled : ℕ) : Type 0 where
  pub stands : SlotStandsAt d p (pages_in_table p.slots disk.bytes) disk
  pub valid : IsPageMap (with_changes (pages_in_table p.slots disk.bytes) changes)
  pub used_is : used ≡ maps.len (with_changes (pages_in_table p.slots disk.bytes) changes)
  -- over the disk no slot has other bytes than in its table
  pub untouched : (overlaid p.slots touched disk).slots ≡ table_slots p.slots disk.bytes
  pub settled_is : settled ≡ maps.len (pages_in_table p.slots disk.bytes)

-- what a value keeps
pub record IsStaged (d : Draw) (p : Parameters) (disk : DiskState) (touched : List (ℕ × List ℕ)) (changes : StagedPages)
    (used settled : ℕ) (is_spent : Bool) : Type 0 where
  pub drawn : d.slots ≡ p.slots
  pub counted : IsObservable disk → is_spent ≡ false → CountsPages d p disk touched changes used settled

-- the maps mean something
pub record IsTold {D W : Type 0} (state : D → DiskState) (s : StagedState D W) : Type 0 where
  pub disk : IsObservable (state s.disk)
  pub runs : s.is_spent ≡ false
  pub valid : IsPageMap s.map

-- as a store of pages
abbrev pub pages_state : {D W : Type 0} → (D → DiskState) → StagedState D W → PagesState
pages_state state s = record {
  is_observable = IsTold state s;
  pages = s.map;
  faults = (state s.disk).faults;
  lookups = s.lookups;
  at_hand = IsKnown s.staged s.memo;
}

-- Calls that stage changes write nothing: the disk is read only, and its table is as it was.
pub record Follows {D W : Type 0} (state : D → DiskState) (old new : StagedState D W) : Type 0 where
  pub disk : KeepsView old.params new.params (state old.disk) (state new.disk)
  pub draw : new.draw ≡ old.draw
  pub runs : new.is_spent ≡ old.is_spent
  pub table : IsObservable (state old.disk) → new.table ≡ old.table

pub Follows-refl : {D W : Type 0} (state : D → DiskState) (s : StagedState D W)
    → (IsObservable (state s.disk) → IsSound (state s.disk)) → Follows state s s
Follows-refl state s sound = record {
  disk = KeepsView-refl s.params (state s.disk) sound;
  draw = refl;
  runs = refl;
  table = λ observable. refl;
}

pub Follows-trans : {D W : Type 0} (state : D → DiskState) (old mid new : StagedState D W) → Follows state old mid
    → Follows state mid new → Follows state old new
Follows-trans state old mid new first then = record {
  disk = KeepsView-trans old.params mid.params new.params (state old.disk) (state mid.disk)
      (state new.disk) first.disk then.disk;
  draw = then.draw ∙ first.draw;
  runs = then.runs ∙ first.runs;
  table = λ observable. then.table (first.disk.observable ∙ observable) ∙ first.table observable;
}
