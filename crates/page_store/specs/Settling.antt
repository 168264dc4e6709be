-- What a settle does.
use Rattle.std.specs.Prelude.{◌≡◌, ◌⊎◌, ℕ, ◌<◌, List, Bool, true, false, Result, Ok, Err, OnOk, OnErr, IsErrOf}
use Rattle.std.specs.FinMap as maps
use Rattle.store_model.specs.Parameters.{Parameters}
use Rattle.store_model.specs.Draws.{Draw}
use Rattle.store_model.specs.PageMaps.{PageMap, HoldsPages}
use Rattle.store_base.specs.Counts.{faults_after}
use Rattle.disk_model.specs.DiskState.{DiskState, IsObservable}
use Rattle.disk_model.specs.DiskCalls.{Rose, LeavesOnly}
use Rattle.gate_journal.specs.Changes.{Changes, with_slots}
use Rattle.gate_journal.specs.Costs.{CountsCommit}
use Rattle.gate_journal.specs.Places.{ReadsOnly}
use Rattle.gate_journal.specs.Disks.{KeepsDisk}
use Rattle.page_store.specs.declared.commit_kind.CommitKind.{CommitKind}
use Rattle.page_store.specs.declared.commit_kind.CommitKind.TheVariants.{Plain, Upgrade}
use Rattle.page_store.specs.declared.fault.SettleFault.{SettleFault}
use Rattle.page_store.specs.declared.fault.SettleFault.TheVariants as causes
use Rattle.page_store.specs.CommitKinds.{params_by, params_after, LeavesPages, CountsBy}
use Rattle.page_store.specs.Faults.{settle_faults_after}
use Rattle.page_store.specs.PageImages.{table_slots, SlotStandsAt, RepresentsPages, slots_between}
use Rattle.page_store.specs.StagedState.{StagedState}

-- more pages than slots, and how many of both
pub record IsTooMany (d : Draw) (m : PageMap) (need slots : ℕ) : Type 0 where
  pub need_is : need ≡ maps.len m
  pub slots_are : slots ≡ d.slots
  pub more : slots < need

-- `Full` tells the numbers, and comes where the pages are more than the slots; no other answer does
abbrev pub AnswersFull : {T : Type 0} → Draw → PageMap → Result T SettleFault → Type 0
AnswersFull d m (Ok value) = d.slots < maps.len m → ⊥
AnswersFull d m (Err (causes.Full need slots)) = IsTooMany d m need slots
AnswersFull d m (Err causes.Disk) = d.slots < maps.len m → ⊥
AnswersFull d m (Err causes.NoMemory) = d.slots < maps.len m → ⊥

-- What a settle that ends with a commit of this kind does to an observable disk that stands at the one map, where the
-- pages are those of the other.
pub record SettlesDiskBy {T : Type 0} (kind : CommitKind) (d : Draw) (p : Parameters) (table map : PageMap)
    (old new : DiskState) (is_spent : Bool) (result : Result T SettleFault) : Type 0 where
  pub full : AnswersFull d map result
  pub stands : OnOk result (SlotStandsAt d (params_by kind p) map new)
  -- a crash at any moment of the call leaves an image of the one map or of the other, and the disk reads one
  pub crash : LeavesOnly old new (λ image. RepresentsPages d p table image
      ⊎ RepresentsPages d (params_by kind p) map image)
  pub reads : RepresentsPages d p table new.bytes ⊎ RepresentsPages d (params_by kind p) map new.bytes
  -- where the commit leaves the image, and where the settle is refused before the first write, the disk was only read
  pub still : LeavesPages kind table map → ReadsOnly old new
  pub no_memory : IsErrOf result causes.NoMemory → ReadsOnly old new
  pub too_many : (need slots : ℕ) → IsErrOf result (causes.Full need slots) → ReadsOnly old new
  -- the slots that differ are committed, and no others
  pub counts : CountsBy kind (slots_between d table map) old new result
  -- only a fault at a write or a sync, or after one, spends the value, and any other fault leaves the disk as it was
  pub spends : is_spent ≡ true → IsErrOf result causes.Disk × (Rose old.writes new.writes ⊎ Rose old.syncs new.syncs)
  pub goes_on : is_spent ≡ false → IsErrOf result causes.Disk → ReadsOnly old new

-- The pages of a value that is not spent are settled, with a commit of this kind at the end.
pub record SettlesBy {D W T : Type 0} (kind : CommitKind) (state : D → DiskState) (drawn : W → Draw)
    (old new : StagedState D W) (result : Result T SettleFault) : Type 0 where
  pub params : new.params ≡ params_after kind old.params result
  pub draw : new.draw ≡ old.draw
  pub lookups : new.lookups ≡ old.lookups
  pub kept : KeepsDisk (state old.disk) (state new.disk)
  pub faults : (state new.disk).faults ≡ settle_faults_after (state old.disk).faults result
  -- only a fault of the disk spends it
  pub runs : (result ≡ Err causes.Disk → ⊥) → new.is_spent ≡ false
  -- the pages stay, and after Ok the table has them
  pub map : IsObservable (state old.disk) → new.is_spent ≡ false → new.map ≡ old.map
  pub table : IsObservable (state old.disk) → OnOk result (new.table ≡ old.map)
  pub table_stays : IsObservable (state old.disk) → new.is_spent ≡ false → OnErr result (new.table ≡ old.table)
  pub observed : IsObservable (state old.disk)
      → SettlesDiskBy kind (drawn old.draw) old.params old.table old.map (state old.disk)
      (state new.disk) new.is_spent result

-- What a settle does to an observable disk that stands at the one map, where the pages are those of the other: its
-- parameters stay, and where no page changed it is only read.
abbrev pub SettlesDisk : {T : Type 0} → Draw → Parameters → PageMap → PageMap → DiskState → DiskState → Bool
    → Result T SettleFault → Type 0
SettlesDisk d p table map old new is_spent result = SettlesDiskBy Plain d p table map old new is_spent result

-- The pages of a value that is not spent are settled.
abbrev pub Settles : {D W T : Type 0} → (D → DiskState) → (W → Draw) → StagedState D W → StagedState D W
    → Result T SettleFault → Type 0
Settles state drawn old new result = SettlesBy Plain state drawn old new result

-- They are settled, and the image is one of version 2 with them: after Ok the parameters are those of before under
-- version 2, and that is written where no page changed too.
abbrev pub SettlesUpgrade : {D W T : Type 0} → (D → DiskState) → (W → Draw) → StagedState D W → StagedState D W
    → Result T SettleFault → Type 0
SettlesUpgrade state drawn old new result = SettlesBy Upgrade state drawn old new result

-- ---- slots

-- Changed slots lead the table of an image to the placement of a map of so many pages.
pub record LeadsTo (d : Draw) (p : Parameters) (changes : Changes) (image : List ℕ) (m : PageMap)
    (pages : ℕ) : Type 0 where
  pub holds : HoldsPages d (table_slots p.slots (with_slots p.slots changes image)) m
  pub count : pages ≡ maps.len m

-- What a settle of so many slots does to an observable disk that stands at the one map, where they lead to the other.
pub record SettlesSlotsTo {T E : Type 0} (d : Draw) (p : Parameters) (table map : PageMap) (count : ℕ)
    (old new : DiskState) (result : Result T E) : Type 0 where
  pub stands : OnOk result (SlotStandsAt d p map new)
  -- a crash at any moment of the call leaves an image of the one map or of the other, and the disk reads one
  pub crash : LeavesOnly old new (λ image. RepresentsPages d p table image ⊎ RepresentsPages d p map image)
  pub reads : RepresentsPages d p table new.bytes ⊎ RepresentsPages d p map new.bytes
  -- these slots are committed, and no others; where there are none the disk is as it was
  pub still : count ≡ 0 → ReadsOnly old new
  pub counts : CountsCommit count old new result
  -- a fault came at a write, or after one
  pub wrote : OnErr result (Rose old.writes new.writes)

-- These slots are settled, of which nothing is staged.
pub record SettlesSlots {D W T E : Type 0} (state : D → DiskState) (drawn : W → Draw) (changes : Changes) (pages : ℕ)
    (old new : StagedState D W) (result : Result T E) : Type 0 where
  pub params : new.params ≡ old.params
  pub draw : new.draw ≡ old.draw
  pub lookups : new.lookups ≡ old.lookups
  pub kept : KeepsDisk (state old.disk) (state new.disk)
  pub faults : (state new.disk).faults ≡ faults_after (state old.disk).faults result
  -- a fault spends the value, and nothing else does
  pub runs : OnOk result (new.is_spent ≡ false)
  pub spends : OnErr result (new.is_spent ≡ true)
  -- after Ok the table has the pages to which the slots lead, and nothing is staged
  pub table : IsObservable (state old.disk) → (m : PageMap)
      → LeadsTo (drawn old.draw) old.params changes (state old.disk).bytes m pages → OnOk result (new.table ≡ m)
  pub none_staged : OnOk result (new.map ≡ new.table)
  pub observed : IsObservable (state old.disk) → (m : PageMap)
      → LeadsTo (drawn old.draw) old.params changes (state old.disk).bytes m pages
      → SettlesSlotsTo (drawn old.draw) old.params old.table m changes.count (state old.disk) (state new.disk) result
