-- What slots mean at one moment, and what a call on them does.
use Rattle.std.specs.Prelude.{◌≡◌, ⊤, ℕ, ◌+◌, ◌*◌, ◌<◌, ◌≤◌, Bool, IsTrue, List, length, Some, Result}
use Rattle.std.specs.Prelude.{OnOk, OnErr, IfOk, IfErr, slice_get, slice_set}
use Rattle.store_model.specs.Parameters.{block_len}
use Rattle.store_model.specs.Images.{bytes_at}
use Rattle.store_base.specs.declared.store_fault.Fault.{Fault}
use Rattle.store_base.specs.declared.store_fault.Fault.TheVariants.{Disk, NoMemory}
use Rattle.store_base.specs.Faults.{disk_faults_after}

-- Slots at one moment. Only where they are observable does the list of slots mean anything.
pub record SlotsState : Type 0 where
  -- how many slots there are
  pub count : ℕ
  -- whether they tell their bytes
  pub is_observable : Bool
  -- the slots in order, each as its 4,096 bytes
  pub slots : List (List ℕ)
  -- how many calls failed, up to the last value of a u64, at which the count stays
  pub faults : ℕ
  -- whether calls take no memory
  pub takes_none : Bool

-- the slots tell their bytes
abbrev pub IsObservable : SlotsState → Type 0
IsObservable state = IsTrue state.is_observable

-- calls on the slots take no memory
abbrev pub TakesNone : SlotsState → Type 0
TakesNone state = IsTrue state.takes_none

-- there are so many slots
abbrev pub IsCounted : SlotsState → Type 0
IsCounted state = length state.slots ≡ state.count

-- each slot has the bytes of a block
abbrev pub AreWhole : List (List ℕ) → Type 0
AreWhole slots = (i : ℕ) (slot : List ℕ) → slice_get slots i ≡ Some slot → length slot ≡ block_len

-- What a fault tells: want of memory, that calls may take memory. A fault of the disk shows in the count of faults.
abbrev pub HasCause : SlotsState → Fault → Type 0
HasCause old Disk = ⊤
HasCause old NoMemory = ¬ TakesNone old

-- What a call on slots ensures of all slots, whether or not they tell their bytes. It holds of several calls too,
-- where the first fault ends them. The count of faults is the same after Ok and after want of memory, and one more
-- after a fault of the disk.
pub record AreSlotCalls {T : Type 0} (old new : SlotsState) (result : Result T Fault) : Type 0 where
  pub count : new.count ≡ old.count
  pub observable : new.is_observable ≡ old.is_observable
  pub takes_none : new.takes_none ≡ old.takes_none
  pub faults : new.faults ≡ disk_faults_after old.faults result
  pub cause : IfErr result (HasCause old)

-- what a read of a slot into a buffer does to slots that tell their bytes
pub record GetsSlot {T : Type 0} (old new : SlotsState) (at : ℕ) (buffer : List ℕ)
    (result : Result T Fault) : Type 0 where
  pub got : OnOk result (slice_get old.slots at ≡ Some buffer)
  pub slots : new.slots ≡ old.slots

-- what a write of a slot does to slots that tell their bytes; one that fails changes nothing
pub record SetsSlot {T : Type 0} (old new : SlotsState) (at : ℕ) (slot : List ℕ)
    (result : Result T Fault) : Type 0 where
  pub written : OnOk result (new.slots ≡ slice_set old.slots at slot)
  pub unchanged : OnErr result (new.slots ≡ old.slots)

-- a read of the slot at this place into a buffer, which then holds its bytes
pub record IsGet {T : Type 0} (old new : SlotsState) (at : ℕ) (buffer : List ℕ) (result : Result T Fault) : Type 0 where
  pub calls : AreSlotCalls old new result
  pub observed : IsObservable old → GetsSlot old new at buffer result

-- the slots from a place on that fill so many first blocks of the buffer
abbrev pub HoldsSlots : List (List ℕ) → ℕ → List ℕ → ℕ → Type 0
HoldsSlots slots at buffer count =
    (i : ℕ) → i < count → slice_get slots (at + i) ≡ Some (bytes_at buffer (block_len * i) block_len)

-- what a read of some slots into a buffer does to slots that tell their bytes
pub record GetsSome (old new : SlotsState) (at : ℕ) (buffer : List ℕ) (result : Result ℕ Fault) : Type 0 where
  pub got : IfOk result (HoldsSlots old.slots at buffer)
  pub slots : new.slots ≡ old.slots

-- a read of slots, from one at this place on, into a buffer: how many is told, and there is room for them
pub record IsGetSome (old new : SlotsState) (at : ℕ) (buffer : List ℕ) (result : Result ℕ Fault) : Type 0 where
  pub calls : AreSlotCalls old new result
  pub some : IfOk result (λ count. 1 ≤ count)
  pub room : IfOk result (λ count. block_len * count ≤ length buffer)
  pub observed : IsObservable old → GetsSome old new at buffer result

-- a write of these bytes to the slot at this place
pub record IsSet {T : Type 0} (old new : SlotsState) (at : ℕ) (slot : List ℕ) (result : Result T Fault) : Type 0 where
  pub calls : AreSlotCalls old new result
  pub observed : IsObservable old → SetsSlot old new at slot result
