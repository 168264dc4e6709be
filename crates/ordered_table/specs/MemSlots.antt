-- Slots in memory, some of whose calls fail on purpose, as their clauses see them.
use Rattle.std.specs.Prelude.{◌≡◌, ◌↔◌, ℕ, ◌==◌, Bool, true, List, IsTrue, Result, IsErr, length}
use Rattle.std.specs.List.{list_any}
use Rattle.store_base.specs.Counts.{raised}
use Rattle.store_base.specs.declared.store_fault.Fault.{Fault}
use Rattle.store_base.specs.SlotsState.{SlotsState}
use Rattle.ordered_table.specs.declared.mem_slots.MemSlots.{MemSlots}

-- observable slots that take no memory
abbrev pub mem_state : MemSlots → SlotsState
mem_state s = record {
  count = length s.slots.items;
  is_observable = true;
  slots = s.slots.items;
  faults = s.faults;
  takes_none = true;
}

-- the number of the next call, from 0, and the calls that fail
abbrev pub call_number : MemSlots → ℕ
call_number s = s.calls

abbrev pub listed : MemSlots → List ℕ
listed s = s.failing.items

-- the next call is to fail
abbrev pub will_fail : MemSlots → Bool
will_fail s = list_any (λ call. call == call_number s) (listed s)

-- the same calls are to fail, and the next call has the next number
pub record CountsCall (old new : MemSlots) : Type 0 where
  pub listed : listed new ≡ listed old
  pub number : call_number new ≡ raised (call_number old)

-- a call fails where its number is listed, and nowhere else
abbrev pub FailsAsTold : {T : Type 0} → MemSlots → Result T Fault → Type 0
FailsAsTold old result = IsErr result ↔ IsTrue (will_fail old)
