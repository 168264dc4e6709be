-- A disk some of whose calls fail on purpose, as its clauses see it.
use Rattle.std.specs.Prelude.{◌≡◌, ℕ, ◌==◌, ◌||◌, nat_le, Bool, List, Option, Some, None}
use Rattle.std.specs.List.{list_any}
use Rattle.disk_model.specs.declared.failing.FailingDisk.{FailingDisk}
use Rattle.disk_model.specs.DiskState.{DiskState}
use Rattle.disk_model.specs.DiskCalls.{raised}
use Rattle.disk_model.specs.Counted.{counted}

-- the disk below
abbrev pub inner : {D : Type 0} → FailingDisk D → D
inner failing = failing.disk

-- the number of the next call, from 0
abbrev pub call_number : {D : Type 0} → FailingDisk D → ℕ
call_number failing = failing.next

-- the calls that are to fail: those listed, and all from the first on, if there is a first
abbrev pub listed : {D : Type 0} → FailingDisk D → List ℕ
listed failing = failing.calls.items

abbrev pub first_of_all : {D : Type 0} → FailingDisk D → Option ℕ
first_of_all failing = failing.from

-- how many calls, writes and syncs failed here
abbrev pub faults_here : {D : Type 0} → FailingDisk D → ℕ
faults_here failing = failing.faults

abbrev pub writes_here : {D : Type 0} → FailingDisk D → ℕ
writes_here failing = failing.writes

abbrev pub syncs_here : {D : Type 0} → FailingDisk D → ℕ
syncs_here failing = failing.syncs

-- a call with this number is to fail
abbrev pub is_listed : List ℕ → Option ℕ → ℕ → Bool
is_listed calls None number = list_any (λ call. call == number) calls
is_listed calls (Some first) number = list_any (λ call. call == number) calls || nat_le first number

-- the next call is to fail
abbrev pub will_fail : {D : Type 0} → FailingDisk D → Bool
will_fail failing = is_listed (listed failing) (first_of_all failing) (call_number failing)

-- the same calls are to fail, and the next call has the next number
pub record CountsCall {D : Type 0} (old new : FailingDisk D) : Type 0 where
  pub listed : listed new ≡ listed old
  pub first_of_all : first_of_all new ≡ first_of_all old
  pub number : call_number new ≡ raised (call_number old)

-- the meaning of the disk below, with the calls that failed here counted too
abbrev pub failing_state : {D : Type 0} → (D → DiskState) → FailingDisk D → DiskState
failing_state state failing = counted (state failing.disk) failing.faults failing.writes failing.syncs
