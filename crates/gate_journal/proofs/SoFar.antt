-- How far a loop over calls has come.
use Rattle.std.specs.Prelude.{ℕ, List, Ok}
use Rattle.store_base.specs.declared.fault.DiskFault.{DiskFault}
use Rattle.disk_model.specs.DiskState.{DiskState, IsObservable}
use Rattle.gate_journal.specs.Places.{AreCalls, Keeps, Made, ReadsOnly}

-- A loop over the calls has come so far: calls that all answered Ok, the places that they kept, what the disk reads,
-- and the writes that were made.
pub record Comes (places : ℕ → Type 0) (Done : List ℕ → Type 0) (writes : ℕ) (old new : DiskState) : Type 0 where
  pub keeps : Keeps places old new
  pub done : Done new.bytes
  pub made : Made writes 0 old new

-- what a loop over calls keeps: no call has failed so far, and a disk that tells its bytes has come so far
abbrev pub ComesSoFar : (ℕ → Type 0) → (List ℕ → Type 0) → ℕ → DiskState → DiskState → Type 0
ComesSoFar places Done writes old new = record {
  calls : AreCalls {T = Unit {0}} {E = DiskFault} old new (Ok tt);
  comes : IsObservable old → Comes places Done writes old new;
}

-- What a loop over reads keeps: no call has failed so far, and a disk that tells its bytes was read only, and what
-- was read shows this of it.
abbrev pub ReadsSoFar : Type 0 → DiskState → DiskState → Type 0
ReadsSoFar Holds old new = record {
  calls : AreCalls {T = Unit {0}} {E = DiskFault} old new (Ok tt);
  reads : IsObservable old → ReadsOnly old new;
  holds : IsObservable old → Holds;
}
