-- How many writes and syncs a call makes.
use Rattle.std.specs.Prelude.{ℕ}
use Rattle.disk_model.specs.DiskState.{DiskState}
use Rattle.gate_journal.specs.Costs.{MadeAtMost}
use Rattle.gate_journal.specs.Places.{Made}

-- just so many writes and syncs were made where this holds, and in no case more, as far as the counts go
pub record Costs (writes syncs : ℕ) (Holds : Type 0) (old new : DiskState) : Type 0 where
  pub just : Holds → Made writes syncs old new
  pub limit : MadeAtMost writes syncs old new
