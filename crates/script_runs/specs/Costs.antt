-- The writes and syncs of the lines of a run, and of a whole run.
use Rattle.std.specs.Prelude.{◌≡◌, ◌⊎◌, ℕ, zero, suc, ◌+◌}
use Rattle.store_model.specs.Parameters.{Parameters}
use Rattle.store_model.specs.Trees.{Tree}
use Rattle.disk_model.specs.DiskState.{DiskState}
use Rattle.gate_journal.specs.Disks.{IsOnlySynced}
use Rattle.gate_journal.specs.Places.{Made}
use Rattle.gate_journal.specs.Costs.{commit_writes, commit_syncs, opening_writes, opening_syncs, MadeAtMost}
use Rattle.staged_tree.specs.TableChanges.{slots_between}
use Rattle.image_subcommands.specs.declared.status.Status.{Status}
use Rattle.image_subcommands.specs.declared.status.Status.TheVariants as statuses
use Rattle.image_subcommands.specs.Statuses.{IsBetweenLines}

-- the writes of the first n lines of a run with these trees
abbrev pub run_writes : Parameters → (ℕ → Tree) → ℕ → ℕ
run_writes p trees zero = 0
run_writes p trees (suc n) = run_writes p trees n + commit_writes (slots_between p (trees n) (trees (n + 1)))

-- and their syncs
abbrev pub run_syncs : Parameters → (ℕ → Tree) → ℕ → ℕ
run_syncs p trees zero = 0
run_syncs p trees (suc n) = run_syncs p trees n + commit_syncs (slots_between p (trees n) (trees (n + 1)))

-- The lines that were carried out make just the writes and syncs of the commits of their changes. Where the disk failed
-- no more were made than with those of the line in progress.
pub record CountsLines (status : Status) (done : ℕ) (trees : ℕ → Tree) (p : Parameters)
    (old new : DiskState) : Type 0 where
  pub whole : (status ≡ statuses.DiskFault → ⊥) → Made (run_writes p trees done) (run_syncs p trees done) old new
  pub failed : status ≡ statuses.DiskFault
      → MadeAtMost (run_writes p trees (done + 1)) (run_syncs p trees (done + 1)) old new

-- The same of a whole run: no more than those and the ones of opening its image, and just as many where it ended
-- between two lines or after the last. For want of memory it made just as many too, or a sync at most.
pub record CountsRun (status : Status) (done : ℕ) (trees : ℕ → Tree) (p : Parameters)
    (old new : DiskState) : Type 0 where
  pub between : IsBetweenLines status
      → Made (opening_writes p.slots old.bytes + run_writes p trees done)
      (opening_syncs p.slots old.bytes + run_syncs p trees done) old new
  pub no_memory : status ≡ statuses.NoMemory
      → Made (opening_writes p.slots old.bytes + run_writes p trees done)
      (opening_syncs p.slots old.bytes + run_syncs p trees done) old new ⊎ IsOnlySynced old new
  pub limit : MadeAtMost (opening_writes p.slots old.bytes + run_writes p trees (done + 1))
      (opening_syncs p.slots old.bytes + run_syncs p trees (done + 1)) old new
