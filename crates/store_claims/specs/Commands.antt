-- What stands of the commands of a number, however `big` ended.
use Rattle.std.specs.Prelude.{◌≡◌, ◌⊎◌, ◌≤◌, ◌+◌, ℕ, List}
use Rattle.store_model.specs.Parameters.{Parameters}
use Rattle.store_model.specs.Trees.{Tree}
use Rattle.store_model.specs.Images.{Represents}
use Rattle.store_model.specs.Scripts.{replies_by}
use Rattle.script_lines.specs.Memory.{SourceMemory, SinkMemory}
use Rattle.script_lines.specs.SinkState.{AppendsPrefix}
use Rattle.image_subcommands.specs.declared.status.Status.TheVariants as statuses
use Rattle.image_subcommands.specs.Statuses.{Subcommand as words, IsEndOf, IsSummed}
use Rattle.staged_tree.specs.Groups.{step_under}
use Rattle.script_runs.specs.Generations.{first_commands, generated_trees}
use Rattle.store_claims.specs.BigRuns.{summary_of}
use Rattle.store_claims.specs.Machines.{Disk, Ended, HasImage, MightHaveLeft, NothingFailed, RepresentsSomeTree}
use Rattle.store_claims.specs.Machines.{bytes_of, meaning}
use Rattle.store_claims.specs.Refusals.{IsAtRest, IsUntouched}

-- `big` over an image of the tree t, of which `done` commands were carried out.
pub record KeepsCommands (number count : ℕ) (t : Tree) (p : Parameters) (disk : Disk) (source : SourceMemory)
    (sink : SinkMemory) (after : Ended) : Type 0 where
  -- it ends with 0, 4, 5 or 9
  pub ends : IsEndOf words.Big after.status
  -- with 0 and 4 all commands were carried out, the image is that of the tree after them, and a crash leaves just that
  pub all_done : IsSummed after.status → after.done ≡ count
  pub image : IsSummed after.status → HasImage after.disk (generated_trees t number count p after.done) p
  pub done_limit : after.done ≤ count
  -- with 5 the bytes are an image of the tree after those that were carried out, or of the one after the next; with 9
  -- it is the image of the tree after those, or none was carried out and the bytes represent the tree from before
  pub disk_fault : after.status ≡ statuses.DiskFault
      → Represents (bytes_of after.disk) (generated_trees t number count p after.done) p
      ⊎ Represents (bytes_of after.disk) (generated_trees t number count p (after.done + 1)) p
  pub no_memory : after.status ≡ statuses.NoMemory → HasImage after.disk (generated_trees t number count p after.done) p
      ⊎ ((after.done ≡ 0) × Represents (bytes_of after.disk) t p)
  -- what a crash at some moment may leave, and at the return
  pub any_moment : (image : List ℕ) → MightHaveLeft (meaning disk).clock after.disk image
      → RepresentsSomeTree (after.done + 1) (generated_trees t number count p) p image
  -- nothing is taken; with 4 a front of the summary is printed, none or all of it too, and with 5 and 9 nothing
  pub nothing_taken : after.source ≡ source
  pub in_part : after.status ≡ statuses.SinkFault
      → AppendsPrefix sink.written after.sink.written
      (summary_of (replies_by (step_under p) t (first_commands number count))
      (generated_trees t number count p count) p (bytes_of after.disk))
  pub nothing_put : (IsSummed after.status → ⊥) → after.sink ≡ sink
  -- it is done where no call failed and memory was there
  pub complete : NothingFailed disk source sink after
      → (after.status ≡ statuses.Done) ⊎ (after.status ≡ statuses.NoMemory)
  -- commands that change nothing write nothing, unless the disk fails
  pub untouched : IsAtRest (bytes_of disk) t p → ((k : ℕ) → k ≤ after.done → generated_trees t number count p k ≡ t)
      → (after.status ≡ statuses.DiskFault → ⊥) → IsUntouched disk after.disk
