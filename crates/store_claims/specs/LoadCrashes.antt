-- What a crash of a load leaves to the next run.
use Rattle.std.specs.Prelude.{◌≡◌, ◌⊎◌, ℕ, List}
use Rattle.store_model.specs.Parameters.{Parameters}
use Rattle.store_model.specs.Trees.{Tree, empty_tree}
use Rattle.disk_model.specs.Memory.{Memory, memory_state}
use Rattle.image_subcommands.specs.declared.status.Status.TheVariants as statuses
use Rattle.image_subcommands.specs.Statuses.{IsDone}
use Rattle.store_claims.specs.declared.crash.Crash.{Crash}
use Rattle.store_claims.specs.Crashes.{NeverFailed}
use Rattle.store_claims.specs.Machines.{HasImage, MayLeave, MightHaveLeft}

-- A load of a listing of the tree into an empty image was cut short, and a run of no line was made on this image,
-- which a crash left.
pub record LeavesAllOrNothing (t : Tree) (p : Parameters) (disk : Memory) (left : List ℕ) (crash : Crash) : Type 0 where
  -- where the run ended with 0
  pub either : MightHaveLeft (memory_state disk).clock crash.first.disk left → crash.next.status ≡ statuses.Done
      → HasImage crash.next.disk empty_tree p ⊎ HasImage crash.next.disk t p
  -- of an image that a crash after a load that was done may leave
  pub acknowledged : IsDone crash.first.status → MayLeave crash.first.disk left
      → crash.next.status ≡ statuses.Done → HasImage crash.next.disk t p
  -- and it ends so where no call of it failed and memory was there
  pub recovers : MightHaveLeft (memory_state disk).clock crash.first.disk left → NeverFailed crash.next
      → (crash.next.status ≡ statuses.Done) ⊎ (crash.next.status ≡ statuses.NoMemory)
