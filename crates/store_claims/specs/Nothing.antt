-- What is done on bytes that are the image of no tree.
use Rattle.std.specs.Prelude.{◌≡◌, ◌⊎◌, ℕ, List}
use Rattle.store_model.specs.Parameters.{Parameters}
use Rattle.store_model.specs.Trees.{Tree}
use Rattle.store_model.specs.Images.{Represents}
use Rattle.gate_journal.specs.Disks.{IsOnlySynced}
use Rattle.gate_journal.specs.Headers.{IsImageWith}
use Rattle.script_lines.specs.Memory.{SourceMemory, SinkMemory}
use Rattle.image_subcommands.specs.declared.status.Status.TheVariants as statuses
use Rattle.image_subcommands.specs.Statuses.{IsRefusedImage, MayComeFirst}
use Rattle.store_claims.specs.Machines.{Disk, Ended, MayLeave, MightHaveLeft, bytes_of, meaning}

-- the bytes are the image of no tree
abbrev pub HasNoTree : List ℕ → Type 0
HasNoTree bytes = (t : Tree) (p : Parameters) → Represents bytes t p → ⊥

-- The call did nothing: it carried out nothing, took nothing and wrote nothing, neither to the sink nor to the disk.
pub record DoesNothing (disk : Disk) (source : SourceMemory) (sink : SinkMemory) (after : Ended) : Type 0 where
  pub none_done : after.done ≡ 0
  pub nothing_taken : after.source ≡ source
  pub nothing_put : after.sink ≡ sink
  -- one sync was made at most
  pub nothing_written : IsOnlySynced (meaning disk) (meaning after.disk)
  -- what a crash at some moment of the call may leave, one before it might have left
  pub crash : (image : List ℕ) → MightHaveLeft (meaning disk).clock after.disk image → MayLeave disk image
  -- it ends with 7 where no header names parameters of that length, and with 8 where one does, or before that with 5
  -- or 9
  pub no_image : ((p : Parameters) → IsImageWith (bytes_of disk) p → ⊥)
      → (after.status ≡ statuses.NotImage) ⊎ MayComeFirst after.status
  pub damaged : (p : Parameters) → IsImageWith (bytes_of disk) p
      → (after.status ≡ statuses.Damaged) ⊎ MayComeFirst after.status
  -- and in no other way, each only where this holds
  pub ends : IsRefusedImage after.status ⊎ MayComeFirst after.status
  pub seven : after.status ≡ statuses.NotImage → (p : Parameters) → IsImageWith (bytes_of disk) p → ⊥
  pub eight : after.status ≡ statuses.Damaged → (p : Parameters) × IsImageWith (bytes_of disk) p
