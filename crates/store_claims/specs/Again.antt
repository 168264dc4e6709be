-- What a dump and a load of it leave.
use Rattle.std.specs.Prelude.{◌≡◌, ◌⊎◌}
use Rattle.store_model.specs.Parameters.{Parameters}
use Rattle.store_model.specs.Trees.{Tree}
use Rattle.store_base.specs.Counts.{Rose}
use Rattle.image_subcommands.specs.declared.status.Status.TheVariants as statuses
use Rattle.image_subcommands.specs.Statuses.{IsDone}
use Rattle.store_claims.specs.Machines.{Disk, HasImage, bytes_of, meaning}
use Rattle.store_claims.specs.declared.again.Copied.{Copied}

-- no call of the load's disk and source failed; its source is new
pub record SparesLoad (empty : Disk) (copied : Copied) : Type 0 where
  pub disk_spared : Rose (meaning empty).faults (meaning copied.load.disk).faults → ⊥
  pub source_spared : copied.load.source.faults ≡ 0

-- An image of the tree was dumped, and what was put out was loaded into an empty one of the same parameters.
pub record CopiesImage (t : Tree) (p : Parameters) (empty : Disk) (copied : Copied) : Type 0 where
  pub image : copied.dump.status ≡ statuses.Done → IsDone copied.load.status → HasImage copied.load.disk t p
  pub same : copied.dump.status ≡ statuses.Done → IsDone copied.load.status
      → bytes_of copied.load.disk ≡ bytes_of copied.dump.disk
  -- a whole dump is loaded where neither the disk nor the source of the load failed and memory was there: no dump is
  -- too long
  pub complete : copied.dump.status ≡ statuses.Done → SparesLoad empty copied
      → IsDone copied.load.status ⊎ (copied.load.status ≡ statuses.NoMemory)
