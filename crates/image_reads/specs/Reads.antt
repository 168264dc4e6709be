-- What is read of an image, and into what.
use Rattle.std.specs.Prelude.{◌⊎◌, ◌≡◌, ◌++◌, Result, OnOk, OnErr, IfOk, IfErr}
use Rattle.store_base.specs.Counts.{Rose}
use Rattle.store_model.specs.Parameters.{Parameters}
use Rattle.store_model.specs.Paths.{Path}
use Rattle.store_model.specs.Trees.{Tree, contents}
use Rattle.store_model.specs.Images.{Represents}
use Rattle.disk_model.specs.DiskState.{DiskState, IsObservable}
use Rattle.script_lines.specs.SinkState.{SinkState, AppendsPrefix}
use Rattle.script_lines.specs.SinkState as sinks
use Rattle.image_check.specs.Verdicts.{IsNoImage, IsDamaged}
use Rattle.image_reads.specs.declared.fault.ReadFault.{ReadFault}
use Rattle.image_reads.specs.declared.fault.ReadFault.TheVariants as reads
use Rattle.image_reads.specs.declared.found.FileFound.{FileFound}
use Rattle.image_reads.specs.Faults.{output_faults}
use Rattle.image_reads.specs.Founds.{found_at}

-- The disk has the image of a tree, recovered or not, and this is so of the tree.
pub record HasTreeWith (disk : DiskState) (IsSo : Tree → Type 0) : Type 0 where
  pub tree : Tree
  pub params : Parameters
  pub represents : Represents disk.bytes tree params
  pub is_so : IsSo tree

-- A disk was not read to its end, for this reason: what is said of the disk is so. Where it is blamed, a call of it
-- failed; and one that tells its bytes never changes while it is read.
pub record IsUnread (old new : DiskState) (fault : ReadFault) : Type 0 where
  pub not_image : fault ≡ reads.NotImage → IsNoImage old
  pub damaged : fault ≡ reads.Damaged → IsDamaged old
  pub failed : IsObservable old → fault ≡ reads.Disk → Rose old.faults new.faults
  pub changed : fault ≡ reads.Changed → IsObservable old → ⊥

-- the disk was not opened
abbrev pub IsUnopened : ReadFault → Type 0
IsUnopened fault = (fault ≡ reads.NotImage) ⊎ (fault ≡ reads.Damaged)

-- The sink got just the bytes of the file that a tree has at a path, and none where no file stands there or a link; and
-- this is what stands there.
pub record IsFileRead (path : Path) (old new : SinkState) (found : FileFound) (t : Tree) : Type 0 where
  pub found_is : found ≡ found_at t path
  pub written : sinks.IsObservable old → new.written ≡ old.written ++ contents t path

-- A file of a disk's image was read into a sink. A call of the sink failed exactly where the sink is blamed,
-- and what was not opened leaves it as it was. Where the read was cut off, a prefix of the file's bytes was put.
pub record ReadsFile (path : Path) (disk : DiskState) (old new : SinkState)
    (result : Result FileFound ReadFault) : Type 0 where
  pub faults : new.faults ≡ output_faults result old.faults
  pub observable : OnOk result (new.is_observable ≡ old.is_observable)
  pub untouched : IfErr result (λ fault. IsUnopened fault → new ≡ old)
  pub read : IsObservable disk → IfOk result (λ found. HasTreeWith disk (IsFileRead path old new found))
  pub cut_off : IsObservable disk → sinks.IsObservable old
      → OnErr result ((new ≡ old) ⊎ HasTreeWith disk (λ t. AppendsPrefix old.written new.written (contents t path)))
