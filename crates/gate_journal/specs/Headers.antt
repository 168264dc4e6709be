-- The parameters that the header of an image names, as it is read: those that recovery would leave.
use Rattle.std.specs.Prelude.{◌≡◌, ℕ, List, length, slice_set, Bool, if◌then◌else◌, Option, Some, Result, IfSome, IfOk}
use Rattle.store_model.specs.declared.version.Version.TheVariants.{Two}
use Rattle.store_model.specs.Parameters.{Parameters, IsParameters, image_len}
use Rattle.store_model.specs.Images.{version_byte, version_at, NamesParameters}
use Rattle.disk_model.specs.DiskState.{DiskState, IsObservable}
use Rattle.gate_journal.specs.Places.{AreCalls, ReadsOnly}

-- a header block as it is read, where the journal makes the image one of version 2 and where it does not
abbrev pub as_read : Bool → List ℕ → List ℕ
as_read marked block = if marked then slice_set block version_at (version_byte Two) else block

-- the image's header, as it is read, names these parameters, and the image has their length
pub record IsImageWith (image : List ℕ) (p : Parameters) : Type 0 where
  pub names : NamesParameters image p
  pub length_is : length image ≡ image_len p.slots

-- the disk has the length of an image with these parameters, and an observable one is such an image
pub record HasParameters (disk : DiskState) (p : Parameters) : Type 0 where
  pub in_range : IsParameters p
  pub size_is : disk.size ≡ image_len p.slots
  pub named : IsObservable disk → IsImageWith disk.bytes p

-- Reads of a disk's header: parameters are found exactly where the disk has their header, and nothing is written.
pub record ViewsHeader {E : Type 0} (old new : DiskState) (result : Result (Option Parameters) E) : Type 0 where
  pub calls : AreCalls old new result
  pub reads : IsObservable old → ReadsOnly old new
  pub found : IfOk result (λ found. IfSome found (HasParameters old))
  pub only : IsObservable old → (p : Parameters) → IsImageWith old.bytes p → IfOk result (λ found. found ≡ Some p)
