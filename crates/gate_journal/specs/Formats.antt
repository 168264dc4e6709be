-- What formatting makes of a disk that is no image.
use Rattle.std.specs.Prelude.{◌≡◌, ◌⊎◌, ℕ, ◌-◌, ◌<◌, ◌≤◌, List, slice_index, Result, Ok, Err, OnOk}
use Rattle.store_model.specs.Parameters.{block_len, gate_at, Parameters, IsParameters, image_len}
use Rattle.store_model.specs.Trees.{empty_tree}
use Rattle.store_model.specs.Images.{header, viewed_header, layout}
use Rattle.disk_model.specs.DiskState.{DiskState, IsDurable}
use Rattle.disk_model.specs.DiskCalls.{raised}
use Rattle.gate_journal.specs.declared.fault.JournalFault.{JournalFault}
use Rattle.gate_journal.specs.declared.fault.JournalFault.TheVariants.{Disk, AlreadyImage, WrongLength}
use Rattle.gate_journal.specs.Places.{IsZeroAt}

-- the image's header, as it is read, is that of no parameters, whatever their length; so it is no image
abbrev pub NamesNoParameters : List ℕ → Type 0
NamesNoParameters image = (p : Parameters) → IsParameters p → viewed_header p.slots image ≡ header p → ⊥

-- the image of the empty tree, or no image
abbrev pub IsEmptyOrNone : Parameters → List ℕ → Type 0
IsEmptyOrNone p image = NamesNoParameters image ⊎ (image ≡ layout empty_tree p)

-- every byte but the first is that of the image of the empty tree
pub record HasEmptyRest (p : Parameters) (image : List ℕ) : Type 0 where
  pub header_is : (place : ℕ) → 1 ≤ place → place < block_len → slice_index image place ≡ slice_index (header p) place
  pub rest_is : IsZeroAt gate_at (image_len p.slots - block_len) image

-- where a format answers Ok the disk is durable and reads the image of the empty tree
pub record Formats {T E : Type 0} (p : Parameters) (new : DiskState) (result : Result T E) : Type 0 where
  pub durable : OnOk result (IsDurable new)
  pub done : OnOk result (new.bytes ≡ layout empty_tree p)

-- the count of failed calls after a format: a fault of the disk raises it by one, and nothing else does
abbrev pub faults_after_format : {T : Type 0} → ℕ → Result T JournalFault → ℕ
faults_after_format count (Ok value) = count
faults_after_format count (Err Disk) = raised count
faults_after_format count (Err AlreadyImage) = count
faults_after_format count (Err WrongLength) = count
