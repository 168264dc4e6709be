-- What the faults of writing a tree mean, and from which disks it begins.
use Rattle.std.specs.Prelude.{◌≢◌, slice_index, Result, Ok, Err}
use Rattle.store_model.specs.Images.{first_byte}
use Rattle.disk_model.specs.DiskState.{DiskState, IsObservable}
use Rattle.image_writer.specs.declared.fault.WriteFault.{WriteFault}
use Rattle.image_writer.specs.declared.fault.WriteFault.TheVariants as writes
use Rattle.tree_writer.specs.declared.fault.TreeFault.{TreeFault}
use Rattle.tree_writer.specs.declared.fault.TreeFault.TheVariants as trees

-- the fault of writing an image, told as one of writing a tree
abbrev pub tree_fault : WriteFault → TreeFault
tree_fault writes.Disk = trees.Disk
tree_fault writes.NoMemory = trees.NoMemory
tree_fault (writes.Full need slots) = trees.Full need slots

-- what the calls of the disk answered: a fault that is not the disk's is no failed call
abbrev pub tree_answer : {T : Type 0} → Result T TreeFault → Result (Unit {0}) (Unit {0})
tree_answer (Ok value) = Ok tt
tree_answer (Err trees.Disk) = Err tt
tree_answer (Err trees.NoMemory) = Ok tt
tree_answer (Err (trees.Full need slots)) = Ok tt
tree_answer (Err trees.Changed) = Ok tt
tree_answer (Err trees.TooMany) = Ok tt

-- the disk tells its bytes, and is no image
abbrev pub WasNone : DiskState → Type 0
WasNone start = IsObservable start × (slice_index start.bytes 0 ≢ first_byte)
