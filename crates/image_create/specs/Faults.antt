-- How the faults of a stream and of a writer are told, and what they are among the faults that a disk counts.
use Rattle.std.specs.Prelude.{Option, unwrap_or, Result, Ok, Err}
use Rattle.store_model.specs.Paths.{Path, root}
use Rattle.dump_streams.specs.declared.fault.StreamFault.{StreamFault}
use Rattle.dump_streams.specs.declared.fault.StreamFault.TheVariants as streams
use Rattle.tree_writer.specs.declared.fault.TreeFault.{TreeFault}
use Rattle.tree_writer.specs.declared.fault.TreeFault.TheVariants as trees
use Rattle.image_create.specs.declared.fault.CreateFault.{CreateFault}
use Rattle.image_create.specs.declared.fault.CreateFault.TheVariants as creates

-- where a stream ended so at the entry of a path
abbrev pub stream_fault : StreamFault → Option Path → CreateFault
stream_fault streams.NoMemory at = creates.NoMemory
stream_fault streams.Unreadable at = creates.Unreadable
stream_fault streams.NoDump at = creates.Moving (unwrap_or at root)
stream_fault streams.TooLong at = creates.TooMany

-- where a tree was not written for this reason, which is about this path
abbrev pub tree_fault : TreeFault → Path → CreateFault
tree_fault trees.Disk path = creates.Disk
tree_fault trees.NoMemory path = creates.NoMemory
tree_fault (trees.Full need slots) path = creates.Full need slots
tree_fault trees.Changed path = creates.Moving path
tree_fault trees.TooMany path = creates.TooMany

-- what the calls of the disk answered: a fault that is not the disk's is no failed call
abbrev pub disk_answer : {T : Type 0} → Result T CreateFault → Result (Unit {0}) (Unit {0})
disk_answer (Ok value) = Ok tt
disk_answer (Err creates.Disk) = Err tt
disk_answer (Err creates.NoMemory) = Ok tt
disk_answer (Err (creates.Full need slots)) = Ok tt
disk_answer (Err creates.Unreadable) = Ok tt
disk_answer (Err (creates.Moving path)) = Ok tt
disk_answer (Err creates.OtherSlots) = Ok tt
disk_answer (Err creates.TooMany) = Ok tt
