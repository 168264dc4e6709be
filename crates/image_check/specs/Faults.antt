-- What the calls of a store make of the disk's count of failed calls, by what they answer.
use Rattle.std.specs.Prelude.{ℕ, Result, Ok, Err}
use Rattle.store_base.specs.Counts.{raised}
use Rattle.store_base.specs.declared.store_fault.Fault.{Fault}
use Rattle.store_base.specs.declared.store_fault.Fault.TheVariants as causes
use Rattle.image_check.specs.declared.fault.AttachFault.{AttachFault}
use Rattle.image_check.specs.declared.fault.AttachFault.TheVariants as attach
use Rattle.image_check.specs.declared.fault.ApplyFault.{ApplyFault}
use Rattle.image_check.specs.declared.fault.ApplyFault.TheVariants as apply

-- where a disk was not taken as a store, for this fault: one more where the disk failed
abbrev pub attach_faults_by : AttachFault → ℕ → ℕ
attach_faults_by attach.Disk count = raised count
attach_faults_by attach.NoMemory count = count
attach_faults_by attach.NotImage count = count
attach_faults_by attach.Damaged count = count

-- after a command: one more where the disk failed
abbrev pub apply_faults_after : {T : Type 0} → ℕ → Result T ApplyFault → ℕ
apply_faults_after count (Ok value) = count
apply_faults_after count (Err apply.Disk) = raised count
apply_faults_after count (Err apply.NoMemory) = count
apply_faults_after count (Err apply.Stopped) = count

-- why a disk was not taken as a store, where a call below failed
abbrev pub attach_fault_of : Fault → AttachFault
attach_fault_of causes.Disk = attach.Disk
attach_fault_of causes.NoMemory = attach.NoMemory

-- why a command was not carried out, where a call that stands below failed
abbrev pub apply_fault_of : Fault → ApplyFault
apply_fault_of causes.Disk = apply.Disk
apply_fault_of causes.NoMemory = apply.NoMemory
