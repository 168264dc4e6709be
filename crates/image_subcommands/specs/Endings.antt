-- The status of a call, by the fault of a call below it.
use Rattle.std.specs.Prelude.{Result, Ok, Err}
use Rattle.store_base.specs.declared.fault.DiskFault.{DiskFault}
use Rattle.store_base.specs.declared.store_fault.Fault.{Fault}
use Rattle.store_base.specs.declared.store_fault.Fault.TheVariants as causes
use Rattle.gate_journal.specs.declared.fault.JournalFault.{JournalFault}
use Rattle.gate_journal.specs.declared.fault.JournalFault.TheVariants as journal
use Rattle.script_lines.specs.declared.lines.LineFault.{LineFault}
use Rattle.script_lines.specs.declared.lines.LineFault.TheVariants as lines
use Rattle.image_check.specs.declared.fault.AttachFault.{AttachFault}
use Rattle.image_check.specs.declared.fault.AttachFault.TheVariants as attaching
use Rattle.image_check.specs.declared.fault.ApplyFault.{ApplyFault}
use Rattle.image_check.specs.declared.fault.ApplyFault.TheVariants as applying
use Rattle.mirror_copy.specs.declared.fault.MirrorFault.{MirrorFault}
use Rattle.mirror_copy.specs.declared.fault.MirrorFault.TheVariants as mirroring
use Rattle.image_subcommands.specs.declared.status.Status.{Status}
use Rattle.image_subcommands.specs.declared.status.Status.TheVariants as statuses

-- by a fault of a check
abbrev pub fault_status : Fault → Status
fault_status causes.Disk = statuses.DiskFault
fault_status causes.NoMemory = statuses.NoMemory

-- by one of a format
abbrev pub journal_status : JournalFault → Status
journal_status journal.Disk = statuses.DiskFault
journal_status journal.AlreadyImage = statuses.AlreadyImage
journal_status journal.WrongLength = statuses.WrongLength

-- by one of a reader of lines
abbrev pub line_status : LineFault → Status
line_status lines.Source = statuses.SourceFault
line_status lines.TooLong = statuses.TooLong

-- by one of opening a store
abbrev pub attach_status : AttachFault → Status
attach_status attaching.Disk = statuses.DiskFault
attach_status attaching.NoMemory = statuses.NoMemory
attach_status attaching.NotImage = statuses.NotImage
attach_status attaching.Damaged = statuses.Damaged

-- by one of a command; what stopped a store was its disk
abbrev pub apply_status : ApplyFault → Status
apply_status applying.Disk = statuses.DiskFault
apply_status applying.NoMemory = statuses.NoMemory
apply_status applying.Stopped = statuses.DiskFault

-- by one of a mirror, of whichever disk
abbrev pub mirror_status : MirrorFault → Status
mirror_status mirroring.FromNotImage = statuses.NotImage
mirror_status mirroring.FromDamaged = statuses.Damaged
mirror_status mirroring.ToNotImage = statuses.NotImage
mirror_status (mirroring.Unequal p q) = statuses.Unequal
mirror_status mirroring.FromDisk = statuses.DiskFault
mirror_status mirroring.ToDisk = statuses.DiskFault
mirror_status mirroring.NoMemory = statuses.NoMemory

-- the status of work that may end so
abbrev pub status_of : {E : Type 0} → (E → Status) → Result (Unit {0}) E → Status
status_of ending (Ok value) = statuses.Done
status_of ending (Err fault) = ending fault

abbrev pub disk_status : DiskFault → Status
disk_status fault = statuses.DiskFault

-- the status of lines that ended so: with none left, or by a fault
abbrev pub ended_status : Result (Unit {0}) Status → Status
ended_status ended = status_of (λ status. status) ended
