-- What the faults of a store's layers make of the counts below them.
use Rattle.std.specs.Prelude.{ℕ, Result, Ok, Err}
use Rattle.store_base.specs.declared.store_fault.Fault.{Fault}
use Rattle.store_base.specs.declared.store_fault.Fault.TheVariants.{Disk, NoMemory}
use Rattle.store_base.specs.Counts.{raised}

-- the count of failed calls after a call: a fault of the disk raises it by one, Ok and want of memory leave it as it
-- was
abbrev pub disk_faults_after : {T : Type 0} → ℕ → Result T Fault → ℕ
disk_faults_after count (Ok value) = count
disk_faults_after count (Err Disk) = raised count
disk_faults_after count (Err NoMemory) = count
