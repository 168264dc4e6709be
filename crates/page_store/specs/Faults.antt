-- What the answers of a settle make of the disk's count of failed calls, and the faults that it hands on.
use Rattle.std.specs.Prelude.{ℕ, Result, Ok, Err}
use Rattle.store_base.specs.Counts.{raised}
use Rattle.store_base.specs.declared.store_fault.Fault.{Fault}
use Rattle.store_base.specs.declared.store_fault.Fault.TheVariants as below
use Rattle.page_store.specs.declared.fault.SettleFault.{SettleFault}
use Rattle.page_store.specs.declared.fault.SettleFault.TheVariants as causes

-- after a settle: one more where the disk failed
abbrev pub settle_faults_after : {T : Type 0} → ℕ → Result T SettleFault → ℕ
settle_faults_after count (Ok value) = count
settle_faults_after count (Err (causes.Full need slots)) = count
settle_faults_after count (Err causes.Disk) = raised count
settle_faults_after count (Err causes.NoMemory) = count

-- why pages were not settled, where a call on their slots failed
abbrev pub settle_fault_of : Fault → SettleFault
settle_fault_of below.Disk = causes.Disk
settle_fault_of below.NoMemory = causes.NoMemory
