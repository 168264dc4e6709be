-- Why an image is not read to its end.
use Rattle.std.specs.Prelude.{ℕ, Option, Some, None, Result, Ok, Err}
use Rattle.store_base.specs.Counts.{raised}
use Rattle.dump_streams.specs.declared.draining.DrainFault.{DrainFault}
use Rattle.dump_streams.specs.declared.draining.DrainFault.TheVariants as drains
use Rattle.dump_streams.specs.declared.taker.TakerFault.{TakerFault}
use Rattle.dump_streams.specs.declared.taker.TakerFault.TheVariants as takers
use Rattle.image_check.specs.declared.fault.AttachFault.{AttachFault}
use Rattle.image_check.specs.declared.fault.AttachFault.TheVariants as attach
use Rattle.image_check.specs.declared.fault.ApplyFault.{ApplyFault}
use Rattle.image_check.specs.declared.fault.ApplyFault.TheVariants as apply
use Rattle.image_reads.specs.declared.fault.ReadFault.{ReadFault}
use Rattle.image_reads.specs.declared.fault.ReadFault.TheVariants as reads

-- where the disk was not opened
abbrev pub unopened_fault : AttachFault → ReadFault
unopened_fault attach.Disk = reads.Disk
unopened_fault attach.NoMemory = reads.NoMemory
unopened_fault attach.NotImage = reads.NotImage
unopened_fault attach.Damaged = reads.Damaged

-- where the store told this, or nothing, and no more steps came
abbrev pub store_fault : Option ApplyFault → ReadFault
store_fault None = reads.Changed
store_fault (Some apply.Disk) = reads.Disk
store_fault (Some apply.NoMemory) = reads.NoMemory
store_fault (Some apply.Stopped) = reads.Disk

-- where a step was not taken
abbrev pub taker_fault : TakerFault → ReadFault
taker_fault takers.Failed = reads.Output
taker_fault takers.NoMemory = reads.NoMemory

-- how reading an opened image ends whose steps were taken so: with this value
abbrev pub ended_by : {T : Type 0} → Result (Unit {0}) DrainFault → Option ApplyFault → T → Result T ReadFault
ended_by (Ok done) fault value = Ok value
ended_by (Err (drains.Taker cause)) fault value = Err (taker_fault cause)
ended_by (Err (drains.Stream cause)) fault value = Err (store_fault fault)

-- the count of failed calls of what an image was read into: one more where that is to blame, and only there
abbrev pub output_faults_by : ReadFault → ℕ → ℕ
output_faults_by reads.NotImage count = count
output_faults_by reads.Damaged count = count
output_faults_by reads.Disk count = count
output_faults_by reads.NoMemory count = count
output_faults_by reads.Changed count = count
output_faults_by reads.Output count = raised count

abbrev pub output_faults : {T : Type 0} → Result T ReadFault → ℕ → ℕ
output_faults (Ok value) count = count
output_faults (Err fault) count = output_faults_by fault count
