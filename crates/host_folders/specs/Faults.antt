-- How a walk and a stream say what went wrong with their folder, and what that is among the faults that it counts.
use Rattle.std.specs.Prelude.{ℕ, Result, Ok, Err}
use Rattle.store_base.specs.Counts.{raised}
use Rattle.dump_streams.specs.declared.fault.StreamFault.{StreamFault}
use Rattle.dump_streams.specs.declared.fault.StreamFault.TheVariants as streams
use Rattle.host_folders.specs.declared.fault.FolderFault.{FolderFault}
use Rattle.host_folders.specs.declared.fault.FolderFault.TheVariants as folders
use Rattle.host_folders.specs.declared.fault.FindFault.{FindFault}
use Rattle.host_folders.specs.declared.fault.FindFault.TheVariants as finds

abbrev pub stream_fault : FolderFault → StreamFault
stream_fault folders.NoMemory = streams.NoMemory
stream_fault folders.Unreadable = streams.Unreadable

abbrev pub find_fault : FolderFault → FindFault
find_fault folders.NoMemory = finds.NoMemory
find_fault folders.Unreadable = finds.Unreadable

-- the count of failed calls after a call: want of memory is no failure of the folder
abbrev pub faults_after : {T : Type 0} → ℕ → Result T FolderFault → ℕ
faults_after count (Ok value) = count
faults_after count (Err folders.NoMemory) = count
faults_after count (Err folders.Unreadable) = raised count

-- the count after a walk: at most its last call failed
abbrev pub faults_found : {T : Type 0} → ℕ → Result T FindFault → ℕ
faults_found count (Ok value) = count
faults_found count (Err finds.NoMemory) = count
faults_found count (Err finds.Unreadable) = raised count
faults_found count (Err finds.TooMany) = count
