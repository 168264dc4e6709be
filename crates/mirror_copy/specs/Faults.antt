-- What a mirror makes of the counts of failed calls of its two disks, by what it answers.
use Rattle.std.specs.Prelude.{ℕ, Result, Ok, Err}
use Rattle.store_base.specs.Counts.{raised}
use Rattle.image_check.specs.declared.fault.AttachFault.{AttachFault}
use Rattle.image_check.specs.declared.fault.AttachFault.TheVariants as attach
use Rattle.mirror_copy.specs.declared.fault.MirrorFault.{MirrorFault}
use Rattle.mirror_copy.specs.declared.fault.MirrorFault.TheVariants.{FromNotImage, FromDamaged, ToNotImage, Unequal}
use Rattle.mirror_copy.specs.declared.fault.MirrorFault.TheVariants.{FromDisk, ToDisk, NoMemory}

-- the count of the first disk: one more where that failed
abbrev pub from_faults_after : {T : Type 0} → ℕ → Result T MirrorFault → ℕ
from_faults_after count (Ok value) = count
from_faults_after count (Err FromNotImage) = count
from_faults_after count (Err FromDamaged) = count
from_faults_after count (Err ToNotImage) = count
from_faults_after count (Err (Unequal p q)) = count
from_faults_after count (Err FromDisk) = raised count
from_faults_after count (Err ToDisk) = count
from_faults_after count (Err NoMemory) = count

-- and that of the second
abbrev pub to_faults_after : {T : Type 0} → ℕ → Result T MirrorFault → ℕ
to_faults_after count (Ok value) = count
to_faults_after count (Err FromNotImage) = count
to_faults_after count (Err FromDamaged) = count
to_faults_after count (Err ToNotImage) = count
to_faults_after count (Err (Unequal p q)) = count
to_faults_after count (Err FromDisk) = count
to_faults_after count (Err ToDisk) = raised count
to_faults_after count (Err NoMemory) = count

-- why there is no first image
abbrev pub first_fault : AttachFault → MirrorFault
first_fault attach.Disk = FromDisk
first_fault attach.NoMemory = NoMemory
first_fault attach.NotImage = FromNotImage
first_fault attach.Damaged = FromDamaged
