-- What a fault of reading an image is to a person.
use Rattle.image_reads.specs.declared.fault.ReadFault.{ReadFault}
use Rattle.image_reads.specs.declared.fault.ReadFault.TheVariants as reads
use Rattle.box_calls.specs.declared.trouble.Trouble.{Trouble}
use Rattle.box_calls.specs.declared.trouble.Trouble.TheVariants as troubles

-- the trouble that a fault of reading is, where the data go to standard output
abbrev pub read_trouble : ReadFault → Trouble
read_trouble reads.NotImage = troubles.NotImage
read_trouble reads.Damaged = troubles.Damaged
read_trouble reads.Disk = troubles.Disk
read_trouble reads.NoMemory = troubles.NoMemory
read_trouble reads.Changed = troubles.Changed
read_trouble reads.Output = troubles.Output
