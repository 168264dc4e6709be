-- What a call on a machine is given.
use Rattle.script_lines.specs.Memory.{SourceMemory, SinkMemory}
use Rattle.image_subcommands.specs.Outside.{Outside}
use Rattle.store_claims.specs.declared.machines.Machine.{Machine}
use Rattle.store_claims.specs.Machines.{Disk}

-- the disk, the source and the sink of a machine
abbrev pub given : Machine → Outside Disk SourceMemory SinkMemory
given machine = record { disk = machine.disk; source = machine.source; sink = machine.sink }
