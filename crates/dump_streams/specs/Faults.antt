-- How a stream of a listing ends by a fault of its lines.
use Rattle.script_lines.specs.declared.lines.LineFault.{LineFault}
use Rattle.script_lines.specs.declared.lines.LineFault.TheVariants as causes
use Rattle.dump_streams.specs.declared.fault.StreamFault.{StreamFault}
use Rattle.dump_streams.specs.declared.fault.StreamFault.TheVariants as faults

abbrev pub line_fault : LineFault → StreamFault
line_fault causes.Source = faults.Unreadable
line_fault causes.TooLong = faults.TooLong
