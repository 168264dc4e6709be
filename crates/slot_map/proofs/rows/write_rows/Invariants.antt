use Rattle.std.proofs.Common.{Ok}
use Rattle.std.specs.List.{flat_map}
use Rattle.store_model.specs.Lists.{numbers_below}
use Rattle.script_lines.specs.declared.fault.SinkFault.{SinkFault}
use Rattle.script_lines.specs.SinkState.{Puts}
use Rattle.slot_map.specs.Pictures.{row_of}
use Rattle.slot_map.proofs.rows.write_rows.Given as goal

-- the rows so far were put out
abbrev pub invariant-loop-row : goal.invariant-loop-row
invariant-loop-row g l = Puts {T = Unit {0}} {E = SinkFault} (g.W.Sink.state l.fn.sink) (g.W.Sink.state l.sink)
    (flat_map (row_of l.chars) (numbers_below l.row)) (Ok tt)
