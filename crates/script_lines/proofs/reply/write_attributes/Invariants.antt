use Rattle.std.proofs.Common.{take}
use Rattle.std.specs.List.{flat_map}
use Rattle.store_model.specs.Commands.{attribute_line}
use Rattle.script_lines.specs.Replies.{PutsPart}
use Rattle.script_lines.proofs.reply.write_attributes.Given as goal

-- of the lines of the attributes so far a part was put out, and the text holds the others
abbrev pub invariant-loop-index : goal.invariant-loop-index
invariant-loop-index g l = PutsPart (g.W.Sink.state l.fn.sink) (g.W.Sink.state l.sink)
    (flat_map attribute_line (take l.index l.attributes)) l.text
