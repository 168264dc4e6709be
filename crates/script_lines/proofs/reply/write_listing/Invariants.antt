use Rattle.std.proofs.Common.{take}
use Rattle.std.specs.List.{flat_map}
use Rattle.store_model.specs.Commands.{child_line}
use Rattle.script_lines.specs.Replies.{PutsPart}
use Rattle.script_lines.proofs.reply.write_listing.Given as goal

-- of the lines of the children so far a part was put out, and the text holds the others
abbrev pub invariant-loop-index : goal.invariant-loop-index
invariant-loop-index g l = PutsPart (g.W.Sink.state l.fn.sink) (g.W.Sink.state l.sink)
    (flat_map child_line (take l.index l.entries)) l.text
