use Rattle.std.proofs.Common.{take}
use Rattle.std.specs.List.{flat_map}
use Rattle.dump_diff.specs.Scripts.{WroteText, unset_commands, commands_text}
use Rattle.dump_diff.proofs.script.write_unsets.Given as goal

-- the lines of the attributes so far were written
abbrev pub invariant-loop-attribute : goal.invariant-loop-attribute
invariant-loop-attribute g l = WroteText (g.W.Sink.state l.fn.sink) (g.W.Sink.state l.sink)
    (commands_text (flat_map unset_commands (take l.attribute-index l.attributes)))
