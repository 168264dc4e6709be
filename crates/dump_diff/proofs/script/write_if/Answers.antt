use Rattle.std.proofs.Common.{List, [], ◌∷◌, sym, ap, subst, ◌∙◌}
use Rattle.store_model.specs.Commands.{Command}
use Rattle.script_lines.specs.Parsing.{command_of}
use Rattle.script_lines.specs.SinkState.{Puts}
use Rattle.dump_diff.specs.Scripts.{WroteText, commands_in, commands_text}
use Rattle.dump_diff.proofs.Written.{puts_command, wrote_no_command}
use Rattle.dump_diff.proofs.script.write_if.Goals as goal

pub returns-in-Some : goal.returns-in-Some
returns-in-Some g c =
    let st = g.W.Sink.state in
    subst (λ (cs : List Command). Puts (st c.args.sink.now) (st c.write_command.new.sink)
    (commands_text cs) c.write_command.result)
    (ap (λ (d : Command). d ∷ []) (c.command.ensures ∙ c.change.ensures) ∙ sym (ap commands_in c.in-Some.is))
    (puts_command (st c.args.sink.now) (st c.write_command.new.sink)
    (command_of c.command.result) c.write_command.result c.write_command.ensures)

pub returns-in-None : goal.returns-in-None
returns-in-None g c =
    let st = g.W.Sink.state in
    subst (λ (cs : List Command). WroteText (st c.args.sink.now) (st c.args.sink.now) (commands_text cs))
    (sym (ap commands_in c.in-None.is)) (wrote_no_command (st c.args.sink.now))
