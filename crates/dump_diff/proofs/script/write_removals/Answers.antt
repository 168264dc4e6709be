use Rattle.std.proofs.Common.{List, Err, sym, subst}
use Rattle.std.specs.List.{flat_map}
use Rattle.std.proofs.lemmas.Result.{err_from_is_err_and}
use Rattle.store_model.specs.Commands.{Command}
use Rattle.script_lines.specs.SinkState.{Puts}
use Rattle.script_lines.proofs.Putting.{Puts-then, Puts-cut}
use Rattle.dump_diff.specs.declared.difference.AttributeDifference.{AttributeDifference}
use Rattle.dump_diff.specs.Differences.{marks_of}
use Rattle.dump_diff.specs.Scripts.{cut_commands, unset_commands, commands_text}
use Rattle.dump_diff.proofs.Written.{text_append}
use Rattle.dump_diff.proofs.script.write_removals.Goals as goal

pub returns : goal.returns
returns g c rising =
    let st = g.W.Sink.state in
    let found = c.args.found.now in
    let cuts : List Command = flat_map (cut_commands (marks_of found.paths.items)) found.paths.items in
    let unsets : List Command = flat_map unset_commands found.attributes.items in
    subst (λ text. Puts (st c.args.sink.now) (st c.write_unsets.new.sink) text c.write_unsets.result)
    (sym (text_append cuts unsets))
    (Puts-then (st c.args.sink.now) (st c.write_cuts.new.sink) (st c.write_unsets.new.sink) (commands_text cuts)
    (commands_text unsets) tt c.write_unsets.result (c.in_ok-write_cuts.ensures rising)
    (subst (λ (xs : List AttributeDifference). Puts (st c.write_cuts.new.sink) (st c.write_unsets.new.sink)
    (commands_text (flat_map unset_commands xs)) c.write_unsets.result)
    c.attributes.ensures c.write_unsets.ensures))

pub returns-in_err-write_cuts : goal.returns-in_err-write_cuts
returns-in_err-write_cuts g c rising =
    let st = g.W.Sink.state in
    let found = c.args.found.now in
    let cuts : List Command = flat_map (cut_commands (marks_of found.paths.items)) found.paths.items in
    let unsets : List Command = flat_map unset_commands found.attributes.items in
    let fault = err_from_is_err_and c.from_residual.result c.from_residual.ensures.1 in
    rw fault.1
    (subst (λ text. Puts {T = Unit {0}} (st c.args.sink.now) (st c.write_cuts.new.sink) text (Err fault.0))
    (sym (text_append cuts unsets))
    (Puts-cut (st c.args.sink.now) (st c.write_cuts.new.sink) (commands_text cuts)
    (commands_text unsets) _ fault.0 (c.in_err-write_cuts.ensures rising)))
