use Rattle.std.proofs.Common.{true, false, ◌∙◌}
use Rattle.store_model.specs.Grammar.{parse, command_of, command_of_fields}
use Rattle.script_lines.specs.Parsing as parsing
use Rattle.script_lines.specs.Parsing.{parts_of}
use Rattle.script_lines.specs.Sessions.{is_change}
use Rattle.script_lines.specs.Sessions.SessionCall.{Stage}
use Rattle.script_lines.proofs.SessionLemmas.{told_read, told_refused, told_wrong, short_stage, change_by_word}
use Rattle.script_lines.proofs.session.read_stage.Goals as goal

pub returns-in-Ok : goal.returns-in-Ok
unfolding parse command_of
returns-in-Ok c = c.put_change.ensures ∙ told_read is_change (Stage c.args.number) (short_stage c.args.number)
    (command_of_fields (parts_of c.args.text.now)) (parsing.command_of c.read_command.new.command) c.in-Ok.ensures

pub returns-in-Err : goal.returns-in-Err
unfolding parse command_of
returns-in-Err c =
    told_wrong is_change (Stage c.args.number) (short_stage c.args.number)
    (command_of_fields (parts_of c.args.text.now))
    (change_by_word (parts_of c.args.text.now) false c.if-not-has_change_word.ensures)

pub returns-in-Err-2 : goal.returns-in-Err-2
unfolding parse command_of
returns-in-Err-2 c =
    told_refused is_change (Stage c.args.number) (short_stage c.args.number)
    (command_of_fields (parts_of c.args.text.now)) c.in-Err.field-0 c.in-Err.ensures
    (change_by_word (parts_of c.args.text.now) true c.if-not-has_change_word.ensures)
