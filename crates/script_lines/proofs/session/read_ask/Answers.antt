use Rattle.std.proofs.Common.{true, false, ◌∙◌}
use Rattle.store_model.specs.Grammar.{parse, command_of, command_of_fields}
use Rattle.script_lines.specs.Parsing as parsing
use Rattle.script_lines.specs.Parsing.{parts_of}
use Rattle.script_lines.specs.Sessions.{is_question}
use Rattle.script_lines.specs.Sessions.SessionCall.{Ask}
use Rattle.script_lines.proofs.SessionLemmas.{told_read, told_refused, told_wrong, short_ask, question_by_word}
use Rattle.script_lines.proofs.session.read_ask.Goals as goal

pub returns-in-Ok : goal.returns-in-Ok
unfolding parse command_of
returns-in-Ok c = c.put_question.ensures ∙ told_read is_question (Ask c.args.number) (short_ask c.args.number)
    (command_of_fields (parts_of c.args.text.now)) (parsing.command_of c.read_command.new.command) c.in-Ok.ensures

pub returns-in-Err : goal.returns-in-Err
unfolding parse command_of
returns-in-Err c =
    told_wrong is_question (Ask c.args.number) (short_ask c.args.number) (command_of_fields (parts_of c.args.text.now))
    (question_by_word (parts_of c.args.text.now) true c.if-has_change_word.ensures)

pub returns-in-Err-2 : goal.returns-in-Err-2
unfolding parse command_of
returns-in-Err-2 c =
    told_refused is_question (Ask c.args.number) (short_ask c.args.number)
    (command_of_fields (parts_of c.args.text.now)) c.in-Err.field-0 c.in-Err.ensures
    (question_by_word (parts_of c.args.text.now) false c.if-has_change_word.ensures)
