use Rattle.std.proofs.Common.{refl, sym, ◌∙◌}
use Rattle.dump_streams.proofs.StepLemmas.{unread, no_step, step_read}
use Rattle.dump_streams.proofs.step.read_step.Goals as goal

pub returns-then-is_err : goal.returns-then-is_err
returns-then-is_err c = unread c.read_command.new.command c.read_command.result c.args.text.now _ c.requires
    c.read_command.ensures (sym c.is_err.ensures.value ∙ c.if-is_err.true)

pub returns-then-not-is_step : goal.returns-then-not-is_step
returns-then-not-is_step c = no_step c.read_command.new.command c.read_command.result c.args.text.now _ c.requires
    c.read_command.ensures (sym c.is_err.ensures.value ∙ c.if-is_err.false)
    (sym c.is_step.ensures ∙ c.if-not-is_step.true)

pub returns : goal.returns
returns c = step_read c.read_command.new.command c.read_command.result c.args.text.now _ c.requires
    c.read_command.ensures (sym c.is_err.ensures.value ∙ c.if-is_err.false)
    (sym c.is_step.ensures ∙ c.if-not-is_step.false) refl
