use Rattle.std.proofs.Common.{Ok, Some, None, Err, ap, sym, subst, ◌∙◌, length, arith, List, ℕ}
use Rattle.std.proofs.lemmas.Result.{err_from_is_err_and}
use Rattle.store_model.specs.Grammar.{parse}
use Rattle.store_model.specs.declared.refusal.Refusal.TheVariants as refusals
use Rattle.script_lines.specs.InPlace.{in_place}
use Rattle.script_runs.specs.Runs.{IsAskedIn, ReadsLine}
use Rattle.script_runs.specs.Turns.{asked_for}
use Rattle.image_subcommands.proofs.LineLimits.{reading_short, reading_long}
use Rattle.script_runs.proofs.LineReadings.{read_asks, fault_read, reads_text, reads_long, reads_end}
use Rattle.script_runs.proofs.ScriptTurns.{script_next, at_line_fault}
use Rattle.script_runs.proofs.lines.ScriptWork.next.Goals as goal

pub returns-in_err-next_line-clause-turn : goal.returns-in_err-next_line-clause-turn
returns-in_err-next_line-clause-turn g c =
    let status = err_from_is_err_and c.from_residual.result c.from_residual.ensures.1 in
    let call = c.in_err-next_line.ensures in
    λ start first done kept. rw (status.1, status.2)
    (at_line_fault start first kept c.in_err-next_line.field-0.0
    (fault_read c.in_err-next_line.field-0.0 call.source call.ends call.answer))

pub returns-in-Text-clause-turn : goal.returns-in-Text-clause-turn
returns-in-Text-clause-turn g c =
    let call = c.in_ok-next_line.ensures in
    let reads = reads_text {source_of = g.R.Source.state} {IsAsked = IsAskedIn} c.in_ok-next_line.field-0 c.in-Text.is
    call.source call.ends call.answer
    {asked = in_place c.read_command.new.command c.read_command.result}
    (c.read_command.ensures ∙ ap parse c.text.ensures.value
    ∙ sym (reading_short c.next_line.new.self.text
    (omega (arith, c.text.ensures.fits, ap (λ (text : List ℕ). length text) c.text.ensures.value)))) in
    λ start first done kept. script_next start first kept _
    (subst (λ asked. ReadsLine g.R.Source.state IsAskedIn c.args.self.now.reader c.next_line.new.self (Ok asked))
    (sym (ap (asked_for c.read_command.new.command) c.by_reading.ensures
    ∙ read_asks c.read_command.new.command c.read_command.result)) reads)

pub returns-in-Long-clause-turn : goal.returns-in-Long-clause-turn
returns-in-Long-clause-turn g c =
    let call = c.in_ok-next_line.ensures in
    λ start first done kept. script_next start first kept (Some (Err refusals.Long))
    (reads_long c.in_ok-next_line.field-0 c.in-Long.is call.source call.ends call.answer
    (λ text long. sym (reading_long text long)))

pub returns-in-End-clause-turn : goal.returns-in-End-clause-turn
returns-in-End-clause-turn g c =
    let call = c.in_ok-next_line.ensures in
    λ start first done kept. script_next start first kept None
    (reads_end c.in_ok-next_line.field-0 c.in-End.is call.source call.ends call.answer)
