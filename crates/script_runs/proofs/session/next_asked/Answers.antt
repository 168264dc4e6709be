use Rattle.std.proofs.Common.{ℕ, List, Ok, Err, ap, sym, subst, ◌∙◌, length, arith}
use Rattle.store_model.specs.declared.refusal.Refusal.TheVariants as refusals
use Rattle.script_lines.specs.InPlace.{in_place}
use Rattle.script_lines.specs.Sessions.{parse_session}
use Rattle.script_runs.specs.Runs.{ReadsLine}
use Rattle.script_runs.specs.SessionWork.{IsCallIn}
use Rattle.script_runs.specs.Turns.{asked_for}
use Rattle.script_runs.proofs.LineReadings.{read_asks, session_reading_short, session_reading_long, reads_text}
use Rattle.script_runs.proofs.LineReadings.{reads_long}
use Rattle.script_runs.proofs.session.next_asked.Goals as goal

pub returns-in-Text : goal.returns-in-Text
returns-in-Text g c =
    let call = c.in_ok-next_line.ensures in
    let reads = reads_text {source_of = g.R.Source.state} {IsAsked = IsCallIn} c.in_ok-next_line.field-0 c.in-Text.is
    call.source call.ends call.answer
    {asked = in_place c.read_session_line.new.line c.read_session_line.result}
    (c.read_session_line.ensures ∙ ap parse_session c.text.ensures.value
    ∙ sym (session_reading_short c.next_line.new.self.text
    (omega (arith, c.text.ensures.fits, ap (λ (text : List ℕ). length text) c.text.ensures.value)))) in
    subst (λ asked. ReadsLine g.R.Source.state IsCallIn c.args.reader.now c.next_line.new.self (Ok asked))
    (sym (ap (asked_for c.read_session_line.new.line) c.by_reading.ensures
    ∙ read_asks c.read_session_line.new.line c.read_session_line.result)) reads

pub returns-in-Long : goal.returns-in-Long
returns-in-Long g c =
    let call = c.in_ok-next_line.ensures in
    reads_long c.in_ok-next_line.field-0 c.in-Long.is call.source call.ends call.answer
    (λ text long. sym (session_reading_long text long))
