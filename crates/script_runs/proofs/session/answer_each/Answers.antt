use Rattle.std.proofs.Common.{Ok, sym, subst}
use Rattle.std.proofs.lemmas.Result.{err_from_is_err_and}
use Rattle.image_subcommands.specs.declared.status.Status.TheVariants as statuses
use Rattle.image_subcommands.specs.Statuses.{Subcommand as words}
use Rattle.script_runs.specs.Runs.{ReadsLine}
use Rattle.script_runs.specs.ScriptLines.{AnswersLines}
use Rattle.script_runs.specs.SessionRuns.{session_texts, session_trees}
use Rattle.script_runs.specs.SessionWork.{IsCallIn, AnswersSessionLine}
use Rattle.script_runs.specs.Turns.{asked_for}
use Rattle.script_runs.proofs.SessionTurns.{SessionsSoFar, sessions_start, sessions_more, at_end, at_line_fault}
use Rattle.script_runs.proofs.SessionTurns.{at_fault, at_put}
use Rattle.script_runs.proofs.WorkTurns.{was_asked, fault_met, none_asked}
use Rattle.script_runs.proofs.session.answer_each.Goals as goal

pub lines-init : goal.lines-init
lines-init g c =
    subst (SessionsSoFar g.D.Disk.state g.R.Source.state g.W.Sink.state c.args.sessions.now c.args.sessions.now
    c.args.script.now.reader c.args.script.now.reader c.args.script.now.sink c.args.script.now.sink)
    (sym c.requires.none) (sessions_start g.met.D.Disk.sound c.requires.ready c.requires.begins c.requires.unread)

pub returns-in_err-next_asked : goal.returns-in_err-next_asked
returns-in_err-next_asked g c =
    let status = err_from_is_err_and c.from_residual.result c.from_residual.ensures.1 in
    rw (status.1, status.2)
    (at_line_fault g.met.D.Disk.sound c.lines.invariant c.in_err-next_asked.field-0.0 c.in_err-next_asked.ensures)

pub returns-in_err-answer_asked : goal.returns-in_err-answer_asked
returns-in_err-answer_asked g c =
    let status = err_from_is_err_and c.from_residual-in_err-answer_asked.result
    c.from_residual-in_err-answer_asked.ensures.1 in
    let met = fault_met (AnswersSessionLine g.D.Disk.state) c.lines.sessions c.answer_asked.new.sessions
    c.answer_asked.new.reply
    c.in_err-answer_asked.field-0.0 (asked_for c.next_asked.new.line c.in_ok-next_asked.field-0)
    c.in_err-answer_asked.ensures in
    let reads =
    subst (λ asked. ReadsLine g.R.Source.state IsCallIn c.lines.script.reader c.next_asked.new.reader (Ok asked))
    met.turn_is c.in_ok-next_asked.ensures in
    rw (status.1, status.2) (at_fault g.met.D.Disk.sound c.lines.invariant reads c.answer_asked.new.sessions
    c.in_err-answer_asked.field-0.0 met.answers)

pub returns-in_err-write_session_reply : goal.returns-in_err-write_session_reply
returns-in_err-write_session_reply g c =
    let status = err_from_is_err_and c.from_residual-in_err-write_session_reply.result
    c.from_residual-in_err-write_session_reply.ensures.1 in
    let was = was_asked (AnswersSessionLine g.D.Disk.state) c.lines.sessions c.answer_asked.new.sessions
    c.answer_asked.new.reply
    c.in_ok-answer_asked.field-0 (asked_for c.next_asked.new.line c.in_ok-next_asked.field-0) c.if-branch.true
    c.in_ok-answer_asked.ensures in
    let reads =
    subst (λ asked. ReadsLine g.R.Source.state IsCallIn c.lines.script.reader c.next_asked.new.reader (Ok asked))
    was.turn_is c.in_ok-next_asked.ensures in
    rw (status.1, status.2)
    (at_put g.met.D.Disk.sound c.lines.invariant reads c.answer_asked.new.sessions c.answer_asked.new.reply
    was.answers c.in_err-write_session_reply.ensures)

pub lines-preserved : goal.lines-preserved
lines-preserved g c =
    let was = was_asked (AnswersSessionLine g.D.Disk.state) c.lines.sessions c.answer_asked.new.sessions
    c.answer_asked.new.reply
    c.in_ok-answer_asked.field-0 (asked_for c.next_asked.new.line c.in_ok-next_asked.field-0) c.if-branch.true
    c.in_ok-answer_asked.ensures in
    let reads =
    subst (λ asked. ReadsLine g.R.Source.state IsCallIn c.lines.script.reader c.next_asked.new.reader (Ok asked))
    was.turn_is c.in_ok-next_asked.ensures in
    sessions_more g.met.D.Disk.sound c.lines.invariant reads c.answer_asked.new.sessions c.answer_asked.new.reply
    was.answers c.in_ok-write_session_reply.ensures

pub returns : goal.returns
returns g c =
    let none = none_asked (AnswersSessionLine g.D.Disk.state) c.lines.sessions c.answer_asked.new.sessions
    c.answer_asked.new.reply
    c.in_ok-answer_asked.field-0 (asked_for c.next_asked.new.line c.in_ok-next_asked.field-0) c.if-branch.false
    c.in_ok-answer_asked.ensures in
    let reads =
    subst (λ asked. ReadsLine g.R.Source.state IsCallIn c.lines.script.reader c.next_asked.new.reader (Ok asked))
    none.0 c.in_ok-next_asked.ensures in
    subst (λ sessions. AnswersLines words.Session session_texts session_trees
    g.D.Disk.state g.R.Source.state g.W.Sink.state statuses.Done c.lines.done c.args.sessions.now.store
    sessions.store c.args.script.now.reader c.next_asked.new.reader c.args.script.now.sink c.lines.script.sink)
    (sym none.1) (at_end g.met.D.Disk.sound c.lines.invariant reads)
