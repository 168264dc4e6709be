use Rattle.std.proofs.Common.{sym, ap, subst, ◌∙◌}
use Rattle.session_core.specs.SessionState.{SessionsState}
use Rattle.store_core.specs.StoreState.{StoreState}
use Rattle.image_subcommands.specs.declared.status.Status.TheVariants as statuses
use Rattle.image_subcommands.specs.Endings.{ended_status}
use Rattle.image_subcommands.specs.Statuses.{Subcommand as words}
use Rattle.script_runs.specs.declared.script.Answering.TheVariants as answering
use Rattle.script_runs.specs.Runs.{IsReady}
use Rattle.script_runs.specs.ScriptLines.{AnswersLines}
use Rattle.script_runs.specs.SessionRuns.{session_texts, session_trees}
use Rattle.script_runs.proofs.RunEnds.{no_room, script_works}
use Rattle.script_runs.proofs.session.session_store.Goals as goal

-- no line was read
pub returns-in-Err : goal.returns-in-Err
returns-in-Err g c =
    let script = c.args.script in
    let disk_is = c.into_disk-disk.ensures ∙ ap (λ (s : StoreState g.row.D.Denot). s.disk) c.in-Err.ensures.err in
    rw (c.idle.ensures, disk_is, c.into_source-source.ensures)
    (script_works g.D.Disk.state g.R.Source.state g.W.Sink.state c.args.store c.args.store script.sink script.sink
    statuses.NoMemory 0 answering.Calls script.reader script.reader
    (no_room g.D.Disk.state g.R.Source.state g.W.Sink.state g.met.D.Disk.sound answering.Calls c.args.store
    script.reader script.sink c.requires.ready))

pub answer_lines-ended-requires-clause-ready : goal.answer_lines-ended-requires-clause-ready
answer_lines-ended-requires-clause-ready g c =
    subst (λ (s : SessionsState g.row.D.Denot). IsReady g.D.Disk.state s.store) (sym c.in-Ok.ensures.ok)
    c.requires.ready

-- a search for what is not so takes long, and a planted bug has it made
pub returns : goal.returns
returns g c =
    let script = c.args.script in
    let ended = c.answer_lines-ended in
    let disk_is = c.into_disk.ensures ∙ ap (λ (s : StoreState g.row.D.Denot). s.disk) c.into_store.ensures in
    rw (c.ended_status.ensures, disk_is, c.into_source.ensures)
    (script_works g.D.Disk.state g.R.Source.state g.W.Sink.state c.args.store ended.new.sessions.store script.sink
    ended.new.script.sink (ended_status ended.result) ended.new.done answering.Calls script.reader
    ended.new.script.reader
    (subst (λ store. AnswersLines words.Session session_texts session_trees g.D.Disk.state g.R.Source.state
    g.W.Sink.state (ended_status ended.result) ended.new.done store
    ended.new.sessions.store script.reader ended.new.script.reader script.sink ended.new.script.sink)
    (ap (λ (s : SessionsState g.row.D.Denot). s.store) c.in-Ok.ensures.ok) ended.ensures))
