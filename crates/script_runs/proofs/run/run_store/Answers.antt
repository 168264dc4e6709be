use Rattle.std.proofs.Common.{sym, subst}
use Rattle.image_subcommands.specs.Statuses.{Subcommand as words}
use Rattle.script_runs.specs.declared.script.Answering.TheVariants as answering
use Rattle.script_runs.specs.Runs.{run_texts, run_trees}
use Rattle.script_runs.specs.ScriptLines.{AnswersLines}
use Rattle.script_runs.proofs.RunEnds.{script_works}
use Rattle.script_runs.proofs.ScriptTurns.{script_begins}
use Rattle.script_runs.proofs.run.run_store.Goals as goal

pub answer_all-ended-requires-clause-begins : goal.answer_all-ended-requires-clause-begins
answer_all-ended-requires-clause-begins g c =
    script_begins g.D.Disk.state g.R.Source.state g.W.Sink.state c.args.store c.args.script c.requires.unread

-- a search for what is not so takes long, and a planted bug has it made
pub returns : goal.returns
returns g c =
    let all = c.answer_all-ended in
    let script = c.args.script in
    rw (c.into_disk.ensures, c.into_source.ensures)
    (script_works g.D.Disk.state g.R.Source.state g.W.Sink.state c.args.store all.new.store script.sink
    all.new.work.sink c.ended_status.result all.new.done answering.Commands script.reader all.new.work.reader
    (subst (λ status. AnswersLines words.Run run_texts run_trees g.D.Disk.state g.R.Source.state g.W.Sink.state status
    all.new.done c.args.store all.new.store script.reader all.new.work.reader script.sink all.new.work.sink)
    (sym c.ended_status.ensures) all.ensures.turns))
