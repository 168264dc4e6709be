use Rattle.image_subcommands.specs.Endings.{ended_status}
use Rattle.script_runs.proofs.RunEnds.{big_works}
use Rattle.script_runs.proofs.big.BigWorkStoreWork.work.Goals as goal

pub returns : goal.returns
returns g c =
    let work = c.args.self in
    let ended = c.answer_generated-ended in
    rw (c.ended_status.ensures, c.into_disk.ensures)
    (big_works g.D.Disk.state g.R.Source.state g.W.Sink.state c.args.store ended.new.store work.sink ended.new.sink
    (ended_status ended.result) ended.new.done work.number work.count work.source ended.ensures)
