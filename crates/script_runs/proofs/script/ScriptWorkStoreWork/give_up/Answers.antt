use Rattle.script_runs.proofs.RunEnds.{script_unopened}
use Rattle.script_runs.proofs.script.ScriptWorkStoreWork.give_up.Goals as goal

pub returns-clause-unopened : goal.returns-clause-unopened
returns-clause-unopened g c before refused =
    script_unopened g.D.Disk.state g.R.Source.state g.W.Sink.state g.met.D.Disk.sound
    (c.args.self.script.reader.source, c.args.self.script.sink) before c.args.fault c.args.disk refused
    c.args.self.answering
