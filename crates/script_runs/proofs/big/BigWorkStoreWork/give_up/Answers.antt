use Rattle.script_runs.proofs.RunEnds.{big_unopened}
use Rattle.script_runs.proofs.big.BigWorkStoreWork.give_up.Goals as goal

pub returns-clause-unopened : goal.returns-clause-unopened
returns-clause-unopened g c before refused =
    big_unopened g.D.Disk.state g.R.Source.state g.W.Sink.state g.met.D.Disk.sound
    (c.args.self.source, c.args.self.sink) before c.args.fault c.args.disk refused c.args.self.number c.args.self.count
