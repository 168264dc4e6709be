use Rattle.store_top.proofs.UncalledLemmas.{performs_uncalled}
use Rattle.store_top.proofs.uncalled.no_memory.Goals as goal

pub returns-clause-performs : goal.returns-clause-performs
returns-clause-performs g c request =
    rw c.idle.ensures
    (performs_uncalled g.D.Disk.state g.R.Source.state g.W.Sink.state g.met.D.Disk.sound
    c.args.disk c.args.source c.args.sink request)
