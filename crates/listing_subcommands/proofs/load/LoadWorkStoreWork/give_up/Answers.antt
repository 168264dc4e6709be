use Rattle.listing_subcommands.proofs.LoadCalls.{load_unopened}
use Rattle.listing_subcommands.proofs.load.LoadWorkStoreWork.give_up.Goals as goal

pub returns-clause-unopened : goal.returns-clause-unopened
returns-clause-unopened g c before refused =
    load_unopened g.D.Disk.state g.R.Source.state g.W.Sink.state (c.args.self.source, c.args.self.sink) before
    c.args.fault c.args.disk refused
