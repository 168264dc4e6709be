use Rattle.listing_subcommands.proofs.DumpEnds.{dump_unopened}
use Rattle.listing_subcommands.proofs.dump.DumpWorkStoreWork.give_up.Goals as goal

pub returns-clause-unopened : goal.returns-clause-unopened
returns-clause-unopened g c before refused =
    dump_unopened g.D.Disk.state g.W.Sink.state (c.args.self.source, c.args.self.lines.gathered.sink) before
    c.args.fault c.args.disk refused
