use Rattle.listing_subcommands.proofs.LoadCalls.{filled_ends}
use Rattle.listing_subcommands.proofs.load.LoadWorkStoreWork.work.Goals as goal

pub returns : goal.returns
returns g c =
    rw (c.done_of_work.ensures, c.into_disk.ensures)
    (filled_ends g.D.Disk.state g.R.Source.state g.W.Sink.state g.met.D.Disk.sound
    c.args.store c.args.self.source c.args.self.sink c.requires
    c.fill_store-source.new.store c.fill_store-source.result.0 c.print_filled-status.new.sink
    c.fill_store-source.result.1 c.print_filled-status.result c.fill_store-source.ensures
    c.print_filled-status.ensures)
