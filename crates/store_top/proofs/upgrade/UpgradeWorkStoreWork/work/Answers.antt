use Rattle.store_top.proofs.UpgradeEnds.{upgrade_works}
use Rattle.store_top.proofs.upgrade.UpgradeWorkStoreWork.work.Goals as goal

pub returns : goal.returns
returns g c =
    rw (c.done_of_work.ensures, c.upgrade_status-status.ensures, c.into_disk.ensures)
    (upgrade_works g.D.Disk.state g.met.D.Disk.sound c.args.store c.upgrade.new.self c.upgrade.result c.requires
    c.upgrade.ensures.call g.R.Source.state g.W.Sink.state (c.args.self.source, c.args.self.sink))
