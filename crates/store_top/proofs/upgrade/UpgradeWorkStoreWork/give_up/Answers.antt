use Rattle.store_top.proofs.UpgradeEnds.{upgrade_unopened}
use Rattle.store_top.proofs.upgrade.UpgradeWorkStoreWork.give_up.Goals as goal

pub returns-clause-unopened : goal.returns-clause-unopened
returns-clause-unopened g c before refused =
    upgrade_unopened g.D.Disk.state (c.args.self.source, c.args.self.sink) before c.args.fault c.args.disk refused
