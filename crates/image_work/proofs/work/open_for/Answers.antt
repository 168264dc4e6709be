use Rattle.image_work.proofs.WorkEnds.{works_unopened, works_opened}
use Rattle.image_work.proofs.work.open_for.Goals as goal

pub returns-in-Ok-clause-works : goal.returns-in-Ok-clause-works
returns-in-Ok-clause-works g c =
    works_opened g.D.Disk.state _ _ _ (g.J.StoreWork.given c.args.work) c.args.disk _ _ c.in-Ok.store c.work.result
    c.in-Ok.ensures.call.attached c.work.ensures

pub returns-in-Err-clause-works : goal.returns-in-Err-clause-works
returns-in-Err-clause-works g c =
    rw c.give_up.ensures.gives
    (works_unopened g.D.Disk.state _ _ _ (g.J.StoreWork.given c.args.work) c.args.disk c.in-Err.fault c.in-Err.disk
    c.in-Err.ensures.call.refused (c.give_up.ensures.unopened c.args.disk c.in-Err.ensures.call.refused))
