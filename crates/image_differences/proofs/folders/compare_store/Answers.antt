use Rattle.std.proofs.Common.{◌≡◌, Result, OnOk, IfOk, subst, ◌∙◌}
use Rattle.host_builder.specs.declared.attribute.Wanted.{Wanted}
use Rattle.image_reads.specs.declared.fault.ReadFault.{ReadFault}
use Rattle.image_differences.specs.Timing.{GoesOn, wanted_in}
use Rattle.image_differences.proofs.Comparing.{if_ok}
use Rattle.image_differences.proofs.ViewedSides.{read_twice, tells_later}
use Rattle.image_differences.proofs.folders.compare_store.Goals as goal

pub returns-in-Ok-clause-read : goal.returns-in-Ok-clause-read
returns-in-Ok-clause-read g c =
    read_twice (g.R.Disk.state c.args.store.disk) (g.R.Disk.state c.settle_times-store.result.0.disk)
    (g.R.Disk.state c.compare_views.result.0.disk) c.settle_times-store.ensures.read c.compare_views.ensures.read

pub returns-in-Ok-clause-tells : goal.returns-in-Ok-clause-tells
returns-in-Ok-clause-tells g c =
    let state = g.R.Disk.state in
    let old = c.args.store in
    let mid = c.settle_times-store.result.0 in
    let on = subst (λ (r : Result Wanted ReadFault). OnOk r (GoesOn state old mid)) c.in-Ok.is
    c.settle_times-store.ensures.goes_on in
    if_ok c.compare_views.result.2 (λ differences tells seen.
    tells_later state old mid on (g.F.Folder.state c.args.folder) (g.F.Folder.state c.compare_views.result.1)
    c.args.wanted c.in-Ok.wanted c.args.times
    (subst (λ (r : Result Wanted ReadFault).
    IfOk r (λ settled. settled ≡ wanted_in c.args.times c.args.wanted old.tree))
    c.in-Ok.is (c.settle_times-store.ensures.settled seen))
    c.args.found.items differences (tells ((on.read).observable ∙ seen)))
    c.compare_views.ensures.tells
