use Rattle.std.proofs.Common.{◌∙◌}
use Rattle.recovered_store.proofs.BelowLemmas.{over_before}
use Rattle.recovered_store.proofs.recovered.open_recovered.Goals as goal

pub returns-in-Ok-Some-clause-over : goal.returns-in-Ok-Some-clause-over
returns-in-Ok-Some-clause-over g c seen =
    let state = g.D.Disk.state in
    over_before (state c.args.disk) (state c.view_header.new.disk) _
    (c.view_header.ensures.views.reads seen)
    c.view_header.ensures.views.calls.size
    (c.recovered_disk.ensures.over (c.view_header.ensures.views.calls.observable ∙ seen))
