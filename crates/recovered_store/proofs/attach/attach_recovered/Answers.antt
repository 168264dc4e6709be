use Rattle.std.proofs.Common.{ap, refl, ◌∙◌}
use Rattle.recovered_store.proofs.Attaching.{opened, not_opened}
use Rattle.recovered_store.proofs.BelowLemmas.{sound_view, over_opened, over_refused, untouched, untouched_by_reads}
use Rattle.recovered_store.proofs.attach.attach_recovered.Goals as goal

pub returns-in-Ok-attach-clause-opened : goal.returns-in-Ok-attach-clause-opened
returns-in-Ok-attach-clause-opened g c =
    opened (g.D.Disk.state c.args.disk) _ c.in-Ok.ensures.opened _ c.in-Ok-attach.store
    c.in-Ok-attach.ensures.call.attached

pub returns-in-Err-attach-clause-refused : goal.returns-in-Err-attach-clause-refused
returns-in-Err-attach-clause-refused g c =
    let slots = c.in-Err-attach.recovered.slots in
    not_opened (g.D.Disk.state c.args.disk) _ c.in-Ok.ensures.opened c.in-Err-attach.fault _
    c.in-Err-attach.ensures.call.refused (g.D.Disk.state slots.disk).faults c.in-Err-attach.recovered.refused
    refl refl (g.D.Disk.state c.into_below.result)
    (ap (λ disk. (g.D.Disk.state disk).faults) c.into_below.ensures.disk)

pub returns-in-Ok-attach-clause-over : goal.returns-in-Ok-attach-clause-over
returns-in-Ok-attach-clause-over g c seen =
    let state = g.D.Disk.state in
    let disk = c.in-Ok.recovered in
    let view = disk.slots in
    let seen_here = c.in-Ok.ensures.opened.observable ∙ seen in
    over_opened (state c.args.disk) _
    (sound_view view.params disk.params (state view.disk) disk.refused disk.syncs
    (g.met.D.Disk.sound view.disk seen_here) view.sized disk.counted disk.in_range)
    (c.in-Ok.ensures.over seen) _ c.in-Ok-attach.store seen_here c.in-Ok-attach.ensures.call.attached

pub returns-in-Err-clause-untouched : goal.returns-in-Err-clause-untouched
returns-in-Err-clause-untouched g c seen =
    untouched_by_reads (g.D.Disk.state c.args.disk) _ (c.in-Err.ensures.refused.reads seen)

pub returns-in-Err-attach-clause-untouched : goal.returns-in-Err-attach-clause-untouched
returns-in-Err-attach-clause-untouched g c seen =
    let state = g.D.Disk.state in
    let disk = c.in-Ok.recovered in
    let view = disk.slots in
    let seen_here = c.in-Ok.ensures.opened.observable ∙ seen in
    let refused = c.in-Err-attach.ensures.call.refused in
    let seen_then = ap (λ d. (state d).is_observable) c.into_below.ensures.disk ∙ refused.kept.observable
    ∙ seen_here in
    untouched (state c.args.disk) (state c.into_below.result) _ (g.met.D.Disk.sound c.args.disk seen)
    (g.met.D.Disk.sound c.into_below.result seen_then) (c.into_below.ensures.over seen_then)
    (over_refused (state c.args.disk) _
    (sound_view view.params disk.params (state view.disk) disk.refused disk.syncs
    (g.met.D.Disk.sound view.disk seen_here) view.sized disk.counted disk.in_range)
    (c.in-Ok.ensures.over seen) c.in-Err-attach.fault _ refused seen_here)
