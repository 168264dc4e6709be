use Rattle.std.proofs.Common.{◌≡◌, ◌∙◌, ap, subst, sym}
use Rattle.gate_journal.specs.ViewState.{viewed}
use Rattle.recovered_store.specs.SlotsDisks.{disk_state}
use Rattle.recovered_store.specs.BelowDisks.{IsOver}
use Rattle.recovered_store.proofs.BelowLemmas.{over_view}
use Rattle.recovered_store.proofs.below.into_below.Goals as goal

pub returns-clause-over : goal.returns-clause-over
returns-clause-over g c seen =
    let state = g.D.Disk.state in
    let disk = c.args.disk in
    let view = disk.slots in
    let is : c.into_disk.result ≡ view.disk = c.into_disk.ensures ∙ ap (λ v. v.disk) c.into_slots.ensures in
    let seen_below = ap (λ d. (state d).is_observable) (sym is) ∙ seen in
    subst (λ d. IsOver (state d) (disk_state (viewed view.params.slots (state view.disk)) (state view.disk) disk.params
    disk.refused disk.syncs)) (sym is)
    (over_view view.params disk.params (state view.disk) disk.refused disk.syncs
    (g.met.D.Disk.sound view.disk seen_below) view.sized disk.counted disk.in_range)
