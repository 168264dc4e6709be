use Rattle.std.proofs.Common.{◌≡◌, ap, subst, ◌∙◌}
use Rattle.gate_journal.specs.ViewState.{viewed}
use Rattle.recovered_store.specs.SlotsDisks.{disk_state}
use Rattle.recovered_store.specs.BelowDisks.{IsOver}
use Rattle.recovered_store.proofs.BelowLemmas.{over_view}
use Rattle.recovered_store.proofs.RecoveredImages.{recovered_of_view}
use Rattle.recovered_store.proofs.recovered.recovered_disk.Goals as goal

pub returns-clause-bytes : goal.returns-clause-bytes
returns-clause-bytes g c observable =
    recovered_of_view c.args.params.now c.new-2.result.params c.new-2.result.slots.params
    (g.D.Disk.state c.args.disk).bytes (g.D.Disk.state c.new-2.result.slots.disk).bytes c.new-2.ensures.params
    (ap (λ view. view.params) c.new-2.ensures.slots ∙ c.new.ensures.params)
    (ap (λ view. (g.D.Disk.state view.disk).bytes) c.new-2.ensures.slots
    ∙ ap (λ disk. (g.D.Disk.state disk).bytes) c.new.ensures.disk) (c.requires.named observable)

pub returns-clause-over : goal.returns-clause-over
returns-clause-over g c seen =
    let state = g.D.Disk.state in
    let disk = c.new-2.result in
    let view = disk.slots in
    let is : view.disk ≡ c.args.disk = ap (λ v. v.disk) c.new-2.ensures.slots ∙ c.new.ensures.disk in
    let seen_below = ap (λ d. (state d).is_observable) is ∙ seen in
    subst (λ d. IsOver (state d) (disk_state (viewed view.params.slots (state view.disk)) (state view.disk) disk.params
    disk.refused disk.syncs)) is
    (over_view view.params disk.params (state view.disk) disk.refused disk.syncs
    (g.met.D.Disk.sound view.disk seen_below) view.sized disk.counted disk.in_range)
