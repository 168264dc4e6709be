use Rattle.std.proofs.Common.{◌≡◌, sym, ap, ◌∙◌, subst}
use Rattle.store_model.specs.Parameters.{Parameters}
use Rattle.store_model.specs.Images.{recovered_slot}
use Rattle.disk_model.specs.DiskState.{IsObservable}
use Rattle.scrub_free.specs.FreeSlots.{is_unclean}
use Rattle.scrub_free.proofs.Checks.{checks_disk}
use Rattle.scrub_free.proofs.Clean.{stand_clean}
use Rattle.scrub_free.proofs.call.check_scrubbed.Goals as goal

pub returns-clause-clean : goal.returns-clause-clean
returns-clause-clean g c told i low =
    let view = c.check_slots-checked.new.slots.slots in
    let bytes = (g.D.Disk.state view.disk).bytes in
    let params : view.params ≡ c.args.params.now =
    c.check_slots-checked.ensures.follows.params ∙ ap (λ v. v.params) c.new-slots.ensures ∙ c.new.ensures.params in
    let disk : c.into_disk.result ≡ view.disk =
    c.into_disk.ensures ∙ ap (λ v. v.disk) c.into_slots-view.ensures.slots in
    let clean = c.into_slots-view.ensures.clean (subst (λ d. IsObservable (g.D.Disk.state d)) disk told) in
    let found = stand_clean view.params.slots c.into_slots-view.result.1 bytes
    c.into_slots-view.ensures.within clean i low in
    ap (λ d. is_unclean (recovered_slot c.args.params.now.slots (g.D.Disk.state d).bytes i)) disk
    ∙ ap (λ (p : Parameters). is_unclean (recovered_slot p.slots bytes i)) (sym params) ∙ found

pub returns-clause-call : goal.returns-clause-call
returns-clause-call g c =
    let p = c.args.params.now in
    let seen = c.new-slots.result.slots in
    let left = c.check_slots-checked.new.slots.slots in
    let disk : c.into_disk.result ≡ left.disk =
    c.into_disk.ensures ∙ ap (λ v. v.disk) c.into_slots-view.ensures.slots in
    checks_disk p seen.params left.params (g.D.Disk.state seen.disk) (g.D.Disk.state c.args.disk)
    (g.D.Disk.state left.disk) (g.D.Disk.state c.into_disk.result) c.check_slots-checked.result
    (ap (λ v. v.params) c.new-slots.ensures ∙ c.new.ensures.params)
    (ap (λ v. g.D.Disk.state v.disk) c.new-slots.ensures ∙ ap g.D.Disk.state c.new.ensures.disk)
    (ap g.D.Disk.state (sym disk))
    (record { keeps = c.check_slots-checked.ensures.follows; call = c.check_slots-checked.ensures.call })
