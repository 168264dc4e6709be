use Rattle.std.proofs.Common.{refl, sym, ap, subst, ◌∙◌}
use Rattle.store_base.specs.Counts.{raised_by}
use Rattle.gate_journal.specs.ViewState.{viewed}
use Rattle.recovered_store.specs.SlotsDisks.{disk_state}
use Rattle.recovered_store.proofs.BelowLemmas.{sound_view, untouched}
use Rattle.image_reads.proofs.Handed.{untouched_so}
use Rattle.image_differences.proofs.Comparing.{tell_images, both_ok}
use Rattle.image_differences.proofs.Blaming.{blame_refused, blame_opened, blame_both}
use Rattle.image_differences.specs.Compared.{IsBlamed}
use Rattle.image_differences.proofs.images.compare_images.Goals as goal

pub returns-in-Err-attach_recovered-clause-failed : goal.returns-in-Err-attach_recovered-clause-failed
returns-in-Err-attach_recovered-clause-failed g c =
    let second = g.E.Disk.state c.args.second in
    let after = g.E.Disk.state c.in-Err-attach_recovered.second in
    subst (IsBlamed second after) (sym c.unopened-in-Err-attach_recovered.ensures)
    (blame_refused second after c.in-Err-attach_recovered.fault c.in-Err-attach_recovered.ensures.refused)

pub returns-in-Err-attach_recovered-clause-first : goal.returns-in-Err-attach_recovered-clause-first
returns-in-Err-attach_recovered-clause-first g c seen =
    let state = g.D.Disk.state in
    let opened = c.in-Ok.ensures.opened in
    let below = c.below.result in
    let seen_below = ap (λ d. (state d).is_observable) c.below.ensures.disk ∙ opened.observable ∙ seen in
    untouched (state c.args.first) (state below) _ (g.met.D.Disk.sound c.args.first seen)
    (g.met.D.Disk.sound below seen_below) (c.below.ensures.over seen_below) (λ none. none (c.in-Ok.ensures.over seen))

pub returns-clause-compares : goal.returns-clause-compares
returns-clause-compares g c =
    let first = g.D.Disk.state c.args.first in
    let second = g.E.Disk.state c.args.second in
    let opened = c.in-Ok.ensures.opened in
    let opened' = c.in-Ok-attach_recovered.ensures.opened in
    both_ok c.compare_stores-one.result.2 (λ found tell params seen seen'.
    tell_images first.bytes second.bytes found c.in-Ok.one.tree c.in-Ok-attach_recovered.other.tree
    c.in-Ok.one.params c.in-Ok-attach_recovered.other.params (opened.represents seen) (opened'.represents seen')
    params.0 params.1 (tell (opened.observable ∙ seen) (opened'.observable ∙ seen')))
    c.compare_stores-one.ensures.found c.compare_stores-one.ensures.params

pub returns-clause-failed : goal.returns-clause-failed
returns-clause-failed g c =
    let state = g.D.Disk.state in
    let state' = g.E.Disk.state in
    let opened = c.in-Ok.ensures.opened in
    let opened' = c.in-Ok-attach_recovered.ensures.opened in
    let before = c.in-Ok.one.disk in
    let before' = c.in-Ok-attach_recovered.other.disk in
    let after = c.compare_stores-one.result.0.disk in
    let after' = c.compare_stores-one.result.1.disk in
    let was = disk_state (viewed before.slots.params.slots (state before.slots.disk)) (state before.slots.disk)
    before.params before.refused before.syncs in
    let was' = disk_state (viewed before'.slots.params.slots (state' before'.slots.disk)) (state' before'.slots.disk)
    before'.params before'.refused before'.syncs in
    let now = disk_state (viewed after.slots.params.slots (state after.slots.disk)) (state after.slots.disk)
    after.params after.refused after.syncs in
    let now' = disk_state (viewed after'.slots.params.slots (state' after'.slots.disk)) (state' after'.slots.disk)
    after'.params after'.refused after'.syncs in
    blame_both (state c.args.first) (state c.below-2.result) was now (state' c.args.second)
    (state' c.below-3.result) was' now' opened.observable opened'.observable
    (blame_opened (λ d. disk_state (viewed d.slots.params.slots (state d.slots.disk)) (state d.slots.disk) d.params
    d.refused d.syncs)
    (state c.args.first) c.in-Ok.one opened now (state c.below-2.result) after.refused
    (ap (λ d. raised_by (state d).faults after.refused) (sym c.below-2.ensures.disk)) refl
    c.compare_stores-one.ensures.first)
    (blame_opened (λ d. disk_state (viewed d.slots.params.slots (state' d.slots.disk)) (state' d.slots.disk) d.params
    d.refused d.syncs)
    (state' c.args.second) c.in-Ok-attach_recovered.other opened' now' (state' c.below-3.result) after'.refused
    (ap (λ d. raised_by (state' d).faults after'.refused) (sym c.below-3.ensures.disk)) refl
    c.compare_stores-one.ensures.second)
    c.compare_stores-one.result.2 c.compare_stores-one.ensures.failed

pub returns-clause-first : goal.returns-clause-first
returns-clause-first g c seen =
    let state = g.D.Disk.state in
    let before = c.in-Ok.one.disk in
    let after = c.compare_stores-one.result.0.disk in
    let below = c.below-2.result in
    let read = c.compare_stores-one.ensures.first in
    let seen_before = c.in-Ok.ensures.opened.observable ∙ seen in
    let seen_after = read.observable ∙ seen_before in
    let seen_below = ap (λ d. (state d).is_observable) c.below-2.ensures.disk ∙ seen_after in
    untouched_so (state c.args.first) (state below) _ _ (g.met.D.Disk.sound c.args.first seen)
    (g.met.D.Disk.sound below seen_below)
    (sound_view before.slots.params before.params (state before.slots.disk) before.refused before.syncs
    (g.met.D.Disk.sound before.slots.disk seen_before) before.slots.sized before.counted before.in_range)
    (sound_view after.slots.params after.params (state after.slots.disk) after.refused after.syncs
    (g.met.D.Disk.sound after.slots.disk seen_after) after.slots.sized after.counted after.in_range)
    (c.in-Ok.ensures.over seen) (c.below-2.ensures.over seen_below) (read.reads seen_before)

pub returns-clause-second : goal.returns-clause-second
returns-clause-second g c seen =
    let state = g.E.Disk.state in
    let before = c.in-Ok-attach_recovered.other.disk in
    let after = c.compare_stores-one.result.1.disk in
    let below = c.below-3.result in
    let read = c.compare_stores-one.ensures.second in
    let seen_before = c.in-Ok-attach_recovered.ensures.opened.observable ∙ seen in
    let seen_after = read.observable ∙ seen_before in
    let seen_below = ap (λ d. (state d).is_observable) c.below-3.ensures.disk ∙ seen_after in
    untouched_so (state c.args.second) (state below) _ _ (g.met.E.Disk.sound c.args.second seen)
    (g.met.E.Disk.sound below seen_below)
    (sound_view before.slots.params before.params (state before.slots.disk) before.refused before.syncs
    (g.met.E.Disk.sound before.slots.disk seen_before) before.slots.sized before.counted before.in_range)
    (sound_view after.slots.params after.params (state after.slots.disk) after.refused after.syncs
    (g.met.E.Disk.sound after.slots.disk seen_after) after.slots.sized after.counted after.in_range)
    (c.in-Ok-attach_recovered.ensures.over seen) (c.below-3.ensures.over seen_below) (read.reads seen_before)
