use Rattle.std.proofs.Common.{refl, sym, ap, ◌∙◌}
use Rattle.store_base.specs.Counts.{raised_by}
use Rattle.gate_journal.specs.ViewState.{viewed}
use Rattle.recovered_store.specs.SlotsDisks.{disk_state}
use Rattle.recovered_store.proofs.BelowLemmas.{sound_view}
use Rattle.image_reads.proofs.Handed.{untouched_so}
use Rattle.image_extract.proofs.Building.{not_opened}
use Rattle.image_extract.proofs.Handing.{unread_told, extracted, unextracted}
use Rattle.image_extract.proofs.making.extract.Goals as goal

pub returns-in-Err-clause-extracts : goal.returns-in-Err-clause-extracts
returns-in-Err-clause-extracts g c =
    not_opened (g.B.Builder.state c.args.builder) c.in-Err.fault c.unopened.result c.unopened.ensures

pub returns-in-Err-clause-unread : goal.returns-in-Err-clause-unread
returns-in-Err-clause-unread g c =
    unread_told (g.D.Disk.state c.args.disk) (g.D.Disk.state c.in-Err.disk) c.in-Err.fault c.unopened.result
    c.unopened.ensures c.in-Err.ensures.refused

pub returns-clause-extracts : goal.returns-clause-extracts
returns-clause-extracts g c =
    let state = g.B.Builder.state in
    let made = c.make_asked-store.result in
    extracted _ (g.D.Disk.state c.args.disk) c.in-Ok.store c.in-Ok.ensures.opened c.args.wanted c.args.paths.now
    (state c.args.builder) (state made.builder) made.stays made.done c.make_asked-store.ensures.makes
    c.make_asked-store.ensures.stand

pub returns-clause-unread : goal.returns-clause-unread
returns-clause-unread g c =
    let state = g.D.Disk.state in
    let made = c.make_asked-store.result in
    let after = made.store.disk in
    unextracted (λ d. disk_state (viewed d.slots.params.slots (state d.slots.disk)) (state d.slots.disk) d.params
    d.refused d.syncs)
    (state c.args.disk) c.in-Ok.store c.in-Ok.ensures.opened
    (disk_state (viewed after.slots.params.slots (state after.slots.disk)) (state after.slots.disk) after.params
    after.refused after.syncs)
    (state c.below.result) after.refused
    (ap (λ d. raised_by (state d).faults after.refused) (sym c.below.ensures.disk)) refl
    c.make_asked-store.ensures.read c.args.wanted c.args.paths.now made.done c.make_asked-store.ensures.unmade

pub returns-clause-untouched : goal.returns-clause-untouched
returns-clause-untouched g c seen =
    let state = g.D.Disk.state in
    let before = c.in-Ok.store.disk in
    let after = c.make_asked-store.result.store.disk in
    let below = c.below.result in
    let read = c.make_asked-store.ensures.read in
    let seen_before = c.in-Ok.ensures.opened.observable ∙ seen in
    let seen_after = read.observable ∙ seen_before in
    let seen_below = ap (λ d. (state d).is_observable) c.below.ensures.disk ∙ seen_after in
    untouched_so (state c.args.disk) (state below) _ _ (g.met.D.Disk.sound c.args.disk seen)
    (g.met.D.Disk.sound below seen_below)
    (sound_view before.slots.params before.params (state before.slots.disk) before.refused before.syncs
    (g.met.D.Disk.sound before.slots.disk seen_before) before.slots.sized before.counted before.in_range)
    (sound_view after.slots.params after.params (state after.slots.disk) after.refused after.syncs
    (g.met.D.Disk.sound after.slots.disk seen_after) after.slots.sized after.counted after.in_range)
    (c.in-Ok.ensures.over seen) (c.below.ensures.over seen_below) (read.reads seen_before)
