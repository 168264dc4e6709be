use Rattle.std.proofs.Common.{refl, sym, ap, ◌∙◌}
use Rattle.store_base.specs.Counts.{raised_by}
use Rattle.gate_journal.specs.ViewState.{viewed}
use Rattle.recovered_store.specs.SlotsDisks.{disk_state}
use Rattle.recovered_store.proofs.BelowLemmas.{sound_view}
use Rattle.image_reads.proofs.Handed.{untouched_so}
use Rattle.image_reads.proofs.Opened.{has_tree}
use Rattle.image_differences.specs.Folders.{TellsFolder}
use Rattle.image_differences.proofs.Blaming.{blame_opened}
use Rattle.image_differences.proofs.Comparing.{if_ok}
use Rattle.image_differences.proofs.ViewedSides.{uncompared_below}
use Rattle.image_differences.proofs.folders.compare_folder.Goals as goal

pub returns-clause-compares : goal.returns-clause-compares
returns-clause-compares g c =
    let old = g.D.Disk.state c.args.disk in
    let opened = c.in-Ok.ensures.opened in
    if_ok c.compare_store-store.result.2 (λ differences tells seen.
    has_tree _ old c.in-Ok.store opened
    (TellsFolder c.args.wanted c.args.times c.args.found.items (g.F.Folder.state c.args.folder)
    (g.F.Folder.state c.compare_store-store.result.1) differences) seen (tells (opened.observable ∙ seen)))
    c.compare_store-store.ensures.tells

pub returns-clause-failed : goal.returns-clause-failed
returns-clause-failed g c =
    let state = g.D.Disk.state in
    let opened = c.in-Ok.ensures.opened in
    let before = c.in-Ok.store.disk in
    let after = c.compare_store-store.result.0.disk in
    let was = disk_state (viewed before.slots.params.slots (state before.slots.disk)) (state before.slots.disk)
    before.params before.refused before.syncs in
    let now = disk_state (viewed after.slots.params.slots (state after.slots.disk)) (state after.slots.disk)
    after.params after.refused after.syncs in
    uncompared_below was now (state c.args.disk) (state c.below.result) (g.F.Folder.state c.args.folder)
    (g.F.Folder.state c.compare_store-store.result.1)
    (blame_opened (λ d. disk_state (viewed d.slots.params.slots (state d.slots.disk)) (state d.slots.disk) d.params
    d.refused d.syncs)
    (state c.args.disk) c.in-Ok.store opened now (state c.below.result) after.refused
    (ap (λ d. raised_by (state d).faults after.refused) (sym c.below.ensures.disk)) refl
    c.compare_store-store.ensures.read)
    c.compare_store-store.result.2 c.compare_store-store.ensures.failed

pub returns-clause-untouched : goal.returns-clause-untouched
returns-clause-untouched g c seen =
    let state = g.D.Disk.state in
    let before = c.in-Ok.store.disk in
    let after = c.compare_store-store.result.0.disk in
    let below = c.below.result in
    let read = c.compare_store-store.ensures.read in
    let seen_before = c.in-Ok.ensures.opened.observable ∙ seen in
    let seen_after = read.observable ∙ seen_before in
    let seen_below = ap (λ d. (state d).is_observable) c.below.ensures.disk ∙ seen_after in
    untouched_so (state c.args.disk) (state below) _ _ (g.met.D.Disk.sound c.args.disk seen)
    (g.met.D.Disk.sound below seen_below)
    (sound_view before.slots.params before.params (state before.slots.disk) before.refused before.syncs
    (g.met.D.Disk.sound before.slots.disk seen_before) before.slots.sized before.counted before.in_range)
    (sound_view after.slots.params after.params (state after.slots.disk) after.refused after.syncs
    (g.met.D.Disk.sound after.slots.disk seen_after) after.slots.sized after.counted after.in_range)
    (c.in-Ok.ensures.over seen) (c.below.ensures.over seen_below) (read.reads seen_before)
