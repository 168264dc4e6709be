use Rattle.std.proofs.Common.{refl, sym, ap, ◌∙◌}
use Rattle.store_base.specs.Counts.{raised_by}
use Rattle.gate_journal.specs.ViewState.{viewed}
use Rattle.recovered_store.specs.SlotsDisks.{disk_state}
use Rattle.recovered_store.proofs.BelowLemmas.{sound_view}
use Rattle.image_reads.proofs.Opened.{file_read}
use Rattle.image_reads.proofs.Handed.{unread_by, untouched_so}
use Rattle.image_reads.proofs.file.read_file.Goals as goal

pub returns-clause-reads : goal.returns-clause-reads
returns-clause-reads g c =
    file_read _ (g.D.Disk.state c.args.disk) c.in-Ok.store c.in-Ok.ensures.opened _ c.args.path.now
    (g.W.Sink.state c.args.sink) (g.W.Sink.state c.put_file-store.result.1) c.put_file-store.result.2
    c.put_file-store.ensures.puts
    c.put_file-store.ensures.leaves

pub returns-clause-unread : goal.returns-clause-unread
returns-clause-unread g c =
    let state = g.D.Disk.state in
    let after = c.put_file-store.result.0.disk in
    let leaves = c.put_file-store.ensures.leaves in
    unread_by (λ d. disk_state (viewed d.slots.params.slots (state d.slots.disk)) (state d.slots.disk) d.params
    d.refused d.syncs)
    (state c.args.disk) c.in-Ok.store c.in-Ok.ensures.opened
    (disk_state (viewed after.slots.params.slots (state after.slots.disk)) (state after.slots.disk) after.params
    after.refused after.syncs)
    (state c.below.result) after.refused
    (ap (λ d. raised_by (state d).faults after.refused) (sym c.below.ensures.disk)) refl leaves.read
    c.put_file-store.result.2 leaves.fault

pub returns-clause-untouched : goal.returns-clause-untouched
returns-clause-untouched g c seen =
    let state = g.D.Disk.state in
    let before = c.in-Ok.store.disk in
    let after = c.put_file-store.result.0.disk in
    let below = c.below.result in
    let read = c.put_file-store.ensures.leaves.read in
    let seen_before = c.in-Ok.ensures.opened.observable ∙ seen in
    let seen_after = read.observable ∙ seen_before in
    let seen_below = ap (λ d. (state d).is_observable) c.below.ensures.disk ∙ seen_after in
    untouched_so (state c.args.disk) (state below) _ _ (g.met.D.Disk.sound c.args.disk seen)
    (g.met.D.Disk.sound below seen_below)
    (sound_view before.slots.params before.params (state before.slots.disk) before.refused before.syncs
    (g.met.D.Disk.sound before.slots.disk seen_before) before.slots.sized before.counted before.in_range)
    (sound_view after.slots.params after.params (state after.slots.disk) after.refused after.syncs
    (g.met.D.Disk.sound after.slots.disk seen_after) after.slots.sized after.counted after.in_range)
    (c.in-Ok.ensures.over seen) (c.below.ensures.over seen_below) (read.reads seen_before)
