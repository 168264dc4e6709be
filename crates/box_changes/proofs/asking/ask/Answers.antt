use Rattle.std.proofs.Common.{ap, ◌∙◌}
use Rattle.recovered_store.proofs.BelowLemmas.{sound_view}
use Rattle.image_reads.proofs.Handed.{untouched_so}
use Rattle.box_changes.proofs.asking.ask.Goals as goal

pub returns-clause-untouched : goal.returns-clause-untouched
returns-clause-untouched g c seen =
    let state = g.D.Disk.state in
    let before = c.in-Ok.store.disk in
    let after = c.ask_store-answered.new.store.disk in
    let below = c.below.result in
    let read = c.ask_store-answered.ensures.leaves.read in
    let seen_before = c.in-Ok.ensures.opened.observable ∙ seen in
    let seen_after = read.observable ∙ seen_before in
    let seen_below = ap (λ d. (state d).is_observable) c.below.ensures.disk ∙ seen_after in
    untouched_so (state c.args.disk) (state below) _ _ (g.met.D.Disk.sound c.args.disk seen)
    (g.met.D.Disk.sound below seen_below)
    (sound_view before.slots.params before.params (state before.slots.disk) before.refused before.syncs
    (g.met.D.Disk.sound before.slots.disk seen_before) before.slots.sized before.counted before.in_range)
    (sound_view after.slots.params after.params (state after.slots.disk) after.refused after.syncs
    (g.met.D.Disk.sound after.slots.disk seen_after) after.slots.sized after.counted after.in_range)
    (c.in-Ok.ensures.over seen) (c.below.ensures.over seen_below) (read.reads seen_before)
