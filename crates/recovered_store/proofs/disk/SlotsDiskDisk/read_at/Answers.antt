use Rattle.std.proofs.Common.{subst, sym, ◌∙◌, ℕ}
use Rattle.store_model.specs.Parameters.{Parameters}
use Rattle.disk_model.specs.DiskCalls.{IsRead}
use Rattle.recovered_store.specs.SlotsDisks.{disk_state}
use Rattle.recovered_store.proofs.BelowLemmas.{is_read}
use Rattle.recovered_store.proofs.disk.SlotsDiskDisk.read_at.Goals as goal

pub returns : goal.returns
returns g c =
    let state = g.S.ReadSlots.state in
    let below = g.S.DiskSlots.below in
    let old = c.args.self.now in
    let new = c.fill.new.self in
    let fixed = is_read (state old.slots) (state new.slots) (below old.slots) (below new.slots) old.params old.refused
    old.syncs c.args.at c.fill.new.into c.fill.result c.fill.ensures.reads
    (λ seen. g.met.S.DiskSlots.reads old.slots new.slots c.fill.ensures.follows
    (sym (g.met.S.DiskSlots.told old.slots) ∙ seen))
    c.fill.ensures.bytes in
    subst (λ (p : Parameters). IsRead (disk_state (state old.slots) (below old.slots) old.params old.refused old.syncs)
    (disk_state (state new.slots) (below new.slots) p new.refused new.syncs) c.args.at c.fill.new.into c.fill.result)
    (sym c.fill.ensures.params)
    (subst (λ (n : ℕ). IsRead (disk_state (state old.slots) (below old.slots) old.params old.refused old.syncs)
    (disk_state (state new.slots) (below new.slots) old.params n new.syncs) c.args.at c.fill.new.into c.fill.result)
    (sym c.fill.ensures.refused)
    (subst (λ (n : ℕ). IsRead (disk_state (state old.slots) (below old.slots) old.params old.refused old.syncs)
    (disk_state (state new.slots) (below new.slots) old.params old.refused n) c.args.at c.fill.new.into c.fill.result)
    (sym c.fill.ensures.syncs) fixed))
