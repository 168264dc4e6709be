use Rattle.std.proofs.Common.{ℕ, List, subst}
use Rattle.table_memory.specs.SlotCaches.{KeepsOne}
use Rattle.table_memory.proofs.slot_cache.SlotCache.keep.Goals as goal

pub returns-in-Ok : goal.returns-in-Ok
returns-in-Ok c = subst (λ (slot : List ℕ). KeepsOne c.args.self.now c.keep_box.new.self c.args.at slot)
    c.in-Ok.ensures c.keep_box.ensures
