use Rattle.std.proofs.Common.{subst}
use Rattle.table_memory.specs.SlotCaches.{Kept, KeepsOne}
use Rattle.table_memory.proofs.CacheLemmas.{keeps_one, few_put}
use Rattle.table_memory.proofs.slot_cache.SlotCache.keep_box.Goals as goal

pub returns : goal.returns
returns c =
    let one = keeps_one c.put.result c.self.inside.slots c.put.new.self c.args.at c.args.slot
    c.put.ensures.entries c.put.ensures.err in
    subst (λ (kept : Kept). KeepsOne kept c.put.new.self.entries c.args.at c.args.slot) c.self.view_is one

pub invariant_of-self : goal.invariant_of-self
invariant_of-self c = few_put c.put.result c.self.inside.slots c.put.new.self c.args.at c.args.slot c.self.invariant
    c.put.ensures.entries c.put.ensures.err
