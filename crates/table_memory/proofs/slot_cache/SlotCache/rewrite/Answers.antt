use Rattle.std.proofs.Common.{subst, sym}
use Rattle.table_memory.specs.SlotCaches.{Kept, Rewrites}
use Rattle.table_memory.proofs.CacheLemmas.{rewrites_kept, few_put}
use Rattle.table_memory.proofs.slot_cache.SlotCache.rewrite.Goals as goal

pub returns : goal.returns
returns c =
    let now = rewrites_kept c.put.result c.self.inside.slots c.put.new.self c.args.at c.args.slot c.put.ensures.entries
    (c.put.ensures.succeeds (sym c.if-not-contains.ensures)) in
    subst (λ (kept : Kept). Rewrites kept c.put.new.self.entries c.args.at c.args.slot) c.self.view_is now

pub invariant_of-self : goal.invariant_of-self
invariant_of-self c = few_put c.put.result c.self.inside.slots c.put.new.self c.args.at c.args.slot c.self.invariant
    c.put.ensures.entries c.put.ensures.err
