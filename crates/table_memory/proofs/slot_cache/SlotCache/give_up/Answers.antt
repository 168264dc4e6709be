use Rattle.std.proofs.Common.{ℕ, List, ◌-◌, length, ap, sym, subst, ◌∙◌}
use Rattle.lru.specs.LruCache.{LruCache}
use Rattle.table_memory.specs.SlotCaches.{Kept, kept_at, KeepsNoMore}
use Rattle.table_memory.proofs.CacheLemmas.{kept_in_first, few_first}
use Rattle.table_memory.proofs.slot_cache.SlotCache.give_up.Goals as goal

pub returns : goal.returns
returns c =
    let old = c.self.inside.slots in
    let gone : KeepsNoMore old.entries c.pop_lru.new.self.entries =
    λ i slot is. kept_in_first (length old.entries - 1) old.entries i slot
    (ap (λ (cache : LruCache ℕ (List ℕ)). kept_at cache.entries i) (sym c.pop_lru.ensures.entries) ∙ is) in
    subst (λ (kept : Kept). KeepsNoMore kept c.pop_lru.new.self.entries) c.self.view_is gone

pub invariant_of-self : goal.invariant_of-self
invariant_of-self c = few_first c.self.inside.slots c.pop_lru.new.self _ c.self.invariant c.pop_lru.ensures.entries
