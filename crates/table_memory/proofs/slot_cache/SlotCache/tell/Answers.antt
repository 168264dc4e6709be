use Rattle.std.proofs.Common.{ℕ, List, ap, ◌∙◌}
use Rattle.lru.specs.LruCache.{LruCache}
use Rattle.table_memory.specs.SlotCaches.{Kept, kept_at}
use Rattle.table_memory.proofs.CacheLemmas.{kept_promoted, few_promoted}
use Rattle.table_memory.proofs.slot_cache.SlotCache.tell.Goals as goal

pub returns-in_err-slot-clause-kept : goal.returns-in_err-slot-clause-kept
returns-in_err-slot-clause-kept g c =
    λ i. ap (λ (cache : LruCache ℕ (List ℕ)). kept_at cache.entries i) c.get.follows.holds-at-none
    ∙ kept_promoted c.args.at c.self.inside.slots.entries i ∙ ap (λ (kept : Kept). kept_at kept i) c.self.view_is

pub returns-clause-kept : goal.returns-clause-kept
returns-clause-kept g c = λ i. ap (λ (cache : LruCache ℕ (List ℕ)). kept_at cache.entries i) c.get.follows.holds-at-none
    ∙ kept_promoted c.args.at c.self.inside.slots.entries i ∙ ap (λ (kept : Kept). kept_at kept i) c.self.view_is

pub invariant_of-self : goal.invariant_of-self
invariant_of-self g c = few_promoted c.self.inside.slots _ c.args.at c.self.invariant c.get.follows.holds-at-none

pub invariant_of-self-2 : goal.invariant_of-self-2
invariant_of-self-2 g c = few_promoted c.self.inside.slots _ c.args.at c.self.invariant c.get.follows.holds-at-none
