use Rattle.std.proofs.Common.{ℕ, subst, arith}
use Rattle.std.proofs.lemmas.Iterator.Adapters.{YieldsList-from_vec}
use Rattle.std.proofs.lemmas.Iterator.Consumers.{YieldsList-turn, YieldsList-end}
use Rattle.table_memory.specs.SlotCaches.{changes_of, RewritesFirst}
use Rattle.table_memory.proofs.CacheLemmas.{rewrites_turn}
use Rattle.table_memory.proofs.slot_cache.SlotCache.rewrite_all.Goals as goal

pub loop-at-preserved : goal.loop-at-preserved
loop-at-preserved c =
    let items = c.args.changed.items in
    let gives = c.into_iter-at-iterator.ensures.into_iter_gives in
    let turn = YieldsList-turn (YieldsList-from_vec items gives.0 (omega (arith, gives.1, c.args.changed.ok.0)))
    c.loop-at.yielded c.loop-at.at-iterator c.loop-at.yielded_by c.next.result c.next.new.self
    (c.in-Some.at, c.in-Some.slot) c.in-Some.is c.next.ensures.steps in
    rewrites_turn items c.loop-at.yielded c.in-Some.at c.in-Some.slot c.args.self.now c.loop-at.self c.rewrite.new.self
    turn c.loop-at.invariant c.rewrite.ensures

pub returns : goal.returns
returns c =
    let items = c.args.changed.items in
    let gives = c.into_iter-at-iterator.ensures.into_iter_gives in
    let end = YieldsList-end (YieldsList-from_vec items gives.0 (omega (arith, gives.1, c.args.changed.ok.0)))
    c.loop-at.yielded c.loop-at.at-iterator c.loop-at.yielded_by c.next.result c.next.new.self c.in-None.is
    c.next.ensures.steps in
    subst (λ (n : ℕ). RewritesFirst n (changes_of items) c.args.self.now c.loop-at.self) end.1 c.loop-at.invariant
