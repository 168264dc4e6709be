use Rattle.std.proofs.Common.{length}
use Rattle.table_memory.specs.SlotCaches.{changes_of, RewritesFirst}
use Rattle.table_memory.proofs.slot_cache.SlotCache.rewrite_all.Given as goal

abbrev pub invariant-loop-at : goal.invariant-loop-at
invariant-loop-at l = RewritesFirst (length l.yielded) (changes_of l.fn.changed.items) l.fn.self l.self
