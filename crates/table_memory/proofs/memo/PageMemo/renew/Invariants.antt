use Rattle.std.proofs.Common.{length}
use Rattle.table_memory.proofs.MemoLemmas.{IsRenewing}
use Rattle.table_memory.proofs.memo.PageMemo.renew.Given as goal

-- what was taken over so far
abbrev pub invariant-loop-label : goal.invariant-loop-label
invariant-loop-label l = IsRenewing l.fn.self l.self l.fn.changes.entries l.changes.entries

abbrev pub decreases-loop-label : goal.decreases-loop-label
decreases-loop-label l = length l.changes.entries
