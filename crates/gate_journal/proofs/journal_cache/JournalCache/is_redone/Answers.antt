use Rattle.std.proofs.Common.{arith}
use Rattle.gate_journal.proofs.Faults.{if_ok_fault}
use Rattle.gate_journal.proofs.Caches.{ReadsJournal-fault, ReadsJournal-answered, ReadsJournal-then}
use Rattle.gate_journal.proofs.Areas.{marks_end, shadow_end, table_end}
use Rattle.gate_journal.proofs.journal_cache.JournalCache.is_redone.Goals as goal

pub is_flag_set-requires-clause-size : goal.is_flag_set-requires-clause-size
is_flag_set-requires-clause-size g c =
    omega (arith, c.requires.size, table_end c.args.slots, shadow_end c.args.slots, marks_end c.args.slots)

pub returns-in_err-is_flag_set-clause-journal : goal.returns-in_err-is_flag_set-clause-journal
returns-in_err-is_flag_set-clause-journal g c =
    ReadsJournal-fault _ _ _ _ c.from_residual.result c.from_residual.ensures.0 c.in_err-is_flag_set.ensures.journal

pub returns-in_err-is_flag_set-clause-value : goal.returns-in_err-is_flag_set-clause-value
returns-in_err-is_flag_set-clause-value g c observable =
    if_ok_fault c.from_residual.result _ c.from_residual.ensures.0

pub returns-then-not-branch-clause-journal : goal.returns-then-not-branch-clause-journal
returns-then-not-branch-clause-journal g c = ReadsJournal-answered _ _ _ _ _ c.in_ok-is_flag_set.ensures.journal

pub returns-clause-journal : goal.returns-clause-journal
returns-clause-journal g c =
    ReadsJournal-then _ _ _ _ _ _ _ c.in_ok-is_flag_set.ensures.journal c.is_marked.ensures.journal
