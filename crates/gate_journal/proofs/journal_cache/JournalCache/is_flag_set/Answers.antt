use Rattle.gate_journal.proofs.Faults.{if_ok_fault}
use Rattle.gate_journal.proofs.Caches.{ReadsJournal-fault, ReadsJournal-call, IsCacheOf-reads}
use Rattle.gate_journal.proofs.journal_cache.JournalCache.is_flag_set.Goals as goal

pub returns-in_err-set-clause-journal : goal.returns-in_err-set-clause-journal
returns-in_err-set-clause-journal g c =
    ReadsJournal-fault _ _ _ _ c.from_residual.result c.from_residual.ensures.0
    (ReadsJournal-call _ _ _ _ c.in_err-set.ensures.call c.is_flag_set.ensures.reads
    (IsCacheOf-reads _ _ _ _ c.in_err-set.ensures.call c.is_flag_set.ensures.reads c.requires.cache))

pub returns-in_err-set-clause-value : goal.returns-in_err-set-clause-value
returns-in_err-set-clause-value g c observable =
    if_ok_fault c.from_residual.result _ c.from_residual.ensures.0
