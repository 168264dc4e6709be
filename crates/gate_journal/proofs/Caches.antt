-- Calls that read a disk through what is kept of its journal.
use Rattle.std.proofs.Common.{ℕ, List, subst, sym, ◌∙◌, Result, Ok, Err, IsErr}
use Rattle.disk_model.specs.DiskState.{DiskState, IsObservable, IsSound}
use Rattle.disk_model.specs.DiskCalls.{IsCall}
use Rattle.gate_journal.specs.Places.{ReadsOnly}
use Rattle.gate_journal.specs.JournalCaches.{Agrees, IsJournalCacheOf, ReadsJournal}
use Rattle.gate_journal.specs.declared.journal_cache.JournalCache.{JournalCache}
use Rattle.gate_journal.specs.ReadingLaws.{ReadsOnly-refl, ReadsOnly-trans}
use Rattle.gate_journal.proofs.Calls.{AreCalls-none, AreCalls-one, AreCalls-then, AreCalls-fault, AreCalls-answered}
use Rattle.gate_journal.proofs.Calls.{observable_after}

-- no call
pub ReadsJournal-none : {T E : Type 0} (disk : DiskState) (cache : JournalCache) (value : T)
    → (IsObservable disk → IsSound disk) → IsJournalCacheOf disk cache
    → ReadsJournal {T = T} {E = E} disk disk cache (Ok value)
ReadsJournal-none disk cache value sound kept = record {
  calls = AreCalls-none disk value;
  reads = λ observable. ReadsOnly-refl disk (sound observable);
  cache = kept;
}

-- a call that only reads, behind which this is kept
pub ReadsJournal-call : {T E : Type 0} (old new : DiskState) (cache : JournalCache) (result : Result T E)
    → IsCall old new result → (IsObservable old → ReadsOnly old new) → IsJournalCacheOf new cache
    → ReadsJournal old new cache result
ReadsJournal-call old new cache result call reads kept = record {
  calls = AreCalls-one old new result call;
  reads = reads;
  cache = kept;
}

-- what was kept of a disk that was only read since
pub IsCacheOf-reads : {T E : Type 0} (old new : DiskState) (cache : JournalCache) (result : Result T E)
    → IsCall old new result → (IsObservable old → ReadsOnly old new) → IsJournalCacheOf old cache
    → IsJournalCacheOf new cache
IsCacheOf-reads old new cache result call reads kept observable =
    let observable_old : IsObservable old = sym call.observable ∙ observable in
    subst (λ (bytes : List ℕ). Agrees bytes cache) (sym (reads observable_old).bytes) (kept observable_old)

-- some calls that answered Ok, and then others
pub ReadsJournal-then : {T E U F : Type 0} (old mid new : DiskState) (before cache : JournalCache) (value : U)
    (result : Result T E) → ReadsJournal {E = F} old mid before (Ok value) → ReadsJournal mid new cache result
    → ReadsJournal old new cache result
ReadsJournal-then old mid new before cache value result first then = record {
  calls = AreCalls-then old mid new value result first.calls then.calls;
  reads = λ observable. ReadsOnly-trans old mid new (first.reads observable)
      (then.reads (observable_after old mid (Ok value) first.calls observable));
  cache = then.cache;
}

-- a fault that is handed on
pub ReadsJournal-fault : {T E U F : Type 0} (old new : DiskState) (cache : JournalCache) (error : F)
    (result : Result T E) → IsErr result → ReadsJournal {T = U} old new cache (Err error)
    → ReadsJournal old new cache result
ReadsJournal-fault old new cache error result fails journal = record {
  calls = AreCalls-fault old new error result fails journal.calls;
  reads = journal.reads;
  cache = journal.cache;
}

-- a value in place of another
pub ReadsJournal-answered : {T E U F : Type 0} (old new : DiskState) (cache : JournalCache) (value : U) (other : T)
    → ReadsJournal {E = F} old new cache (Ok value) → ReadsJournal {E = E} old new cache (Ok other)
ReadsJournal-answered old new cache value other journal = record {
  calls = AreCalls-answered old new value other journal.calls;
  reads = journal.reads;
  cache = journal.cache;
}
