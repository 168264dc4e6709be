-- Searches for what slots hold, and the checks that stand on them.
use Rattle.std.proofs.Common.{◌≡◌, Option, Some, None, Result, Ok, Err, IfErr, refl, ap, ◌∙◌}
use Rattle.store_model.specs.Parameters.{Parameters}
use Rattle.store_base.specs.declared.store_fault.Fault.{Fault}
use Rattle.store_base.specs.declared.store_fault.Fault.TheVariants as causes
use Rattle.store_base.specs.Faults.{disk_faults_after}
use Rattle.store_base.specs.SlotsState.{SlotsState, HasCause}
use Rattle.table_walk.specs.IndexLookups.{ReadsOnly}
use Rattle.image_check.specs.declared.contents.Contents.{Contents}
use Rattle.image_check.specs.declared.verdict.Verdict.TheVariants as verdicts
use Rattle.image_check.specs.SlotCalls.{FindsContents, ChecksSlots, clean_on, contents_in, verdict_in}
use Rattle.image_check.proofs.Layouts.{clean_slots, clean_with}

-- reads with another answer, which says the same of faults
pub reads_answer : {T U : Type 0} (old new : SlotsState) (before : Result T Fault) (result : Result U Fault)
    → disk_faults_after old.faults before ≡ disk_faults_after old.faults result
    → (IfErr before (HasCause old) → IfErr result (HasCause old)) → ReadsOnly old new before → ReadsOnly old new result
reads_answer old new before result same cause reads = record {
  calls = record {
    count = reads.calls.count;
    observable = reads.calls.observable;
    takes_none = reads.calls.takes_none;
    faults = reads.calls.faults ∙ same;
    cause = cause reads.calls.cause;
  };
  slots = reads.slots;
}

-- reads of which none failed, whatever they answer
pub reads_answered : {T U : Type 0} (old new : SlotsState) (before : T) (value : U) → ReadsOnly old new (Ok before)
    → ReadsOnly old new (Ok value)
reads_answered old new before value = reads_answer old new (Ok before) (Ok value) refl (λ cause. cause)

-- a fault comes for the same cause behind reads of slots that were as they are
cause_before : {T : Type 0} (old mid : SlotsState) (result : Result T Fault) → mid.takes_none ≡ old.takes_none
    → IfErr result (HasCause mid) → IfErr result (HasCause old)
cause_before old mid (Ok value) same cause = tt
cause_before old mid (Err causes.Disk) same cause = tt
cause_before old mid (Err causes.NoMemory) same cause = λ none. cause (same ∙ none)

-- reads behind others of which none failed
pub reads_then : {T U : Type 0} (old mid new : SlotsState) (before : T) (result : Result U Fault)
    → ReadsOnly old mid (Ok before) → ReadsOnly mid new result → ReadsOnly old new result
reads_then old mid new before result first more = record {
  calls = record {
    count = more.calls.count ∙ first.calls.count;
    observable = more.calls.observable ∙ first.calls.observable;
    takes_none = more.calls.takes_none ∙ first.calls.takes_none;
    faults = more.calls.faults ∙ ap (λ n. disk_faults_after n result) first.calls.faults;
    cause = cause_before old mid result first.calls.takes_none more.calls.cause;
  };
  slots = λ observable. more.slots (first.calls.observable ∙ observable) ∙ first.slots observable;
}

-- the verdict by what was found
pub checks_found : (p : Parameters) (old new : SlotsState) (found : Result (Option Contents) Fault)
    → FindsContents p old new found → ChecksSlots p old new (verdict_in (contents_in found))
checks_found p old new (Ok (Some contents)) finds = record {
  reads = reads_answered old new (Some contents) (clean_on contents) finds.reads;
  never = λ no. cc;
  verdict = λ observable. clean_slots old.slots p contents (finds.found observable);
  clean = λ observable meets. clean_with old.slots p contents (finds.found observable) meets;
}
checks_found p old new (Ok None) finds = record {
  reads = reads_answered old new None verdicts.Damaged finds.reads;
  never = λ no. cc;
  verdict = finds.found;
  clean = λ observable meets. absurd (finds.found observable meets);
}
checks_found p old new (Err causes.Disk) finds = record {
  reads = reads_answer old new (Err causes.Disk) (Err causes.Disk) refl (λ cause. cause) finds.reads;
  never = tt;
  verdict = λ observable. tt;
  clean = λ observable meets. tt;
}
checks_found p old new (Err causes.NoMemory) finds = record {
  reads = reads_answer old new (Err causes.NoMemory) (Err causes.NoMemory) refl (λ cause. cause) finds.reads;
  never = tt;
  verdict = λ observable. tt;
  clean = λ observable meets. tt;
}
