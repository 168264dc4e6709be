-- What a store that only reads answers, and what of it is said of the disk below.
use Rattle.std.proofs.Common.{◌≡◌, false, IfOk, OnOk, IfErr, refl, sym, ◌∙◌, Result, Ok, Err}
use Rattle.std.proofs.Common.{Some}
use Rattle.std.proofs.lemmas.Bool.{false≢true}
use Rattle.store_model.specs.Steps.{step}
use Rattle.disk_model.specs.DiskState.{DiskState, IsObservable}
use Rattle.script_lines.specs.declared.reply.Reply.{Reply}
use Rattle.script_lines.specs.declared.session.Question.{Question}
use Rattle.script_lines.specs.Replies.{reply_of}
use Rattle.script_lines.specs.Sessions.{question_of}
use Rattle.session_core.proofs.QuestionLemmas.{question_keeps}
use Rattle.image_check.specs.declared.fault.ApplyFault.{ApplyFault}
use Rattle.image_check.specs.declared.fault.ApplyFault.TheVariants as apply
use Rattle.store_core.specs.StoreState.{StoreState}
use Rattle.store_core.specs.StoreCalls.{Applies}
use Rattle.image_reads.specs.declared.fault.ReadFault.{ReadFault}
use Rattle.image_reads.specs.Faults.{store_fault}
use Rattle.image_reads.specs.StoreReads.{IsStoreFault}
use Rattle.box_changes.specs.Asking.{AsksStore}

-- what the question came to, by what the store did
abbrev pub asked : Result Reply ApplyFault → Result Reply ReadFault
asked (Ok reply) = Ok reply
asked (Err fault) = Err (store_fault (Some fault))

module _ {R : Type 0} (state : R → DiskState) (question : Question) (old new : StoreState R)
    (runs : old.is_stopped ≡ false) where
  faults_of : (result : Result Reply ApplyFault) → Applies state (question_of question) old new result
      → IfErr (asked result) (IsStoreFault (state old.disk) (state new.disk))
  faults_of (Ok reply) applies = tt
  faults_of (Err apply.Disk) applies = applies.faults
  faults_of (Err apply.NoMemory) applies = tt
  faults_of (Err apply.Stopped) applies = absurd (false≢true (sym runs ∙ applies.stopped.0 refl))

  answer_of : (result : Result Reply ApplyFault) → Applies state (question_of question) old new result
      → IsObservable (state old.disk)
      → IfOk (asked result) (λ reply. reply_of reply ≡ (step old.tree (question_of question) old.params).reply)
  answer_of (Ok reply) applies o = applies.answer o
  answer_of (Err fault) applies o = tt

  runs_on : (result : Result Reply ApplyFault) → Applies state (question_of question) old new result
      → OnOk (asked result) (new.is_stopped ≡ old.is_stopped)
  runs_on (Ok reply) applies = applies.runs runs (λ e. absurd cc) ∙ sym runs
  runs_on (Err fault) applies = tt

  same_tree : (result : Result Reply ApplyFault) → Applies state (question_of question) old new result
      → IsObservable (state old.disk)
      → new.tree ≡ old.tree
  same_tree (Ok reply) applies o = applies.tree o ∙ question_keeps old.tree question old.params
  same_tree (Err fault) applies o = applies.fault

  pub asks : (result : Result Reply ApplyFault) → Applies state (question_of question) old new result
      → AsksStore state question old new (asked result)
  asks result applies = record {
    leaves = record {
      read = record {
        observable = applies.kept.observable;
        reads = λ o. (applies.observed o runs).still (question_keeps old.tree question old.params);
      };
      fault = faults_of result applies;
    };
    runs = runs_on result applies;
    tree = same_tree result applies;
    answers = answer_of result applies;
  }
