-- What a call on sessions leaves of a running store, and what it answers: that of the machine.
use Rattle.std.proofs.Common.{◌≡◌, Bool, true, false, Option, Some, None, IfSome, Result, Ok, Err, refl, sym, ap, subst}
use Rattle.std.proofs.Common.{◌∙◌, if◌then◌else◌}
use Rattle.std.proofs.lemmas.Bool.{false≢true}
use Rattle.store_model.specs.Trees.{Tree}
use Rattle.disk_model.specs.DiskState.{DiskState, IsObservable}
use Rattle.script_lines.specs.Sessions.{SessionCall, SessionAnswer, session_answer_of}
use Rattle.script_lines.specs.declared.session_reply.SessionReply.{SessionReply}
use Rattle.image_check.specs.declared.fault.ApplyFault.{ApplyFault}
use Rattle.image_check.specs.declared.fault.ApplyFault.TheVariants as apply
use Rattle.image_check.specs.Faults.{apply_faults_after}
use Rattle.staged_tree.specs.ImageChanges.{ChangesImage}
use Rattle.session_core.specs.declared.fault.SessionFault.{SessionFault}
use Rattle.session_core.specs.declared.fault.SessionFault.TheVariants as causes
use Rattle.session_core.specs.Machine.{Machine, World, turn, happens}
use Rattle.session_core.specs.Machine.Event.{Acts}
use Rattle.session_core.specs.SessionCalls.{CallsSessions, answer_in, ended_in, tree_left}
use Rattle.session_core.specs.SessionState.{SessionsState, world_of}
use Rattle.script_runs.specs.SessionWork.{AnswersCall, told_of}
use Rattle.script_runs.proofs.StoreTurns.{MovesStore}

-- what is told of a call is its answer, and that it did not fail
told_answer : (ended : Result SessionReply SessionFault) (answer : SessionAnswer) → Ok answer ≡ told_of ended
    → (answer_in session_answer_of ended ≡ Some answer) × (ended_in ended ≡ Ok tt) × (ended ≡ Err causes.Disk → ⊥)
told_answer (Ok reply) answer e = (cc, refl, λ d. cc)
told_answer (Err causes.Crowded) answer e = (cc, refl, λ d. cc)
told_answer (Err causes.Unknown) answer e = (cc, refl, λ d. cc)
told_answer (Err causes.Many) answer e = (cc, refl, λ d. cc)
told_answer (Err causes.Stopped) answer e = absurd (cc)
told_answer (Err causes.Disk) answer e = absurd (cc)
told_answer (Err causes.NoMemory) answer e = absurd (cc)

-- or it is its fault
told_fault : (ended : Result SessionReply SessionFault) (fault : ApplyFault) → Err fault ≡ told_of ended
    → (ended_in ended ≡ Err fault) × (fault ≡ apply.Stopped → ended ≡ Err causes.Stopped)
    × (ended ≡ Err causes.Disk → fault ≡ apply.Disk)
told_fault (Ok reply) fault e = absurd (cc)
told_fault (Err causes.Crowded) fault e = absurd (cc)
told_fault (Err causes.Unknown) fault e = absurd (cc)
told_fault (Err causes.Many) fault e = absurd (cc)
told_fault (Err causes.Stopped) fault e = (cc, λ s. refl, λ d. cc)
told_fault (Err causes.Disk) fault e = (cc, λ s. absurd (cc), λ d. cc)
told_fault (Err causes.NoMemory) fault e = (cc, λ s. absurd (cc), λ d. cc)

-- the machine that sessions are
abbrev pub machine_of : {D : Type 0} → SessionsState D → Machine
machine_of s = record { tree = s.store.tree; places = s.places }

-- A call was answered so: the store took the step that the machine takes.
pub record TakesTurn {D : Type 0} (state : D → DiskState) (call : SessionCall) (old new : SessionsState D)
    (answer : SessionAnswer) : Type 0 where
  pub moves : MovesStore {A = Unit {0}} state
      (turn old.store.params (machine_of old) call).1.tree old.store new.store (Ok tt)
  pub answer_is : IsObservable (state old.store.disk) → answer ≡ (turn old.store.params (machine_of old) call).0
  pub places : IsObservable (state old.store.disk) → new.places ≡ (turn old.store.params (machine_of old) call).1.places

module _ {D : Type 0} (state : D → DiskState) (call : SessionCall) (old new : SessionsState D)
    (runs : old.store.is_stopped ≡ false) where
  -- what happens where it is running
  abbrev served : Option SessionAnswer × World
  served = (
    Some (turn old.store.params (machine_of old) call).0,
    record {
      machine = (turn old.store.params (machine_of old) call).1;
      is_stopped = false;
    },
  )

  acts : happens old.store.params (world_of old) (Acts call) ≡ served
  acts = ap picked runs
    where
      picked : Bool → Option SessionAnswer × World
      picked b = if b then (None, world_of old) else served

  -- where it breaks the tree is the old one, or the one behind it
  left_before : tree_left old call false ≡ old.store.tree
  left_before = ap (λ (b : Bool). (picked b).1.machine.tree) runs
    where
      picked : Bool → Option SessionAnswer × World
      picked b = if b then (None, world_of old) else (None, record { machine = machine_of old; is_stopped = true })

  left_behind : tree_left old call true ≡ (turn old.store.params (machine_of old) call).1.tree
  left_behind = ap (λ (b : Bool). (picked b).1.machine.tree) runs
    where
      picked : Bool → Option SessionAnswer × World
      picked b =
          if b then (None, world_of old)
          else (
            Some (turn old.store.params (machine_of old) call).0,
            record {
              machine = record { tree = (turn old.store.params (machine_of old) call).1.tree; places = old.places };
              is_stopped = true;
            },
          )

  module _ (ended : Result SessionReply SessionFault)
      (calls : CallsSessions state call session_answer_of old new ended) where
    changes : (result : Result (Unit {0}) ApplyFault) → ended_in ended ≡ result → IsObservable (state old.store.disk)
        → ChangesImage old.store.tree (turn old.store.params (machine_of old) call).1.tree old.store.params
        (state old.store.disk) (state new.store.disk) new.store.is_stopped result
    changes result is o =
        subst (λ (r : Result (Unit {0}) ApplyFault).
        ChangesImage old.store.tree (turn old.store.params (machine_of old) call).1.tree old.store.params
        (state old.store.disk) (state new.store.disk) new.store.is_stopped r) is
        (subst (λ (t : Tree). ChangesImage old.store.tree t old.store.params (state old.store.disk)
        (state new.store.disk) new.store.is_stopped (ended_in ended)) left_behind
        (subst (λ (t : Tree). ChangesImage t (tree_left old call true) old.store.params (state old.store.disk)
        (state new.store.disk) new.store.is_stopped (ended_in ended)) left_before (calls.observed o runs)))

    counted : (result : Result (Unit {0}) ApplyFault) → ended_in ended ≡ result
        → (state new.store.disk).faults ≡ apply_faults_after (state old.store.disk).faults result
    counted result is = subst (λ (r : Result (Unit {0}) ApplyFault). (state new.store.disk).faults
        ≡ apply_faults_after (state old.store.disk).faults r) is calls.faults

    module _ (answer : SessionAnswer) (is : Ok answer ≡ told_of ended) where
      -- the answer and what stands then are those of the machine
      stands : IsObservable (state old.store.disk) → served ≡ (Some answer, world_of new)
      stands o = sym acts
          ∙ subst (λ (a : Option SessionAnswer). IfSome a
          (λ answer. happens old.store.params (world_of old) (Acts call) ≡ (Some answer, world_of new)))
          (told_answer ended answer is).0 (calls.answers o runs)

      turn_taken : TakesTurn state call old new answer
      turn_taken = record {
        moves = record {
          params = calls.params;
          kept = calls.kept;
          faults = counted (Ok tt) (told_answer ended answer is).1;
          ran = λ e. cc;
          runs = λ h. calls.runs runs (told_answer ended answer is).2;
          tree = λ o. sym (ap (λ (x : Option SessionAnswer × World). x.1.machine.tree) (stands o));
          observed = λ o. changes (Ok tt) (told_answer ended answer is).1 o;
        };
        answer_is = λ o. let both : Some (turn old.store.params (machine_of old) call).0 ≡ Some answer =
            ap (λ (x : Option SessionAnswer × World). x.0) (stands o) in cc;
        places = λ o. sym (ap (λ (x : Option SessionAnswer × World). x.1.machine.places) (stands o));
      }

    turn_failed : (fault : ApplyFault) → Err fault ≡ told_of ended
        → MovesStore {A = Unit {0}} state
        (turn old.store.params (machine_of old) call).1.tree old.store new.store (Err fault)
    turn_failed fault is = record {
      params = calls.params;
      kept = calls.kept;
      faults = counted (Err fault) (told_fault ended fault is).0;
      ran = λ e. false≢true (sym runs ∙ calls.stopped.0 ((told_fault ended fault is).1 (cc)));
      runs = λ other. calls.runs runs (λ d. other (ap Err ((told_fault ended fault is).2 d)));
      tree = λ o. tt;
      observed = λ o. changes (Err fault) (told_fault ended fault is).0 o;
    }

  -- a call was answered in the place of a reply
  pub call_taken : (reply : SessionReply) → AnswersCall state call old new (Ok reply)
      → TakesTurn state call old new (session_answer_of reply)
  call_taken reply answers = turn_taken answers.ended answers.calls (session_answer_of reply) answers.told

  -- or a fault of the store ended it
  pub call_failed : (fault : ApplyFault) → AnswersCall state call old new (Err fault)
      → MovesStore {A = Unit {0}} state
      (turn old.store.params (machine_of old) call).1.tree old.store new.store (Err fault)
  call_failed fault answers = turn_failed answers.ended answers.calls fault answers.told
