-- What a call on sessions does, from what its step of the store does and what it makes of the sessions.
use Rattle.std.proofs.Common.{◌≡◌, true, false, length, Option, None, Some, IfSome, Result, Ok, Err, OnOk, OnErr, refl}
use Rattle.std.proofs.Common.{sym, ap, subst, ◌∙◌}
use Rattle.std.proofs.lemmas.Bool.{false≢true}
use Rattle.store_model.specs.Trees.{Tree}
use Rattle.disk_model.specs.DiskState.{DiskState, IsObservable, IsSound}
use Rattle.script_lines.specs.Sessions.{SessionCall, SessionAnswer}
use Rattle.image_check.specs.declared.fault.ApplyFault.{ApplyFault}
use Rattle.image_check.specs.declared.fault.ApplyFault.TheVariants as apply
use Rattle.store_core.specs.StoreState.{StoreState}
use Rattle.staged_tree.specs.ImageChanges.{ChangesImage}
use Rattle.store_core.specs.StoreCalls.{StepsStore}
use Rattle.session_core.specs.declared.fault.SessionFault.{SessionFault}
use Rattle.session_core.specs.declared.fault.SessionFault.TheVariants as causes
use Rattle.session_core.specs.Machine.{Places, happens, turned_away, served, answered, tree_after_call, places_after}
use Rattle.session_core.specs.Machine.{live_limit}
use Rattle.session_core.specs.Machine.Event.{Acts, Breaks}
use Rattle.session_core.specs.SessionCalls.{answer_in, ended_in, session_fault_of, turned_by, tree_left, CallsSessions}
use Rattle.session_core.specs.SessionCalls.{IsOfSessions}
use Rattle.session_core.specs.SessionState.{SessionsState, world_of}
use Rattle.session_core.specs.SessionSteps.{KeepsTree}
use Rattle.session_core.proofs.MachineLemmas.{acts, fails, breaks, tree_lost, tree_landed, served_answer, turned_answer}
use Rattle.session_core.proofs.MachineLemmas.{turned_tree, turned_places}
use Rattle.session_core.proofs.StoreLemmas.{Any, stopped_step, unasked}

-- what a call makes of the sessions, whatever the store does
pub record AnswersCall {A : Type 0} (call : SessionCall) (answer_of : A → SessionAnswer) (old new : Places)
    (result : Result A SessionFault) : Type 0 where
  pub refused : turned_by (answer_in answer_of result) ≡ turned_away old call
  pub places : IfSome (answer_in answer_of result) (λ answer. new ≡ places_after old call answer)
  pub unchanged : OnErr result (new ≡ old)

module _ {A : Type 0} (answer_of : A → SessionAnswer) where
  -- a call that was answered, and one that was not
  some_done : (result : Result A SessionFault) (a : SessionAnswer) → answer_in answer_of result ≡ Some a
      → ended_in result ≡ Ok tt
  some_done (Ok value) a is = refl
  some_done (Err causes.Stopped) a is = absurd (cc)
  some_done (Err causes.Crowded) a is = refl
  some_done (Err causes.Unknown) a is = refl
  some_done (Err causes.Many) a is = refl
  some_done (Err causes.Disk) a is = absurd (cc)
  some_done (Err causes.NoMemory) a is = absurd (cc)

  none_failed : (result : Result A SessionFault) → answer_in answer_of result ≡ None
      → (fault : ApplyFault) × (ended_in result ≡ Err fault) × (result ≡ Err (session_fault_of fault))
  none_failed (Ok value) is = absurd (cc)
  none_failed (Err causes.Stopped) is = (apply.Stopped, refl, refl)
  none_failed (Err causes.Crowded) is = absurd (cc)
  none_failed (Err causes.Unknown) is = absurd (cc)
  none_failed (Err causes.Many) is = absurd (cc)
  none_failed (Err causes.Disk) is = (apply.Disk, refl, refl)
  none_failed (Err causes.NoMemory) is = (apply.NoMemory, refl, refl)

  -- a fault of the disk, which alone stops the store
  disk_failed : (result : Result A SessionFault) → ended_in result ≡ Err apply.Disk → result ≡ Err causes.Disk
  disk_failed (Ok value) is = absurd (cc)
  disk_failed (Err causes.Stopped) is = absurd (cc)
  disk_failed (Err causes.Crowded) is = absurd (cc)
  disk_failed (Err causes.Unknown) is = absurd (cc)
  disk_failed (Err causes.Many) is = absurd (cc)
  disk_failed (Err causes.Disk) is = refl
  disk_failed (Err causes.NoMemory) is = absurd (cc)

  disk_none : (result : Result A SessionFault) → result ≡ Err causes.Disk → answer_in answer_of result ≡ None
  disk_none result is = ap (answer_in answer_of) is

on_ok : {A E : Type 0} (P : Type 0) (r : Result A E) (value : A) → r ≡ Ok value → OnOk r P → P
on_ok {A} {E} P r value is holds = subst (λ (x : Result A E). OnOk x P) is holds

on_err : {A E : Type 0} (P : Type 0) (r : Result A E) (fault : E) → r ≡ Err fault → OnErr r P → P
on_err {A} {E} P r fault is holds = subst (λ (x : Result A E). OnErr x P) is holds

module _ {D A : Type 0} (call : SessionCall) (answer_of : A → SessionAnswer) (old new : SessionsState D)
    (runs : old.store.is_stopped ≡ false) where
  next : Tree
  next = tree_after_call old.store.params (world_of old).machine call
      (answered old.store.params (world_of old).machine call)

  -- a call that is answered, over any disk
  acts_so : (o : Option SessionAnswer) → ((a : SessionAnswer) → o ≡ Some a → new.store.tree ≡ next)
      → ((a : SessionAnswer) → o ≡ Some a → new.store.is_stopped ≡ false)
      → IfSome o (λ a. answered old.store.params (world_of old).machine call ≡ a)
      → IfSome o (λ a. new.places ≡ places_after old.places call a)
      → IfSome o (λ a. happens old.store.params (world_of old) (Acts call) ≡ (Some a, world_of new))
  unfolding next
  acts_so None tree still same places = tt
  acts_so (Some a) tree still same places =
      acts old.store.params (world_of old) call a (world_of new) runs same
      (tree a refl ∙ ap (tree_after_call old.store.params (world_of old).machine call) same) places (still a refl)

  module _ (result : Result A SessionFault) (answers : AnswersCall call answer_of old.places new.places result) where
    -- a call that takes a step of the store
    pub calls : (state : D → DiskState) → length old.places ≡ live_limit
        → StepsStore state (tree_after_call old.store.params (world_of old).machine call
        (answered old.store.params (world_of old).machine call)) Any old.store new.store (ended_in result)
        → (IsObservable (state old.store.disk)
        → IfSome (answer_in answer_of result) (λ a. answered old.store.params (world_of old).machine call ≡ a))
        → CallsSessions state call answer_of old new result
    unfolding next
    calls state sized steps same = record {
      params = steps.params;
      kept = steps.kept;
      faults = steps.faults;
      stopped = (λ e. steps.stopped.0 (ap ended_in e), λ e. absurd (false≢true (sym runs ∙ e)));
      still = λ e. absurd (false≢true (sym runs ∙ e));
      sized = sized;
      refused = λ e. answers.refused;
      places = answers.places;
      unchanged = answers.unchanged;
      answers = λ o e.
          acts_so (answer_in answer_of result)
          (λ a is. on_ok (new.store.tree ≡ next) (ended_in result) tt (some_done answer_of result a is) (steps.tree o))
          (λ a is. let done = some_done answer_of result a is in steps.runs runs (λ f. absurd (cc)))
          (same o) answers.places;
      fails = λ none stays.
          let failed = none_failed answer_of result none in
          fails old.store.params (world_of old) call (world_of new)
          (on_err (new.store.tree ≡ old.store.tree) (ended_in result) failed.0 failed.1 steps.fault)
          (on_err (new.places ≡ old.places) result (session_fault_of failed.0) failed.2 answers.unchanged) stays;
      breaks = λ e stops. broke (answer_in answer_of result) refl stops;
      runs = λ e other. steps.runs e (λ f. other (disk_failed answer_of result f));
      observed = λ o e.
          subst (λ (t : Tree). ChangesImage t (tree_left old call true) old.store.params (state old.store.disk)
          (state new.store.disk) new.store.is_stopped (ended_in result))
          (sym (tree_lost old.store.params (world_of old) call runs))
          (subst (λ (t : Tree). ChangesImage old.store.tree t old.store.params (state old.store.disk)
          (state new.store.disk) new.store.is_stopped (ended_in result))
          (sym (tree_landed old.store.params (world_of old) call runs)) (steps.observed o e));
    }
      where
        broke : (o : Option SessionAnswer) → answer_in answer_of result ≡ o → new.store.is_stopped ≡ true
            → happens old.store.params (world_of old) (Breaks call false) ≡ (None, world_of new)
        broke None none stops =
            let failed = none_failed answer_of result none in
            breaks old.store.params (world_of old) call (world_of new) runs
            (on_err (new.store.tree ≡ old.store.tree) (ended_in result) failed.0 failed.1 steps.fault)
            (on_err (new.places ≡ old.places) result (session_fault_of failed.0) failed.2 answers.unchanged) stops
        broke (Some a) some stops = let done = some_done answer_of result a some
            in absurd (false≢true (sym (steps.runs runs (λ f. absurd (cc))) ∙ stops))

    -- a call that the sessions alone answer
    pub alone : new.store ≡ old.store → (result ≡ Err causes.Disk → ⊥)
        → tree_after_call old.store.params (world_of old).machine call
        (answered old.store.params (world_of old).machine call) ≡ old.store.tree
        → IfSome (answer_in answer_of result) (λ a. answered old.store.params (world_of old).machine call ≡ a)
        → IsOfSessions call answer_of old new result
    unfolding next
    alone store other tree same = record {
      store = store;
      no_disk = other;
      answers = λ e.
          acts_so (answer_in answer_of result) (λ a is. ap (λ (x : StoreState D). x.tree) store ∙ sym tree)
          (λ a is. ap (λ (x : StoreState D). x.is_stopped) store ∙ runs) same answers.places;
    }

module _ {D A : Type 0} (state : D → DiskState) (call : SessionCall) (answer_of : A → SessionAnswer)
    (old : SessionsState D) (sized : length old.places ≡ live_limit) where
  -- a call on a store that is stopped
  pub calls_stopped : old.store.is_stopped ≡ true → CallsSessions state call answer_of old old (Err causes.Stopped)
  calls_stopped stops =
      let steps = stopped_step state old.store.tree Any old.store stops in
      record {
        params = refl;
        kept = steps.kept;
        faults = refl;
        stopped = (λ e. stops, λ e. refl);
        still = λ e. refl;
        sized = sized;
        refused = λ e. absurd (false≢true (sym e ∙ stops));
        places = tt;
        unchanged = refl;
        answers = λ o e. tt;
        fails = λ none same. refl;
        breaks = λ e f. absurd (false≢true (sym e ∙ stops));
        runs = λ e other. absurd (false≢true (sym e ∙ stops));
        observed = λ o e. absurd (false≢true (sym e ∙ stops));
      }

  pub alone_stopped : old.store.is_stopped ≡ true → IsOfSessions call answer_of old old (Err causes.Stopped)
  alone_stopped stops = record { store = refl; no_disk = λ e. absurd (cc); answers = λ e. tt }

  -- a call that is turned away
  module _ (sound : (disk : D) → IsObservable (state disk) → IsSound (state disk)) (keeps : KeepsTree state old.store)
      (runs : old.store.is_stopped ≡ false) (result : Result A SessionFault) (a : SessionAnswer)
      (is : answer_in answer_of result ≡ Some a) (turned : turned_by (Some a) ≡ Some a)
      (away : turned_away old.places call ≡ Some a) where
    turned_in : AnswersCall call answer_of old.places old.places result
    turned_in = record {
      refused = ap turned_by is ∙ turned ∙ sym away;
      places = subst (λ (o : Option SessionAnswer). IfSome o (λ x. old.places ≡ places_after old.places call x))
          (sym is) (sym (turned_places old.places call a turned));
      unchanged = same result;
    }
      where
        same : (r : Result A SessionFault) → OnErr r (old.places ≡ old.places)
        same (Ok value) = tt
        same (Err fault) = refl

    answered_is : answered old.store.params (world_of old).machine call ≡ a
    answered_is = turned_answer old.store.params (world_of old).machine call a away

    answered_so : IfSome (answer_in answer_of result) (λ x. answered old.store.params (world_of old).machine call ≡ x)
    answered_so = subst (λ (o : Option SessionAnswer).
        IfSome o (λ x. answered old.store.params (world_of old).machine call ≡ x)) (sym is) answered_is

    tree_is : tree_after_call old.store.params (world_of old).machine call
        (answered old.store.params (world_of old).machine call) ≡ old.store.tree
    tree_is = ap (tree_after_call old.store.params (world_of old).machine call) answered_is
        ∙ turned_tree old.store.params (world_of old).machine call a turned

    pub calls_turned : CallsSessions state call answer_of old old result
    calls_turned =
        calls call answer_of old old runs result turned_in state sized
        (subst (λ (r : Result (Unit {0}) ApplyFault).
        StepsStore state (tree_after_call old.store.params (world_of old).machine call
        (answered old.store.params (world_of old).machine call)) Any old.store old.store r)
        (sym (some_done answer_of result a is))
        (unasked state sound old.store keeps runs
        (tree_after_call old.store.params (world_of old).machine call
        (answered old.store.params (world_of old).machine call)) Any tt tree_is tt))
        (λ o. answered_so)

    pub alone_turned : IsOfSessions call answer_of old old result
    alone_turned = alone call answer_of old old runs result turned_in refl
        (λ e. let none = disk_none answer_of result e in absurd (cc)) tree_is answered_so

-- ---- a call that is not turned away

ended_fault : (A : Type 0) (fault : ApplyFault) → ended_in {A = A} (Err (session_fault_of fault)) ≡ Err fault
ended_fault A apply.Disk = refl
ended_fault A apply.NoMemory = refl
ended_fault A apply.Stopped = refl

fault_none : {A : Type 0} (answer_of : A → SessionAnswer) (fault : ApplyFault)
    → answer_in answer_of (Err (session_fault_of fault)) ≡ None
fault_none answer_of apply.Disk = refl
fault_none answer_of apply.NoMemory = refl
fault_none answer_of apply.Stopped = refl

module _ {D A : Type 0} (call : SessionCall) (answer_of : A → SessionAnswer) (old new : SessionsState D)
    (runs : old.store.is_stopped ≡ false) (away : turned_away old.places call ≡ None) where
  -- the tree that it leads to
  abbrev pub served_tree : Tree
  served_tree = tree_after_call old.store.params (world_of old).machine call
      (served old.store.params (world_of old).machine call)

  served_is : answered old.store.params (world_of old).machine call
      ≡ served old.store.params (world_of old).machine call
  served_is = served_answer old.store.params (world_of old).machine call away

  module _ (value : A) (other : turned_by (Some (answer_of value)) ≡ None)
      (places : new.places ≡ places_after old.places call (answer_of value)) where
    answers_served : AnswersCall call answer_of old.places new.places (Ok value)
    answers_served = record { refused = other ∙ sym away; places = places; unchanged = tt }

    -- it is answered
    pub calls_served : (state : D → DiskState) → length old.places ≡ live_limit
        → (IsObservable (state old.store.disk) → served old.store.params (world_of old).machine call ≡ answer_of value)
        → StepsStore state served_tree Any old.store new.store (Ok tt)
        → CallsSessions state call answer_of old new (Ok value)
    calls_served state sized same steps =
        calls call answer_of old new runs (Ok value) answers_served state sized
        (subst (λ (a : SessionAnswer). StepsStore state (tree_after_call old.store.params (world_of old).machine call a)
        Any old.store new.store (Ok tt)) (sym served_is) steps)
        (λ o. served_is ∙ same o)

    pub alone_served : new.store ≡ old.store → served_tree ≡ old.store.tree
        → served old.store.params (world_of old).machine call ≡ answer_of value
        → IsOfSessions call answer_of old new (Ok value)
    alone_served store tree same =
        alone call answer_of old new runs (Ok value) answers_served store (λ e. absurd (cc))
        (ap (tree_after_call old.store.params (world_of old).machine call) served_is ∙ tree) (served_is ∙ same)

  module _ (fault : ApplyFault) (places : new.places ≡ old.places) where
    answers_failed : AnswersCall call answer_of old.places new.places (Err (session_fault_of fault))
    answers_failed = record {
      refused = ap turned_by (fault_none answer_of fault) ∙ sym away;
      places = subst (λ (o : Option SessionAnswer). IfSome o (λ a. new.places ≡ places_after old.places call a))
          (sym (fault_none answer_of fault)) tt;
      unchanged = places;
    }

    same_none : IfSome (answer_in answer_of (Err (session_fault_of fault)))
        (λ a. answered old.store.params (world_of old).machine call ≡ a)
    same_none = subst (λ (o : Option SessionAnswer).
        IfSome o (λ a. answered old.store.params (world_of old).machine call ≡ a)) (sym (fault_none answer_of fault)) tt

    -- a fault ends it
    pub calls_failed : (state : D → DiskState) → length old.places ≡ live_limit
        → StepsStore state served_tree Any old.store new.store (Err fault)
        → CallsSessions state call answer_of old new (Err (session_fault_of fault))
    calls_failed state sized steps =
        calls call answer_of old new runs (Err (session_fault_of fault)) answers_failed state sized
        (subst (λ (r : Result (Unit {0}) ApplyFault).
        StepsStore state (tree_after_call old.store.params (world_of old).machine call
        (answered old.store.params (world_of old).machine call)) Any old.store new.store r)
        (sym (ended_fault A fault))
        (subst (λ (a : SessionAnswer). StepsStore state (tree_after_call old.store.params (world_of old).machine call a)
        Any old.store new.store (Err fault)) (sym served_is) steps))
        (λ o. same_none)

    pub alone_failed : new.store ≡ old.store
        → (◌≡◌ {A = Result A SessionFault} (Err (session_fault_of fault)) (Err causes.Disk) → ⊥)
        → served_tree ≡ old.store.tree → IsOfSessions call answer_of old new (Err (session_fault_of fault))
    alone_failed store other tree =
        alone call answer_of old new runs (Err (session_fault_of fault)) answers_failed store other
        (ap (tree_after_call old.store.params (world_of old).machine call) served_is ∙ tree) same_none
