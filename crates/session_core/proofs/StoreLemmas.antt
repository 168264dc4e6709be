-- A store takes steps one after another: what stands where the first of them leave its tree as it is.
use Rattle.std.proofs.Common.{◌≡◌, ℕ, Bool, true, false, Result, Ok, Err, OnOk, OnErr, refl, sym, ap, subst, ◌∙◌, ◌⊎◌}
use Rattle.std.proofs.Common.{inl, ⊎_elim}
use Rattle.std.proofs.lemmas.Bool.{cases_Bool, false≢true}
use Rattle.store_model.specs.Parameters.{Parameters}
use Rattle.store_model.specs.Trees.{Tree}
use Rattle.store_model.specs.Images.{Represents}
use Rattle.disk_model.proofs.Crashes.{LeavesOnly-weaken}
use Rattle.staged_tree.specs.TableChanges.{slots_between}
use Rattle.staged_tree.proofs.CostLemmas.{counts_reading}
use Rattle.disk_model.specs.DiskState.{DiskState, IsObservable, IsSound}
use Rattle.gate_journal.proofs.Reading.{ReadsOnly-refl}
use Rattle.image_check.specs.declared.fault.ApplyFault.{ApplyFault}
use Rattle.image_check.specs.declared.fault.ApplyFault.TheVariants as apply
use Rattle.image_check.specs.Faults.{apply_faults_after}
use Rattle.store_core.specs.StoreState.{StoreState}
use Rattle.staged_tree.specs.ImageChanges.{ChangesImage}
use Rattle.store_core.specs.StoreCalls.{StepsStore}
use Rattle.staged_tree.proofs.DiskLemmas.{keeps_then}
use Rattle.staged_tree.proofs.Unchanged.{keeps_itself, reads_change, change_behind}
use Rattle.session_core.specs.SessionSteps.{KeepsTree}

-- that a call was answered, whatever it answers
abbrev pub done : {A E : Type 0} → Result A E → Result (Unit {0}) E
done (Ok value) = Ok tt
done (Err fault) = Err fault

abbrev pub Any : Unit {0} → Type 0
Any value = Unit {0}

same_fault : {A B : Type 0} (f g : ApplyFault) → ◌≡◌ {A = Result A ApplyFault} (Err f) (Err g)
    → ◌≡◌ {A = Result B ApplyFault} (Err f) (Err g)
same_fault {A} {B} f g e = let same : f ≡ g = cc in let fails : ApplyFault → Result B ApplyFault =
    λ x. Err x in ap fails same

-- what a call does that fails, whatever it would have answered
change_error : {A B : Type 0} (t next : Tree) (p : Parameters) (old new : DiskState) (b : Bool) (fault : ApplyFault)
    → ChangesImage {T = A} t next p old new b (Err fault) → ChangesImage {T = B} t next p old new b (Err fault)
change_error t next p old new b fault change = record {
  stands = tt;
  crash = change.crash;
  reads = change.reads;
  still = change.still;
  no_memory = λ e. change.no_memory (same_fault fault apply.NoMemory e);
  counts = record { made = tt; limit = change.counts.limit };
  stops = λ e. let stops = change.stops e in (same_fault fault apply.Disk stops.0, stops.1);
  goes_on = λ e f. change.goes_on e (same_fault fault apply.Disk f);
}

change_ok : {A B : Type 0} (t next : Tree) (p : Parameters) (old new : DiskState) (b : Bool) (value : A) (other : B)
    → ChangesImage t next p old new b (Ok value) → ChangesImage t next p old new b (Ok other)
change_ok t next p old new b value other change = record {
  stands = change.stands;
  crash = change.crash;
  reads = change.reads;
  still = change.still;
  no_memory = λ e. absurd (cc);
  counts = record { made = change.counts.made; limit = change.counts.limit };
  stops = λ e. absurd (let stops = (change.stops e).0 in cc);
  goes_on = λ e f. absurd (cc);
}

change_fails : {A : Type 0} (t next : Tree) (p : Parameters) (old new : DiskState) (b : Bool) (fault : ApplyFault)
    → ChangesImage {T = A} t t p old new b (Err fault) → ChangesImage {T = A} t next p old new b (Err fault)
change_fails t next p old new b fault change = record {
  stands = tt;
  crash = LeavesOnly-weaken old new (λ image. Represents image t p ⊎ Represents image t p)
      (λ image. Represents image t p ⊎ Represents image next p)
      (λ image. ⊎_elim (λ r. inl r) (λ r. inl r)) change.crash;
  reads = ⊎_elim (λ r. inl r) (λ r. inl r) change.reads;
  still = λ e. change.still refl;
  no_memory = change.no_memory;
  counts = counts_reading (slots_between p t next) old new (Err fault) (change.still refl) tt;
  stops = change.stops;
  goes_on = change.goes_on;
}

module _ {D : Type 0} (state : D → DiskState) where
  -- a step that is answered, and one that fails, with other answers
  pub steps_ok : {A B : Type 0} (next : Tree) (IsAnswer : A → Type 0) (IsOther : B → Type 0) (old new : StoreState D)
      (value : A) (other : B) → (IsObservable (state old.disk) → IsAnswer value → IsOther other)
      → StepsStore state next IsAnswer old new (Ok value) → StepsStore state next IsOther old new (Ok other)
  steps_ok next IsAnswer IsOther old new value other answers steps = record {
    params = steps.params;
    kept = steps.kept;
    faults = steps.faults;
    stopped = (λ e. absurd (cc), λ e. absurd (let never = steps.stopped.1 e in cc));
    still = steps.still;
    answer = λ o. answers o (steps.answer o);
    tree = steps.tree;
    fault = tt;
    hidden = steps.hidden;
    runs = λ e f. steps.runs e (λ g. absurd (cc));
    observed = λ o e. change_ok old.tree next old.params (state old.disk)
        (state new.disk) new.is_stopped value other (steps.observed o e);
  }

  pub steps_error : {A B : Type 0} (next : Tree) (IsAnswer : A → Type 0) (IsOther : B → Type 0) (old new : StoreState D)
      (fault : ApplyFault) → StepsStore state next IsAnswer old new (Err fault)
      → StepsStore state next IsOther old new (Err fault)
  steps_error next IsAnswer IsOther old new fault steps = record {
    params = steps.params;
    kept = steps.kept;
    faults = steps.faults;
    stopped = (
      λ e. steps.stopped.0 (same_fault fault apply.Stopped e),
      λ e.
          same_fault fault apply.Stopped (steps.stopped.1 e),
    );
    still = steps.still;
    answer = λ o. tt;
    tree = λ o. tt;
    fault = steps.fault;
    hidden = steps.hidden;
    runs = λ e f. steps.runs e (λ g. f (same_fault fault apply.Disk g));
    observed = λ o e. change_error old.tree next old.params (state old.disk)
        (state new.disk) new.is_stopped fault (steps.observed o e);
  }

  -- what a step answers is left out
  pub steps_done : {A : Type 0} (next : Tree) (IsAnswer : A → Type 0) (old new : StoreState D)
      (result : Result A ApplyFault) → StepsStore state next IsAnswer old new result
      → StepsStore state next Any old new (done result)
  steps_done next IsAnswer old new (Ok value) steps = steps_ok next IsAnswer Any old new value tt (λ o is. tt) steps
  steps_done next IsAnswer old new (Err fault) steps = steps_error next IsAnswer Any old new fault steps

  -- a store that is stopped is not asked
  pub stopped_step : {A : Type 0} (next : Tree) (IsAnswer : A → Type 0) (store : StoreState D) → store.is_stopped ≡ true
      → StepsStore state next IsAnswer store store (Err apply.Stopped)
  stopped_step next IsAnswer store is = record {
    params = refl;
    kept = keeps_itself (state store.disk);
    faults = refl;
    stopped = (λ e. is, λ e. refl);
    still = λ e. refl;
    answer = λ o. tt;
    tree = λ o. tt;
    fault = refl;
    hidden = λ unseen. refl;
    runs = λ e. absurd (false≢true (sym e ∙ is));
    observed = λ o e. absurd (false≢true (sym e ∙ is));
  }

  -- a step that leaves the tree as it is
  pub tree_stays : {A : Type 0} (IsAnswer : A → Type 0) (old new : StoreState D) (result : Result A ApplyFault)
      → StepsStore state old.tree IsAnswer old new result → new.tree ≡ old.tree
  tree_stays IsAnswer old new (Ok value) steps =
      ⊎_elim (λ o. steps.tree o) (λ hidden. steps.hidden (λ o. false≢true (sym hidden ∙ o)))
      (cases_Bool (state old.disk).is_observable)
  tree_stays IsAnswer old new (Err fault) steps = steps.fault

  -- a step that was meant to lead elsewhere, where that is known
  pub steps_to : {A : Type 0} (next other : Tree) (IsAnswer : A → Type 0) (old new : StoreState D)
      (result : Result A ApplyFault) → (IsObservable (state old.disk) → next ≡ other)
      → StepsStore state next IsAnswer old new result → StepsStore state other IsAnswer old new result
  steps_to next other IsAnswer old new result same steps = record {
    params = steps.params;
    kept = steps.kept;
    faults = steps.faults;
    stopped = steps.stopped;
    still = steps.still;
    answer = steps.answer;
    tree = λ o. subst (λ (t : Tree). OnOk result (new.tree ≡ t)) (same o) (steps.tree o);
    fault = steps.fault;
    hidden = steps.hidden;
    runs = steps.runs;
    observed = λ o e. subst (λ (t : Tree). ChangesImage old.tree t old.params (state old.disk)
        (state new.disk) new.is_stopped result) (same o) (steps.observed o e);
  }

  -- and one that fails before it would change the tree
  pub steps_fail : {A : Type 0} (next : Tree) (IsAnswer : A → Type 0) (old new : StoreState D) (fault : ApplyFault)
      → StepsStore state old.tree IsAnswer old new (Err fault) → StepsStore state next IsAnswer old new (Err fault)
  steps_fail next IsAnswer old new fault steps = record {
    params = steps.params;
    kept = steps.kept;
    faults = steps.faults;
    stopped = steps.stopped;
    still = steps.still;
    answer = λ o. tt;
    tree = λ o. tt;
    fault = steps.fault;
    hidden = steps.hidden;
    runs = steps.runs;
    observed = λ o e. change_fails old.tree next old.params (state old.disk)
        (state new.disk) new.is_stopped fault (steps.observed o e);
  }

  module _ (sound : (disk : D) → IsObservable (state disk) → IsSound (state disk)) (old : StoreState D)
      (keeps : KeepsTree state old) (runs : old.is_stopped ≡ false) where
    -- a store that is not asked
    pub unasked : {A : Type 0} (next : Tree) (IsAnswer : A → Type 0) (value : A) → next ≡ old.tree → IsAnswer value
        → StepsStore state next IsAnswer old old (Ok value)
    unasked {A} next IsAnswer value same is = record {
      params = refl;
      kept = keeps_itself (state old.disk);
      faults = refl;
      stopped = (λ e. absurd (cc), λ e. absurd (false≢true (sym runs ∙ e)));
      still = λ e. refl;
      answer = λ o. is;
      tree = λ o. sym same;
      fault = tt;
      hidden = λ unseen. refl;
      runs = λ e f. e;
      observed = λ o e.
          subst (λ (b : Bool). ChangesImage {T = A} old.tree next old.params (state old.disk)
          (state old.disk) b (Ok value)) (sym runs)
          (reads_change old.tree next old.params keeps.fitting (state old.disk) (state old.disk) (Ok value)
          (keeps.stands o runs) (ReadsOnly-refl (state old.disk) (sound old.disk o)) same);
    }

    -- memory runs out behind a step that leaves the tree as it is
    pub runs_out : {A B : Type 0} (next : Tree) (IsAnswer : A → Type 0) (IsOther : B → Type 0) (new : StoreState D)
        (value : A) → next ≡ old.tree → StepsStore state old.tree IsAnswer old new (Ok value)
        → StepsStore state next IsOther old new (Err apply.NoMemory)
    runs_out {A} {B} next IsAnswer IsOther new value same steps =
        let runs_on : new.is_stopped ≡ false = steps.runs runs (λ e. absurd (cc)) in
        record {
          params = steps.params;
          kept = steps.kept;
          faults = steps.faults;
          stopped = (λ e. absurd (cc), λ e. absurd (false≢true (sym runs ∙ e)));
          still = steps.still;
          answer = λ o. tt;
          tree = λ o. tt;
          fault = tree_stays IsAnswer old new (Ok value) steps;
          hidden = steps.hidden;
          runs = λ e f. runs_on;
          observed = λ o e.
              subst (λ (b : Bool). ChangesImage {T = B} old.tree next old.params (state old.disk) (state new.disk) b
              (Err apply.NoMemory)) (sym runs_on)
              (reads_change old.tree next old.params keeps.fitting (state old.disk) (state new.disk)
              (Err apply.NoMemory) (keeps.stands o runs) ((steps.observed o runs).still refl) tt);
        }

    module _ {A B : Type 0} (next : Tree) (IsFirst : A → Type 0) (IsAnswer : B → Type 0) (mid new : StoreState D)
        (value : A) (first : StepsStore state old.tree IsFirst old mid (Ok value)) where
      pub mid_runs : mid.is_stopped ≡ false
      mid_runs = first.runs runs (λ e. absurd (cc))

      mid_tree : mid.tree ≡ old.tree
      mid_tree = tree_stays IsFirst old mid (Ok value) first

      -- a step behind one that leaves the tree as it is
      pub steps_behind : (result : Result B ApplyFault) → StepsStore state next IsAnswer mid new result
          → StepsStore state next IsAnswer old new result
      steps_behind result then = record {
        params = then.params ∙ first.params;
        kept = keeps_then (state old.disk) (state mid.disk) (state new.disk) first.kept then.kept;
        faults = then.faults ∙ same_faults result first.faults;
        stopped = (λ e. absurd (false≢true (sym mid_runs ∙ then.stopped.0 e)), λ e. absurd (false≢true (sym runs ∙ e)));
        still = λ e. absurd (false≢true (sym runs ∙ e));
        answer = λ o. then.answer (first.kept.observable ∙ o);
        tree = λ o. then.tree (first.kept.observable ∙ o);
        fault = same_tree result then.fault;
        hidden = λ unseen. then.hidden (λ o. unseen (sym first.kept.observable ∙ o)) ∙ mid_tree;
        runs = λ e. then.runs mid_runs;
        observed = λ o e.
            change_behind old.tree next old.params keeps.fitting (state old.disk) (state mid.disk)
            (state new.disk) new.is_stopped result (keeps.stands o runs) ((first.observed o runs).still refl)
            (subst (λ (t : Tree). ChangesImage t next old.params (state mid.disk)
            (state new.disk) new.is_stopped result) mid_tree
            (subst (λ (p : Parameters). ChangesImage mid.tree next p (state mid.disk)
            (state new.disk) new.is_stopped result)
            first.params (then.observed (first.kept.observable ∙ o) mid_runs)));
      }
        where
          same_faults : (r : Result B ApplyFault) → (state mid.disk).faults ≡ (state old.disk).faults
              → apply_faults_after (state mid.disk).faults r ≡ apply_faults_after (state old.disk).faults r
          same_faults r e = ap (λ (n : ℕ). apply_faults_after n r) e

          same_tree : (r : Result B ApplyFault) → OnErr r (new.tree ≡ mid.tree) → OnErr r (new.tree ≡ old.tree)
          same_tree (Ok value) e = tt
          same_tree (Err fault) e = e ∙ mid_tree
