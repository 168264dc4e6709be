-- What is known of a store between two turns of a loop, over any trees, and what a turn leaves of it: a step that the
-- store takes, with any answer, or nothing. A call on sessions over the store is such a step too.
use Rattle.std.proofs.Common.{◌≡◌, false, ℕ, ◌+◌, Result, Ok, Err, OnOk, refl, sym, ap, subst, ◌∙◌, arith}
use Rattle.std.proofs.lemmas.Bool.{false≢true}
use Rattle.store_model.specs.Parameters.{Parameters}
use Rattle.store_model.specs.Trees.{Tree}
use Rattle.store_base.specs.Counts.{raised}
use Rattle.disk_model.specs.DiskState.{DiskState, IsSound}
use Rattle.disk_model.specs.DiskState as disks
use Rattle.image_check.specs.declared.fault.ApplyFault.{ApplyFault}
use Rattle.image_check.specs.declared.fault.ApplyFault.TheVariants as apply
use Rattle.image_check.specs.Faults.{apply_faults_after}
use Rattle.image_check.specs.Standing.{IsFitting, Stands}
use Rattle.gate_journal.specs.Disks.{KeepsDisk}
use Rattle.store_core.specs.StoreState.{StoreState}
use Rattle.staged_tree.specs.ImageChanges.{ChangesImage}
use Rattle.store_core.specs.StoreCalls.{StepsStore}
use Rattle.staged_tree.proofs.DiskLemmas.{keeps_then}
use Rattle.staged_tree.proofs.Unchanged.{keeps_itself}
use Rattle.image_subcommands.specs.declared.status.Status.{Status}
use Rattle.image_subcommands.specs.declared.status.Status.TheVariants as statuses
use Rattle.image_subcommands.specs.Endings.{apply_status}
use Rattle.image_subcommands.specs.Statuses.{disk_faults_by}
use Rattle.script_runs.specs.Runs.{IsReady}
use Rattle.script_runs.specs.Turns.{StoreSoFar, StoreEnds}
use Rattle.script_runs.proofs.DiskTurns.{disk_start, disk_reading, disk_still, disk_more, changes_whole, changes_fault}

-- A store that was running took a step: from its tree it went on to the next one, or it failed.
pub record MovesStore {D A : Type 0} (state : D → DiskState) (next : Tree) (old new : StoreState D)
    (result : Result A ApplyFault) : Type 0 where
  pub params : new.params ≡ old.params
  pub kept : KeepsDisk (state old.disk) (state new.disk)
  pub faults : (state new.disk).faults ≡ apply_faults_after (state old.disk).faults result
  pub ran : result ≡ Err apply.Stopped → ⊥
  pub runs : (result ≡ Err apply.Disk → ⊥) → new.is_stopped ≡ false
  pub tree : disks.IsObservable (state old.disk) → OnOk result (new.tree ≡ next)
  pub observed : disks.IsObservable (state old.disk)
      → ChangesImage old.tree next old.params (state old.disk) (state new.disk) new.is_stopped result

-- so it is with a command or a group of them
pub moves_by_step : {D A : Type 0} {state : D → DiskState} {next : Tree} {IsAnswer : A → Type 0}
    {old new : StoreState D} {result : Result A ApplyFault} → old.is_stopped ≡ false
    → StepsStore state next IsAnswer old new result → MovesStore state next old new result
moves_by_step running steps = record {
  params = steps.params;
  kept = steps.kept;
  faults = steps.faults;
  ran = λ e. false≢true (sym running ∙ steps.stopped.0 e);
  runs = steps.runs running;
  tree = steps.tree;
  observed = λ o. steps.observed o running;
}

-- a call that ended otherwise than by a fault of the disk has its count of failed calls as it was
disk_spared : (status : Status) (old new : ℕ) → (status ≡ statuses.DiskFault → ⊥) → disk_faults_by status old ≡ new
    → old ≡ new
disk_spared status old new other e = grind arith

-- before the first turn
pub store_start : {D : Type 0} {disk_of : D → DiskState} {Told : Type 0} {trees : ℕ → Tree} {first : StoreState D}
    → ((disk : D) → disks.IsObservable (disk_of disk) → IsSound (disk_of disk))
    → IsReady disk_of first → trees 0 ≡ first.tree → StoreSoFar disk_of Told trees first first 0
store_start {D} {disk_of} {Told} {trees} {first} sound ready here = record {
  params = refl;
  runs = ready.runs;
  kept = keeps_itself (disk_of first.disk);
  faults = refl;
  tree = λ told o. sym here;
  disk = λ told o. disk_start (sound first.disk o)
      (subst (λ (t : Tree). IsFitting t first.params) (sym here) ready.fitting)
      (subst (λ (t : Tree). Stands (disk_of first.disk) t first.params) (sym here) (ready.stands o));
}

module _ {D : Type 0} {disk_of : D → DiskState} {Told : Type 0} {trees : ℕ → Tree} {first now : StoreState D} {done : ℕ}
    (so_far : StoreSoFar disk_of Told trees first now done) where
  -- the turns ended otherwise than by a fault of the disk
  pub store_ends : (status : Status) → (status ≡ statuses.DiskFault → ⊥)
      → StoreEnds disk_of Told trees status done first now
  store_ends status other = record {
    kept = so_far.kept;
    faults = so_far.faults ∙ disk_spared status (disk_of first.disk).faults _ other refl;
    changes = λ told o. changes_whole (so_far.disk told o) other;
  }

  -- a turn that leaves the tree, and in which nothing is asked of the store
  pub store_still : (Told → disks.IsObservable (disk_of first.disk) → trees (done + 1) ≡ now.tree)
      → StoreSoFar disk_of Told trees first now (done + 1)
  store_still after = record {
    params = so_far.params;
    runs = so_far.runs;
    kept = so_far.kept;
    faults = so_far.faults;
    tree = λ told o. sym (after told o);
    disk = λ told o. disk_still (so_far.disk told o) (after told o ∙ so_far.tree told o);
  }

  -- a step was taken, to any tree and with any answer
  module _ (sound : (disk : D) → disks.IsObservable (disk_of disk) → IsSound (disk_of disk)) {A : Type 0} {tree : Tree}
      {next : StoreState D} where
    kept_on : {result : Result A ApplyFault} → MovesStore disk_of tree now next result
        → KeepsDisk (disk_of first.disk) (disk_of next.disk)
    kept_on steps = keeps_then (disk_of first.disk) (disk_of now.disk) (disk_of next.disk) so_far.kept steps.kept

    -- it keeps the tree, and is none of those that are counted
    pub store_read : tree ≡ now.tree → {answer : A} → MovesStore disk_of tree now next (Ok answer)
        → StoreSoFar disk_of Told trees first next done
    store_read keeps steps = record {
      params = steps.params ∙ so_far.params;
      runs = steps.runs (λ e. cc);
      kept = kept_on steps;
      faults = steps.faults ∙ so_far.faults;
      tree = λ told o. steps.tree (so_far.kept.observable ∙ o) ∙ keeps ∙ so_far.tree told o;
      disk = λ told o.
          let observable = so_far.kept.observable ∙ o in
          disk_reading (so_far.disk told o) (sound now.disk observable) ((steps.observed observable).still keeps);
    }

    -- it leads to the tree behind the turn
    module _ (after : Told → disks.IsObservable (disk_of first.disk) → trees (done + 1) ≡ tree)
        {result : Result A ApplyFault} (steps : MovesStore disk_of tree now next result) where
      change : Told → disks.IsObservable (disk_of first.disk)
          → ChangesImage (trees done) (trees (done + 1)) first.params
          (disk_of now.disk) (disk_of next.disk) next.is_stopped result
      change told o =
          subst (λ (p : Parameters). ChangesImage (trees done) (trees (done + 1)) p (disk_of now.disk)
          (disk_of next.disk) next.is_stopped result) so_far.params
          (subst (λ (t : Tree). ChangesImage (trees done) t now.params (disk_of now.disk)
          (disk_of next.disk) next.is_stopped result) (sym (after told o))
          (subst (λ (t : Tree). ChangesImage t tree now.params (disk_of now.disk)
          (disk_of next.disk) next.is_stopped result) (so_far.tree told o)
          (steps.observed (so_far.kept.observable ∙ o))))

    module _ (after : Told → disks.IsObservable (disk_of first.disk) → trees (done + 1) ≡ tree) where
      -- and was taken
      pub store_more : {answer : A} → MovesStore disk_of tree now next (Ok answer)
          → StoreSoFar disk_of Told trees first next (done + 1)
      store_more steps = record {
        params = steps.params ∙ so_far.params;
        runs = steps.runs (λ e. cc);
        kept = kept_on steps;
        faults = steps.faults ∙ so_far.faults;
        tree = λ told o. steps.tree (so_far.kept.observable ∙ o) ∙ sym (after told o);
        disk = λ told o. disk_more (so_far.disk told o) (change after steps told o);
      }

      -- or a fault came in it
      pub store_failed : (fault : ApplyFault) → MovesStore {A = A} disk_of tree now next (Err fault)
          → StoreEnds disk_of Told trees (apply_status fault) done first next
      store_failed apply.Disk steps = record {
        kept = kept_on steps;
        faults = steps.faults ∙ ap raised so_far.faults;
        changes = λ told o. changes_fault (so_far.disk told o)
            (sound next.disk (steps.kept.observable ∙ so_far.kept.observable ∙ o)) (change after steps told o);
      }
      store_failed apply.NoMemory steps = record {
        kept = kept_on steps;
        faults = steps.faults ∙ so_far.faults;
        changes = λ told o.
            let observable = so_far.kept.observable ∙ o in
            changes_whole
            (disk_reading (so_far.disk told o) (sound now.disk observable) ((steps.observed observable).no_memory refl))
            {status = statuses.NoMemory} (λ e. cc);
      }
      store_failed apply.Stopped steps = absurd (steps.ran refl)
