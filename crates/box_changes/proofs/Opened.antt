-- What a call does on a disk that opens its image, and makes a change of it.
use Rattle.std.proofs.Common.{◌≡◌, ◌⊎◌, ℕ, ◌<◌, ◌≤◌, List, Bool, false, IsTrue, IfOk, refl, sym, ap, ◌∙◌, subst}
use Rattle.std.proofs.Common.{Result, Ok}
use Rattle.std.proofs.Common.{Err, inl, inr, arith}
use Rattle.std.proofs.lemmas.Bool.{false≢true}
use Rattle.store_model.specs.declared.refusal.Refusal.{Refusal}
use Rattle.store_model.specs.Parameters.{Parameters}
use Rattle.store_model.specs.Paths.{Path}
use Rattle.store_model.specs.Trees.{Tree}
use Rattle.store_model.specs.Pages.{page_count}
use Rattle.store_model.specs.Images.{Represents}
use Rattle.store_model.proofs.TreesLemmasLayouts.{images_tell}
use Rattle.disk_model.specs.DiskState.{DiskState, IsObservable}
use Rattle.disk_model.proofs.Crashes.{LeavesOnly-trans, LeavesOnly-weaken}
use Rattle.store_base.specs.Counts.{raised, Rose}
use Rattle.script_lines.specs.SinkState.{SinkState}
use Rattle.image_check.specs.declared.fault.AttachFault.{AttachFault}
use Rattle.image_check.specs.declared.fault.AttachFault.TheVariants as attach
use Rattle.image_check.specs.declared.fault.ApplyFault.{ApplyFault}
use Rattle.image_check.specs.declared.fault.ApplyFault.TheVariants as apply
use Rattle.image_check.specs.Standing.{IsFitting, Stands}
use Rattle.staged_tree.specs.ImageChanges as engine
use Rattle.staged_tree.proofs.DiskLemmas.{keeps_then}
use Rattle.staged_tree.proofs.Unchanged.{standing_represents}
use Rattle.store_core.specs.StoreCalls.{IsAttached, IsRefused, IsOpened, KeepsImage}
use Rattle.store_core.specs.StoreState.{StoreState}
use Rattle.image_changes.specs.declared.outcome.Outcome.{Outcome}
use Rattle.image_changes.specs.declared.outcome.Outcome.TheVariants as outcomes
use Rattle.image_changes.specs.Words.{Changes, IsOutcome}
use Rattle.box_words.specs.declared.status.Status.{Status}
use Rattle.box_words.specs.declared.status.Status.TheVariants as statuses
use Rattle.box_calls.specs.declared.reason.Reason.{Reason}
use Rattle.box_calls.specs.Endings as said
use Rattle.box_calls.specs.Endings.{IsTold, status_of, ended_status}
use Rattle.box_changes.specs.Changing.{Meaning, Refusing, ChangesTree, ChangesDisk, IsRefusedAt, HasNoRoom}
use Rattle.box_changes.specs.Changing.{is_change_status, ChangesImage}
use Rattle.box_changes.specs.Endings.{open_trouble, change_done, EndsChange}
use Rattle.box_changes.proofs.Statuses.{change_status, refused_status, open_told, open_path, open_full, open_no_image}
use Rattle.box_changes.proofs.Statuses.{open_damaged}

-- ---- where the image was not opened

module _ (means : Meaning) (refuses : Refusing) (fault : AttachFault) (old new : DiskState) where
  kept_tree : (t : Tree) (p : Parameters) → KeepsImage t p old fault new
      → ChangesTree (means p) (refuses p) t p old new (status_of (open_trouble fault))
  kept_tree t p keeps = record {
    next = t;
    reached = inr refl;
    done = λ told. absurd (open_told fault told);
    unchanged = λ bad whole. keeps.represents;
    failed = λ e. inl keeps.represents;
    refused = λ e. absurd (open_path fault e);
    full = λ e. absurd (open_full fault e);
    crash = LeavesOnly-weaken old new (λ image. old.crash_images image ⊎ Represents image t p)
        (λ image. old.crash_images image ⊎ (Represents image t p ⊎ Represents image t p))
        (λ image left. wider image left) keeps.crash;
  }
    where
      wider : (image : List ℕ) → old.crash_images image ⊎ Represents image t p
          → old.crash_images image ⊎ (Represents image t p ⊎ Represents image t p)
      wider image (inl gone) = inl gone
      wider image (inr here) = inr (inl here)

  pub unopened_disk : IsObservable old → IsRefused old fault new
      → ChangesDisk means refuses old new (status_of (open_trouble fault))
  unopened_disk o refused = record {
    not_image = λ e. refused.not_image (open_no_image fault e);
    damaged = λ e. refused.damaged (open_damaged fault e);
    nothing = λ none. (refused.unrepresented o none, open_told fault);
    changes = λ t p represents. kept_tree t p (refused.represented o t p represents);
  }

-- ---- where it was

-- how it ends by what a change came to
abbrev pub change_ends : Reason → Result Outcome ApplyFault → Status
change_ends there result = ended_status (change_done there result)

module _ (means : Tree → Tree → Type 0) (refuses : Tree → Path → Refusal → Type 0) (p : Parameters) (t next : Tree)
    (new : DiskState) where
  -- the tree that the image holds then
  pub record Ends (status : Status) : Type 0 where
    pub done : IsTold status → means t next × Stands new next p
    pub unchanged : (IsTold status → ⊥) → (status ≡ statuses.Disk → ⊥) → Represents new.bytes t p
    pub refused : status ≡ statuses.Path → IsRefusedAt refuses t
    pub full : status ≡ statuses.Full → HasNoRoom means t p

  not_told : (status other : Status) → status ≡ other → (IsTold other → ⊥) → IsTold status → ⊥
  not_told status other e never told = never (subst IsTold e told)

  path_told : IsTold statuses.Path → ⊥
  path_told (inl e) = absurd cc
  path_told (inr e) = absurd cc

  full_told : IsTold statuses.Full → ⊥
  full_told (inl e) = absurd cc
  full_told (inr e) = absurd cc

  disk_told : IsTold statuses.Disk → ⊥
  disk_told (inl e) = absurd cc
  disk_told (inr e) = absurd cc

  memory_told : IsTold statuses.NoMemory → ⊥
  memory_told (inl e) = absurd cc
  memory_told (inr e) = absurd cc

  -- the old tree, where nothing was changed
  stays : next ≡ t → Represents new.bytes t p ⊎ Represents new.bytes next p → Represents new.bytes t p
  stays same (inl here) = here
  stays same (inr there) = subst (λ (u : Tree). Represents new.bytes u p) same there

  refused_ends : (path : Path) (why : Refusal) → next ≡ t → refuses t path why
      → Represents new.bytes t p ⊎ Represents new.bytes next p → (status : Status) → status ≡ statuses.Path
      → Ends status
  refused_ends path why same refuses_it reads status is = record {
    done = λ told. absurd (not_told status statuses.Path is path_told told);
    unchanged = λ bad whole. stays same reads;
    refused = λ e. record { path = path; why = why; refused = refuses_it };
    full = λ e. absurd (differ status is e);
  }
    where
      differ : (s : Status) → s ≡ statuses.Path → s ≡ statuses.Full → ⊥
      differ s a b = cc

  done_ends : means t next → Stands new next p → Ends statuses.Done
  done_ends meant stands = record {
    done = λ told. (meant, stands);
    unchanged = λ bad whole. absurd (bad (inl refl));
    refused = λ e. absurd cc;
    full = λ e. absurd cc;
  }

  full_ends : next ≡ t → HasNoRoom means t p → Represents new.bytes t p ⊎ Represents new.bytes next p
      → Ends statuses.Full
  full_ends same room reads = record {
    done = λ told. absurd (full_told told);
    unchanged = λ bad whole. stays same reads;
    refused = λ e. absurd cc;
    full = λ e. room;
  }

  disk_ends : Ends statuses.Disk
  disk_ends = record {
    done = λ told. absurd (disk_told told);
    unchanged = λ bad whole. absurd (whole refl);
    refused = λ e. absurd cc;
    full = λ e. absurd cc;
  }

  memory_ends : Represents new.bytes t p → Ends statuses.NoMemory
  memory_ends here = record {
    done = λ told. absurd (memory_told told);
    unchanged = λ bad whole. here;
    refused = λ e. absurd cc;
    full = λ e. absurd cc;
  }

-- a change that was made, refused or not carried out
module _ (means : Tree → Tree → Type 0) (refuses : Tree → Path → Refusal → Type 0) (p : Parameters) (t next : Tree)
    (there : Reason) (mid new : DiskState) (stopped : Bool) (fits : IsFitting t p) (stood : Stands mid t p) where
  by_result : (result : Result Outcome ApplyFault) → IfOk result (IsOutcome means refuses p t next)
      → engine.ChangesImage t next p mid new stopped result → Ends means refuses p t next new (change_ends there result)
  by_result (Ok outcomes.Done) answer image = done_ends means refuses p t next new answer image.stands
  by_result (Ok (outcomes.Refused path why)) answer image =
      refused_ends means refuses p t next new path why answer.0 answer.1 image.reads _ (refused_status there why)
  by_result (Ok (outcomes.Full need slots)) answer image = full_ends means refuses p t next new answer.0 (record {
    next = answer.1.tree;
    means_it = answer.1.meant;
    more = subst (λ (n : ℕ). n < page_count answer.1.tree p) answer.1.slots_is
        (subst (λ (n : ℕ). slots < n) answer.1.need_is answer.1.more);
  }) image.reads
  by_result (Err apply.Disk) answer image = disk_ends means refuses p t next new
  by_result (Err apply.NoMemory) answer image = memory_ends means refuses p t next new
      (subst (λ (bytes : List ℕ). Represents bytes t p) (sym (image.no_memory refl).bytes)
      (standing_represents t p mid.bytes fits stood.layout_is))
  by_result (Err apply.Stopped) answer image = disk_ends means refuses p t next new

-- A step of a store that was opened, whatever it was: the tree that it reached, and how the call ends by it.
module _ {D T : Type 0} (state : D → DiskState) (means : Meaning) (refuses : Refusing) (old : DiskState)
    (store store_new : StoreState D) (result : Result T ApplyFault) (next : Tree) (status : Status)
    (attached : IsAttached state old store) (o : IsObservable old)
    (image : engine.ChangesImage store.tree next store.params (state store.disk) (state store_new.disk)
    store_new.is_stopped result)
    (reached : means store.params store.tree next ⊎ (next ≡ store.tree))
    (ends : Ends (means store.params) (refuses store.params) store.params store.tree next (state store_new.disk) status)
  where
    opened : IsOpened store.tree store.params old (state store.disk)
    opened = attached.observed o

    -- what a crash may leave
    abbrev pub Left : List ℕ → Type 0
    Left bytes = old.crash_images bytes
        ⊎ (Represents bytes store.tree store.params ⊎ Represents bytes next store.params)

    first : (bytes : List ℕ) → old.crash_images bytes ⊎ Represents bytes store.tree store.params → Left bytes
    first bytes (inl gone) = inl gone
    first bytes (inr here) = inr (inl here)

    stepped_tree : ChangesTree (means store.params) (refuses store.params) store.tree store.params old
        (state store_new.disk) status
    stepped_tree = record {
      next = next;
      reached = reached;
      done = ends.done;
      unchanged = ends.unchanged;
      failed = λ e. image.reads;
      refused = ends.refused;
      full = ends.full;
      crash = LeavesOnly-trans old (state store.disk) (state store_new.disk) Left
          (LeavesOnly-weaken old (state store.disk) _ _ first opened.crash)
          (LeavesOnly-weaken (state store.disk) (state store_new.disk) _ _ (λ bytes left. inr left) image.crash);
    }

    pub stepped_disk : (status ≡ statuses.NotImage → ⊥) → (status ≡ statuses.Damaged → ⊥)
        → ChangesDisk means refuses old (state store_new.disk) status
    stepped_disk image_told damage_told = record {
      not_image = λ e. absurd (image_told e);
      damaged = λ e. absurd (damage_told e);
      nothing = λ none. absurd (none store.tree store.params opened.represents);
      changes = λ t p represents.
          let same = images_tell old.bytes store.tree t store.params p opened.represents represents in
          subst (λ (q : Parameters). ChangesTree (means q) (refuses q) t q old (state store_new.disk) status) same.1
          (subst (λ (u : Tree). ChangesTree (means store.params) (refuses store.params) u store.params old
          (state store_new.disk) status) same.0 stepped_tree);
    }

-- a change is not told as of an image that was not opened
told_image : (there : Reason) (r : Result Outcome ApplyFault) → change_ends there r ≡ statuses.NotImage → ⊥
told_image there (Ok outcomes.Done) e = cc
told_image there (Ok (outcomes.Refused path why)) e = path_image (sym (refused_status there why) ∙ e)
  where
    path_image : statuses.Path ≡ statuses.NotImage → ⊥
    path_image f = cc
told_image there (Ok (outcomes.Full need slots)) e = cc
told_image there (Err apply.Disk) e = cc
told_image there (Err apply.NoMemory) e = cc
told_image there (Err apply.Stopped) e = cc

told_damaged : (there : Reason) (r : Result Outcome ApplyFault) → change_ends there r ≡ statuses.Damaged → ⊥
told_damaged there (Ok outcomes.Done) e = cc
told_damaged there (Ok (outcomes.Refused path why)) e = path_damaged (sym (refused_status there why) ∙ e)
  where
    path_damaged : statuses.Path ≡ statuses.Damaged → ⊥
    path_damaged f = cc
told_damaged there (Ok (outcomes.Full need slots)) e = cc
told_damaged there (Err apply.Disk) e = cc
told_damaged there (Err apply.NoMemory) e = cc
told_damaged there (Err apply.Stopped) e = cc

pub changed_disk : {D : Type 0} (state : D → DiskState) (means : Meaning) (refuses : Refusing) (there : Reason)
    (old : DiskState) (store store_new : StoreState D) (result : Result Outcome ApplyFault)
    → IsAttached state old store
    → Changes state (means store.params) (refuses store.params) store store_new result → IsObservable old
    → ChangesDisk means refuses old (state store_new.disk) (change_ends there result)
changed_disk state means refuses there old store store_new result attached changes o =
    let seen = attached.kept.observable ∙ o in
    let image = changes.store.observed seen attached.runs in
    let ends = by_result (means store.params) (refuses store.params) store.params store.tree changes.next there
    (state store.disk) (state store_new.disk) store_new.is_stopped attached.fitting (attached.observed o).stands
    result (changes.store.answer seen) image in
    stepped_disk state means refuses old store store_new result changes.next (change_ends there result) attached o image
    (changes.reached seen) ends (told_image there result) (told_damaged there result)

-- ---- how it may end, and whom it blames

pub opens_only : (fault : AttachFault) → IsTrue (is_change_status (status_of (open_trouble fault)))
opens_only attach.Disk = refl
opens_only attach.NoMemory = refl
opens_only attach.NotImage = refl
opens_only attach.Damaged = refl

pub changes_only : (there : Reason) (r : Result Outcome ApplyFault) → IsTrue (is_change_status (change_ends there r))
changes_only there (Ok outcomes.Done) = refl
changes_only there (Ok (outcomes.Refused path why)) =
    subst (λ (s : Status). IsTrue (is_change_status s)) (sym (refused_status there why)) refl
changes_only there (Ok (outcomes.Full need slots)) = refl
changes_only there (Err apply.Disk) = refl
changes_only there (Err apply.NoMemory) = refl
changes_only there (Err apply.Stopped) = refl

raises : (old new : ℕ) → new ≡ raised old → Rose old new
raises old new is = subst (λ n. raised old ≤ n) (sym is) (omega arith)

pub open_failed : (fault : AttachFault) (old new : DiskState) → IsRefused old fault new
    → status_of (open_trouble fault) ≡ statuses.Disk → Rose old.faults new.faults
open_failed attach.Disk old new refused e = raises old.faults new.faults refused.faults
open_failed attach.NoMemory old new refused e = absurd cc
open_failed attach.NotImage old new refused e = absurd cc
open_failed attach.Damaged old new refused e = absurd cc

module _ {D : Type 0} (state : D → DiskState) (means : Tree → Tree → Type 0)
    (refuses : Tree → Path → Refusal → Type 0) (there : Reason) (old : DiskState) (store store_new : StoreState D)
    (attached : IsAttached state old store) where
  pub change_failed : (r : Result Outcome ApplyFault) → Changes state means refuses store store_new r
      → change_ends there r ≡ statuses.Disk → Rose old.faults (state store_new.disk).faults
  change_failed (Ok outcomes.Done) changes e = absurd cc
  change_failed (Ok (outcomes.Refused path why)) changes e = absurd (path_disk (sym (refused_status there why) ∙ e))
    where
      path_disk : statuses.Path ≡ statuses.Disk → ⊥
      path_disk f = cc
  change_failed (Ok (outcomes.Full need slots)) changes e = absurd cc
  change_failed (Err apply.Disk) changes e = raises old.faults (state store_new.disk).faults
      (changes.store.faults ∙ ap raised attached.faults)
  change_failed (Err apply.NoMemory) changes e = absurd cc
  change_failed (Err apply.Stopped) changes e = absurd (false≢true (sym attached.runs ∙ changes.store.stopped.0 refl))

-- ---- all that is promised

pub unopened_image : (sums_up : Bool) (means : Meaning) (refuses : Refusing) (fault : AttachFault) (old new : DiskState)
    (say say_new : SinkState) (status : Status) → IsRefused old fault new
    → said.Ends (Err (open_trouble fault)) status say say_new
    → ChangesImage sums_up means refuses old new say say_new status
unopened_image sums_up means refuses fault old new say say_new status refused ends = record {
  done = Err (open_trouble fault);
  recovered = false;
  ends = record { between = say; recovery = refl; ends = ends };
  kept = refused.kept;
  only = subst (λ (s : Status). IsTrue (is_change_status s)) (sym ends.status_is) (opens_only fault);
  failed = λ e. open_failed fault old new refused (sym ends.status_is ∙ e);
  observed = λ o. subst (λ (s : Status). ChangesDisk means refuses old new s) (sym ends.status_is)
      (unopened_disk means refuses fault old new o refused);
}

pub changed_image : {D : Type 0} (state : D → DiskState) (sums_up recovered : Bool) (means : Meaning)
    (refuses : Refusing) (there : Reason) (old : DiskState) (store store_new : StoreState D)
    (result : Result Outcome ApplyFault) (say say_new : SinkState) (status : Status) → IsAttached state old store
    → Changes state (means store.params) (refuses store.params) store store_new result
    → EndsChange sums_up recovered (change_done there result) 0 status say say_new
    → ChangesImage sums_up means refuses old (state store_new.disk) say say_new status
changed_image state sums_up recovered means refuses there old store store_new result say say_new status attached changes
    ends =
    let is = change_status sums_up recovered (change_done there result) status say say_new ends in
    record {
      done = change_done there result;
      recovered = recovered;
      ends = ends;
      kept = keeps_then old (state store.disk) (state store_new.disk) attached.kept changes.store.kept;
      only = subst (λ (s : Status). IsTrue (is_change_status s)) (sym is) (changes_only there result);
      failed = λ e. change_failed state (means store.params) (refuses store.params) there old store store_new attached
          result changes (sym is ∙ e);
      observed = λ o. subst (λ (s : Status). ChangesDisk means refuses old (state store_new.disk) s) (sym is)
          (changed_disk state means refuses there old store store_new result attached changes o);
    }
