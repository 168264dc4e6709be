-- What lines do to an observable disk, one after another, and behind the opening of an image: where it stands, what a
-- crash leaves, and which writes and syncs are made.
use Rattle.std.proofs.Common.{◌≡◌, ◌⊎◌, ℕ, suc, ◌+◌, ◌≤◌, Bool, List, Ok, Err, refl, sym, ap, subst, ◌∙◌, arith, inl}
use Rattle.std.proofs.Common.{inr}
use Rattle.std.proofs.Common.{⊎_elim}
use Rattle.std.proofs.lemmas.Bool.{false≢true}
use Rattle.store_model.specs.Parameters.{Parameters}
use Rattle.store_model.specs.Trees.{Tree}
use Rattle.store_model.specs.Images.{Represents}
use Rattle.disk_model.specs.DiskState.{DiskState, IsSound, MayLeaveOnly}
use Rattle.disk_model.specs.DiskCalls.{LeavesOnly}
use Rattle.disk_model.proofs.Crashes.{LeavesOnly-refl, LeavesOnly-trans, LeavesOnly-weaken, MayLeaveOnly-end}
use Rattle.gate_journal.specs.Places.{Made, ReadsOnly}
use Rattle.gate_journal.specs.Costs.{commit_writes, commit_syncs}
use Rattle.gate_journal.specs.Costs.{MadeAtMost, opening_writes, opening_syncs}
use Rattle.gate_journal.specs.Disks.{IsOnlySynced, IsUnwritten}
use Rattle.gate_journal.proofs.Reading.{ReadsOnly-refl, ReadsOnly-trans}
use Rattle.image_check.specs.declared.fault.ApplyFault.TheVariants as apply
use Rattle.image_check.specs.Standing.{IsFitting, Stands}
use Rattle.staged_tree.specs.ImageChanges.{ChangesImage}
use Rattle.staged_tree.specs.TableChanges.{slots_between}
use Rattle.staged_tree.proofs.CostLemmas.{made_none, made_reading, made_then, made_as, at_most, at_most_then}
use Rattle.staged_tree.proofs.CostLemmas.{at_most_as}
use Rattle.staged_tree.proofs.CostLemmas.{none_between}
use Rattle.staged_tree.proofs.Unchanged.{standing_represents, stands_reading}
use Rattle.store_core.specs.StoreCalls.{IsOpened}
use Rattle.image_subcommands.specs.declared.status.Status.{Status}
use Rattle.image_subcommands.specs.declared.status.Status.TheVariants as statuses
use Rattle.image_subcommands.specs.Statuses.{Row, IsBetweenLines}
use Rattle.image_subcommands.proofs.StatusLemmas.{other_than, disk_fault_or_not}
use Rattle.script_runs.specs.Costs.{run_writes, run_syncs, CountsRun}
use Rattle.script_runs.specs.Promises.{RepresentsOneOf, PromisesImage, PromisesCrashes}
use Rattle.script_runs.specs.Runs.{ChangesByLines}
use Rattle.script_runs.specs.Runs.{LeavesByLines}
use Rattle.script_runs.specs.Turns.{DiskSoFar}

want_of_memory : statuses.NoMemory ≡ statuses.DiskFault → ⊥
want_of_memory e = cc

module _ (trees : ℕ → Tree) (p : Parameters) (n : ℕ) where
  -- ---- the writes and syncs of one line more

  writes_more : run_writes p trees (n + 1)
      ≡ run_writes p trees n + commit_writes (slots_between p (trees n) (trees (n + 1)))
  writes_more = let more : n + 1 ≡ suc n = omega arith in ap (run_writes p trees) more

  syncs_more : run_syncs p trees (n + 1)
      ≡ run_syncs p trees n + commit_syncs (slots_between p (trees n) (trees (n + 1)))
  syncs_more = let more : n + 1 ≡ suc n = omega arith in ap (run_syncs p trees) more

  made_more : (first now next : DiskState) → Made (run_writes p trees n) (run_syncs p trees n) first now
      → Made (commit_writes (slots_between p (trees n) (trees (n + 1))))
      (commit_syncs (slots_between p (trees n) (trees (n + 1)))) now next
      → Made (run_writes p trees (n + 1)) (run_syncs p trees (n + 1)) first next
  made_more first now next before line =
      made_as first next _ _ _ _ (sym writes_more) (sym syncs_more) (made_then first now next _ _ _ _ before line)

  -- ---- what a crash leaves

  -- what represents a tree of the lines represents one of those up to a later number
  one_of : (k : ℕ) (image : List ℕ) → k ≤ n → Represents image (trees k) p → RepresentsOneOf trees n p image
  one_of k image low represents = (k, low, represents)

  one_more : (image : List ℕ) → RepresentsOneOf trees n p image → RepresentsOneOf trees (n + 1) p image
  one_more image one = let low : one.0 ≤ n = one.1 in (one.0, omega (arith, low), one.2)

  either_of : (image : List ℕ) → Represents image (trees n) p ⊎ Represents image (trees (n + 1)) p
      → RepresentsOneOf trees (n + 1) p image
  either_of image (inl old) = one_more image (one_of n image (omega arith) old)
  either_of image (inr new) = (n + 1, omega arith, new)

  crash_more : (first now next : DiskState) → LeavesOnly first now (RepresentsOneOf trees n p)
      → LeavesOnly now next (λ image. Represents image (trees n) p ⊎ Represents image (trees (n + 1)) p)
      → LeavesOnly first next (RepresentsOneOf trees (n + 1) p)
  crash_more first now next before line =
      LeavesOnly-trans first now next (RepresentsOneOf trees (n + 1) p)
      (LeavesOnly-weaken first now (RepresentsOneOf trees n p) (RepresentsOneOf trees (n + 1) p) one_more before)
      (LeavesOnly-weaken now next _ (RepresentsOneOf trees (n + 1) p) either_of line)

  -- from the first tree on
  first_one : (old new : DiskState) → LeavesOnly old new (λ image. Represents image (trees 0) p)
      → LeavesOnly old new (RepresentsOneOf trees n p)
  first_one old new leaves =
      LeavesOnly-weaken old new _ (RepresentsOneOf trees n p)
      (λ image represents. one_of 0 image (omega arith) represents) leaves

-- ---- between two lines

-- before the first line
pub disk_start : {trees : ℕ → Tree} {p : Parameters} {disk : DiskState} → IsSound disk → IsFitting (trees 0) p
    → Stands disk (trees 0) p → DiskSoFar trees p 0 disk disk
disk_start {trees} {p} {disk} sound fit stands = record {
  stands = stands;
  crash = LeavesOnly-refl disk (RepresentsOneOf trees 0 p) sound
      (λ image gone. one_of trees p 0 0 image (omega arith)
      (standing_represents (trees 0) p image fit (stands.durable image gone ∙ stands.layout_is)));
  quiet = λ all. ReadsOnly-refl disk sound;
  counts = made_none disk;
}

module _ {trees : ℕ → Tree} {p : Parameters} {n : ℕ} {first now : DiskState} (so_far : DiskSoFar trees p n first now)
  where
    -- reads, for a line that is not carried out
    pub disk_reading : {next : DiskState} → IsSound now → ReadsOnly now next → DiskSoFar trees p n first next
    disk_reading {next} sound reads = record {
      stands = stands_reading now next (trees n) p reads so_far.stands;
      crash = LeavesOnly-trans first now next (RepresentsOneOf trees n p) so_far.crash
          (LeavesOnly-weaken now next now.crash_images (RepresentsOneOf trees n p)
          (MayLeaveOnly-end first now (RepresentsOneOf trees n p) sound so_far.crash) reads.leaves);
      quiet = λ all. ReadsOnly-trans first now next (so_far.quiet all) reads;
      counts = made_as first next (run_writes p trees n + 0) (run_writes p trees n) (run_syncs p trees n + 0)
          (run_syncs p trees n) (omega arith) (omega arith)
          (made_then first now next (run_writes p trees n) (run_syncs p trees n) 0 0 so_far.counts
          (made_reading now next reads));
    }

    -- a line that leaves the tree, and of which the disk is not asked
    pub disk_still : trees (n + 1) ≡ trees n → DiskSoFar trees p (n + 1) first now
    disk_still same = record {
      stands = subst (λ (t : Tree). Stands now t p) (sym same) so_far.stands;
      crash = LeavesOnly-weaken first now (RepresentsOneOf trees n p) (RepresentsOneOf trees (n + 1) p)
          (one_more trees p n) so_far.crash;
      quiet = λ all. so_far.quiet (λ k low. all k (omega arith));
      counts = made_more trees p n first now now so_far.counts
          (subst (λ k. Made (commit_writes k) (commit_syncs k) now now)
          (sym (none_between p (trees n) (trees (n + 1)) same)) (made_none now));
    }

    -- a step that was taken
    pub disk_more : {T : Type 0} {value : T} {next : DiskState} {is_stopped : Bool}
        → ChangesImage (trees n) (trees (n + 1)) p now next is_stopped (Ok value) → DiskSoFar trees p (n + 1) first next
    disk_more {T} {value} {next} change = record {
      stands = change.stands;
      crash = crash_more trees p n first now next so_far.crash change.crash;
      quiet = λ all. ReadsOnly-trans first now next (so_far.quiet (λ k low. all k (omega arith)))
          (change.still (all (n + 1) (omega arith) ∙ sym (all n (omega arith))));
      counts = made_more trees p n first now next so_far.counts change.counts.made;
    }

    -- one in which the disk failed
    pub changes_fault : {T : Type 0} {next : DiskState} {is_stopped : Bool} → IsSound next
        → ChangesImage {T = T} (trees n) (trees (n + 1)) p now next is_stopped (Err apply.Disk)
        → ChangesByLines statuses.DiskFault n trees p first next
    changes_fault {T} {next} sound change = record {
      stands = λ e. absurd (e refl);
      fault = λ e. change.reads;
      crashes = record {
        during = λ h. absurd (h refl);
        during_fault = λ e. crash_more trees p n first now next so_far.crash change.crash;
        between = λ h. absurd (false≢true h);
        fault = λ e. MayLeaveOnly-end now next _ sound change.crash;
        no_memory = λ e. absurd (want_of_memory (sym e));
      };
      quiet = λ e all. absurd (e refl);
      counts = record {
        whole = λ e. absurd (e refl);
        failed = λ e. at_most_as first next _ _ _ _ (sym (writes_more trees p n)) (sym (syncs_more trees p n))
            (at_most_then first now next _ _ _ _ so_far.counts change.counts.limit);
      };
    }

    -- the call ends otherwise than by a fault of the disk
    pub changes_whole : {status : Status} → (status ≡ statuses.DiskFault → ⊥)
        → ChangesByLines status n trees p first now
    changes_whole other = record {
      stands = λ e. so_far.stands;
      fault = λ e. absurd (other e);
      crashes = record {
        during = λ h. so_far.crash;
        during_fault = λ e. absurd (other e);
        between = λ h. so_far.stands.durable;
        fault = λ e. absurd (other e);
        no_memory = λ e. inl so_far.stands;
      };
      quiet = λ e all. so_far.quiet all;
      counts = record { whole = λ e. so_far.counts; failed = λ e. absurd (other e) };
    }

-- ---- behind the opening of an image

-- where each image that a crash at the start may leave represents the tree, so does each while the image is opened
opened_represents : (trees : ℕ → Tree) (p : Parameters) {old new : DiskState}
    → MayLeaveOnly old (λ image. Represents image (trees 0) p)
    → LeavesOnly old new (λ image. old.crash_images image ⊎ Represents image (trees 0) p)
    → LeavesOnly old new (λ image. Represents image (trees 0) p)
opened_represents trees p {old} {new} may leaves =
    LeavesOnly-weaken old new _ (λ image. Represents image (trees 0) p)
    (λ image either. ⊎_elim (λ left. may image left) (λ represents. represents) either) leaves

module _ {trees : ℕ → Tree} {p : Parameters} {status : Status} where
  -- it could not be opened, or nothing was done
  pub leaves_none : {old new : DiskState} → (IsBetweenLines status → ⊥) → IsSound new
      → Represents new.bytes (trees 0) p → (status ≡ statuses.NoMemory → IsOnlySynced old new)
      → ((status ≡ statuses.DiskFault → ⊥) → IsUnwritten old new)
      → MadeAtMost (opening_writes p.slots old.bytes) (opening_syncs p.slots old.bytes) old new
      → LeavesOnly old new (λ image. old.crash_images image ⊎ Represents image (trees 0) p)
      → LeavesByLines (trees 0) trees p status 0 old new
  leaves_none {old} {new} other sound represents synced unwritten limit crash = record {
    image = record {
      between = λ h. absurd (other h);
      no_memory = λ e. inr (refl, synced e);
      fault = λ e. inl represents;
    };
    counts = record {
      between = λ h. absurd (other h);
      no_memory = λ e. inr (synced e);
      limit = record { write_limit = omega (arith, limit.write_limit); sync_limit = omega (arith, limit.sync_limit) };
    };
    quiet = λ empty whole all. unwritten whole;
    crashes = λ may.
        let leaves = opened_represents trees p may crash in
        let at_end = MayLeaveOnly-end old new _ sound leaves in
        record {
          during = λ h. first_one trees p 0 old new leaves;
          during_fault = λ e. first_one trees p (0 + 1) old new leaves;
          between = λ h. absurd (other h);
          fault = λ e image left. inl (at_end image left);
          no_memory = λ e. inr at_end;
        };
  }

  -- lines were answered behind it
  pub leaves_behind : {done : ℕ} {old mid new : DiskState} → IsOpened (trees 0) p old mid
      → ChangesByLines status done trees p mid new → LeavesByLines (trees 0) trees p status done old new
  leaves_behind {done} {old} {mid} {new} opened changes =
      let made : (status ≡ statuses.DiskFault → ⊥) → Made (opening_writes p.slots old.bytes + run_writes p trees done)
      (opening_syncs p.slots old.bytes + run_syncs p trees done) old new =
      λ other. made_then old mid new _ _ _ _ opened.counts (changes.counts.whole other) in
      let between : IsBetweenLines status → status ≡ statuses.DiskFault → ⊥ =
      λ h. other_than (λ (r : Row). r.is_between_lines) status statuses.DiskFault h refl in
      let memory : status ≡ statuses.NoMemory → status ≡ statuses.DiskFault → ⊥ =
      λ e d. want_of_memory (sym e ∙ d) in
      record {
        image = record {
          between = λ h. changes.stands (between h);
          no_memory = λ e. inl (changes.stands (memory e));
          fault = changes.fault;
        };
        counts = record {
          between = λ h. made (between h);
          no_memory = λ e. inl (made (memory e));
          limit = ⊎_elim
              (λ failed. at_most_then old mid new _ _ _ _ opened.counts (changes.counts.failed failed))
              (λ whole. let writes = writes_more trees p done in
              let syncs = syncs_more trees p done in
              at_most old new (opening_writes p.slots old.bytes + run_writes p trees done)
              (opening_syncs p.slots old.bytes + run_syncs p trees done)
              (opening_writes p.slots old.bytes + run_writes p trees (done + 1))
              (opening_syncs p.slots old.bytes + run_syncs p trees (done + 1)) (made whole) (omega (arith, writes))
              (omega (arith, syncs))) (disk_fault_or_not status);
        };
        quiet = λ empty whole all.
            let reads = changes.quiet whole all in
            let opening = opened.unwritten empty in
            record { bytes = reads.bytes ∙ opening.bytes; writes = reads.write_count ∙ opening.writes };
        crashes = λ may.
            let leaves = opened_represents trees p may opened.crash in
            record {
              during = λ h. LeavesOnly-trans old mid new (RepresentsOneOf trees done p)
                  (first_one trees p done old mid leaves) (changes.crashes.during h);
              during_fault = λ e. LeavesOnly-trans old mid new (RepresentsOneOf trees (done + 1) p)
                  (first_one trees p (done + 1) old mid leaves) (changes.crashes.during_fault e);
              between = changes.crashes.between;
              fault = changes.crashes.fault;
              no_memory = changes.crashes.no_memory;
            };
      }
