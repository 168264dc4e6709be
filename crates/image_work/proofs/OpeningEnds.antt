-- How a call ends that had no store of its image, and what it has of one that was opened.
use Rattle.std.proofs.Common.{◌≡◌, ◌⊎◌, true, false, [], refl, sym, ap, ◌∙◌, subst, arith, inl, inr, ⊎_elim}
use Rattle.std.proofs.lemmas.Bool.{false≢true}
use Rattle.store_model.specs.Parameters.{Parameters}
use Rattle.store_model.specs.Trees.{Tree}
use Rattle.store_model.specs.Scripts.{script_limit}
use Rattle.store_model.specs.Images.{Represents}
use Rattle.store_base.specs.Counts.{Rose}
use Rattle.disk_model.specs.DiskState.{DiskState, IsSound}
use Rattle.disk_model.specs.DiskState as disks
use Rattle.disk_model.proofs.Crashes.{LeavesOnly-refl}
use Rattle.gate_journal.specs.Costs.{opening_writes, opening_syncs}
use Rattle.gate_journal.specs.Disks.{IsUnwritten}
use Rattle.gate_journal.specs.Headers.{HasParameters}
use Rattle.image_check.specs.Verdicts.{IsNoImage, IsDamaged}
use Rattle.script_lines.specs.SourceState.{SourceState}
use Rattle.script_lines.specs.LineState.{LineState}
use Rattle.image_check.specs.declared.fault.AttachFault.{AttachFault}
use Rattle.image_check.specs.declared.fault.AttachFault.TheVariants as faults
use Rattle.store_core.specs.StoreCalls.{IsAttached, IsRefused, KeepsImage, LeavesImage}
use Rattle.store_core.specs.StoreState.{StoreState}
use Rattle.staged_tree.proofs.CostLemmas.{made_none, at_most}
use Rattle.staged_tree.proofs.Unchanged.{keeps_itself}
use Rattle.image_subcommands.specs.declared.status.Status.{Status}
use Rattle.image_subcommands.specs.declared.status.Status.TheVariants as statuses
use Rattle.image_subcommands.specs.Endings.{attach_status}
use Rattle.image_subcommands.specs.Limits.{KeepsLimit, IsUnread}
use Rattle.image_subcommands.specs.Statuses.{Subcommand, IsStatusOf, IsPastHeader, MayComeFirst, done_of_work}
use Rattle.image_subcommands.proofs.ReportLemmas.{rose}
use Rattle.image_work.specs.Works.{IsReady, IsAfterOpening}

pub no_image_by : (fault : AttachFault) → attach_status fault ≡ statuses.NotImage → fault ≡ faults.NotImage
no_image_by faults.Disk e = absurd (cc)
no_image_by faults.NoMemory e = absurd (cc)
no_image_by faults.NotImage e = refl
no_image_by faults.Damaged e = absurd (cc)

pub damaged_by : (fault : AttachFault) → attach_status fault ≡ statuses.Damaged → fault ≡ faults.Damaged
damaged_by faults.Disk e = absurd (cc)
damaged_by faults.NoMemory e = absurd (cc)
damaged_by faults.NotImage e = absurd (cc)
damaged_by faults.Damaged e = refl

pub memory_only : (fault : AttachFault) → attach_status fault ≡ statuses.NoMemory → fault ≡ faults.Disk → ⊥
memory_only faults.Disk e d = cc
memory_only faults.NoMemory e d = cc
memory_only faults.NotImage e d = cc
memory_only faults.Damaged e d = cc

-- a fault other than that the image is none or damaged
pub comes_first : (fault : AttachFault) → (fault ≡ faults.NotImage → ⊥) → (fault ≡ faults.Damaged → ⊥)
    → MayComeFirst (attach_status fault)
comes_first faults.Disk image whole = refl
comes_first faults.NoMemory image whole = refl
comes_first faults.NotImage image whole = absurd (image refl)
comes_first faults.Damaged image whole = absurd (whole refl)

-- a status that comes only where there was a store
not_behind : (fault : AttachFault) → IsAfterOpening (attach_status fault) → ⊥
not_behind faults.Disk h = false≢true h
not_behind faults.NoMemory h = false≢true h
not_behind faults.NotImage h = false≢true h
not_behind faults.Damaged h = false≢true h

pub never_behind : (fault : AttachFault) (status : Status) → IsAfterOpening status → attach_status fault ≡ status → ⊥
never_behind fault status behind e = not_behind fault (subst IsAfterOpening (sym e) behind)

-- a call that may end for want of memory and of an image ends so for every fault of opening it
pub opens_so : (word : Subcommand) → IsStatusOf word statuses.NoMemory → IsStatusOf word statuses.NotImage
    → (fault : AttachFault) → IsStatusOf word (attach_status fault)
opens_so word fails refuses faults.Disk = fails
opens_so word fails refuses faults.NoMemory = fails
opens_so word fails refuses faults.NotImage = refuses
opens_so word fails refuses faults.Damaged = refuses

-- no work was done
pub none_done : (fault : AttachFault) → 0 ≡ done_of_work (attach_status fault)
none_done faults.Disk = refl
none_done faults.NoMemory = refl
none_done faults.NotImage = refl
none_done faults.Damaged = refl

-- nothing was taken
pub none_taken : (fault : AttachFault) (source : SourceState) → KeepsLimit (attach_status fault) source source
none_taken fault source = record {
  too_long = λ e. absurd (never_behind fault statuses.TooLong refl e);
  within = λ h. (0, omega arith, record { taken = []; taken_is = refl; count_is = refl });
  whole = λ e. absurd (never_behind fault statuses.Done refl e);
}

left_alone : (disk : DiskState) → IsSound disk → LeavesImage disk disk
left_alone disk sound = record {
  synced = record { bytes = refl; writes = refl; sync_limit = omega arith };
  crash = LeavesOnly-refl disk disk.crash_images sound (λ image gone. gone);
}

no_image_reason : faults.NoMemory ≡ faults.NotImage → ⊥
no_image_reason e = cc

damage_reason : faults.NoMemory ≡ faults.Damaged → ⊥
damage_reason e = cc

-- nothing was asked of the disk
pub nothing_opened : (disk : DiskState) → (disks.IsObservable disk → IsSound disk) → IsRefused disk faults.NoMemory disk
nothing_opened disk sound = record {
  kept = keeps_itself disk;
  faults = refl;
  not_image = λ e. absurd (cc);
  damaged = λ e. absurd (cc);
  unwritten = λ o other. left_alone disk (sound o);
  looked = λ o reason. absurd (⊎_elim no_image_reason damage_reason reason);
  represented = λ o t p represents. record {
    not_image = λ e. cc;
    damaged = λ e. cc;
    represents = represents;
    crash = LeavesOnly-refl disk (λ image. disk.crash_images image ⊎ Represents image t p) (sound o)
        (λ image gone. inl gone);
    limit = at_most disk disk 0 0 (opening_writes p.slots disk.bytes) (opening_syncs p.slots disk.bytes)
        (made_none disk) (omega arith) (omega arith);
  };
  unrepresented = λ o none. left_alone disk (sound o);
}

module _ (fault : AttachFault) (old new : DiskState) (refused : IsRefused old fault new)
    (o : disks.IsObservable old) where
  pub says_no_image : (f : AttachFault) → fault ≡ f → IsNoImage old
      → (attach_status f ≡ statuses.NotImage) ⊎ MayComeFirst (attach_status f)
  says_no_image faults.Disk is none = inr refl
  says_no_image faults.NoMemory is none = inr refl
  says_no_image faults.NotImage is none = inl refl
  says_no_image faults.Damaged is none = let damaged = refused.damaged is
      in absurd (none o damaged.params (damaged.has_parameters.named o))

  pub says_damaged : (f : AttachFault) → fault ≡ f → IsDamaged old
      → (attach_status f ≡ statuses.Damaged) ⊎ MayComeFirst (attach_status f)
  says_damaged faults.Disk is damaged = inr refl
  says_damaged faults.NoMemory is damaged = inr refl
  says_damaged faults.NotImage is damaged =
      absurd (refused.not_image is o damaged.params (damaged.has_parameters.named o))
  says_damaged faults.Damaged is damaged = inl refl

pub named_by : (fault : AttachFault) (old : DiskState) → (fault ≡ faults.Damaged → IsDamaged old)
    → IsPastHeader (attach_status fault) → (p : Parameters) × HasParameters old p
named_by faults.Disk old damaged h = absurd (false≢true h)
named_by faults.NoMemory old damaged h = absurd (false≢true h)
named_by faults.NotImage old damaged h = absurd (false≢true h)
named_by faults.Damaged old damaged h = let is = damaged refl in (is.params, is.has_parameters)

-- of an image that represents a tree, where no call failed
pub memory_left : (fault : AttachFault) (old new : DiskState) (t : Tree) (p : Parameters) → IsRefused old fault new
    → KeepsImage t p old fault new → (Rose old.faults new.faults → ⊥) → attach_status fault ≡ statuses.NoMemory
memory_left faults.Disk old new t p refused keeps whole = absurd (whole (rose old.faults new.faults refused.faults))
memory_left faults.NoMemory old new t p refused keeps whole = refl
memory_left faults.NotImage old new t p refused keeps whole = absurd (keeps.not_image refl)
memory_left faults.Damaged old new t p refused keeps whole = absurd (keeps.damaged refl)

-- unless the disk failed nothing was written
module _ (fault : AttachFault) (old new : DiskState) (refused : IsRefused old fault new)
    (o : disks.IsObservable old) where
  pub quiet_unopened : (attach_status fault ≡ statuses.DiskFault → ⊥) → IsUnwritten old new
  quiet_unopened whole =
      let synced = (refused.unwritten o (λ e. whole (ap attach_status e))).synced in
      record { bytes = synced.bytes; writes = synced.writes }

-- a reader as it is made
pub new_reader_is_unread : {R : Type 0} (reader : LineState R) (source : R) → reader ≡ record {
  source = source;
  held = [];
  taken = 0;
  limit = script_limit;
  is_ended = false;
  is_live = true;
  text = [];
}
    → IsUnread reader
new_reader_is_unread {R} reader source is = record {
  held = ap (λ (r : LineState R). r.held) is;
  taken = ap (λ (r : LineState R). r.taken) is;
  limit = ap (λ (r : LineState R). r.limit) is;
  live = ap (λ (r : LineState R). r.is_live) is;
}

-- a store that was had is ready for lines
pub attached_is_ready : {D : Type 0} (disk_of : D → DiskState) (old : DiskState) (store : StoreState D)
    → IsAttached disk_of old store → IsReady disk_of store
attached_is_ready disk_of old store attached = record {
  runs = attached.runs;
  fitting = attached.fitting;
  stands = λ o. (attached.observed (sym attached.kept.observable ∙ o)).stands;
}
