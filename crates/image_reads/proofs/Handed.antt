-- What is said of a store that was opened and only read is said of the disk below.
use Rattle.std.proofs.Common.{◌≡◌, ℕ, List, length, IfErr, Result, Ok, Err, refl, sym, ap, subst, ◌∙◌, arith}
use Rattle.disk_model.specs.DiskState.{DiskState, IsObservable, IsSound}
use Rattle.store_base.specs.Counts.{Rose, raised, raised_by}
use Rattle.gate_journal.specs.Places.{ReadsOnly}
use Rattle.image_check.specs.declared.fault.AttachFault.{AttachFault}
use Rattle.image_check.specs.declared.fault.AttachFault.TheVariants as attach
use Rattle.store_core.specs.StoreState.{StoreState}
use Rattle.recovered_store.specs.BelowDisks.{IsOver, IsUntouched}
use Rattle.recovered_store.specs.RecoveredStores.{IsOpened, IsRefused}
use Rattle.recovered_store.proofs.BelowLemmas.{over_reads, untouched}
use Rattle.image_reads.specs.declared.fault.ReadFault.{ReadFault}
use Rattle.image_reads.specs.declared.fault.ReadFault.TheVariants as reads
use Rattle.image_reads.specs.Faults.{unopened_fault}
use Rattle.image_reads.specs.Reads.{IsUnread}
use Rattle.image_reads.specs.StoreReads.{IsStoreFault, IsOnlyRead}

-- ---- faults

-- a disk that was not opened
pub unread_refused : (old new : DiskState) (fault : AttachFault) → IsRefused old fault new
    → IsUnread old new (unopened_fault fault)
unread_refused old new attach.Disk is = record {
  not_image = λ e. absurd cc;
  damaged = λ e. absurd cc;
  failed = λ seen e. is.failed seen refl;
  changed = λ e. absurd cc;
}
unread_refused old new attach.NoMemory is = record {
  not_image = λ e. absurd cc;
  damaged = λ e. absurd cc;
  failed = λ seen e. absurd cc;
  changed = λ e. absurd cc;
}
unread_refused old new attach.NotImage is = record {
  not_image = λ e. is.not_image refl;
  damaged = λ e. absurd cc;
  failed = λ seen e. absurd cc;
  changed = λ e. absurd cc;
}
unread_refused old new attach.Damaged is = record {
  not_image = λ e. absurd cc;
  damaged = λ e. is.damaged refl;
  failed = λ seen e. absurd cc;
  changed = λ e. absurd cc;
}

-- and the output is not to blame for that
pub refused_without_output : (fault : AttachFault) → unopened_fault fault ≡ reads.Output → ⊥
refused_without_output attach.Disk e = cc
refused_without_output attach.NoMemory e = cc
refused_without_output attach.NotImage e = cc
refused_without_output attach.Damaged e = cc

module _ {R : Type 0} (state : R → DiskState) (old : DiskState) (store : StoreState R)
    (opened : IsOpened state old store) (after below : DiskState) (refused : ℕ)
    (faults_are : after.faults ≡ raised_by below.faults refused) (writes_are : after.writes ≡ raised_by 0 refused)
    (read : IsOnlyRead (state store.disk) after) where
  -- a fault of the store is one of the disk below
  pub rose : IsObservable old → after.faults ≡ raised (state store.disk).faults → Rose old.faults below.faults
  rose seen is =
      let unwritten : raised_by 0 refused ≡ 0 =
      sym writes_are ∙ (read.reads (opened.observable ∙ seen)).write_count ∙ opened.unwritten seen in
      let none : refused ≡ 0 = omega (arith, unwritten) in
      let last : after.faults ≡ raised_by below.faults 0 = faults_are ∙ ap (λ n. raised_by below.faults n) none in
      let first : after.faults ≡ raised (raised_by old.faults 0) = is ∙ ap raised opened.faults in
      omega (arith, first, last)

  -- one that was opened, and not read to its end
  pub unread_opened : (fault : ReadFault) → IsStoreFault (state store.disk) after fault → IsUnread old below fault
  unread_opened fault is = record {
    not_image = λ e. absurd (subst (IsStoreFault (state store.disk) after) e is);
    damaged = λ e. absurd (subst (IsStoreFault (state store.disk) after) e is);
    failed = λ seen e. rose seen (subst (IsStoreFault (state store.disk) after) e is);
    changed = λ e seen. (subst (IsStoreFault (state store.disk) after) e is) (opened.observable ∙ seen);
  }

  -- and what is said of a result
  pub unread_by : {T : Type 0} (result : Result T ReadFault) → IfErr result (IsStoreFault (state store.disk) after)
      → IfErr result (IsUnread old below)
  unread_by (Ok value) is = tt
  unread_by (Err fault) is = unread_opened fault is

-- ---- the disk below

module _ (old new before after : DiskState) (old_sound : IsSound old) (new_sound : IsSound new)
    (before_sound : IsSound before) (after_sound : IsSound after) (over : IsOver old before)
    (now : IsOver new after) where
  pub untouched_so : ReadsOnly before after → IsUntouched old new
  untouched_so reads =
      let size = sym after_sound.size ∙ ap (λ (xs : List ℕ). length xs) reads.bytes ∙ before_sound.size in
      untouched old new after old_sound new_sound now (λ none. none (over_reads old before after over size before_sound
      reads))
