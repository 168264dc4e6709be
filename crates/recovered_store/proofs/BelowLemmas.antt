-- The disk below a recovered image is as the image's history tells.
use Rattle.std.proofs.Common.{◌≡◌, ◌⊎◌, ℕ, zero, suc, ◌<◌, ◌≤◌, List, ◌∷◌, length, drop, inl, inr, refl, sym, ap}
use Rattle.std.proofs.Common.{subst, ◌∙◌, arith, slice_index, Ordering, Less, Equal, Greater, nat_cmp, Result, Ok}
use Rattle.std.proofs.Common.{Err, OnOk}
use Rattle.std.specs.Cmp.{tied_itself}
use Rattle.std.specs.Cmp.Lexicographic.{slice_cmp, nat_list_cmp_total}
use Rattle.std.specs.FinMap.{slice_cmp-IsAntisymmetric, nat_cmp-IsAntisymmetric}
use Rattle.store_model.specs.Parameters.{Parameters, IsParameters, image_len}
use Rattle.store_model.specs.Trees.{Tree}
use Rattle.store_model.specs.Images.{Represents, bytes_at}
use Rattle.store_base.specs.Counts.{raised_by, faults_after}
use Rattle.store_base.specs.declared.fault.DiskFault.{DiskFault}
use Rattle.store_base.specs.SlotsState.{SlotsState}
use Rattle.store_base.specs.SlotsState as slots
use Rattle.disk_model.specs.DiskState.{DiskState, IsObservable, IsSound}
use Rattle.disk_model.specs.DiskCalls.{Elapses, IsRead}
use Rattle.gate_journal.specs.Places.{ReadsOnly}
use Rattle.gate_journal.specs.ViewState.{viewed, viewed_count, viewed_whole}
use Rattle.image_check.specs.declared.fault.AttachFault.{AttachFault}
use Rattle.store_core.specs.StoreState.{StoreState}
use Rattle.store_core.specs.StoreCalls as calls
use Rattle.recovered_store.specs.BelowDisks.{IsTrace, first_moment, IsOver, IsUntouched}
use Rattle.recovered_store.specs.SlotsDisks.{image_of, disk_state, disk_sound, ReadsSlots}

-- ---- what is told of the disk below

trace_on : (old new : DiskState) → ReadsOnly old new → (moment : ℕ) (trace : List ℕ) → IsTrace old moment trace
    → IsTrace new moment trace
trace_on old new reads zero trace (image, here, is) = (
  image,
  (reads.crash image).1 here,
  is ∙ ap (λ n. n ∷ old.syncs ∷ image) (sym reads.write_count) ∙ ap (λ n. new.writes ∷ n ∷ image)
      (sym reads.sync_count),
)
trace_on old new reads (suc moment) trace is =
    is ∙ ap (λ n. n ∷ old.syncs ∷ old.bytes) (sym reads.write_count)
    ∙ ap (λ n. new.writes ∷ n ∷ old.bytes) (sym reads.sync_count)
    ∙ ap (λ bytes. new.writes ∷ new.syncs ∷ bytes) (sym reads.bytes)

trace_back : (old new : DiskState) → ReadsOnly old new → (moment : ℕ) (trace : List ℕ) → IsTrace new moment trace
    → IsTrace old moment trace
trace_back old new reads zero trace (image, here, is) = (
  image,
  (reads.crash image).0 here,
  is ∙ ap (λ n. n ∷ new.syncs ∷ image) reads.write_count ∙ ap (λ n. old.writes ∷ n ∷ image) reads.sync_count,
)
trace_back old new reads (suc moment) trace is =
    is ∙ ap (λ n. n ∷ new.syncs ∷ new.bytes) reads.write_count
    ∙ ap (λ n. old.writes ∷ n ∷ new.bytes) reads.sync_count
    ∙ ap (λ bytes. old.writes ∷ old.syncs ∷ bytes) reads.bytes

-- a disk that stands over another stands over what that was before it was read
pub over_before : (old new disk : DiskState) → ReadsOnly old new → new.size ≡ old.size → IsOver new disk
    → IsOver old disk
over_before old new disk reads size over = record {
  size = sym size ∙ over.size;
  begun = over.begun;
  traces = λ moment trace early long. (
    λ told. trace_back old new reads moment trace ((over.traces moment trace early long).0 told),
    λ is. (over.traces moment trace early long).1 (trace_on old new reads moment trace is),
  );
}

-- and goes on to do so while images as long as its own come up
pub over_later : (below old new : DiskState) → IsOver below old → new.size ≡ old.size → Elapses old new
    → ((image : List ℕ) → new.crash_images_since old.clock image → length image ≡ old.size) → IsOver below new
over_later below old new over size time short = record {
  size = over.size ∙ sym size;
  begun = omega (arith, over.begun, time.later);
  traces = λ moment trace early long. (
    λ told. was moment trace early (long ∙ ap (λ n. suc (suc n)) size)
        ((time.since moment trace (omega (arith, over.begun, early))).0 told),
    λ is. (time.since moment trace (omega (arith, over.begun, early))).1
        (inl ((over.traces moment trace early (long ∙ ap (λ n. suc (suc n)) size)).1 is)),
  );
}
  where
    was : (moment : ℕ) (trace : List ℕ) → moment < first_moment → length trace ≡ suc (suc old.size)
        → old.crash_images_since moment trace ⊎ new.crash_images_since old.clock trace → IsTrace below moment trace
    was moment trace early long (inl told) = (over.traces moment trace early long).0 told
    was moment trace early long (inr told) = absurd (omega (arith, long, short trace told))

pub over_reads : (below old new : DiskState) → IsOver below old → new.size ≡ old.size → IsSound old
    → ReadsOnly old new → IsOver below new
over_reads below old new over size sound reads =
    over_later below old new over size reads.leaves.time
    (λ image here. sound.image_size image (reads.leaves.each image here))

-- ---- what the slots of a disk are read as

pub over_slots : (state : SlotsState) (below : DiskState) (p : Parameters) (refused syncs : ℕ)
    → below.size ≡ image_len p.slots → length (image_of p state.slots) ≡ image_len p.slots
    → IsOver below (disk_state state below p refused syncs)
over_slots state below p refused syncs size long = record {
  size = size;
  begun = omega arith;
  traces = λ moment trace early two. (was moment trace two, λ is. inr (early, is));
}
  where
    was : (moment : ℕ) (trace : List ℕ) → length trace ≡ suc (suc (image_len p.slots))
        → (trace ≡ image_of p state.slots) ⊎ ((moment < 2) × IsTrace below moment trace) → IsTrace below moment trace
    was moment trace two (inl is) = absurd (omega (arith, two, ap (λ (xs : List ℕ). length xs) is, long))
    was moment trace two (inr told) = told.1

-- and those of a view
module _ (view p : Parameters) (disk : DiskState) (refused syncs : ℕ) (sound : IsSound disk)
    (size : disk.size ≡ image_len view.slots) (count : view.slots ≡ p.slots) (in_range : IsParameters p) where
  pub sound_view : IsSound (disk_state (viewed view.slots disk) disk p refused syncs)
  sound_view = disk_sound (viewed view.slots disk) disk p refused syncs in_range count (viewed_count view.slots disk)
      (viewed_whole view.slots disk sound size)

  pub over_view : IsOver disk (disk_state (viewed view.slots disk) disk p refused syncs)
  over_view = over_slots (viewed view.slots disk) disk p refused syncs (size ∙ ap image_len count) sound_view.size

module _ (old new : SlotsState) (below after : DiskState) (p : Parameters) (refused syncs : ℕ)
    (at : ℕ) (into : List ℕ) where
  elapses : new.slots ≡ old.slots → ReadsOnly below after
      → Elapses (disk_state old below p refused syncs) (disk_state new after p refused syncs)
  elapses same reads = record {
    later = omega arith;
    since = λ moment left early. (on moment left, back moment left);
  }
    where
      on : (moment : ℕ) (left : List ℕ)
          → (left ≡ image_of p new.slots) ⊎ ((moment < 2) × IsTrace after moment left)
          → ((left ≡ image_of p old.slots) ⊎ ((moment < 2) × IsTrace below moment left))
          ⊎ ((left ≡ image_of p new.slots) ⊎ ((2 < 2) × IsTrace after 2 left))
      on moment left (inl is) = inr (inl is)
      on moment left (inr told) = inl (inr (told.0, trace_back below after reads moment left told.1))

      back : (moment : ℕ) (left : List ℕ)
          → ((left ≡ image_of p old.slots) ⊎ ((moment < 2) × IsTrace below moment left))
          ⊎ ((left ≡ image_of p new.slots) ⊎ ((2 < 2) × IsTrace after 2 left))
          → (left ≡ image_of p new.slots) ⊎ ((moment < 2) × IsTrace after moment left)
      back moment left (inl (inl is)) = inl (is ∙ ap (image_of p) (sym same))
      back moment left (inl (inr told)) = inr (told.0, trace_on below after reads moment left told.1)
      back moment left (inr (inl is)) = inl is
      back moment left (inr (inr told)) = absurd (omega (arith, told.0))

  -- so a read of the image's bytes is one of the disk
  pub is_read : (result : Result (Unit {0}) DiskFault) → ReadsSlots old new result
      → (slots.IsObservable old → ReadsOnly below after)
      → (slots.IsObservable old → OnOk result (into ≡ bytes_at (image_of p old.slots) at (length into)))
      → IsRead (disk_state old below p refused syncs) (disk_state new after p refused syncs) at into result
  is_read result reads below_reads bytes = record {
    call = record {
      size = refl;
      observable = reads.observable;
      faults = counted result reads.faults;
      rise = rising result reads.faults;
      writes = omega arith;
      syncs = omega arith;
      last_fault = omega arith;
      last_write = omega arith;
      last_sync = omega arith;
    };
    observed = λ seen. record {
      time = elapses (reads.slots seen) (below_reads seen);
      read = bytes seen;
      bytes = ap (image_of p) (reads.slots seen);
      crash = λ image. (
        λ is. is ∙ ap (image_of p) (reads.slots seen),
        λ is. is ∙ ap (image_of p) (sym (reads.slots seen)),
      );
      during = λ image told. during image told ∙ ap (image_of p) (reads.slots seen);
      write_count = refl;
      sync_count = refl;
    };
  }
    where
      counted : (r : Result (Unit {0}) DiskFault) → new.faults ≡ faults_after old.faults r
          → raised_by new.faults refused ≡ faults_after (raised_by old.faults refused) r
      counted (Ok done) is = ap (λ n. raised_by n refused) is
      counted (Err fault) is = omega (arith, is)

      rising : (r : Result (Unit {0}) DiskFault) → new.faults ≡ faults_after old.faults r
          → raised_by old.faults refused ≤ raised_by new.faults refused
      rising (Ok done) is = omega (arith, is)
      rising (Err fault) is = omega (arith, is)

      during : (left : List ℕ) → (left ≡ image_of p new.slots) ⊎ ((2 < 2) × IsTrace after 2 left)
          → left ≡ image_of p new.slots
      during left (inl is) = is
      during left (inr told) = absurd (omega (arith, told.0))

-- ---- what stands below in the end

-- lists are the same that can't be other ones
same_list : (a b : List ℕ) → ((a ≡ b → ⊥) → ⊥) → a ≡ b
same_list a b stable = by_order (slice_cmp nat_cmp a b) refl
  where
    itself : a ≡ b → slice_cmp nat_cmp a b ≡ Equal
    itself is = ap (slice_cmp nat_cmp a) (sym is) ∙ tied_itself nat_list_cmp_total a

    by_order : (o : Ordering) → slice_cmp nat_cmp a b ≡ o → a ≡ b
    by_order Equal e = slice_cmp-IsAntisymmetric nat_cmp-IsAntisymmetric a b e
    by_order Less e = absurd (stable (λ is. let no : Less ≡ Equal = sym e ∙ itself is in cc))
    by_order Greater e = absurd (stable (λ is. let no : Greater ≡ Equal = sym e ∙ itself is in cc))

pub untouched_by_reads : (old new : DiskState) → ReadsOnly old new → IsUntouched old new
untouched_by_reads old new reads = record {
  bytes = reads.bytes;
  crash = λ image. (λ none here. none ((reads.crash image).1 here), λ none here. none ((reads.crash image).0 here));
  write_count = reads.write_count;
  sync_count = reads.sync_count;
}

module _ (old new disk : DiskState) (old_sound : IsSound old) (new_sound : IsSound new) (now : IsOver new disk)
    (was : (IsOver old disk → ⊥) → ⊥) where
  old_long : (image : List ℕ) → old.crash_images image → IsOver old disk
      → length (old.writes ∷ old.syncs ∷ image) ≡ suc (suc disk.size)
  old_long image here over = ap (λ n. suc (suc n)) (old_sound.image_size image here ∙ over.size)

  new_long : (image : List ℕ) → new.crash_images image
      → length (new.writes ∷ new.syncs ∷ image) ≡ suc (suc disk.size)
  new_long image here = ap (λ n. suc (suc n)) (new_sound.image_size image here ∙ now.size)

  same_trace : new.writes ∷ new.syncs ∷ new.bytes ≡ old.writes ∷ old.syncs ∷ old.bytes
  same_trace = same_list (new.writes ∷ new.syncs ∷ new.bytes) (old.writes ∷ old.syncs ∷ old.bytes) (λ other.
      was (λ over. other (sym ((now.traces 1 (old.writes ∷ old.syncs ∷ old.bytes) (omega arith)
      (old_long old.bytes old_sound.read_image over)).0
      ((over.traces 1 (old.writes ∷ old.syncs ∷ old.bytes) (omega arith)
      (old_long old.bytes old_sound.read_image over)).1 refl)))))

  -- it is as it was
  pub untouched : IsUntouched old new
  untouched = record {
    bytes = ap (λ (xs : List ℕ). drop 2 xs) same_trace;
    crash = λ image. (
      λ none here. was (λ over. none (on image here over)),
      λ none here. was (λ over. none (back image here over)),
    );
    write_count = ap (λ (xs : List ℕ). slice_index xs 0) same_trace;
    sync_count = ap (λ (xs : List ℕ). slice_index xs 1) same_trace;
  }
    where
      on : (image : List ℕ) → old.crash_images image → IsOver old disk → new.crash_images image
      on image here over =
          let long = old_long image here over in
          let trace = old.writes ∷ old.syncs ∷ image in
          let told = (now.traces 0 trace (omega arith) long).0
          ((over.traces 0 trace (omega arith) long).1 (image, here, refl)) in
          subst new.crash_images (sym (ap (λ (xs : List ℕ). drop 2 xs) told.2)) told.1

      back : (image : List ℕ) → new.crash_images image → IsOver old disk → old.crash_images image
      back image here over =
          let long = new_long image here in
          let trace = new.writes ∷ new.syncs ∷ image in
          let told = (over.traces 0 trace (omega arith) long).0
          ((now.traces 0 trace (omega arith) long).1 (image, here, refl)) in
          subst old.crash_images (sym (ap (λ (xs : List ℕ). drop 2 xs) told.2)) told.1

-- ---- a disk that a store was opened on, or was not

module _ (below old : DiskState) (sound : IsSound old) (over : IsOver below old) where
  pub over_opened : {R : Type 0} (state : R → DiskState) (store : StoreState R) → IsObservable old
      → calls.IsAttached state old store → IsOver below (state store.disk)
  over_opened state store seen attached =
      let opened = attached.observed seen in
      over_later below old (state store.disk) over attached.kept.size opened.crash.time
      (λ image here. short image (opened.crash.each image here))
    where
      short : (image : List ℕ) → old.crash_images image ⊎ Represents image store.tree store.params
          → length image ≡ old.size
      short image (inl here) = sound.image_size image here
      short image (inr r) = r.length_is ∙ sym attached.has_parameters.size_is

  module _ (fault : AttachFault) (new : DiskState) (refused : calls.IsRefused old fault new)
      (seen : IsObservable old) where
    over_represented : (t : Tree) (q : Parameters) → Represents old.bytes t q → IsOver below new
    over_represented t q r =
        let kept = refused.represented seen t q r in
        over_later below old new over refused.kept.size kept.crash.time
        (λ image here. short image (kept.crash.each image here))
      where
        short : (image : List ℕ) → old.crash_images image ⊎ Represents image t q → length image ≡ old.size
        short image (inl here) = sound.image_size image here
        short image (inr other) = other.length_is ∙ sym r.length_is ∙ sound.size

    pub over_refused : (IsOver below new → ⊥) → ⊥
    over_refused none =
        let left = refused.unrepresented seen (λ t q r. none (over_represented t q r)) in
        none (over_later below old new over refused.kept.size left.crash.time
        (λ image here. sound.image_size image (left.crash.each image here)))
