-- What is found of an image, by the slots that scrubbing would leave, and what comes of it.
use Rattle.std.proofs.Common.{◌≡◌, ◌⊎◌, ℕ, zero, suc, ◌+◌, ◌<◌, List, ◌∷◌, map, length, take, Result, Ok, Err, OnOk}
use Rattle.std.proofs.Common.{IfErr, IsErrOf, MatchResult, refl, sym, ap, ◌∙◌, subst, inl, inr, ⊎_elim, arith}
use Rattle.store_model.specs.Lists.{numbers_from}
use Rattle.store_model.specs.Parameters.{Parameters, table_at, image_len}
use Rattle.store_model.specs.Trees.{Tree}
use Rattle.store_model.specs.Images.{bytes_at, recovered_slot, scrubbed_block, scrubbed_slot, scrubbed, Represents}
use Rattle.store_model.proofs.ImagesLemmasScrubbed.{slot_of_recovered, slot_of_scrubbed, length-scrubbed}
use Rattle.store_model.proofs.ImagesLemmasScrubbed.{take-recovered, take-scrubbed, recovered-scrubbed}
use Rattle.store_base.specs.declared.fault.DiskFault.{DiskFault}
use Rattle.store_base.specs.declared.store_fault.Fault.{Fault}
use Rattle.store_base.specs.declared.store_fault.Fault.TheVariants.{Disk}
use Rattle.store_base.specs.declared.store_fault.Fault.TheVariants as causes
use Rattle.store_base.specs.SlotsState.{HasCause}
use Rattle.disk_model.specs.DiskState.{DiskState, IsObservable}
use Rattle.disk_model.specs.DiskCalls.{raised}
use Rattle.disk_model.proofs.Crashes.{LeavesOnly-trans, LeavesOnly-weaken}
use Rattle.gate_journal.specs.Costs.{opening_syncs, MadeAtMost}
use Rattle.gate_journal.specs.Disks.{KeepsDisk}
use Rattle.gate_journal.specs.Places.{AreCalls, Made, ReadsOnly}
use Rattle.gate_journal.specs.ReadingLaws.{ReadsOnly-trans}
use Rattle.gate_journal.specs.ViewState.{viewed, KeepsView}
use Rattle.gate_journal.proofs.Stages.{on_ok_map}
use Rattle.image_check.specs.declared.verdict.Verdict.{Verdict}
use Rattle.image_check.specs.declared.verdict.Verdict.TheVariants.{Clean, NotImage, Damaged}
use Rattle.layout_conditions.specs.Layouts.{HaveLayout}
use Rattle.layout_conditions.proofs.LawLemmas.{layout_meets, conditions_tell}
use Rattle.image_check.specs.ImageCalls.{ReadsDisk}
use Rattle.image_check.specs.SlotCalls.{ChecksSlots}
use Rattle.gate_journal.specs.Headers.{IsImageWith, HasParameters}
use Rattle.image_check.specs.Verdicts.{clean_of, IsSlotsVerdict}
use Rattle.image_check.proofs.Images.{slots_in, one_name, represents_tree, represented_layout}
use Rattle.scrub_free.specs.ScrubbedSlots.{scrubbed_slots}
use Rattle.scrub_free.specs.Scrubbing.{ScrubsAs, ScrubsImage, writes_to_scrub, CountsScrub}
use Rattle.scrub_free.specs.ScrubCalls.{ScrubsTo, ScrubsWith, IsScrubVerdict, slots_after, ChecksScrubbed, Scrubs}

-- ---- slots and images

-- a slot that is scrubbed is what recovery would leave of the scrubbed image
slot_after : (slots : ℕ) (image : List ℕ) (i : ℕ) → length image ≡ image_len slots → i < slots
    → scrubbed_block (recovered_slot slots image i) ≡ recovered_slot slots (scrubbed slots image) i
unfolding scrubbed_slot
slot_after slots image i long below =
    sym (slot_of_scrubbed slots image i long below)
    ∙ ap (λ (bytes : List ℕ). bytes_at bytes (table_at slots i) 4096) (sym (recovered-scrubbed slots image long))
    ∙ slot_of_recovered slots (scrubbed slots image) i (length-scrubbed slots image long) below

mapped : (f : List ℕ → List ℕ) (g h : ℕ → List ℕ) (first count : ℕ) → ((i : ℕ) → i < first + count → f (g i) ≡ h i)
    → map f (map g (numbers_from first count)) ≡ map h (numbers_from first count)
unfolding numbers_from
mapped f g h first zero same = refl
mapped f g h first (suc count) same =
    let here : f (g first) ≡ h first = same first (omega arith) in
    let rest = mapped f g h (suc first) count (λ i low. same i (omega arith)) in
    λ i. here i ∷ rest i

slots_are : (slots : ℕ) (image : List ℕ) → length image ≡ image_len slots
    → map scrubbed_block (slots_in slots image) ≡ slots_in slots (scrubbed slots image)
slots_are slots image long =
    mapped scrubbed_block (recovered_slot slots image) (recovered_slot slots (scrubbed slots image)) 0 slots
    (λ i low. slot_after slots image i long (omega arith))

-- a scrubbed image names the same parameters
image_scrubbed : (image : List ℕ) (p : Parameters) → IsImageWith image p → IsImageWith (scrubbed p.slots image) p
image_scrubbed image p is =
    let long = length-scrubbed p.slots image is.length_is in
    let header = sym (take-recovered p.slots (scrubbed p.slots image) long)
    ∙ ap (take 4096) (recovered-scrubbed p.slots image is.length_is) ∙ take-scrubbed p.slots image is.length_is
    ∙ is.names.header_is in
    record { names = record { in_range = is.names.in_range; header_is = header }; length_is = long }

-- an image whose scrubbed slots are the layout of a tree scrubs to it
scrubs_to : (image : List ℕ) (t : Tree) (p : Parameters) → IsImageWith image p
    → HaveLayout (map scrubbed_block (slots_in p.slots image)) t p → ScrubsTo image t p
scrubs_to image t p is held =
    let whole = scrubbed p.slots image in
    let here : HaveLayout (slots_in p.slots whole) t p =
    subst (λ (slots : List (List ℕ)). HaveLayout slots t p) (slots_are p.slots image is.length_is) held in
    record {
      image_is = is;
      tree = held.tree;
      fits = held.fits;
      layout_is = sym (recovered-scrubbed p.slots image is.length_is)
          ∙ (represents_tree whole t p (image_scrubbed image p is) here).layout_is;
    }

-- and one that scrubs to a tree has such slots
scrubbed_layout : (image : List ℕ) (t : Tree) (p : Parameters) → ScrubsTo image t p
    → HaveLayout (map scrubbed_block (slots_in p.slots image)) t p
scrubbed_layout image t p is =
    let whole = scrubbed p.slots image in
    let named = image_scrubbed image p is.image_is in
    let represents : Represents whole t p = record {
      names = named.names;
      length_is = named.length_is;
      tree = is.tree;
      fits = is.fits;
      layout_is = recovered-scrubbed p.slots image is.image_is.length_is ∙ is.layout_is;
    } in
    subst (λ (slots : List (List ℕ)). HaveLayout slots t p) (sym (slots_are p.slots image is.image_is.length_is))
    (represented_layout whole t p represents)

-- ---- a scrub behind reads alone

after_reads : {T E : Type 0} (slots : ℕ) (old mid new : DiskState) (result : Result T E) → ReadsOnly old mid
    → ScrubsImage slots mid new result → ScrubsImage slots old new result
after_reads slots old mid new result reads scrubs =
    let P = λ (image : List ℕ). old.crash_images image ⊎ ScrubsAs slots old.bytes image in
    let Q = λ (image : List ℕ). mid.crash_images image ⊎ ScrubsAs slots mid.bytes image in
    let leads : (image : List ℕ) → Q image → P image = λ image. ⊎_elim
    (λ (before : mid.crash_images image). inl ((reads.crash image).0 before))
    (λ (is : ScrubsAs slots mid.bytes image).
    inr (subst (λ (bytes : List ℕ). ScrubsAs slots bytes image) reads.bytes is)) in
    record {
      crash = LeavesOnly-trans old mid new P
          (LeavesOnly-weaken old mid old.crash_images P (λ image here. inl here) reads.leaves)
          (LeavesOnly-weaken mid new Q P leads scrubs.crash);
      reads = subst (λ (bytes : List ℕ). ScrubsAs slots bytes new.bytes) reads.bytes scrubs.reads;
      durable = scrubs.durable;
      done = on_ok_map result (new.bytes ≡ scrubbed slots mid.bytes) (new.bytes ≡ scrubbed slots old.bytes)
          (λ done. done ∙ ap (scrubbed slots) reads.bytes) scrubs.done;
    }

counts_after_reads : {T E : Type 0} (slots : ℕ) (old mid new : DiskState) (result : Result T E) → ReadsOnly old mid
    → CountsScrub slots mid new result → CountsScrub slots old new result
counts_after_reads slots old mid new result reads counts =
    let W = writes_to_scrub slots in
    let S = opening_syncs slots in
    record {
      made =
          subst (λ (bytes : List ℕ). OnOk result (Made (W bytes) (S bytes) old new)) reads.bytes
          (on_ok_map result (Made (W mid.bytes) (S mid.bytes) mid new) (Made (W mid.bytes) (S mid.bytes) old new)
          (λ made. record {
            write_count = omega (arith, made.write_count, reads.write_count);
            sync_count = omega (arith, made.sync_count, reads.sync_count);
          }) counts.made);
      limit =
          subst (λ (bytes : List ℕ). MadeAtMost (W bytes) (S bytes) old new) reads.bytes
          (record {
            write_limit = omega (arith, counts.limit.write_limit, reads.write_count);
            sync_limit = omega (arith, counts.limit.sync_limit, reads.sync_count);
          });
    }

-- ---- the check of the slots that scrubbing would leave

-- a check through a view on a disk
pub record ChecksView (p seen left : Parameters) (at back : DiskState) (result : Result Verdict Fault) : Type 0 where
  pub keeps : KeepsView seen left at back
  pub call : ChecksSlots p (scrubbed_slots (viewed seen.slots at)) (scrubbed_slots (viewed left.slots back)) result

-- calls of a view take no memory
in_memory : (result : Result Verdict Fault) (slots : ℕ) (disk : DiskState)
    → IfErr result (HasCause (scrubbed_slots (viewed slots disk))) → IsErrOf result causes.NoMemory → ⊥
in_memory (Ok verdict) slots disk cause is = absurd (cc)
in_memory (Err causes.Disk) slots disk cause is = absurd (cc)
in_memory (Err causes.NoMemory) slots disk cause is = cause refl

checked_view : (p left : Parameters) (mid new : DiskState) (result : Result Verdict Fault)
    → ChecksView p p left mid new result → ChecksScrubbed p mid new result
checked_view p left mid new result view = record {
  reads = record {
    size = view.keeps.size;
    observable = view.keeps.observable;
    faults = view.call.reads.calls.faults;
    rise = view.keeps.rise;
    writes = view.keeps.writes;
    syncs = view.keeps.syncs;
    reads = view.keeps.reads;
  };
  memory = in_memory result p.slots mid view.call.reads.calls.cause;
  never = view.call.never;
  verdict = view.call.verdict;
  clean = view.call.clean;
}

-- a view on this disk, handed back as that one
pub checks_disk : (p seen left : Parameters) (at mid back new : DiskState) (result : Result Verdict Fault) → seen ≡ p
    → at ≡ mid → back ≡ new → ChecksView p seen left at back result → ChecksScrubbed p mid new result
checks_disk p seen left at mid back new result named disk handed view =
    checked_view p left mid new result
    (subst (λ (d : DiskState). ChecksView p p left mid d result) handed
    (subst (λ (d : DiskState). ChecksView p p left d back result) disk
    (subst (λ (q : Parameters). ChecksView p q left at back result) named view)))

-- ---- what a check of the scrubbed slots tells

-- the parameters were read, and then the slots
module _ (old mid new : DiskState) (p : Parameters) (verdict : Verdict) (has : HasParameters old p)
    (read : ReadsDisk {T = Parameters} old mid (Ok p)) (checks : ChecksScrubbed p mid new (Ok verdict)) where
  both_read : IsObservable old → ReadsOnly old new
  both_read told = ReadsOnly-trans old mid new (read.reads told) (checks.reads.reads (read.observable ∙ told))

  both_kept : KeepsDisk old new
  both_kept = record {
    size = checks.reads.size ∙ read.size;
    observable = checks.reads.observable ∙ read.observable;
    faults = omega (arith, read.rise, checks.reads.rise);
    writes = omega (arith, read.writes, checks.reads.writes);
    syncs = omega (arith, read.syncs, checks.reads.syncs);
  }

  held : IsObservable old → (t : Tree) (q : Parameters) → ScrubsTo old.bytes t q → HaveLayout (slots_after p mid) t p
  held told t q is =
      let here : ScrubsTo old.bytes t p =
      subst (ScrubsTo old.bytes t) (one_name old.bytes p q (has.named told) is.image_is) is in
      subst (λ (bytes : List ℕ). HaveLayout (map scrubbed_block (slots_in p.slots bytes)) t p)
      (sym (read.reads told).bytes) (scrubbed_layout old.bytes t p here)

  found : IsObservable old → (t : Tree) → HaveLayout (slots_after p mid) t p → ScrubsTo old.bytes t p
  found told t layout =
      scrubs_to old.bytes t p (has.named told)
      (subst (λ (bytes : List ℕ). HaveLayout (map scrubbed_block (slots_in p.slots bytes)) t p)
      (read.reads told).bytes layout)

  none_found : verdict ≡ Damaged → IsObservable old → (t : Tree) (q : Parameters) → ScrubsTo old.bytes t q → ⊥
  none_found is told t q scrubs =
      (subst (IsSlotsVerdict (slots_after p mid) p) is (checks.verdict (read.observable ∙ told)))
      (layout_meets (slots_after p mid) p t has.in_range (held told t q scrubs)).0

  damaged : verdict ≡ Damaged → Scrubs old new (Ok verdict)
  damaged is = record {
    kept = both_kept;
    faults = checks.reads.faults ∙ read.faults;
    verdict = subst (IsScrubVerdict old) (sym is) (record {
      params = p;
      has_parameters = has;
      no_tree = none_found is;
    });
    clean = λ told t q scrubs. absurd (none_found is told t q scrubs);
    only_read = λ told none. both_read told;
    memory = λ error. cc;
    scrubs = λ told t q scrubs. absurd (none_found is told t q scrubs);
    counts = λ told t q scrubs. absurd (none_found is told t q scrubs);
  }

  -- scrubbing leaves the layout of a tree
  clean_found : (pages dirs files bytes : ℕ) → verdict ≡ Clean pages dirs files bytes → IsObservable old
      → ScrubsWith old.bytes p verdict
  clean_found pages dirs files bytes is told =
      let slots = subst (IsSlotsVerdict (slots_after p mid) p) is (checks.verdict (read.observable ∙ told)) in
      record {
        tree = slots.meets.tree;
        scrubs = found told slots.meets.tree (conditions_tell (slots_after p mid) p has.in_range slots.meets);
        verdict_is = is ∙ slots.verdict_is;
      }

  clean_verdict : (pages dirs files bytes : ℕ) → verdict ≡ Clean pages dirs files bytes → IsScrubVerdict old verdict
  clean_verdict pages dirs files bytes is =
      subst (IsScrubVerdict old) (sym is) (record {
        params = p;
        has_parameters = has;
        scrubs = λ told. subst (ScrubsWith old.bytes p) is (clean_found pages dirs files bytes is told);
      })

  clean_is : IsObservable old → (t : Tree) (q : Parameters) → ScrubsTo old.bytes t q → verdict ≡ clean_of t q
  clean_is told t q is =
      let there = layout_meets (slots_after p mid) p t has.in_range (held told t q is) in
      checks.clean (read.observable ∙ told) there.0 ∙ ap (λ u. clean_of u p) there.1
      ∙ ap (clean_of t) (sym (one_name old.bytes p q (has.named told) is.image_is))

  module _ (pages dirs files bytes : ℕ) (is : verdict ≡ Clean pages dirs files bytes) (last : DiskState) where
    not_none : IsObservable old → ((t : Tree) (q : Parameters) → ScrubsTo old.bytes t q → ⊥) → ⊥
    not_none told none = let with = clean_found pages dirs files bytes is told in none with.tree p with.scrubs

    kept : {T E : Type 0} (result : Result T E) → AreCalls new last result → KeepsDisk old last
    kept result calls =
        let before = both_kept in
        record {
          size = calls.size ∙ before.size;
          observable = calls.observable ∙ before.observable;
          faults = omega (arith, before.faults, calls.rise);
          writes = omega (arith, before.writes, calls.writes);
          syncs = omega (arith, before.syncs, calls.syncs);
        }

    -- the scrub did not fail
    scrubbed_whole : (value : Unit {0}) → AreCalls {E = DiskFault} new last (Ok value)
        → (IsObservable new → ScrubsImage {E = DiskFault} p.slots new last (Ok value))
        → (IsObservable new → CountsScrub {E = DiskFault} p.slots new last (Ok value)) → Scrubs old last (Ok verdict)
    scrubbed_whole value calls scrubs counts = record {
      kept = kept (Ok value) calls;
      faults = calls.faults ∙ checks.reads.faults ∙ read.faults;
      verdict = clean_verdict pages dirs files bytes is;
      clean = clean_is;
      only_read = λ told none. absurd (not_none told none);
      memory = λ error. cc;
      scrubs = λ told t q to.
          let image = after_reads p.slots old new last (Ok value) (both_read told)
          (scrubs (both_kept.observable ∙ told)) in
          let answered : ScrubsImage {E = Fault} p.slots old last (Ok verdict) = record {
            crash = image.crash;
            reads = image.reads;
            durable = image.durable;
            done = image.done;
          } in
          subst (λ (r : Parameters). ScrubsImage {E = Fault} r.slots old last (Ok verdict))
          (sym (one_name old.bytes p q (has.named told) to.image_is)) answered;
      counts = λ told t q to.
          let behind = counts_after_reads p.slots old new last (Ok value) (both_read told)
          (counts (both_kept.observable ∙ told)) in
          let answered : CountsScrub {E = Fault} p.slots old last (Ok verdict) = record {
            made = behind.made;
            limit = behind.limit;
          } in
          subst (λ (r : Parameters). CountsScrub {E = Fault} r.slots old last (Ok verdict))
          (sym (one_name old.bytes p q (has.named told) to.image_is)) answered;
    }

    -- it failed
    scrubbed_short : (error : DiskFault) → AreCalls {T = Unit {0}} new last (Err error)
        → (IsObservable new → ScrubsImage {T = Unit {0}} p.slots new last (Err error))
        → (IsObservable new → CountsScrub {T = Unit {0}} p.slots new last (Err error)) → Scrubs old last (Err Disk)
    scrubbed_short error calls scrubs counts = record {
      kept = kept (Err error) calls;
      faults = calls.faults ∙ ap (λ (n : ℕ). raised n) (checks.reads.faults ∙ read.faults);
      verdict = tt;
      clean = λ told t q to. tt;
      only_read = λ told none. absurd (not_none told none);
      memory = λ error. cc;
      scrubs = λ told t q to.
          let image = after_reads p.slots old new last (Err error) (both_read told)
          (scrubs (both_kept.observable ∙ told)) in
          let answered : ScrubsImage {T = Verdict} {E = Fault} p.slots old last (Err Disk) = record {
            crash = image.crash;
            reads = image.reads;
            durable = tt;
            done = tt;
          } in
          subst (λ (r : Parameters). ScrubsImage {T = Verdict} {E = Fault} r.slots old last (Err Disk))
          (sym (one_name old.bytes p q (has.named told) to.image_is)) answered;
      counts = λ told t q to.
          let behind = counts_after_reads p.slots old new last (Err error) (both_read told)
          (counts (both_kept.observable ∙ told)) in
          let answered : CountsScrub {T = Verdict} {E = Fault} p.slots old last (Err Disk) = record {
            made = tt;
            limit = behind.limit;
          } in
          subst (λ (r : Parameters). CountsScrub {T = Verdict} {E = Fault} r.slots old last (Err Disk))
          (sym (one_name old.bytes p q (has.named told) to.image_is)) answered;
    }

    pub scrubbed_clean : (result : Result (Unit {0}) DiskFault) (answer : Result Verdict Fault)
        → AreCalls new last result → (IsObservable new → ScrubsImage p.slots new last result)
        → (IsObservable new → CountsScrub p.slots new last result)
        → MatchResult result (λ _. answer ≡ Ok verdict) (λ _. answer ≡ Err Disk) → Scrubs old last answer
    scrubbed_clean (Ok value) answer calls scrubs counts same =
        subst (Scrubs old last) (sym same) (scrubbed_whole value calls scrubs counts)
    scrubbed_clean (Err error) answer calls scrubs counts same =
        subst (Scrubs old last) (sym same) (scrubbed_short error calls scrubs counts)

-- a verdict on slots that is not clean
pub not_scrubbed : (old mid new : DiskState) (p : Parameters) (verdict : Verdict) → HasParameters old p
    → ReadsDisk {T = Parameters} old mid (Ok p)
    → ((pages dirs files bytes : ℕ) → verdict ≡ Clean pages dirs files bytes → ⊥)
    → ChecksScrubbed p mid new (Ok verdict) → Scrubs old new (Ok verdict)
not_scrubbed old mid new p (Clean pages dirs files bytes) has read other checks =
    absurd (other pages dirs files bytes refl)
not_scrubbed old mid new p NotImage has read other checks = absurd (checks.never refl)
not_scrubbed old mid new p Damaged has read other checks = damaged old mid new p Damaged has read checks refl
