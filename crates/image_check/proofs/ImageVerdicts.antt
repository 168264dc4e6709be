-- What is found on a disk by what is found in its slots, and the verdict on it.
use Rattle.std.proofs.Common.{◌≡◌, ◌≤◌, List, ℕ, Option, Some, None, Result, Ok, Err, IfOk, IsErrOf, refl, sym, ap}
use Rattle.std.proofs.Common.{subst, ◌∙◌, arith}
use Rattle.store_model.specs.Parameters.{Parameters}
use Rattle.store_model.specs.Trees.{Tree}
use Rattle.store_model.specs.Images.{Represents}
use Rattle.store_model.proofs.TreesLemmasLayouts.{images_tell}
use Rattle.store_base.specs.declared.store_fault.Fault.{Fault}
use Rattle.store_base.specs.declared.store_fault.Fault.TheVariants as causes
use Rattle.store_base.specs.Faults.{disk_faults_after}
use Rattle.disk_model.specs.DiskState.{DiskState, IsObservable}
use Rattle.gate_journal.specs.Places.{ReadsOnly}
use Rattle.gate_journal.specs.ReadingLaws.{ReadsOnly-trans}
use Rattle.gate_journal.specs.ViewState.{viewed, KeepsView}
use Rattle.image_check.specs.declared.contents.Contents.{Contents}
use Rattle.image_check.specs.declared.fault.AttachFault.{AttachFault}
use Rattle.image_check.specs.declared.fault.AttachFault.TheVariants as attach
use Rattle.layout_conditions.specs.Layouts.{HaveLayout}
use Rattle.layout_conditions.specs.Conditions.{MeetConditions}
use Rattle.layout_conditions.proofs.LawLemmas.{layout_meets, conditions_tell}
use Rattle.image_check.specs.Contents.{AreContents}
use Rattle.gate_journal.specs.Headers.{HasParameters}
use Rattle.image_check.specs.Verdicts.{clean_of, IsDamaged, IsVerdict}
use Rattle.image_check.specs.SlotCalls.{AreFound, FindsContents, contents_in, verdict_in}
use Rattle.image_check.specs.ImageCalls.{HasImage, IsFoundOn, FindsImage, ChecksImage}
use Rattle.image_check.proofs.Images.{slots_in, one_name, represents_tree, represented_layout}
use Rattle.image_check.proofs.Layouts.{verdict_on}

-- a disk whose slots hold contents has their image
pub image_found : (old mid : DiskState) (p : Parameters) (contents : Contents) → HasParameters old p
    → mid.is_observable ≡ old.is_observable → (IsObservable old → ReadsOnly old mid) → contents.params ≡ p
    → (IsObservable mid → AreFound (slots_in p.slots mid.bytes) p contents) → HasImage old contents
image_found old mid p contents has same reads named found = record {
  has_parameters = subst (HasParameters old) (sym named) has;
  tree = λ observable.
      let is = found (same ∙ observable) in
      let t = is.meets.tree in
      let layout = conditions_tell (slots_in p.slots mid.bytes) p has.in_range is.meets in
      let slots = subst (λ (image : List ℕ). HaveLayout (slots_in p.slots image) t p) (reads observable).bytes layout in
      record {
        tree = t;
        contents_are = subst (λ (q : Parameters). AreContents t q contents) (sym named) is.contents_are;
        represents = subst (Represents old.bytes t) (sym named)
            (represents_tree old.bytes t p (has.named observable) slots);
      };
}

-- one whose slots hold no tree is damaged
pub image_damaged : (old mid : DiskState) (p : Parameters) → HasParameters old p → mid.is_observable ≡ old.is_observable
    → (IsObservable old → ReadsOnly old mid)
    → (IsObservable mid → MeetConditions (slots_in p.slots mid.bytes) p → ⊥) → IsDamaged old
image_damaged old mid p has same reads none = record {
  params = p;
  has_parameters = has;
  no_tree = λ observable t q is.
      let represents = subst (Represents old.bytes t)
      (one_name old.bytes p q (has.named observable) (record { names = is.names; length_is = is.length_is })) is in
      let layout = subst (λ (image : List ℕ). HaveLayout (slots_in p.slots image) t p) (sym (reads observable).bytes)
      (represented_layout old.bytes t p represents) in
      none (same ∙ observable) (layout_meets (slots_in p.slots mid.bytes) p t has.in_range layout).0;
}

-- the verdict on what is found
pub verdict_found : (disk : DiskState) (found : Result Contents AttachFault) → IsFoundOn disk found
    → IfOk (verdict_in found) (IsVerdict disk)
verdict_found disk (Ok contents) found = record {
  params = contents.params;
  has_parameters = found.has_parameters;
  image = λ observable.
      let is = found.tree observable in
      record {
        tree = is.tree;
        represents = is.represents;
        verdict_is = verdict_on is.tree contents.params contents is.contents_are;
      };
}
verdict_found disk (Err attach.NotImage) found = found
verdict_found disk (Err attach.Damaged) found = found
verdict_found disk (Err attach.Disk) found = tt
verdict_found disk (Err attach.NoMemory) found = tt

-- on an observable disk that represents a tree it is that on the tree
pub clean_found : (disk : DiskState) (found : Result Contents AttachFault) (t : Tree) (p : Parameters)
    → IsFoundOn disk found → IsObservable disk → Represents disk.bytes t p
    → IfOk (verdict_in found) (λ verdict. verdict ≡ clean_of t p)
clean_found disk (Ok contents) t p found observable represents =
    let is = found.tree observable in
    let same = images_tell disk.bytes is.tree t contents.params p is.represents represents in
    verdict_on is.tree contents.params contents is.contents_are ∙ (λ i. clean_of (same.0 i) (same.1 i))
clean_found disk (Err attach.NotImage) t p found observable represents =
    absurd (found observable p (record { names = represents.names; length_is = represents.length_is }))
clean_found disk (Err attach.Damaged) t p found observable represents = absurd (found.no_tree observable t p represents)
clean_found disk (Err attach.Disk) t p found observable represents = tt
clean_found disk (Err attach.NoMemory) t p found observable represents = tt

-- it is never want of memory
no_memory_found : (disk : DiskState) (found : Result Contents AttachFault) → IsFoundOn disk found
    → IsErrOf (verdict_in found) causes.NoMemory → ⊥
no_memory_found disk (Ok contents) found is = cc
no_memory_found disk (Err attach.NotImage) found is = cc
no_memory_found disk (Err attach.Damaged) found is = cc
no_memory_found disk (Err attach.Disk) found is = cc
no_memory_found disk (Err attach.NoMemory) found is = found

-- ---- the calls

-- what is found in slots tells what is found on a disk
found_on : (old mid new : DiskState) (p : Parameters) (slots : ℕ) (found : Result (Option Contents) Fault)
    → HasParameters old p → mid.is_observable ≡ old.is_observable → (IsObservable old → ReadsOnly old mid)
    → FindsContents p (viewed p.slots mid) (viewed slots new) found → IsFoundOn old (contents_in found)
found_on old mid new p slots (Ok None) has same reads finds = image_damaged old mid p has same reads finds.found
found_on old mid new p slots (Ok (Some contents)) has same reads finds =
    image_found old mid p contents has same reads finds.params finds.found
found_on old mid new p slots (Err causes.Disk) has same reads finds = tt
found_on old mid new p slots (Err causes.NoMemory) has same reads finds = finds.reads.calls.cause refl

-- and the count of faults behind it is the same
same_faults : (count : ℕ) (found : Result (Option Contents) Fault)
    → disk_faults_after count found ≡ disk_faults_after count (verdict_in (contents_in found))
same_faults count (Ok None) = refl
same_faults count (Ok (Some contents)) = refl
same_faults count (Err causes.Disk) = refl
same_faults count (Err causes.NoMemory) = refl

-- a search through a view on a disk with these parameters
pub record SearchesView (p seen left : Parameters) (mid new : DiskState)
    (found : Result (Option Contents) Fault) : Type 0 where
  pub keeps : KeepsView seen left mid new
  pub finds : FindsContents p (viewed seen.slots mid) (viewed left.slots new) found

-- a search of a disk: its parameters are read, and then its slots through a view
pub searches_image : (old mid new : DiskState) (p left : Parameters) (found : Result (Option Contents) Fault)
    → HasParameters old p → mid.size ≡ old.size → mid.is_observable ≡ old.is_observable → mid.faults ≡ old.faults
    → old.faults ≤ mid.faults → old.writes ≤ mid.writes → old.syncs ≤ mid.syncs → (IsObservable old → ReadsOnly old mid)
    → SearchesView p p left mid new found → FindsImage old new (contents_in found)
searches_image old mid new p left found has size observable faults rise writes syncs reads view = record {
  reads = record {
    size = view.keeps.size ∙ size;
    observable = view.keeps.observable ∙ observable;
    faults = view.finds.reads.calls.faults ∙ ap (λ n. disk_faults_after n found) faults ∙ same_faults old.faults found;
    rise = omega (arith, rise, view.keeps.rise);
    writes = omega (arith, writes, view.keeps.writes);
    syncs = omega (arith, syncs, view.keeps.syncs);
    reads = λ told. ReadsOnly-trans old mid new (reads told) (view.keeps.reads (observable ∙ told));
  };
  found = found_on old mid new p left.slots found has observable reads view.finds;
}

-- a view on this disk, handed back as that one
pub views_disk : (p seen left : Parameters) (at mid back new : DiskState) (found : Result (Option Contents) Fault)
    → seen ≡ p → at ≡ mid → back ≡ new → SearchesView p seen left at back found → SearchesView p p left mid new found
views_disk p seen left at mid back new found named disk handed view =
    subst (λ (d : DiskState). SearchesView p p left mid d found) handed
    (subst (λ (d : DiskState). SearchesView p p left d back found) disk
    (subst (λ (q : Parameters). SearchesView p q left at back found) named view))

-- the check of a disk, by what is found on it
pub checks_image : (old new : DiskState) (found : Result Contents AttachFault) → FindsImage old new found
    → ChecksImage old new (verdict_in found)
checks_image old new found finds = record {
  reads = finds.reads;
  memory = no_memory_found old found finds.found;
  verdict = verdict_found old found finds.found;
  clean = λ observable t p represents. clean_found old found t p finds.found observable represents;
}
