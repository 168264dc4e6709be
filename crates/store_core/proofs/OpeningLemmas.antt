-- How a store is opened: a sync, the check of the image, and its recovery.
use Rattle.std.proofs.lemmas.Bool.{cases_Bool, false≢true}
use Rattle.std.proofs.Common.{◌≡◌, ◌⊎◌, ◌+◌, ℕ, List, Result, Ok, Err, OnOk, false, refl, sym, ap, subst, ◌∙◌, inl, inr}
use Rattle.std.proofs.Common.{⊎_elim, arith}
use Rattle.store_base.specs.declared.fault.DiskFault.{DiskFault}
use Rattle.store_base.specs.declared.store_fault.Fault.{Fault}
use Rattle.store_base.specs.declared.store_fault.Fault.TheVariants as causes
use Rattle.store_base.specs.Counts.{raised, faults_after}
use Rattle.store_model.specs.Parameters.{Parameters}
use Rattle.store_model.specs.Trees.{Tree, empty_tree}
use Rattle.store_model.specs.Draws.{draw_of}
use Rattle.store_model.specs.Images.{Represents, recovered}
use Rattle.store_model.proofs.TreesLemmasFits.{Fits-empty, IsTree-empty}
use Rattle.store_model.proofs.TreesLemmasLayouts.{images_tell}
use Rattle.disk_model.specs.DiskState.{DiskState, IsObservable, IsDurable, IsSound}
use Rattle.disk_model.specs.DiskCalls.{LeavesOnly, IsSync}
use Rattle.disk_model.proofs.Crashes.{LeavesOnly-sync, LeavesOnly-trans, LeavesOnly-weaken, MayLeaveOnly-end}
use Rattle.gate_journal.specs.Disks.{KeepsDisk}
use Rattle.gate_journal.specs.Costs.{opening_writes, opening_syncs}
use Rattle.gate_journal.proofs.Openings.{CountsOpening}
use Rattle.gate_journal.specs.Phases.{HasEmptyJournal}
use Rattle.gate_journal.specs.Places.{AreCalls, Made, Makes, ReadsOnly}
use Rattle.gate_journal.specs.Recovery.{Recovers, RecoversAs, redo_writes, redo_syncs, erase_writes}
use Rattle.gate_journal.proofs.Layouts.{recovers-represents}
use Rattle.gate_journal.proofs.Phases.{recovered_empty}
use Rattle.gate_journal.proofs.Reading.{IsDurable-reads}
use Rattle.seeded_draw.specs.declared.any.AnyDraw.{AnyDraw}
use Rattle.seeded_draw.specs.AnyDrawn.{any_draw}
use Rattle.image_check.specs.declared.contents.Contents.{Contents}
use Rattle.image_check.specs.declared.verdict.Verdict.{Verdict}
use Rattle.image_check.specs.declared.verdict.Verdict.TheVariants as verdicts
use Rattle.image_check.specs.SlotCalls.{clean_on}
use Rattle.image_check.specs.ImageCalls.{ReadsDisk, HasTree, HasImage, FindsImage}
use Rattle.gate_journal.specs.Headers.{IsImageWith, HasParameters}
use Rattle.image_check.specs.Verdicts.{IsNoImage, IsDamaged}
use Rattle.page_store.specs.PageImages.{pages_in_table}
use Rattle.page_store.specs.StagedState.{StagedState}
use Rattle.image_check.specs.declared.fault.AttachFault.{AttachFault}
use Rattle.image_check.specs.declared.fault.AttachFault.TheVariants as attach
use Rattle.store_core.specs.Opening.{IsSynced, ChecksSynced, OpensWith, IsOpenAt}
use Rattle.staged_tree.specs.StagedTree.{AreAt}
use Rattle.image_check.specs.Standing.{IsFitting, Stands}
use Rattle.store_core.specs.StoreState.{StoreState}
use Rattle.store_core.specs.StoreCalls.{IsOpened, IsAttached, KeepsImage, IsRefused}
use Rattle.store_core.proofs.OpeningCosts.{counts_opening}
use Rattle.staged_tree.proofs.DiskLemmas.{keeps_then, keeps_calls}
use Rattle.staged_tree.proofs.TreePages.{table_pages}

-- ---- a sync, and reads

synced_alone : {T E : Type 0} (old new : DiskState) (result : Result T E) → IsObservable old
    → IsSync old new result → IsSynced old new
synced_alone old new result observable sync =
    let effect = sync.observed observable in
    record {
      leaves = LeavesOnly-sync old new result old.crash_images observable sync (λ image left. left);
      bytes = effect.bytes;
      writes = effect.write_count;
      syncs = effect.sync_count;
    }

synced_reads : (old mid new : DiskState) → IsSound mid → IsSynced old mid → ReadsOnly mid new → IsSynced old new
synced_reads old mid new sound synced reads = record {
  leaves =
      LeavesOnly-trans old mid new old.crash_images synced.leaves
      (LeavesOnly-weaken mid new mid.crash_images old.crash_images
      (MayLeaveOnly-end old mid old.crash_images sound synced.leaves) reads.leaves);
  bytes = reads.bytes ∙ synced.bytes;
  writes = reads.write_count ∙ synced.writes;
  syncs = reads.sync_count ∙ synced.syncs;
}

-- ---- what is found of a disk holds of one that reads the same

module _ (old new : DiskState) (size : new.size ≡ old.size) (observable : new.is_observable ≡ old.is_observable)
    (bytes : IsObservable old → new.bytes ≡ old.bytes) where
  parameters_before : (p : Parameters) → HasParameters new p → HasParameters old p
  parameters_before p has = record {
    in_range = has.in_range;
    size_is = sym size ∙ has.size_is;
    named = λ here. subst (λ (image : List ℕ). IsImageWith image p) (bytes here) (has.named (observable ∙ here));
  }

  image_before : (contents : Contents) → HasImage new contents → HasImage old contents
  image_before contents has = record {
    has_parameters = parameters_before contents.params has.has_parameters;
    tree = λ here. subst (λ (image : List ℕ). HasTree image contents) (bytes here) (has.tree (observable ∙ here));
  }

  no_image_before : IsNoImage new → IsNoImage old
  no_image_before none here p is = none (observable ∙ here) p
      (subst (λ (image : List ℕ). IsImageWith image p) (sym (bytes here)) is)

  damaged_before : IsDamaged new → IsDamaged old
  damaged_before damaged = record {
    params = damaged.params;
    has_parameters = parameters_before damaged.params damaged.has_parameters;
    no_tree = λ here t p is. damaged.no_tree (observable ∙ here) t p
        (subst (λ (image : List ℕ). Represents image t p) (sym (bytes here)) is);
  }

-- ---- the check

module _ {T E : Type 0} (old mid new : DiskState) (value : T) (sound : IsObservable mid → IsSound mid)
    (sync : IsSync {E = E} old mid (Ok value)) where
  module _ (verdict : Result Verdict Fault) (reads : ReadsDisk mid new verdict) where
    keeps : KeepsDisk old new
    keeps = record {
      size = reads.size ∙ sync.call.size;
      observable = reads.observable ∙ sync.call.observable;
      faults = omega (arith, sync.call.rise, reads.rise);
      writes = omega (arith, sync.call.writes, reads.writes);
      syncs = omega (arith, sync.call.syncs, reads.syncs);
    }

    synced : IsObservable old → IsSynced old new
    synced observable =
        let observable_mid : IsObservable mid = sync.call.observable ∙ observable in
        synced_reads old mid new (sound observable_mid) (synced_alone old mid (Ok value) observable sync)
        (reads.reads observable_mid)

    durable : IsObservable old → IsDurable new
    durable observable = IsDurable-reads mid new ((sync.observed observable).durable)
        (reads.reads (sync.call.observable ∙ observable))

  same : IsObservable old → mid.bytes ≡ old.bytes
  same observable = (sync.observed observable).bytes

  -- its sync succeeded, and this was found
  pub checked : (found : Result Contents AttachFault) → FindsImage mid new found → ChecksSynced old new found
  checked (Ok contents) finds = record {
    kept = keeps (Ok (clean_on contents)) finds.reads;
    faults = finds.reads.faults ∙ sync.call.faults;
    synced = synced (Ok (clean_on contents)) finds.reads;
    durable = durable (Ok (clean_on contents)) finds.reads;
    image = image_before old mid sync.call.size sync.call.observable same contents finds.found;
    not_image = λ e. absurd (cc);
    damaged = λ e. absurd (cc);
  }
  checked (Err attach.NotImage) finds = record {
    kept = keeps (Ok verdicts.NotImage) finds.reads;
    faults = finds.reads.faults ∙ sync.call.faults;
    synced = synced (Ok verdicts.NotImage) finds.reads;
    durable = λ observable. tt;
    image = tt;
    not_image = λ e. no_image_before old mid sync.call.size sync.call.observable same finds.found;
    damaged = λ e. absurd (cc);
  }
  checked (Err attach.Damaged) finds = record {
    kept = keeps (Ok verdicts.Damaged) finds.reads;
    faults = finds.reads.faults ∙ sync.call.faults;
    synced = synced (Ok verdicts.Damaged) finds.reads;
    durable = λ observable. tt;
    image = tt;
    not_image = λ e. absurd (cc);
    damaged = λ e. damaged_before old mid sync.call.size sync.call.observable same finds.found;
  }
  checked (Err attach.Disk) finds = record {
    kept = keeps (Err causes.Disk) finds.reads;
    faults = finds.reads.faults ∙ ap raised sync.call.faults;
    synced = synced (Err causes.Disk) finds.reads;
    durable = λ observable. tt;
    image = tt;
    not_image = λ e. absurd (cc);
    damaged = λ e. absurd (cc);
  }
  checked (Err attach.NoMemory) finds = absurd finds.found

-- ---- the tree that a store is opened with

pub opening_tree : (disk : DiskState) (contents : Contents) → HasImage disk contents
    → (t : Tree) × OpensWith disk contents t
opening_tree disk contents has =
    ⊎_elim
    (λ seen.
    let is = has.tree seen in (
      is.tree,
      record {
        fitting = record {
          in_range = is.contents_are.in_range;
          tree = is.contents_are.tree;
          fits = is.contents_are.fits;
        };
        represents = λ observable. is.represents;
        used_is = λ observable. is.contents_are.used_is;
        unseen = λ hidden. absurd (hidden seen);
      },
    ))
    (λ hidden.
    let unseen : IsObservable disk → ⊥ = λ seen. false≢true (sym hidden ∙ seen) in (
      empty_tree,
      record {
        fitting = record {
          in_range = has.has_parameters.in_range;
          tree = IsTree-empty;
          fits = Fits-empty contents.params;
        };
        represents = λ observable. absurd (unseen observable);
        used_is = λ observable. absurd (unseen observable);
        unseen = λ other. refl;
      },
    ))
    (cases_Bool disk.is_observable)

-- ---- recovery

module _ (old mid new : DiskState) (contents : Contents) (checks : ChecksSynced old mid (Ok contents))
    (result : Result (Unit {0}) DiskFault) (calls : AreCalls mid new result)
    (recovers : IsObservable mid → Recovers contents.params.slots mid new result)
    (quiet : IsObservable mid → HasEmptyJournal contents.params.slots mid.bytes → new.writes ≡ mid.writes)
    (quiet_syncs : IsObservable mid → HasEmptyJournal contents.params.slots mid.bytes → new.syncs ≡ raised mid.syncs)
    (makes : IsObservable mid → (HasEmptyJournal contents.params.slots mid.bytes → ⊥)
    → Makes (redo_writes contents.params.slots mid.bytes + erase_writes contents.params.slots mid.bytes)
    (redo_syncs mid.bytes + 2) mid new result) where
  abbrev its_tree : Tree
  its_tree = (opening_tree old contents checks.image).0

  opening : OpensWith old contents its_tree
  opening = (opening_tree old contents checks.image).1

  pub kept_by_both : KeepsDisk old new
  kept_by_both = keeps_then old mid new checks.kept (keeps_calls mid new result calls)

  -- what the disk reads before recovery represents the tree, and so does what it reads behind it
  before : IsObservable old → Represents mid.bytes its_tree contents.params
  before observable =
      subst (λ (image : List ℕ). Represents image its_tree contents.params) (sym (checks.synced observable).bytes)
      (opening.represents observable)

  after : IsObservable old → Represents new.bytes its_tree contents.params
  after observable =
      recovers-represents mid.bytes new.bytes its_tree contents.params (before observable)
      (recovers (checks.kept.observable ∙ observable)).reads

  leaves : IsObservable old → LeavesOnly old new
      (λ image. old.crash_images image ⊎ Represents image its_tree contents.params)
  leaves observable =
      let observable_mid : IsObservable mid = checks.kept.observable ∙ observable in
      let durable : IsDurable mid = checks.durable observable in
      let P : List ℕ → Type 0 = λ image. old.crash_images image ⊎ Represents image its_tree contents.params in
      LeavesOnly-trans old mid new P
      (LeavesOnly-weaken old mid old.crash_images P (λ image left. inl left) (checks.synced observable).leaves)
      (LeavesOnly-weaken mid new (λ image. mid.crash_images image ⊎ RecoversAs contents.params.slots mid.bytes image) P
      (λ image either. ⊎_elim
      (λ left. inr (subst (λ (x : List ℕ). Represents x its_tree contents.params)
      (sym (durable image left)) (before observable)))
      (λ alike. inr (recovers-represents mid.bytes image its_tree contents.params (before observable) alike)) either)
      (recovers observable_mid).crash)

  counts : IsObservable old → CountsOpening contents.params.slots old new result
  counts observable =
      let observable_mid : IsObservable mid = checks.kept.observable ∙ observable in
      let synced = checks.synced observable in
      let first : Made 0 1 old mid = record {
        write_count = omega (arith, synced.writes);
        sync_count = omega (arith, synced.syncs);
      } in
      counts_opening contents.params.slots old mid new result first synced.bytes (quiet observable_mid)
      (quiet_syncs observable_mid) (makes observable_mid)

  -- it failed: no other tree is represented, under no other parameters
  pub refused_recovery : (fault : DiskFault) → result ≡ Err fault → IsRefused old attach.Disk new
  refused_recovery fault is = record {
    kept = kept_by_both;
    faults = subst (λ (r : Result (Unit {0}) DiskFault). new.faults ≡ faults_after mid.faults r) is calls.faults
        ∙ ap raised checks.faults;
    not_image = λ e. absurd (cc);
    damaged = λ e. absurd (cc);
    unwritten = λ observable other. absurd (other refl);
    looked = λ observable either. ⊎_elim (λ e. absurd (cc)) (λ e. absurd (cc)) either;
    represented = λ observable t p represents.
        let same = images_tell old.bytes its_tree t contents.params p (opening.represents observable) represents in
        subst (λ (q : Parameters). KeepsImage t q old attach.Disk new)
        same.1 (subst (λ (u : Tree). KeepsImage u contents.params old attach.Disk new) same.0 (record {
          not_image = λ e. absurd (cc);
          damaged = λ e. absurd (cc);
          represents = after observable;
          crash = leaves observable;
          limit = (counts observable).limit;
        }));
    unrepresented = λ observable none. absurd (none its_tree contents.params (opening.represents observable));
  }

  -- it succeeded
  module _ (value : Unit {0}) (is : result ≡ Ok value) where
    recovered_is : IsObservable old → new.bytes ≡ recovered contents.params.slots old.bytes
    recovered_is observable =
        subst (λ (r : Result (Unit {0}) DiskFault). OnOk r (new.bytes ≡ recovered contents.params.slots mid.bytes)) is
        (recovers (checks.kept.observable ∙ observable)).done
        ∙ ap (recovered contents.params.slots) (checks.synced observable).bytes

    pub stands : IsObservable old → Stands new its_tree contents.params
    stands observable = record {
      layout_is = recovered_is observable ∙ (opening.represents observable).layout_is;
      durable = subst (λ (r : Result (Unit {0}) DiskFault). OnOk r (IsDurable new)) is
          (recovers (checks.kept.observable ∙ observable)).durable;
    }

    pub opened : IsObservable old → IsOpened its_tree contents.params old new
    opened observable = record {
      represents = opening.represents observable;
      stands = stands observable;
      crash = leaves observable;
      counts = subst (λ (r : Result (Unit {0}) DiskFault).
          OnOk r (Made (opening_writes contents.params.slots old.bytes)
          (opening_syncs contents.params.slots old.bytes) old new)) is (counts observable).made;
      unwritten = λ empty. record {
        bytes = recovered_is observable
            ∙ recovered_empty contents.params.slots old.bytes (opening.represents observable).length_is empty;
        writes =
            quiet (checks.kept.observable ∙ observable)
            (subst (λ (image : List ℕ). HasEmptyJournal contents.params.slots image)
            (sym (checks.synced observable).bytes) empty)
            ∙ (checks.synced observable).writes;
      };
    }

    pub not_failed : new.faults ≡ old.faults
    not_failed = subst (λ (r : Result (Unit {0}) DiskFault). new.faults ≡ faults_after mid.faults r) is calls.faults
        ∙ checks.faults

-- ---- the store that is made of a disk

-- and its pages are staged
pub open_pages : {D : Type 0} (state : D → DiskState) (disk : D) (contents : Contents) (t : Tree)
    (staged : StagedState D AnyDraw) (draw : AnyDraw) → IsOpenAt (state disk) contents t
    → any_draw draw ≡ draw_of contents.params → staged.params ≡ contents.params
    → staged.draw ≡ draw → staged.disk ≡ disk
    → staged.table ≡ pages_in_table contents.params.slots (state disk).bytes → staged.map ≡ staged.table
    → AreAt state t contents.params staged
open_pages {D} state disk contents t staged draw at drawn params_is draw_is disk_is table_is map_is = record {
  params = params_is;
  draw = ap any_draw draw_is ∙ drawn;
  size_is = ap (λ (d : D). (state d).size) disk_is ∙ at.size_is;
  held = λ observable runs.
      let stands = at.stands (sym (ap (λ (d : D). (state d).is_observable) disk_is) ∙ observable) in
      let table = table_is ∙ table_pages t contents.params (state disk).bytes at.fitting stands.layout_is in
      record {
        stands = subst (λ (d : D). Stands (state d) t contents.params) (sym disk_is) stands;
        table_is = table;
        map_is = map_is ∙ table;
      };
}

pub attached : {D : Type 0} (state : D → DiskState) (old : DiskState) (disk : D) (store : StoreState D) (t : Tree)
    (p : Parameters) → store ≡ record { params = p; tree = t; disk = disk; is_stopped = false }
    → KeepsDisk old (state disk) → (state disk).faults ≡ old.faults → HasParameters old p → IsFitting t p
    → (IsObservable old → IsOpened t p old (state disk)) → IsAttached state old store
attached state old disk store t p same keeps faults has fitting opened =
    subst (IsAttached state old) (sym same) (record {
      kept = keeps;
      faults = faults;
      runs = refl;
      has_parameters = has;
      fitting = fitting;
      observed = opened;
    })
