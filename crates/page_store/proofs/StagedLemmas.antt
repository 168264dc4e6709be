-- Lemmas on staged pages.
use Rattle.std.proofs.Common.{◌≡◌, ℕ, Bool, false, List, [], map, slice_get, Option, Ok, refl, sym, ap, ap₂, subst, ◌∙◌}
use Rattle.std.specs.FinMap as maps
use Rattle.std.specs.BTreeMap.{BTreeMap, insert_entry}
use Rattle.store_model.specs.Lists.{numbers_below}
use Rattle.store_model.specs.Parameters.{Parameters}
use Rattle.store_model.specs.Labels.{Label, label_bytes, label_cmp}
use Rattle.store_model.specs.Draws.{Draw}
use Rattle.store_model.specs.Pages.{Page}
use Rattle.store_model.specs.PageMaps.{PageMap, IsPageMap, HoldsPages}
use Rattle.disk_model.specs.DiskState.{DiskState, IsObservable}
use Rattle.gate_journal.specs.Places.{ReadsOnly}
use Rattle.gate_journal.specs.ViewState.{KeepsView}
use Rattle.table_memory.specs.Memos.{Remembered, IsMemoOf}
use Rattle.page_store.specs.Indexes.{IsIndexed}
use Rattle.table_memory.specs.OverlayState.{slot_over, overlaid}
use Rattle.page_store.specs.PageImages.{table_slots, pages_in_table, IsLayoutOf, SlotStandsAt}
use Rattle.table_memory.specs.Staging.{StagedPages, with_change, with_changes}
use Rattle.page_store.specs.Lookups.{LooksUp}
use Rattle.page_store.specs.StagedState.{CountsPages, IsStaged}
use Rattle.table_memory.proofs.ChangeLemmas.{with_changes-insert}

-- all changes are taken back
pub discarded : (d : Draw) (p : Parameters) (disk : DiskState) (touched : List (ℕ × List ℕ))
    (changes none : StagedPages) (used settled : ℕ) (is_spent : Bool)
    → IsStaged d p disk touched changes used settled is_spent → none ≡ []
    → IsStaged d p disk touched none settled settled is_spent
discarded d p disk touched changes none used settled is_spent staged empty = record {
  drawn = staged.drawn;
  counted = λ observable runs.
      let was = staged.counted observable runs in
      subst (λ (es : StagedPages). CountsPages d p disk touched es settled settled) (sym empty) (record {
        stands = was.stands;
        valid = was.stands.layout.holds.pages;
        used_is = was.settled_is;
        untouched = was.untouched;
        settled_is = was.settled_is;
      });
}

-- the pages in the table of a disk, and no change
pub begun : (d : Draw) (p : Parameters) (disk : DiskState) (touched : List (ℕ × List ℕ)) (none : StagedPages)
    (pages : ℕ) → d.slots ≡ p.slots → (IsObservable disk → SlotStandsAt d p (pages_in_table p.slots disk.bytes) disk)
    → (IsObservable disk → pages ≡ maps.len (pages_in_table p.slots disk.bytes)) → touched ≡ [] → none ≡ []
    → IsStaged d p disk touched none pages pages false
begun d p disk touched none pages drawn stands count untouched empty = record {
  drawn = drawn;
  counted = λ observable runs.
      let at = stands observable in
      subst (λ (es : StagedPages). CountsPages d p disk touched es pages pages) (sym empty)
      (subst (λ (t : List (ℕ × List ℕ)). CountsPages d p disk t [] pages pages) (sym untouched) (record {
        stands = at;
        valid = at.layout.holds.pages;
        used_is = count observable;
        untouched = refl;
        settled_is = count observable;
      }));
}

-- what calls that read alone make of the slots over a disk
pub record IsReadLater (p q : Parameters) (old new : DiskState) (touched later : List (ℕ × List ℕ)) : Type 0 where
  pub params : q ≡ p
  pub observable : new.is_observable ≡ old.is_observable
  pub reads : IsObservable old → ReadsOnly old new
  pub slots : IsObservable old → (overlaid q.slots later new).slots ≡ (overlaid p.slots touched old).slots

pub read_later : (p q : Parameters) (old new : DiskState) (touched later : List (ℕ × List ℕ)) → KeepsView p q old new
    → (IsObservable old → (overlaid q.slots later new).slots ≡ (overlaid p.slots touched old).slots)
    → IsReadLater p q old new touched later
read_later p q old new touched later kept slots = record {
  params = kept.params;
  observable = kept.observable;
  reads = kept.reads;
  slots = slots;
}

-- also where the disk alone is known
pub read_below : (p : Parameters) (old new : DiskState) (touched : List (ℕ × List ℕ))
    → new.is_observable ≡ old.is_observable → (IsObservable old → ReadsOnly old new)
    → IsReadLater p p old new touched touched
read_below p old new touched same reads = record {
  params = refl;
  observable = same;
  reads = reads;
  slots = λ observable. ap (λ (image : List ℕ). map (slot_over p.slots touched image) (numbers_below p.slots))
      (reads observable).bytes;
}

-- they leave a memo of these slots
pub memo_later : (d : Draw) (p q : Parameters) (old new : DiskState) (touched later : List (ℕ × List ℕ))
    (memo : Remembered) → IsReadLater p q old new touched later → IsMemoOf d (overlaid p.slots touched old) memo
    → IsMemoOf d (overlaid q.slots later new) memo
memo_later d p q old new touched later memo read of = record {
  tells = λ m observable holds l page is.
      let before : IsObservable old = sym read.observable ∙ observable in
      of.tells m before (subst (λ (slots : List (List ℕ)). HoldsPages d slots m) (read.slots before) holds) l page is;
}

-- and an index
pub index_later : (digests : Label → ℕ) (p q : Parameters) (old new : DiskState) (touched later : List (ℕ × List ℕ))
    (index : Option (BTreeMap ℕ ℕ)) → IsReadLater p q old new touched later
    → IsIndexed digests (overlaid p.slots touched old) index → IsIndexed digests (overlaid q.slots later new) index
index_later digests p q old new touched later index read indexed = record {
  of = λ found is. record {
    notes = λ observable slot page valid held.
        let before : IsObservable old = sym read.observable ∙ observable in
        (indexed.of found is).notes before slot page valid
        (ap (λ (ss : List (List ℕ)). slice_get ss slot) (sym (read.slots before)) ∙ held);
  };
}

-- the slots over the disk hold the pages of the table
pub held_over : (d : Draw) (p : Parameters) (disk : DiskState) (touched : List (ℕ × List ℕ)) (changes : StagedPages)
    (used settled : ℕ) (is_spent : Bool) → IsStaged d p disk touched changes used settled is_spent
    → IsObservable disk → is_spent ≡ false
    → HoldsPages d (overlaid p.slots touched disk).slots (pages_in_table p.slots disk.bytes)
held_over d p disk touched changes used settled is_spent staged observable runs =
    let was = staged.counted observable runs in
    subst (λ (slots : List (List ℕ)). HoldsPages d slots (pages_in_table p.slots disk.bytes))
    (sym was.untouched) was.stands.layout.holds

module _ (d : Draw) (p q : Parameters) (old new : DiskState) (touched later : List (ℕ × List ℕ)) (changes : StagedPages)
    (used settled : ℕ) (is_spent : Bool) (staged : IsStaged d p old touched changes used settled is_spent)
    (read : IsReadLater p q old new touched later) where
  observable_before : IsObservable new → IsObservable old
  observable_before observable = sym read.observable ∙ observable

  -- the pages in the table are the same
  pub same_table : IsObservable old → pages_in_table q.slots new.bytes ≡ pages_in_table p.slots old.bytes
  same_table observable = ap₂ (λ (r : Parameters) (bytes : List ℕ). pages_in_table r.slots bytes)
      read.params (read.reads observable).bytes

  stands_later : IsObservable old → SlotStandsAt d p (pages_in_table p.slots old.bytes) old
      → SlotStandsAt d q (pages_in_table q.slots new.bytes) new
  stands_later observable stands = record {
    layout = subst (λ (r : Parameters). IsLayoutOf d r (pages_in_table r.slots new.bytes) new.bytes) (sym read.params)
        (subst (λ (bytes : List ℕ). IsLayoutOf d p (pages_in_table p.slots bytes) bytes)
        (sym (read.reads observable).bytes) stands.layout);
    durable = λ image left. stands.durable image (((read.reads observable).crash image).0 left)
        ∙ sym (read.reads observable).bytes;
  }

  -- behind reads all is as it was
  pub staged_later : IsStaged d q new later changes used settled is_spent
  staged_later = record {
    drawn = staged.drawn ∙ ap (λ (r : Parameters). r.slots) (sym read.params);
    counted = λ observable runs.
        let before = observable_before observable in
        let was = staged.counted before runs in
        let table = same_table before in
        record {
          stands = stands_later before was.stands;
          valid = subst (λ (m : PageMap). IsPageMap (with_changes m changes)) (sym table) was.valid;
          used_is = was.used_is ∙ ap (λ (m : PageMap). maps.len (with_changes m changes)) (sym table);
          untouched = read.slots before ∙ was.untouched
              ∙ sym (ap₂ (λ (r : Parameters) (bytes : List ℕ). table_slots r.slots bytes)
              read.params (read.reads before).bytes);
          settled_is = was.settled_is ∙ ap maps.len (sym table);
        };
  }

  -- a change is staged
  module _ (l : Label) (v : Option Page) (is_there : Bool) (after : StagedPages) (used_after : ℕ)
      (found : LooksUp d (overlaid p.slots touched old) (overlaid q.slots later new) changes l (Ok is_there))
      (put : after ≡ insert_entry label_cmp changes l v)
      (keeps : (m : PageMap) → IsPageMap m → IsPageMap (with_change m l v))
      (counts : IsObservable old → is_spent ≡ false
      → used ≡ maps.len (with_changes (pages_in_table p.slots old.bytes) changes)
      → is_there ≡ maps.contains_key (with_changes (pages_in_table p.slots old.bytes) changes) (label_bytes l)
      → used_after ≡ maps.len (with_change (with_changes (pages_in_table p.slots old.bytes) changes) l v)) where
    pub changed_map : IsObservable old → with_changes (pages_in_table q.slots new.bytes) after
        ≡ with_change (with_changes (pages_in_table p.slots old.bytes) changes) l v
    changed_map observable =
        ap₂ with_changes (same_table observable) put
        ∙ with_changes-insert (pages_in_table p.slots old.bytes) changes l v

    pub staged_change : IsStaged d q new later after used_after settled is_spent
    staged_change = record {
      drawn = staged_later.drawn;
      counted = λ observable runs.
          let before = observable_before observable in
          let was = staged.counted before runs in
          let now = staged_later.counted observable runs in
          let map = changed_map before in
          record {
            stands = now.stands;
            valid = subst IsPageMap (sym map)
                (keeps (with_changes (pages_in_table p.slots old.bytes) changes) was.valid);
            used_is = counts before runs was.used_is
                (found.found (pages_in_table p.slots old.bytes) before
                (held_over d p old touched changes used settled is_spent staged before runs)) ∙ ap maps.len (sym map);
            untouched = now.untouched;
            settled_is = now.settled_is;
          };
    }
