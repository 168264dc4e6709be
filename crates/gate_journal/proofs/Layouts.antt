-- The images of trees: their slots, and the changes of slots that lead from one to another.
use Rattle.std.proofs.Common.{◌≡◌, ◌⊎◌, ℕ, zero, suc, ◌+◌, ◌*◌, ◌<◌, List, [], ◌∷◌, ◌++◌, length, take, drop, Option}
use Rattle.std.proofs.Common.{Some, None, get_or, slice_get, sym, ap, ◌∙◌, subst, inl, inr, arith, length-append}
use Rattle.std.proofs.Common.{Result, OnOk}
use Rattle.std.specs.List.{AllByRecursion}
use Rattle.std.proofs.lemmas.List.{take_at, drop_at, drop-drop, length-replicate}
use Rattle.std.proofs.lemmas.Option.{same_Some, slice_get-get_or}
use Rattle.store_model.specs.Lists.{zeros}
use Rattle.store_model.specs.Parameters.{Parameters, IsParameters, table_at, image_len}
use Rattle.store_model.specs.Trees.{Tree, IsTree}
use Rattle.store_model.specs.Draws.{draw_of}
use Rattle.store_model.specs.Pages.{Page, Fits, pages}
use Rattle.store_model.specs.Placement.{Table, place}
use Rattle.store_model.specs.Images.{header, slot_bytes, table_bytes, layout, journal_len, bytes_at, recovered_slot}
use Rattle.store_model.specs.Images.{recovered, NamesParameters, Represents}
use Rattle.store_model.proofs.PagesLemmasSizes.{tree_pages_are_pages}
use Rattle.store_model.proofs.PlacementLemmas.{length-place}
use Rattle.store_model.proofs.PlacementLemmasDraws.{IsLawful-draw_of}
use Rattle.store_model.proofs.ImagesLemmas.{IsSlot, length-header, length-slot_bytes, slots-place, length-layout}
use Rattle.store_model.proofs.ImagesLemmas.{header-layout, recovered-layout}
use Rattle.store_model.proofs.ImagesLemmasScrubbed.{take-recovered}
use Rattle.disk_model.specs.DiskState.{DiskState}
use Rattle.disk_model.specs.DiskCalls.{LeavesOnly}
use Rattle.disk_model.proofs.Crashes.{LeavesOnly-weaken}
use Rattle.gate_journal.specs.Phases.{table_slot, HasEmptyJournal}
use Rattle.gate_journal.specs.Changes.{Changes, AreChanges, with_slots, RecoversToEither, Commits}
use Rattle.gate_journal.specs.Recovery.{RecoversAs}
use Rattle.gate_journal.proofs.Areas.{areas, journal_end}
use Rattle.gate_journal.proofs.Phases.{same_settled}
use Rattle.gate_journal.proofs.Committing.{find_slot, with_first_same, with_first_changed, with_slots_other, new_header}
use Rattle.gate_journal.proofs.Committing.{new_empty}
use Rattle.gate_journal.proofs.Stages.{on_ok_map}
use Rattle.gate_journal.proofs.Recovering.{table-recovered, long-recovered, empty-recovered}

-- a changed slot has its new bytes
pub with-slots-changed : (slots : ℕ) (changes : Changes) (image : List ℕ) → AreChanges slots changes
    → length image ≡ image_len slots → (k : ℕ) → k < changes.count
    → table_slot slots (with_slots slots changes image) (changes.slot k) ≡ changes.bytes k
with-slots-changed slots changes image valid long k low =
    with_first_changed slots changes valid image long changes.count (omega arith) k low

-- a slot that is not among the changed ones stays
pub with-slots-kept : (slots : ℕ) (changes : Changes) (image : List ℕ) → AreChanges slots changes
    → length image ≡ image_len slots → (i : ℕ) → i < slots → ((k : ℕ) → k < changes.count → changes.slot k ≡ i → ⊥)
    → table_slot slots (with_slots slots changes image) i ≡ table_slot slots image i
with-slots-kept slots changes image valid long i below none =
    with_slots_other slots changes valid image long i below none

-- the block of a slot among those of its table
block-table_bytes : (table : Table) → AllByRecursion IsSlot table → (i : ℕ) (slot : Option Page)
    → slice_get table i ≡ Some slot → take 4096 (drop (4096 * i) (table_bytes table)) ≡ slot_bytes slot
unfolding table_bytes
block-table_bytes [] all i slot at = cc
block-table_bytes (first ∷ table) all zero slot at =
    let none : 4096 * 0 ≡ 0 = omega arith in
    ap (λ (n : ℕ). take 4096 (drop n (slot_bytes first ++ table_bytes table))) none
    ∙ take_at (slot_bytes first) (table_bytes table) 4096 (length-slot_bytes first all.0)
    ∙ ap slot_bytes (same_Some first slot at)
block-table_bytes (first ∷ table) all (suc i) slot at =
    let more : 4096 * suc i ≡ 4096 + 4096 * i = omega arith in
    ap (λ (n : ℕ). take 4096 (drop n (slot_bytes first ++ table_bytes table))) more
    ∙ ap (take 4096) (sym (drop-drop (4096 * i) 4096 (slot_bytes first ++ table_bytes table)))
    ∙ ap (λ (l : List ℕ). take 4096 (drop (4096 * i) l))
    (drop_at (slot_bytes first) (table_bytes table) 4096 (length-slot_bytes first all.0))
    ∙ block-table_bytes table all.1 i slot at

-- the table of a tree has as many slots as its parameters say
length-table : (t : Tree) (p : Parameters) → length (place (draw_of p) (pages t p)) ≡ p.slots
unfolding draw_of
length-table t p = length-place (draw_of p) (pages t p)

-- each slot of an image has what the table of a tree has in its place
abbrev pub HasSlots : (ℕ → List ℕ) → Tree → Parameters → Type 0
HasSlots slot t p = (i : ℕ) (content : Option Page) → i < p.slots
    → slice_get (place (draw_of p) (pages t p)) i ≡ Some content → slot i ≡ slot_bytes content

module _ (t : Tree) (p : Parameters) (valid : IsParameters p) (tree : IsTree t) (fits : Fits t p) where
  -- the slots of a layout are those of the table
  pub layout-slots : HasSlots (table_slot p.slots (layout t p)) t p
  unfolding layout draw_of
  layout-slots i content below at =
      let table = place (draw_of p) (pages t p) in
      let head = header p ++ zeros (journal_len p.slots) in
      let front : length head ≡ table_at p.slots 0 =
      omega (
        arith,
        length-append (header p) (zeros (journal_len p.slots)),
        length-header p valid,
        length-replicate {A = ℕ} (journal_len p.slots) 0,
        journal_end p.slots,
      ) in
      ap (λ (n : ℕ). bytes_at (head ++ table_bytes table) n 4096) (areas p.slots i below).table_is
      ∙ ap (take 4096) (sym (drop-drop (4096 * i) (table_at p.slots 0) (head ++ table_bytes table)))
      ∙ ap (λ (l : List ℕ). take 4096 (drop (4096 * i) l)) (drop_at head (table_bytes table) (table_at p.slots 0) front)
      ∙ block-table_bytes table (slots-place (draw_of p) (pages t p)
      (IsLawful-draw_of p valid) fits.room (tree_pages_are_pages t p valid tree fits)) i content at

  -- a layout has an empty journal
  pub layout-has-empty-journal : HasEmptyJournal p.slots (layout t p)
  layout-has-empty-journal = subst (HasEmptyJournal p.slots) (recovered-layout t p valid tree fits)
      (empty-recovered p.slots (layout t p) (length-layout t p valid tree fits))

  -- an image with an empty journal, the header of the parameters and the slots of the tree's table is its layout
  pub slots-make-layout : (image : List ℕ) → length image ≡ image_len p.slots → take 4096 image ≡ header p
      → HasEmptyJournal p.slots image → HasSlots (table_slot p.slots image) t p → image ≡ layout t p
  slots-make-layout image long header_is empty has =
      same_settled p.slots (layout t p) image (length-layout t p valid tree fits) long
      layout-has-empty-journal empty (record {
        header = header_is ∙ sym (header-layout t p valid);
        table = λ i below.
            let content = get_or (place (draw_of p) (pages t p)) i None in
            let at = slice_get-get_or (place (draw_of p) (pages t p)) i None (omega (arith, length-table t p)) in
            has i content below at ∙ sym (layout-slots i content below at);
      })

-- the slots that recovery leaves of an image are those of the tree that it represents
pub represented-slots : (image : List ℕ) (t : Tree) (p : Parameters) → Represents image t p
    → HasSlots (recovered_slot p.slots image) t p
represented-slots image t p represents i content below at =
    sym (table-recovered p.slots image represents.length_is i below)
    ∙ ap (λ (l : List ℕ). table_slot p.slots l i) represents.layout_is
    ∙ layout-slots t p represents.names.in_range represents.tree represents.fits i content below at

-- an image of whose slots recovery leaves those of a tree represents it
pub slots-represent : (image : List ℕ) (t : Tree) (p : Parameters) → NamesParameters image p
    → length image ≡ image_len p.slots → IsTree t → Fits t p
    → HasSlots (recovered_slot p.slots image) t p → Represents image t p
slots-represent image t p names long tree fits has = record {
  names = names;
  length_is = long;
  tree = tree;
  fits = fits;
  layout_is =
      slots-make-layout t p names.in_range tree fits (recovered p.slots image) (long-recovered p.slots image long)
      (take-recovered p.slots image long ∙ names.header_is) (empty-recovered p.slots image long)
      (λ i content below at. table-recovered p.slots image long i below ∙ has i content below at);
}

-- an image of that length that recovers to the layout of a tree represents it
pub recovered-represents : (image : List ℕ) (t : Tree) (p : Parameters) → IsParameters p → IsTree t → Fits t p
    → length image ≡ image_len p.slots → recovered p.slots image ≡ layout t p → Represents image t p
recovered-represents image t p valid tree fits long is = record {
  names = record {
    in_range = valid;
    header_is = sym (take-recovered p.slots image long) ∙ ap (take 4096) is ∙ header-layout t p valid;
  };
  length_is = long;
  tree = tree;
  fits = fits;
  layout_is = is;
}

module _ (t u : Tree) (p : Parameters) (valid : IsParameters p) (tree : IsTree t) (other : IsTree u) (fits : Fits t p)
    (other_fits : Fits u p) where
  -- what recovers to the one layout or to the other represents the one tree or the other
  pub either-represents : (image : List ℕ) → RecoversToEither p.slots (layout t p) (layout u p) image
      → Represents image t p ⊎ Represents image u p
  either-represents image either =
      let long : length image ≡ image_len p.slots = either.same_length ∙ length-layout t p valid tree fits in
      elim either.recovers [
        | inl old ↦ inl (recovered-represents image t p valid tree fits long old)
        | inr new ↦ inr (recovered-represents image u p valid other other_fits long new)
      ]

  module _ (changes : Changes) (are : AreChanges p.slots changes) where
    -- where the slots in which two layouts differ are changed, the one becomes the other
    pub with-slots-layout : ((k : ℕ) (content : Option Page) → k < changes.count
        → slice_get (place (draw_of p) (pages u p)) (changes.slot k) ≡ Some content
        → changes.bytes k ≡ slot_bytes content)
        → ((i : ℕ) (was is : Option Page) → i < p.slots → ((k : ℕ) → k < changes.count → changes.slot k ≡ i → ⊥)
        → slice_get (place (draw_of p) (pages t p)) i ≡ Some was
        → slice_get (place (draw_of p) (pages u p)) i ≡ Some is → slot_bytes was ≡ slot_bytes is)
        → with_slots p.slots changes (layout t p) ≡ layout u p
    with-slots-layout changed kept =
        let old = layout t p in
        let long = length-layout t p valid tree fits in
        let empty = layout-has-empty-journal t p valid tree fits in
        slots-make-layout u p valid other other_fits (with_slots p.slots changes old)
        ((with_first_same p.slots changes are old long changes.count (omega arith)).same_length ∙ long)
        (new_header p.slots changes are old long empty ∙ header-layout t p valid)
        (new_empty p.slots changes are old long empty)
        (λ i content below at. elim (find_slot p.slots changes are changes.count i) [
          | inl found ↦
              ap (table_slot p.slots (with_slots p.slots changes old)) (sym found.2)
              ∙ with-slots-changed p.slots changes old are long found.0 found.1
              ∙ changed found.0 content found.1 (ap (slice_get (place (draw_of p) (pages u p))) found.2 ∙ at)
          | inr none ↦
              let was = get_or (place (draw_of p) (pages t p)) i None in
              let at_was = slice_get-get_or (place (draw_of p) (pages t p)) i None (omega (arith, length-table t p)) in
              with-slots-kept p.slots changes old are long i below none
              ∙ layout-slots t p valid tree fits i was below at_was ∙ kept i was content below none at_was at
        ])

    -- a commit of changes that make the layout of the other tree of that of the one, which the disk reads
    module _ {T E : Type 0} (old new : DiskState) (result : Result T E) (reads : old.bytes ≡ layout t p)
        (becomes : with_slots p.slots changes (layout t p) ≡ layout u p)
        (commits : Commits p.slots changes old new result) where
      with_slots_old : with_slots p.slots changes old.bytes ≡ layout u p
      with_slots_old = ap (with_slots p.slots changes) reads ∙ becomes

      of_layouts : (image : List ℕ) → RecoversToEither p.slots old.bytes (with_slots p.slots changes old.bytes) image
          → Represents image t p ⊎ Represents image u p
      of_layouts image either =
          either-represents image
          (subst (λ (l : List ℕ). RecoversToEither p.slots (layout t p) l image) with_slots_old
          (subst (λ (l : List ℕ). RecoversToEither p.slots l (with_slots p.slots changes old.bytes) image) reads
          either))

      pub commit-leaves : LeavesOnly old new (λ image. Represents image t p ⊎ Represents image u p)
      commit-leaves =
          LeavesOnly-weaken old new (RecoversToEither p.slots old.bytes (with_slots p.slots changes old.bytes))
          (λ image. Represents image t p ⊎ Represents image u p) of_layouts
          commits.crash

      pub commit-reads : Represents new.bytes t p ⊎ Represents new.bytes u p
      commit-reads = of_layouts new.bytes commits.reads

      pub commit-done : OnOk result (new.bytes ≡ layout u p)
      commit-done = on_ok_map result (new.bytes ≡ with_slots p.slots changes old.bytes) (new.bytes ≡ layout u p)
          (λ is. is ∙ with_slots_old) commits.done

-- what recovers as an image that represents a tree represents it too
pub recovers-represents : (old image : List ℕ) (t : Tree) (p : Parameters) → Represents old t p
    → RecoversAs p.slots old image → Represents image t p
recovers-represents old image t p represents alike =
    recovered-represents image t p represents.names.in_range represents.tree represents.fits (alike.same_length
    ∙ represents.length_is) (alike.recovers ∙ represents.layout_is)
