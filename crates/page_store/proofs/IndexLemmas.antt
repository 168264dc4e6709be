-- Lemmas on where all pages lie.
use Rattle.std.proofs.Common.{◌≡◌, ℕ, ◌+◌, ◌<◌, ◌≤◌, Bool, true, false, List, Option, Some, None, Ok, Err}
use Rattle.std.proofs.Common.{Result, OnOk, is_err, length, is_some, slice_get, refl, sym, ap, subst, ◌∙◌, inl, inr}
use Rattle.std.proofs.Common.{arith}
use Rattle.std.specs.Bool.{OnTrue}
use Rattle.std.proofs.lemmas.Bool.{cases_lt}
use Rattle.std.proofs.lemmas.Option.{same_Some, none-some, slice_get-map, slice_get_within}
use Rattle.std.specs.FinMap as maps
use Rattle.std.specs.Option.{option_map}
use Rattle.std.specs.Map.{lookup}
use Rattle.std.specs.BTreeMap.{BTreeMap, is_at}
use Rattle.std.specs.Ordering.{nat_cmp}
use Rattle.store_model.specs.Labels.{Label, IsLabel, label_bytes}
use Rattle.store_model.specs.Draws.{Draw, IsLawful}
use Rattle.store_model.specs.Pages.{Page, IsPage}
use Rattle.store_model.specs.Images.{slot_bytes}
use Rattle.store_model.specs.PageMaps.{PageMap, page_at, HoldsPages}
use Rattle.store_model.proofs.TreesLemmasBytes.{labels_same}
use Rattle.store_model.proofs.PageMapsLemmas.{table_of_held_map, found_stands}
use Rattle.store_base.specs.declared.store_fault.Fault.{Fault}
use Rattle.store_base.specs.SlotsState.{SlotsState, IsObservable, AreSlotCalls, IsGet}
use Rattle.store_base.proofs.SlotsCalls.{AreSlotCalls-none, AreSlotCalls-then, AreSlotCalls-value, AreSlotCalls-fault}
use Rattle.store_base.proofs.SlotsCalls.{IsObservable-later}
use Rattle.page_store.specs.Lookups.{Consults, Locates}
use Rattle.page_store.specs.Indexes.{SlotIndex, IsNoted, IsIndexOf, IsIndexed, NotesOne, NotesNothing}

-- ---- the loop that notes slots

-- it has read so many slots, and noted their pages
pub record Noting (digests : Label → ℕ) (old now : SlotsState) (at : ℕ) (index : SlotIndex) : Type 0 where
  pub calls : AreSlotCalls {T = Unit {0}} old now (Ok tt)
  pub reads : IsObservable old → now.slots ≡ old.slots
  pub notes : IsObservable old → (slot : ℕ) (page : Page) → slot < at → IsPage page
      → slice_get old.slots slot ≡ Some (slot_bytes (Some page)) → IsNoted index (digests page.label)

pub noting_begins : (digests : Label → ℕ) (slots : SlotsState) (index : SlotIndex) → Noting digests slots slots 0 index
noting_begins digests slots index = record {
  calls = AreSlotCalls-none slots tt;
  reads = λ observable. refl;
  notes = λ observable slot page below. absurd (omega (arith, below));
}

pub noting_more : (digests : Label → ℕ) (old mid new : SlotsState) (at : ℕ) (index more : SlotIndex) (bytes : List ℕ)
    → Noting digests old mid at index → IsGet {T = Unit {0}} mid new at bytes (Ok tt)
    → NotesOne digests index bytes more → Noting digests old new (at + 1) more
noting_more digests old mid new at index more bytes noting got one = record {
  calls = AreSlotCalls-then old mid new tt (Ok tt) noting.calls got.calls;
  reads = λ observable. (got.observed (later observable)).slots ∙ noting.reads observable;
  notes = λ observable slot page below valid held. elim (cases_lt slot at) [
    | inl before ↦ one.keeps (digests page.label) (noting.notes observable slot page before valid held)
    | inr behind ↦ let same : at ≡ slot = omega (arith, below, behind) in
        one.notes page valid (same_Some bytes (slot_bytes (Some page))
        (sym (got.observed (later observable)).got ∙ ap (λ (ss : List (List ℕ)). slice_get ss at)
        (noting.reads observable) ∙ ap (slice_get old.slots) same ∙ held))
  ];
}
  where
    later : IsObservable old → IsObservable mid
    later = IsObservable-later old mid (Ok tt) noting.calls

-- where it ends, with all slots or before, it only read
pub noting_read : (digests : Label → ℕ) (old now : SlotsState) (at : ℕ) (index : SlotIndex) (all : Bool)
    → Noting digests old now at index → Consults old now (Ok all)
noting_read digests old now at index all noting = record {
  calls = AreSlotCalls-value old now tt all noting.calls;
  reads = noting.reads;
}

pub noting_stops : (digests : Label → ℕ) (old mid new : SlotsState) (at : ℕ) (index : SlotIndex) (bytes : List ℕ)
    (all : Bool) → Noting digests old mid at index → IsGet {T = Unit {0}} mid new at bytes (Ok tt)
    → Consults old new (Ok all)
noting_stops digests old mid new at index bytes all noting got = record {
  calls = AreSlotCalls-then old mid new tt (Ok all) noting.calls (AreSlotCalls-value mid new tt all got.calls);
  reads = λ observable. (got.observed (IsObservable-later old mid (Ok tt) noting.calls observable)).slots
      ∙ noting.reads observable;
}

pub noting_fails : (digests : Label → ℕ) (old mid new : SlotsState) (at : ℕ) (index : SlotIndex) (bytes : List ℕ)
    (fault : Fault) → Noting digests old mid at index → IsGet {T = Unit {0}} mid new at bytes (Err fault)
    → Consults {T = Bool} old new (Err fault)
noting_fails digests old mid new at index bytes fault noting got = record {
  calls = AreSlotCalls-then old mid new tt (Err fault) noting.calls (AreSlotCalls-fault mid new fault got.calls);
  reads = λ observable. (got.observed (IsObservable-later old mid (Ok tt) noting.calls observable)).slots
      ∙ noting.reads observable;
}

-- with all slots the index is theirs
pub noting_ends : (digests : Label → ℕ) (old now : SlotsState) (at : ℕ) (index : SlotIndex)
    → Noting digests old now at index → old.count ≤ at → (IsObservable now → length now.slots ≡ now.count)
    → IsIndexOf digests now index
noting_ends digests old now at index noting all counted = record {
  notes = λ observable slot page valid held.
      let before : IsObservable old = sym noting.calls.observable ∙ observable in
      let low = slice_get_within now.slots slot (slot_bytes (Some page)) held in
      let below : slot < at = omega (arith, low, counted observable, noting.calls.count, all) in
      noting.notes before slot page below valid
      (ap (λ (ss : List (List ℕ)). slice_get ss slot) (sym (noting.reads before)) ∙ held);
}

-- ---- an index of slots

-- where there is none
pub index_none : (digests : Label → ℕ) (slots : SlotsState) → IsIndexed digests slots None
index_none digests slots = record { of = λ found is. absurd (none-some found is) }

pub index_forgotten : (digests : Label → ℕ) (slots : SlotsState) (index : Option (BTreeMap ℕ ℕ)) → index ≡ None
    → IsIndexed digests slots index
index_forgotten digests slots index none = record { of = λ found is. absurd (none-some found (sym none ∙ is)) }

-- where there is one
pub index_some : (digests : Label → ℕ) (slots : SlotsState) (index : BTreeMap ℕ ℕ)
    → IsIndexOf digests slots index.entries
    → IsIndexed digests slots (Some index)
index_some digests slots index of = record {
  of = λ found is. subst (λ (m : BTreeMap ℕ ℕ). IsIndexOf digests slots m.entries) (same_Some index found is) of;
}

-- behind calls that only read it is still theirs
pub index_read : {T : Type 0} (digests : Label → ℕ) (old new : SlotsState) (index : Option (BTreeMap ℕ ℕ))
    (result : Result T Fault) → AreSlotCalls old new result → (IsObservable old → new.slots ≡ old.slots)
    → IsIndexed digests old index → IsIndexed digests new index
index_read digests old new index result calls reads indexed = record {
  of = λ found is. record {
    notes = λ observable slot page valid held.
        let before : IsObservable old = sym calls.observable ∙ observable in
        (indexed.of found is).notes before slot page valid
        (ap (λ (ss : List (List ℕ)). slice_get ss slot) (sym (reads before)) ∙ held);
  };
}

-- where nothing is noted for a label, no slot holds its page
module _ (d : Draw) (digests : Label → ℕ) (slots : SlotsState) (index : SlotIndex) (l : Label) (law : IsLawful d)
    (label : IsLabel l) (of : IsIndexOf digests slots index) (none : NotesNothing digests index l) where
  is_absent : (m : PageMap) → IsObservable slots → HoldsPages d slots.slots m → (found : Option Page)
      → page_at m l ≡ found → page_at m l ≡ None
  is_absent m observable holds None is = is
  is_absent m observable holds (Some page) is =
      let under = holds.pages (label_bytes l) page is in
      let same : page.label ≡ l = labels_same page.label l under.valid.label label (sym under.under) in
      let table = table_of_held_map d slots.slots m law holds in
      let stands = found_stands d slots.slots m table.0 page table.1
      (ap (maps.get m) (sym under.under) ∙ is) in
      let held : slice_get slots.slots stands.0 ≡ Some (slot_bytes (Some page)) =
      ap (λ (ss : List (List ℕ)). slice_get ss stands.0) table.1.slots_are
      ∙ slice_get-map slot_bytes table.0 stands.0 ∙ ap (option_map slot_bytes) stands.1 in
      let noted = of.notes observable stands.0 page under.valid held in
      let both : true ≡ false =
      sym noted ∙ ap (λ (k : Label). is_some (lookup (is_at (nat_cmp (digests k))) index)) same ∙ ap is_some none in
      absurd (cc)

  pub not_noted : Locates d slots slots l (Ok None)
  not_noted = record {
    calls = AreSlotCalls-none slots None;
    reads = λ observable. refl;
    within = tt;
    found = λ m observable holds. record {
      absent = ((λ same. is_absent m observable holds (page_at m l) refl), (λ empty. refl));
      slot = tt;
    };
  }

-- what is so where something is
pub after_true : {X : Type 0} (all : Bool) → OnTrue all X → all ≡ true → X
after_true true is same = is
after_true false is same = absurd (cc)

-- what is so after Ok, where no fault came
pub after_ok : {T E X : Type 0} (result : Result T E) → OnOk result X → is_err result ≡ false → X
after_ok (Ok value) is none = is
after_ok (Err fault) is none = absurd (cc)
