-- Reads of slots, and of the pages in them.
use Rattle.std.proofs.Common.{◌≡◌, ℕ, List, Option, Some, None, IfSome, Result, Ok, Err, slice_get, refl, sym, ap, ◌∙◌}
use Rattle.std.proofs.lemmas.Option.{same_Some}
use Rattle.store_model.specs.Labels.{Label}
use Rattle.store_model.specs.Pages.{Page, IsPage}
use Rattle.store_model.specs.Images.{page_bytes, slot_bytes}
use Rattle.store_base.specs.declared.store_fault.Fault.{Fault}
use Rattle.store_base.specs.SlotsState.{SlotsState, IsGet}
use Rattle.store_base.proofs.SlotsCalls.{AreSlotCalls-none, AreSlotCalls-then, AreSlotCalls-value, AreSlotCalls-fault}
use Rattle.store_base.proofs.SlotsCalls.{IsObservable-later}
use Rattle.table_walk.specs.Indexes.{LiesIn}
use Rattle.table_walk.specs.IndexLookups.{ReadsOnly, ReadsPage}

-- ---- reads

pub reads_none : {T : Type 0} (state : SlotsState) (value : T) → ReadsOnly state state (Ok value)
reads_none state value = record { calls = AreSlotCalls-none state value; slots = λ observable. refl }

pub reads_then : {T U : Type 0} (old mid new : SlotsState) (value : T) (result : Result U Fault)
    → ReadsOnly old mid (Ok value) → ReadsOnly mid new result → ReadsOnly old new result
reads_then old mid new value result first then = record {
  calls = AreSlotCalls-then old mid new value result first.calls then.calls;
  slots = λ observable. then.slots (IsObservable-later old mid (Ok value) first.calls observable)
      ∙ first.slots observable;
}

pub reads_value : {T U : Type 0} (old new : SlotsState) (value : T) (other : U) → ReadsOnly old new (Ok value)
    → ReadsOnly old new (Ok other)
reads_value old new value other reads = record {
  calls = AreSlotCalls-value old new value other reads.calls;
  slots = reads.slots;
}

pub reads_fault : {T U : Type 0} (old new : SlotsState) (fault : Fault) → ReadsOnly {T = T} old new (Err fault)
    → ReadsOnly {T = U} old new (Err fault)
reads_fault old new fault reads = record { calls = AreSlotCalls-fault old new fault reads.calls; slots = reads.slots }

-- ---- the page of a slot

-- a page that was decoded has the label that was decoded
pub label_decoded : (slot : List ℕ) (label found : Label) (front : Option Label) (page : Option Page)
    → front ≡ Some found → found ≡ label
    → ((p : Page) → IsPage p → slot ≡ slot_bytes (Some p) → front ≡ Some p.label)
    → IfSome page (λ p. IsPage p × (page_bytes p ≡ slot)) → IfSome page (λ p. p.label ≡ label)
unfolding slot_bytes
label_decoded slot label found front None is same told decoded = tt
label_decoded slot label found front (Some p) is same told decoded =
    same_Some p.label found (sym (told p decoded.0 (sym decoded.1)) ∙ is) ∙ same

pub page_decoded : (slot : List ℕ) (page : Option Page) → IfSome page (λ p. IsPage p × (page_bytes p ≡ slot))
    → IfSome page (λ p. IsPage p × (slot ≡ slot_bytes (Some p)))
unfolding slot_bytes
page_decoded slot None decoded = tt
page_decoded slot (Some p) decoded = (decoded.0, sym decoded.1)

pub only_decoded : (slot : List ℕ) (page : Option Page) (p : Page)
    → ((q : Page) → IsPage q → page_bytes q ≡ slot → page ≡ Some q) → IsPage p
    → slot ≡ slot_bytes (Some p) → page ≡ Some p
unfolding slot_bytes
only_decoded slot page p only valid same = only p valid (sym same)

-- no page of another label, or none at all
pub none_decoded : (label : Label) (front : Option Label) (page : Option Page) (p : Page) → front ≡ Some p.label
    → p.label ≡ label → ((found : Label) → front ≡ Some found → found ≡ label → ⊥) → page ≡ Some p
none_decoded label front page p told same not = absurd (not p.label told same)

-- ---- the read of a slot

pub page_read : (old new : SlotsState) (at : ℕ) (l : Label) (slot : List ℕ) (page : Option Page)
    → IsGet {T = Unit {0}} old new at slot (Ok tt)
    → IfSome page (λ p. p.label ≡ l) → IfSome page (λ p. IsPage p × (slot ≡ slot_bytes (Some p)))
    → ((p : Page) → IsPage p → slot ≡ slot_bytes (Some p) → p.label ≡ l → page ≡ Some p)
    → ReadsPage old new at l (Ok page)
page_read old new at l slot page got label found only = record {
  reads = record {
    calls = AreSlotCalls-value old new tt page got.calls;
    slots = λ observable. (got.observed observable).slots;
  };
  label = label;
  lies = λ observable. lies page found (got.observed observable).got;
  found = λ p observable lies same.
      only p lies.valid (same_Some slot (slot_bytes (Some p)) (sym (got.observed observable).got ∙ lies.in_slot)) same;
}
  where
    lies : (page : Option Page) → IfSome page (λ p. IsPage p × (slot ≡ slot_bytes (Some p)))
        → slice_get old.slots at ≡ Some slot → IfSome page (LiesIn old.slots at)
    lies None found shows = tt
    lies (Some p) found shows = record { valid = found.0; in_slot = shows ∙ ap Some found.1 }

pub page_unread : (old new : SlotsState) (at : ℕ) (l : Label) (slot : List ℕ) (fault : Fault)
    → IsGet {T = Unit {0}} old new at slot (Err fault) → ReadsPage old new at l (Err fault)
page_unread old new at l slot fault got = record {
  reads = record {
    calls = AreSlotCalls-fault old new fault got.calls;
    slots = λ observable. (got.observed observable).slots;
  };
  label = tt;
  lies = λ observable. tt;
  found = λ p observable lies same. tt;
}
