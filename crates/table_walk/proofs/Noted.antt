-- Indexes that stay, and how one is made.
use Rattle.std.proofs.Common.{◌≡◌, ℕ, ◌<◌, List, Result, sym, subst, ◌∙◌}
use Rattle.std.proofs.lemmas.List.Sorted.{All-permutation, Contains-permutation}
use Rattle.store_model.specs.Labels.{Label}
use Rattle.store_base.specs.declared.store_fault.Fault.{Fault}
use Rattle.store_base.specs.SlotsState.{SlotsState, IsObservable}
use Rattle.table_walk.specs.declared.entry.Entry.{Entry}
use Rattle.table_walk.specs.Indexes.{AreThere, Indexes, IsIndexOf, AreNoted, IsSortOf}
use Rattle.table_walk.specs.IndexLookups.{ReadsOnly}

-- an index of slots is one of the same slots at another moment
pub index_same : (digests : Label → ℕ) (old new : SlotsState) (entries : List Entry) → new.count ≡ old.count
    → new.is_observable ≡ old.is_observable → (IsObservable old → new.slots ≡ old.slots) → IsIndexOf digests old entries
    → IsIndexOf digests new entries
index_same digests old new entries count observed same is = record {
  there = subst (λ (n : ℕ). AreThere n entries) (sym count) is.there;
  indexes = λ observable.
      let before = sym observed ∙ observable in
      subst (λ (slots : List (List ℕ)). Indexes digests slots entries) (sym (same before)) (is.indexes before);
}

-- so it stays one where slots are read alone
pub index_later : {T : Type 0} (digests : Label → ℕ) (old new : SlotsState) (result : Result T Fault)
    (entries : List Entry) → ReadsOnly old new result → IsIndexOf digests old entries → IsIndexOf digests new entries
index_later digests old new result entries reads is =
    index_same digests old new entries reads.calls.count reads.calls.observable reads.slots is

-- entries that tell the pages of slots are an index of them once they are sorted
pub index_sorted : (digests : Label → ℕ) (state : SlotsState) (noted entries : List Entry)
    → AreNoted digests state noted → IsSortOf noted entries → IsIndexOf digests state entries
index_sorted digests state noted entries are sorted = record {
  there = All-permutation (λ (entry : Entry). entry.slot < state.count) noted entries sorted.same are.there;
  indexes = λ observable. record {
    rising = sorted.rising;
    tells = λ at page lies. Contains-permutation noted entries _ sorted.same (are.tells observable at page lies);
  };
}
