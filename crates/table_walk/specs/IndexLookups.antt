-- What a lookup of a page in the slots does.
use Rattle.std.specs.Prelude.{◌≡◌, ℕ, Option, Some, None, Result, Ok, Err, IfSome, IfOk, List}
use Rattle.store_model.specs.Labels.{Label}
use Rattle.store_model.specs.Pages.{Page}
use Rattle.store_base.specs.declared.store_fault.Fault.{Fault}
use Rattle.store_base.specs.SlotsState.{SlotsState, IsObservable, AreSlotCalls}
use Rattle.table_walk.specs.declared.entry.Entry.{Entry}
use Rattle.table_walk.specs.Indexes.{LiesIn, Indexes}

-- the answer of a call that leaves what it found in a place: that, or its fault
abbrev pub answer_of : {T : Type 0} → Result (Unit {0}) Fault → Option T → Result (Option T) Fault
answer_of (Ok done) found = Ok found
answer_of (Err fault) found = Err fault

-- reads of slots, of which the first that fails is the last
pub record ReadsOnly {T : Type 0} (old new : SlotsState) (result : Result T Fault) : Type 0 where
  pub calls : AreSlotCalls old new result
  pub slots : IsObservable old → new.slots ≡ old.slots

-- a read of one slot for the page of a label
pub record ReadsPage (old new : SlotsState) (at : ℕ) (l : Label) (result : Result (Option Page) Fault) : Type 0 where
  pub reads : ReadsOnly old new result
  pub label : IfOk result (λ found. IfSome found (λ page. page.label ≡ l))
  pub lies : IsObservable old → IfOk result (λ found. IfSome found (LiesIn old.slots at))
  pub found : (page : Page) → IsObservable old → LiesIn old.slots at page → page.label ≡ l
      → IfOk result (λ found. found ≡ Some page)

-- what slots tell of a label: a page of it lies in one of them, or in none
abbrev pub TellsPage : List (List ℕ) → Label → Option Page → Type 0
TellsPage slots l (Some page) = (at : ℕ) × LiesIn slots at page
TellsPage slots l None = (at : ℕ) (page : Page) → LiesIn slots at page → page.label ≡ l → ⊥

-- a lookup of the page of a label, by these entries and this digest, which is to be the label's
pub record LooksUp (old new : SlotsState) (entries : List Entry) (l : Label) (digest : ℕ)
    (result : Result (Option Page) Fault) : Type 0 where
  pub reads : ReadsOnly old new result
  pub label : IfOk result (λ found. IfSome found (λ page. page.label ≡ l))
  pub found : (digests : Label → ℕ) → digest ≡ digests l → IsObservable old → Indexes digests old.slots entries
      → IfOk result (TellsPage old.slots l)
