-- Indexes of the pages that lie in slots, by digests of their labels.
use Rattle.std.specs.Prelude.{◌≡◌, ℕ, ◌+◌, ◌<◌, ◌≤◌, List, length, slice_get, slice_index_or, Some}
use Rattle.std.specs.List.{All, Contains}
use Rattle.std.specs.List.Sorted.{IsPermutation, IsNonDecreasingBy}
use Rattle.store_model.specs.Labels.{Label}
use Rattle.store_model.specs.Pages.{Page, IsPage}
use Rattle.store_model.specs.Images.{slot_bytes}
use Rattle.store_base.specs.SlotsState.{SlotsState, IsObservable}
use Rattle.table_walk.specs.declared.entry.Entry.{Entry}

-- the entry of a page in a slot whose label has this digest
abbrev pub entry_of : ℕ → ℕ → Entry
entry_of digest at = record { digest = digest; slot = at }

-- the page lies in the slot
pub record LiesIn (slots : List (List ℕ)) (at : ℕ) (page : Page) : Type 0 where
  pub valid : IsPage page
  pub in_slot : slice_get slots at ≡ Some (slot_bytes (Some page))

-- each page that lies in a slot has its entry among these, under the digest that its label has
abbrev pub TellsPages : (Label → ℕ) → List (List ℕ) → List Entry → Type 0
TellsPages digests slots entries = (at : ℕ) (page : Page) → LiesIn slots at page
    → Contains entries (entry_of (digests page.label) at)

-- the digests of the entries don't fall
abbrev pub AreRising : List Entry → Type 0
AreRising entries = IsNonDecreasingBy (λ entry. entry.digest) entries

-- the entries are those of the pages in the slots, and perhaps some more, in the order of their digests
pub record Indexes (digests : Label → ℕ) (slots : List (List ℕ)) (entries : List Entry) : Type 0 where
  pub rising : AreRising entries
  pub tells : TellsPages digests slots entries

-- the slots that entries name are there
abbrev pub AreThere : ℕ → List Entry → Type 0
AreThere count entries = All (λ entry. entry.slot < count) entries

-- the entries are an index of slots, by these digests of labels
pub record IsIndexOf (digests : Label → ℕ) (state : SlotsState) (entries : List Entry) : Type 0 where
  pub there : AreThere state.count entries
  pub indexes : IsObservable state → Indexes digests state.slots entries

-- the entries tell the pages that lie in slots, in any order
pub record AreNoted (digests : Label → ℕ) (state : SlotsState) (entries : List Entry) : Type 0 where
  pub there : AreThere state.count entries
  pub tells : IsObservable state → TellsPages digests state.slots entries

-- the same entries, in the order of their digests
pub record IsSortOf (old new : List Entry) : Type 0 where
  pub same : IsPermutation old new
  pub rising : AreRising new

-- of more entries than so many, one behind the other, the first and the last have two digests: where digests don't
-- fall, no digest has more entries
abbrev pub AreFewAlike : List Entry → ℕ → Type 0
AreFewAlike entries most = (k : ℕ) (e : Entry) → k + most < length entries
    → (slice_index_or entries k e).digest ≡ (slice_index_or entries (k + most) e).digest → ⊥

-- before this number the digests are below the given one, and from there on they are not
abbrev pub IsPast : List Entry → ℕ → ℕ → Type 0
IsPast entries digest past = AreRising entries
    → ((k : ℕ) (e : Entry) → k < past → (slice_index_or entries k e).digest < digest)
    × ((k : ℕ) (e : Entry) → past ≤ k → k < length entries → digest ≤ (slice_index_or entries k e).digest)
