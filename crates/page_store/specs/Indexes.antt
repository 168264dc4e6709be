-- Where all pages of slots lie, under the digests of their labels.
use Rattle.std.specs.Prelude.{◌≡◌, ℕ, List, Option, Some, None, IsSome, slice_get}
use Rattle.std.specs.Map.{lookup}
use Rattle.std.specs.BTreeMap.{BTreeMap, is_at}
use Rattle.std.specs.Ordering.{nat_cmp}
use Rattle.store_model.specs.Labels.{Label}
use Rattle.store_model.specs.Pages.{Page, IsPage}
use Rattle.store_model.specs.Images.{slot_bytes}
use Rattle.store_base.specs.SlotsState.{SlotsState, IsObservable}

-- numbers of slots under digests
abbrev pub SlotIndex : Type 0
SlotIndex = List (ℕ × ℕ)

-- a slot is noted under the digest
abbrev pub IsNoted : SlotIndex → ℕ → Type 0
IsNoted index digest = IsSome (lookup (is_at (nat_cmp digest)) index)

-- where the slots are observable, a slot is noted under the digest of the label of each page that they hold
pub record IsIndexOf (digests : Label → ℕ) (slots : SlotsState) (index : SlotIndex) : Type 0 where
  pub notes : IsObservable slots → (at : ℕ) (page : Page) → IsPage page
      → slice_get slots.slots at ≡ Some (slot_bytes (Some page)) → IsNoted index (digests page.label)

-- one slot more is noted: what was noted is so still, and so is the page that the slot holds
pub record NotesOne (digests : Label → ℕ) (old : SlotIndex) (slot : List ℕ) (new : SlotIndex) : Type 0 where
  pub keeps : (digest : ℕ) → IsNoted old digest → IsNoted new digest
  pub notes : (page : Page) → IsPage page → slot ≡ slot_bytes (Some page) → IsNoted new (digests page.label)

-- nothing is noted for the label
abbrev pub NotesNothing : (Label → ℕ) → SlotIndex → Label → Type 0
NotesNothing digests index l = lookup (is_at (nat_cmp (digests l))) index ≡ None

-- an index, if there is one, is of these slots
pub record IsIndexed (digests : Label → ℕ) (slots : SlotsState) (index : Option (BTreeMap ℕ ℕ)) : Type 0 where
  pub of : (found : BTreeMap ℕ ℕ) → index ≡ Some found → IsIndexOf digests slots found.entries
