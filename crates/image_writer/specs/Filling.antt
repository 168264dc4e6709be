-- What is written of an image beside its pages.
use Rattle.std.specs.Prelude.{◌≡◌, ℕ, ◌-◌, ◌<◌, ◌≤◌, List, Bool, true, slice_get, slice_index, Some, cond}
use Rattle.std.specs.List.{count_by}
use Rattle.store_model.specs.Parameters.{Parameters, block_len, gate_at, table_at}
use Rattle.store_model.specs.Images.{header}
use Rattle.gate_journal.specs.Places.{IsApart, IsZeroAt}

-- a place outside this slot, if that is free
abbrev pub OutsideSlot : ℕ → ℕ → Bool → ℕ → Type 0
OutsideSlot slots slot free place = free ≡ true → IsApart (table_at slots slot) block_len place

-- this slot is zero, if it is free
abbrev pub IsFilled : ℕ → ℕ → Bool → List ℕ → Type 0
IsFilled slots slot free image = free ≡ true → IsZeroAt (table_at slots slot) block_len image

-- a write, if the slot is free
abbrev pub fill_writes : Bool → ℕ
fill_writes free = cond free 1 0

-- a place outside the slots that are free
abbrev pub OutsideFree : ℕ → List Bool → ℕ → Type 0
OutsideFree slots free place = (i : ℕ) → slice_get free i ≡ Some true → IsApart (table_at slots i) block_len place

-- of the first n slots those that are free are zero
abbrev pub AreFilled : ℕ → List Bool → ℕ → List ℕ → Type 0
AreFilled slots free n image = (i : ℕ) → i < n → slice_get free i ≡ Some true
    → IsZeroAt (table_at slots i) block_len image

-- how many slots are free
abbrev pub free_count : List Bool → ℕ
free_count free = count_by (λ b. b) free

-- gate block, marks and shadow of an image of so many slots: where they begin, and how many bytes they have
abbrev pub IsJournalZero : ℕ → List ℕ → Type 0
IsJournalZero slots image = IsZeroAt gate_at (table_at slots 0 - block_len) image

abbrev pub OutsideJournal : ℕ → ℕ → Type 0
OutsideJournal slots place = IsApart gate_at (table_at slots 0 - block_len) place

-- the header but for its first byte
abbrev pub HasHeaderRest : Parameters → List ℕ → Type 0
HasHeaderRest p image = (place : ℕ) → 1 ≤ place → place < block_len
    → slice_index image place ≡ slice_index (header p) place
