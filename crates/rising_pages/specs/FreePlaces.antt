-- Which slots are free, kept so that the next free one behind a place is found in a few steps.
use Rattle.std.specs.Prelude.{◌≡◌, ℕ, ◌-◌, ◌<◌, ◌≤◌, List, map, length, Bool, nat_eq, slice_index, slice_set, false}
use Rattle.std.specs.Prelude.{Option, Some}
use Rattle.std.specs.Prelude.{None, is_none}
use Rattle.store_model.specs.Lists.{numbers_below}
use Rattle.store_model.specs.Placement.{Table}

-- whether each slot is free: where it leads to itself
unfoldable pub free_of : List ℕ → List Bool
free_of next = map (λ i. nat_eq (slice_index next i) i) (numbers_below (length next - 1))

-- Each place leads to itself, if it is free, or to a later one, and no place from it up to that one is free. The last
-- place stands behind the slots and leads to itself.
pub record LeadsOn (next : List ℕ) : Type 0 where
  pub some : 1 ≤ length next
  pub few : length next ≤ 65537
  pub ends : slice_index next (length next - 1) ≡ length next - 1
  pub forward : (i : ℕ) → i < length next → i ≤ slice_index next i
  pub within : (i : ℕ) → i < length next → slice_index next i < length next
  pub skips : (i j : ℕ) → i < length next → i ≤ j → j < slice_index next i → (slice_index next j ≡ j → ⊥)

-- these slots are free of the table, and no others
abbrev pub AreFree : Table → List Bool → Type 0
AreFree table free = free ≡ map is_none table

-- a table with a page in some slot, whichever page it is
abbrev pub taken_at : List Bool → Option ℕ → List Bool
taken_at free None = free
taken_at free (Some at) = slice_set free at false
