-- The greatest key that is not above a given one, in cells that rise by key.
use Rattle.std.specs.Prelude.{ℕ, List, [], ◌∷◌, Bool, not, Option, Some, None, if◌then◌else◌}
use Rattle.std.specs.List.{take_while, find}
use Rattle.std.specs.Ordering.{is_le, is_eq}
use Rattle.store_model.specs.Paths.{key_cmp}
use Rattle.store_model.specs.Labels.{Lead}
use Rattle.store_model.specs.Labels.Lead.{Leader}
use Rattle.store_model.specs.Pages.{Cell}
use Rattle.std.specs.Option.{option_map}
use Rattle.store_model.specs.Pairs.{Pair}

-- whether the key of a cell is not above a key
abbrev pub is_not_above : List ℕ → Cell → Bool
is_not_above key cell = is_le (key_cmp cell.key key)

-- the last of some cells
unfoldable pub last_of : List Cell → Option Cell
last_of [] = None
last_of (cell ∷ []) = Some cell
last_of (cell ∷ other ∷ cells) = last_of (other ∷ cells)

-- the cell with the greatest key that is not above the key, in cells that rise
abbrev pub floor_of : List ℕ → List Cell → Option Cell
floor_of key cells = last_of (take_while (is_not_above key) cells)

-- the cell with the least key above the key, in cells that rise
abbrev pub after_of : List ℕ → List Cell → Option Cell
after_of key cells = find (λ cell. not (is_not_above key cell)) cells

-- what leads the next group of a search path: the cell that was found in this one, or else what leads this one
abbrev pub lead_from : Option Cell → Lead → Lead
lead_from None lead = lead
lead_from (Some cell) lead = Leader cell.key

-- the value of a key in the cell that was found, if it is the key's
abbrev pub value_at : List ℕ → Option Cell → Option (List ℕ)
value_at key None = None
value_at key (Some cell) = if is_eq (key_cmp key cell.key) then cell.value else None

-- the pair of a cell of level 0
abbrev pub pair_in : Option Cell → Option Pair
pair_in None = None
pair_in (Some cell) = option_map (λ value. (cell.key, value)) cell.value

-- the pair of a key in the cell that was found, if it is the key's
abbrev pub pair_at : List ℕ → Option Cell → Option Pair
pair_at key None = None
pair_at key (Some cell) = if is_eq (key_cmp key cell.key) then pair_in (Some cell) else None
