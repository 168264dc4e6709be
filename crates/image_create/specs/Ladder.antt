-- How many slots an image gets by itself.
use Rattle.std.specs.Prelude.{◌≡◌, ◌⊎◌, ℕ, ◌*◌, ◌^◌, ◌≤◌, nat_le, Bool, IsTrue, List, [], ◌∷◌, map, Option, Some, None}
use Rattle.std.specs.Prelude.{if◌then◌else◌}
use Rattle.std.specs.List.{find, Contains}
use Rattle.store_model.specs.Parameters.{slots_limit}

-- the powers of two from 64 to 65,536, the most slots of an image
abbrev pub rungs : List ℕ
rungs = map (λ exponent. 2 ^ exponent) (6 ∷ 7 ∷ 8 ∷ 9 ∷ 10 ∷ 11 ∷ 12 ∷ 13 ∷ 14 ∷ 15 ∷ 16 ∷ [])

-- whether pages take at most three quarters of some slots
abbrev pub has_room : ℕ → ℕ → Bool
has_room pages slots = nat_le (4 * pages) (3 * slots)

-- the most slots, where the pages fit them at all
abbrev pub most_for : ℕ → Option ℕ
most_for pages = if nat_le pages slots_limit then Some slots_limit else None

-- the first of some, and where there is none another answer
abbrev pub first_or : Option ℕ → Option ℕ → Option ℕ
first_or None other = other
first_or (Some first) other = Some first

-- the least power of two from 64 of which the pages take at most three quarters; 65,536 where they fit these at all
abbrev pub ladder_of : ℕ → Option ℕ
ladder_of pages = first_or (find (has_room pages) rungs) (most_for pages)

-- The slots are such a power, and the pages fit them. They take at most three quarters, but for the most slots, and no
-- lower power has such room.
pub record AreLeast (pages slots : ℕ) : Type 0 where
  pub rung : Contains rungs slots
  pub fits : pages ≤ slots
  pub room : IsTrue (has_room pages slots) ⊎ (slots ≡ slots_limit)
  pub least : (other : ℕ) → Contains rungs other → IsTrue (has_room pages other) → slots ≤ other
