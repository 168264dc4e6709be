-- Which lines of a script are ended.
use Rattle.std.specs.Prelude.{◌≡◌, ℕ, ◌-◌, List, length, take, false, nat_lt, ◌==◌}
use Rattle.std.specs.List.{All, filter, slice_split}

-- no LF stands among the bytes
abbrev pub HasNoEnd : List ℕ → Type 0
HasNoEnd bytes = All (λ c. (c == 10) ≡ false) bytes

-- the parts of a list, but for the last
abbrev pub all_but_last : List (List ℕ) → List (List ℕ)
all_but_last parts = take (length parts - 1) parts

-- the lines of the bytes that an LF ends, without those that are empty
unfoldable pub ended_lines : List ℕ → List (List ℕ)
ended_lines bytes = filter (λ text. nat_lt 0 (length text)) (all_but_last (slice_split (λ c. c == 10) bytes))
