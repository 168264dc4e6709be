-- The place of a key in a list of entries that rise by key, and what a search and a change make of the list there.
use Rattle.std.specs.Prelude.{◌≡◌, ℕ, ◌<◌, ◌≤◌, not, List, length, Option, Some, None, Result, MatchResult, insert}
use Rattle.std.specs.Prelude.{remove, slice_get, slice_set, slice_index_or}
use Rattle.std.specs.List.{filter, find as first_that}
use Rattle.std.specs.FinMap.{find, put}
use Rattle.std.specs.Ordering.{eq_by_cmp, is_le}
use Rattle.store_model.specs.Paths.{key_cmp}

-- the entries without that of a key
abbrev pub without_key : {X : Type 0} → List ℕ → List (List ℕ × X) → List (List ℕ × X)
without_key key entries = filter (λ entry. not (eq_by_cmp key_cmp key entry.0)) entries

-- the first entry whose key is not below the given one
abbrev pub next_entry : {X : Type 0} → List ℕ → List (List ℕ × X) → Option (List ℕ × X)
next_entry key entries = first_that (λ entry. is_le (key_cmp key entry.0)) entries

-- the entry of a key stands at a place
pub record StandsAt {X : Type 0} (entries : List (List ℕ × X)) (key : List ℕ) (at : ℕ) : Type 0 where
  pub within : at < length entries
  pub found : (d : List ℕ × X) → find key_cmp key entries ≡ Some (slice_index_or entries at d).1
  pub put : (value : X) → put key_cmp key value entries ≡ slice_set entries at (key, value)
  pub taken : without_key key entries ≡ remove entries at
  pub next : next_entry key entries ≡ slice_get entries at

-- a key has no entry, and its entry would stand at a place
pub record LacksAt {X : Type 0} (entries : List (List ℕ × X)) (key : List ℕ) (at : ℕ) : Type 0 where
  pub within : at ≤ length entries
  pub found : find key_cmp key entries ≡ None
  pub put : (value : X) → put key_cmp key value entries ≡ insert entries at (key, value)
  pub taken : without_key key entries ≡ entries
  pub next : next_entry key entries ≡ slice_get entries at

-- a search for a key answers the place of its entry, or the place where it would stand
abbrev pub IsPlaceOf : {X : Type 0} → List (List ℕ × X) → List ℕ → Result ℕ ℕ → Type 0
IsPlaceOf entries key result = MatchResult result (StandsAt entries key) (LacksAt entries key)
