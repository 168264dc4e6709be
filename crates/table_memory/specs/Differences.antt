-- The slots in which two tables differ, each table by the bytes of its slots.
use Rattle.std.specs.Prelude.{◌≡◌, ◌≢◌, ℕ, ◌<◌, List, not}
use Rattle.std.specs.List.{count_by}
use Rattle.store_model.specs.Lists.{numbers_below, same_bytes}
use Rattle.gate_journal.specs.Changes as journal

-- how many of the first slots have other bytes in the one table than in the other
abbrev pub differing : (ℕ → List ℕ) → (ℕ → List ℕ) → ℕ → ℕ
differing old new slots = count_by (λ i. not (same_bytes (old i) (new i))) (numbers_below slots)

-- the changes are just those of the first slots whose bytes differ, with their new bytes
pub record AreDifferences (old new : ℕ → List ℕ) (slots : ℕ) (changes : journal.Changes) : Type 0 where
  pub bytes : (k : ℕ) → k < changes.count → changes.bytes k ≡ new (changes.slot k)
  pub others : (i : ℕ) → i < slots → ((k : ℕ) → k < changes.count → changes.slot k ≢ i) → old i ≡ new i
  pub count_is : changes.count ≡ differing old new slots
