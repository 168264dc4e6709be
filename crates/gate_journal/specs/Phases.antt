-- How a table and its redo journal stand in an image.
use Rattle.std.specs.Prelude.{◌≡◌, ℕ, ◌<◌, ◌≤◌, List, take, slice_index}
use Rattle.store_model.specs.Parameters.{block_len, gate_at, table_at}
use Rattle.store_model.specs.Images.{bytes_at}

-- a slot of the table as it stands in the image
abbrev pub table_slot : ℕ → List ℕ → ℕ → List ℕ
table_slot slots image i = bytes_at image (table_at slots i) block_len

-- the image has the header and the table of the target
pub record HasTable (slots : ℕ) (target image : List ℕ) : Type 0 where
  pub header : take block_len image ≡ take block_len target
  pub table : (i : ℕ) → i < slots → table_slot slots image i ≡ table_slot slots target i

-- gate block, marks and shadow are zero
abbrev pub HasEmptyJournal : ℕ → List ℕ → Type 0
HasEmptyJournal slots image = (place : ℕ) → gate_at ≤ place → place < table_at slots 0 → slice_index image place ≡ 0
