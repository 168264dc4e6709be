-- Which bytes spell the cells of a page.
use Rattle.std.specs.Prelude.{◌≡◌, ℕ, zero, suc, ◌-◌, ◌≤◌, ◌*◌, length, List, [], take, drop}
use Rattle.std.specs.Int.{w16, from_be_bytes}
use Rattle.std.specs.declared.cmp.Ordering.TheVariants.{Less}
use Rattle.store_model.specs.Lists.{zeros}
use Rattle.store_model.specs.Paths.{key_cmp}
use Rattle.store_model.specs.Pages.{page_room}
use Rattle.store_model.specs.Pairs.{value_limit}

-- how many bytes a cell of a level has
abbrev pub cell_size : ℕ → ℕ
cell_size zero = 382
cell_size (suc level) = 124

-- two bytes of a length, so many bytes, and zeros up to the longest value
pub record SpellsValue (bytes : List ℕ) : Type 0 where
  pub some : 1 ≤ from_be_bytes w16 bytes
  pub fits : from_be_bytes w16 bytes ≤ value_limit
  pub fill : drop (from_be_bytes w16 bytes) (drop 2 bytes) ≡ zeros (value_limit - from_be_bytes w16 bytes)

-- bytes of the size of a cell spell one: at level 0 there is a value behind the key
abbrev pub SpellsCell : ℕ → List ℕ → Type 0
SpellsCell level bytes = level ≡ 0 → SpellsValue (drop 124 bytes)

-- so many cells, one behind the other, each with a key above the one before it
unfoldable pub SpellsRising : ℕ → List ℕ → ℕ → List ℕ → Type 0
SpellsRising level last zero bytes = Unit {0}
SpellsRising level last (suc count) bytes = SpellsCell level (take (cell_size level) bytes)
    × (key_cmp last (take 124 bytes) ≡ Less) × SpellsRising level (take 124 bytes) count (drop (cell_size level) bytes)

-- the 3,964 bytes behind the count of a page spell so many cells of the level, as many as a page may have, and zeros
pub record SpellsCells (level count : ℕ) (area : List ℕ) : Type 0 where
  pub some : 1 ≤ count
  pub room : count ≤ page_room level
  pub rising : SpellsRising level [] count area
  pub rest : drop (cell_size level * count) area ≡ zeros (length (drop (cell_size level * count) area))
