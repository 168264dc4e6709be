-- The cells of level 0 that a walk comes to, one after another, and its last key.
use Rattle.std.specs.Prelude.{◌≡◌, ℕ, ◌⊎◌, List, Option, Some, None}
use Rattle.std.specs.List.{Contains}
use Rattle.std.specs.declared.cmp.Ordering.{Ordering}
use Rattle.std.specs.declared.cmp.Ordering.TheVariants.{Less}
use Rattle.store_model.specs.Paths.{key_cmp}
use Rattle.store_model.specs.Pages.{Cell}

-- the key is that of one of the cells
pub record HasKeyIn (cells : List Cell) (key : List ℕ) : Type 0 where
  pub cell : Cell
  pub is_in : Contains cells cell
  pub key_is : cell.key ≡ key

-- cells are ordered by their keys
abbrev pub cell_order : Cell → Cell → Ordering
cell_order a b = key_cmp a.key b.key

-- the key is above the last one, if there is one
abbrev pub IsAbove : Option (List ℕ) → List ℕ → Type 0
IsAbove None key = Unit {0}
IsAbove (Some last) key = key_cmp last key ≡ Less

-- the last key is this one or a greater one
abbrev pub IsReached : Option (List ℕ) → List ℕ → Type 0
IsReached None key = ⊥
IsReached (Some last) key = (key ≡ last) ⊎ (key_cmp key last ≡ Less)

-- from one last key the walk went on by these cells to another: they are above the first, and the other is the last
-- of them
pub record GoesOn (last : Option (List ℕ)) (stream : List Cell) (now : Option (List ℕ)) : Type 0 where
  pub above : (cell : Cell) → Contains stream cell → IsAbove last cell.key
  pub reached : (cell : Cell) → Contains stream cell → IsReached now cell.key
  pub kept : (key : List ℕ) → IsReached last key → IsReached now key
  pub from : (key : List ℕ) → now ≡ Some key → HasKeyIn stream key ⊎ (last ≡ Some key)

-- how far a walk has come: how many pages it may still meet, and the last key of level 0
pub record Progress : Type 0 where
  pub left : ℕ
  pub last : Option (List ℕ)

abbrev pub progress : ℕ → Option (List ℕ) → Progress
progress left last = record { left = left; last = last }
