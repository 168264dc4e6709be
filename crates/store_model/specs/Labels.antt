-- The labels of pages, their bytes and their order.
use Rattle.std.specs.Prelude.{◌≡◌, ℕ, ◌<◌, List, ◌∷◌, ◌++◌, length}
use Rattle.std.specs.Int.{w32, to_be_bytes}
use Rattle.std.specs.declared.cmp.Ordering.{Ordering}
use Rattle.std.specs.Ordering.{nat_cmp}
use Rattle.std.specs.Cmp.Lexicographic.{slice_cmp}
use Rattle.store_model.specs.Lists.{IsBytes, zeros}
use Rattle.store_model.specs.Paths.{key_len}

-- what leads a group of pages: the start of the list, or a key
pub data Lead : Type 0 where
  Start : Lead
  Leader : List ℕ → Lead

-- a page's name: the level, what leads its group, and its place in the group
pub record Label : Type 0 where
  pub level : ℕ
  pub lead : Lead
  pub index : ℕ

-- a leader is a key of 124 bytes
abbrev pub IsLead : Lead → Type 0
IsLead Start = Unit {0}
IsLead (Leader k) = (length k ≡ key_len) × IsBytes k

pub record IsLabel (l : Label) : Type 0 where
  pub level : l.level < 256
  pub lead : IsLead l.lead
  pub index : l.index < 4294967296

-- 0 and zeros for the start, 1 and the key for a leader
abbrev pub lead_bytes : Lead → List ℕ
lead_bytes Start = 0 ∷ zeros key_len
lead_bytes (Leader k) = 1 ∷ k

-- the 130 bytes of a label
unfoldable pub label_bytes : Label → List ℕ
label_bytes l = l.level ∷ lead_bytes l.lead ++ to_be_bytes w32 l.index

-- labels are ordered as their bytes; the smaller label has the higher rank
abbrev pub label_cmp : Label → Label → Ordering
label_cmp a b = slice_cmp nat_cmp (label_bytes a) (label_bytes b)
