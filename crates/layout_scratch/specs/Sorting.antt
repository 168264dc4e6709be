-- Pairs in the order of their keys.
use Rattle.std.specs.Prelude.{ℕ, List, map}
use Rattle.std.specs.List.{IsDistinct}
use Rattle.std.specs.Ordering.{eq_by_cmp}
use Rattle.std.specs.declared.cmp.Ordering.{Ordering}
use Rattle.store_model.specs.Lists.{in_order}
use Rattle.store_model.specs.Paths.{key_cmp}
use Rattle.store_model.specs.Pairs.{Pair}

-- the most pairs that are laid out: their pages on all levels are counted in 32 bits
abbrev pub sorted_limit : ℕ
sorted_limit = 268435456

-- pairs are ordered as their keys
abbrev pub pair_cmp : Pair → Pair → Ordering
pair_cmp a b = key_cmp a.0 b.0

-- the pairs in the order of their keys
abbrev pub by_key : List Pair → List Pair
by_key s = in_order pair_cmp s

-- no key stands twice
abbrev pub HasDistinctKeys : List Pair → Type 0
HasDistinctKeys s = IsDistinct (eq_by_cmp key_cmp) (map (λ pair. pair.0) s)
