-- The levels of the keys of pairs, as far as they were drawn before.
use Rattle.std.specs.Prelude.{◌≡◌, ℕ, List, map, length, take}
use Rattle.store_model.specs.Pairs.{Pair}
use Rattle.store_model.specs.Draws.{Draw}

-- the levels that the draw gives the keys of the pairs, in the order of the pairs
abbrev pub levels_of : Draw → List Pair → List ℕ
levels_of d s = map (λ pair. d.level pair.0) s

-- these are the levels of the first pairs, of as many as there are levels
abbrev pub AreLevels : Draw → List Pair → List ℕ → Type 0
AreLevels d s levels = levels ≡ take (length levels) (levels_of d s)
