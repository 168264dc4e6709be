-- Pairs with the levels of their keys.
use Rattle.std.specs.Prelude.{◌≡◌, ℕ, ◌<◌, ◌≤◌, List, [], ◌∷◌, ◌++◌, map, length, drop, nat_le}
use Rattle.std.specs.List.{filter, AllByRecursion}
use Rattle.store_model.specs.Pairs.{Pair}
use Rattle.store_model.specs.Draws.{Draw}
use Rattle.store_model.specs.Pages.{Cell, cell_on}
use Rattle.layout_scratch.specs.declared.ranked.Ranked.{Ranked}

-- the key of such a pair
abbrev pub key_of : Ranked → List ℕ
key_of r = r.pair.now.0

-- the pairs alone
abbrev pub pairs_of : List Ranked → List Pair
pairs_of rs = map (λ r. r.pair.now) rs

-- each level is that which the draw gives the key
abbrev pub AreRanked : Draw → List Ranked → Type 0
AreRanked d rs = AllByRecursion (λ r. r.level ≡ d.level (key_of r)) rs

-- the cells that the pairs have on a level: one for each whose key stands there
abbrev pub cells_on : ℕ → List Ranked → List Cell
cells_on level rs = map (λ r. cell_on level r.pair.now) (filter (λ r. nat_le level r.level) rs)

-- no pair is left, or the first of them begins a group of the level
abbrev pub BeginsGroup : ℕ → List Ranked → Type 0
BeginsGroup level [] = Unit {0}
BeginsGroup level (r ∷ rs) = level < r.level

-- the pairs of the first group of a level, and those behind it
pub record IsFirstGroup (level : ℕ) (ranked group behind : List Ranked) : Type 0 where
  pub whole : group ++ behind ≡ ranked
  pub some : 1 ≤ length group
  pub uncut : AllByRecursion (λ other. other.level ≤ level) (drop 1 group)
  pub next : BeginsGroup level behind
