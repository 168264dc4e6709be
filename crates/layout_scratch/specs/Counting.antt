-- What a counter of pages knows of the keys that came. A caller needs no more of this than that a new counter has
-- counted no key, and that one which took a key has counted it behind the others.
use Rattle.std.specs.Prelude.{◌≡◌, ℕ, ◌*◌, ◌<◌, ◌≤◌, List, [], ◌∷◌, map, length, slice_index}
use Rattle.store_model.specs.Parameters.{height_limit}
use Rattle.store_model.specs.Pairs.{Pair}
use Rattle.store_model.specs.Draws.{Draw}
use Rattle.store_model.specs.Pages.{Cell, groups, pages_of_pairs}
use Rattle.layout_scratch.specs.declared.counter.PageCounter.{PageCounter}

-- how many cells the last of some groups has, and none where there is no group
unfoldable pub last_length : List (List Cell) → ℕ
last_length [] = 0
last_length (group ∷ []) = length group
last_length (group ∷ next ∷ groups) = last_length (next ∷ groups)

-- the counter has counted these keys, and no others: whatever values stand under them, their pairs have so many
-- pages, and the last group of each level so many cells; a key has at most one cell on a level, and brings at most
-- one page there
pub record HasCounted (d : Draw) (keys : List (List ℕ)) (counter : PageCounter) : Type 0 where
  pub pages_are : (s : List Pair) → map (λ pair. pair.0) s ≡ keys → length (pages_of_pairs d s) ≡ counter.pages
  pub cells_are : (s : List Pair) → map (λ pair. pair.0) s ≡ keys → (level : ℕ) → level < d.height
      → last_length (groups d s level) ≡ slice_index counter.cells level
  pub keys_are : counter.keys ≡ length keys
  pub few_pages : counter.pages ≤ height_limit * length keys
  pub few_cells : (level : ℕ) → slice_index counter.cells level ≤ length keys
