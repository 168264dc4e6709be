-- What is kept of pairs that came in the order of their keys. A caller needs no more of it than that nothing came to
-- one that is new, and what the next pair makes of it.
use Rattle.std.specs.Prelude.{◌≡◌, ℕ, ◌<◌, ◌≤◌, List, [], ◌∷◌, ◌++◌, map, length, Option, None}
use Rattle.store_model.specs.Parameters.{height_limit}
use Rattle.store_model.specs.Pairs.{Pair, IsPairs}
use Rattle.store_model.specs.Draws.{Draw, IsLawful}
use Rattle.store_model.specs.Pages.{Page, pages_of_pairs}
use Rattle.layout_scratch.specs.Counting.{HasCounted}
use Rattle.layout_scratch.specs.Sorting.{sorted_limit}
use Rattle.rising_pages.specs.declared.kept.KeptPairs.{KeptPairs}
use Rattle.rising_pages.specs.Ends.{list_of}
use Rattle.rising_pages.specs.OpenPages.{closed_pages, open_page, HasRoom}
use Rattle.rising_pages.specs.Raised.{raised_keys}

-- the pages of the pairs, on all levels, are no more than the slots
abbrev pub FitSlots : Draw → List Pair → Type 0
FitSlots d s = length (pages_of_pairs d s) ≤ d.slots

-- the last page of level 0 and the keys above that level are kept
pub record HasEnds (d : Draw) (s : List Pair) (kept : KeptPairs) : Type 0 where
  pub last_is : kept.last ≡ open_page d s 0
  pub raised_are : kept.raised.items ≡ raised_keys d s

-- just these pairs came: their pages are counted, and the ends kept where the pages fit
pub record IsKept (d : Draw) (s : List Pair) (kept : KeptPairs) : Type 0 where
  pub slots_are : kept.slots ≡ d.slots
  pub counted : HasCounted d (map (λ pair. pair.0) s) kept.counter
  pub ends : FitSlots d s → HasEnds d s kept

-- just these pairs came, and this one is the next: its key stands behind theirs, and has this level
pub record PairComes (d : Draw) (s : List Pair) (level : ℕ) (pair : Pair) (kept : KeptPairs) : Type 0 where
  pub kept_is : IsKept d s kept
  pub low : d.height ≤ height_limit
  pub law : IsLawful d
  pub level_is : level ≡ d.level pair.0
  pub pairs : IsPairs (s ++ pair ∷ [])
  pub few : length s < sorted_limit

-- a pair whose key is drawn this level comes onto the last page of level 0, and closes none
pub record JoinsLast (level : ℕ) (kept : KeptPairs) : Type 0 where
  pub low : level ≡ 0
  pub fits : kept.counter.pages ≤ kept.slots
  pub room : HasRoom kept.last 0 level

-- the pair came: the page that it closed is behind the closed ones, and none is answered where the pages don't fit
pub record PairCame (d : Draw) (s : List Pair) (pair : Pair) (closed : Option Page) (kept : KeptPairs) : Type 0 where
  pub kept_is : IsKept d (s ++ pair ∷ []) kept
  pub grows : length (pages_of_pairs d s) ≤ length (pages_of_pairs d (s ++ pair ∷ []))
  pub closed_is : FitSlots d (s ++ pair ∷ [])
      → closed_pages d (s ++ pair ∷ []) 0 ≡ closed_pages d s 0 ++ list_of closed
  pub none : d.slots < length (pages_of_pairs d (s ++ pair ∷ [])) → closed ≡ None
