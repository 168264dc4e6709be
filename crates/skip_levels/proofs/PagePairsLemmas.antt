-- The pages of a list hold its pairs.
use Rattle.std.proofs.Common.{◌≡◌, ℕ, zero, suc, ◌<◌, ◌≤◌, List, [], ◌∷◌, ◌++◌, map, filter, cond, nat_le, Some, None}
use Rattle.std.proofs.Common.{refl, sym, ap, ap₂, subst, ◌∙◌, arith}
use Rattle.std.specs.List.{flat_map, AllByRecursion}
use Rattle.std.specs.FinMap as maps
use Rattle.std.proofs.lemmas.Grind.{flat_map-append}
use Rattle.std.proofs.lemmas.List.{append-nil}
use Rattle.store_model.specs.Lists.{cut_before, numbers_below, numbers_from}
use Rattle.store_model.specs.Draws.{Draw, IsLawful}
use Rattle.store_model.specs.Pairs.{Pair}
use Rattle.store_model.specs.Pages.{Cell, Page, cell_on, level_list, groups, level_pages, pages_of_pairs}
use Rattle.store_model.specs.PageMaps.{PageMap, map_of_pages}
use Rattle.store_model.proofs.ListsLemmas.{all_numbers_from}
use Rattle.store_model.proofs.PageMapsLemmas.{pages_of_rising_map}
use Rattle.store_model.proofs.PagesLemmas.{cells_of_level, cells_of_level_0}
use Rattle.store_model.proofs.PagesLemmasOrder.{rising_pages}
use Rattle.store_model.proofs.PagesLemmasSizes.{IsPairList, keyed}
use Rattle.skip_levels.specs.Descent.{HoldsPairs}
use Rattle.skip_levels.specs.PagePairs.{pairs_with, pairs_of_cells, pairs_of_pages, pairs_of_map}
use Rattle.skip_levels.proofs.PlaceLists.{not_zero}

-- level 0 has the pairs
pairs_of_level_0 : (s : List Pair) → pairs_of_cells (map (cell_on 0) s) ≡ s
pairs_of_level_0 [] = refl
pairs_of_level_0 (pair ∷ s) = ap (λ xs. pair ∷ xs) (pairs_of_level_0 s)

-- and no other level has one
no_pair : (level : ℕ) (pair : Pair) → 0 < level → pairs_with (cell_on level pair).key (cell_on level pair).value ≡ []
no_pair level pair some =
    ap (λ b. pairs_with (cond {A = Cell} b (record { key = pair.0; value = Some pair.1 })
    (record { key = pair.0; value = None })).key
    (cond {A = Cell} b (record { key = pair.0; value = Some pair.1 })
    (record { key = pair.0; value = None })).value) (not_zero level some)

no_pairs : (level : ℕ) (s : List Pair) → 0 < level → pairs_of_cells (map (cell_on level) s) ≡ []
no_pairs level [] some = refl
no_pairs level (pair ∷ s) some = ap₂ (λ xs ys. xs ++ ys) (no_pair level pair some) (no_pairs level s some)

module _ (d : Draw) (s : List Pair) where
  pairs-append : (xs ys : List Page) → pairs_of_pages (xs ++ ys) ≡ pairs_of_pages xs ++ pairs_of_pages ys
  pairs-append xs ys =
      ap pairs_of_cells (flat_map-append (λ (page : Page). page.cells) xs ys)
      ∙ flat_map-append (λ (cell : Cell). pairs_with cell.key cell.value)
      (flat_map (λ (page : Page). page.cells) xs) (flat_map (λ (page : Page). page.cells) ys)

  none_above : (level : ℕ) → 0 < level → pairs_of_pages (level_pages d s level) ≡ []
  unfolding level_list
  none_above level some = ap pairs_of_cells (cells_of_level d s level)
      ∙ no_pairs level (filter (λ pair. nat_le level (d.level pair.0)) s) some

  none_on : (levels : List ℕ) → AllByRecursion (λ level. 1 ≤ level) levels
      → pairs_of_pages (flat_map (level_pages d s) levels) ≡ []
  none_on [] h = refl
  none_on (level ∷ levels) h = pairs-append (level_pages d s level) (flat_map (level_pages d s) levels)
      ∙ ap₂ (λ xs ys. xs ++ ys) (none_above level h.0) (none_on levels h.1)

  on_all : (height : ℕ) → 1 ≤ height → pairs_of_pages (flat_map (level_pages d s) (numbers_below height)) ≡ s
  unfolding numbers_from
  on_all zero some = absurd (omega arith)
  on_all (suc n) some =
      pairs-append (level_pages d s 0) (flat_map (level_pages d s) (numbers_from 1 n))
      ∙ ap₂ (λ xs ys. xs ++ ys) (ap pairs_of_cells (cells_of_level_0 d s) ∙ pairs_of_level_0 s)
      (none_on (numbers_from 1 n) (all_numbers_from 1 n))
      ∙ append-nil s

  -- the pairs of the map of the pages of a list are that list
  pub pairs_of_list : IsLawful d → IsPairList s → pairs_of_map (map_of_pages (pages_of_pairs d s)) ≡ s
  unfolding pairs_of_map pages_of_pairs
  pairs_of_list lawful valid =
      let some = lawful.level_in_range [] in
      ap pairs_of_pages (pages_of_rising_map (pages_of_pairs d s) (rising_pages d s (keyed s valid)))
      ∙ on_all d.height (omega arith)

-- what a map holds is what its pages hold
pub holds_own : (d : Draw) (s : List Pair) (m : PageMap) → HoldsPairs d s m → pairs_of_map m ≡ s
holds_own d s m h = ap pairs_of_map h.map_is
    ∙ pairs_of_list d s h.lawful (record { pairs = h.pairs; few = omega (arith, h.few) })

pub holds_its_pairs : (d : Draw) (s : List Pair) (m : PageMap) → HoldsPairs d s m → HoldsPairs d (pairs_of_map m) m
holds_its_pairs d s m h = subst (λ pairs. HoldsPairs d pairs m) (sym (holds_own d s m h)) h

-- no page holds the list of no pair
pub holds_none : (d : Draw) (m : PageMap) → IsLawful d → d.height ≤ 256 → m ≡ maps.empty → HoldsPairs d [] m
unfolding pages_of_pairs level_pages groups level_list cut_before
holds_none d m lawful narrow is = record {
  lawful = lawful;
  height = narrow;
  pairs = record { sorted = refl; pairs = tt };
  few = omega arith;
  map_is = is ∙ ap map_of_pages (sym (none_of (numbers_below d.height)));
}
  where
    none_of : (levels : List ℕ) → flat_map (level_pages d []) levels ≡ []
    none_of [] = refl
    none_of (level ∷ levels) = none_of levels
