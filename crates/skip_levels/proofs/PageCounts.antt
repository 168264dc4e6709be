-- How many pages a list of pairs has, and how many there are in the middle of a change.
use Rattle.std.proofs.Common.{◌≡◌, ℕ, ◌-◌, ◌*◌, ◌≤◌, List, [], ◌∷◌, filter, length, nat_le, ap, arith, length-append}
use Rattle.std.specs.FinMap as maps
use Rattle.std.specs.List.{flat_map}
use Rattle.std.proofs.lemmas.List.{length-map}
use Rattle.store_model.specs.Lists.{cut_before, numbers_from}
use Rattle.store_model.specs.Draws.{Draw}
use Rattle.store_model.specs.Pairs.{Pair}
use Rattle.store_model.specs.Pages.{Cell, Page, cell_on, level_list, leads_group, lead_of, level_pages}
use Rattle.store_model.specs.PageMaps.{PageMap, map_of_pages}
use Rattle.store_model.proofs.ListsLemmas.{length-numbers_from}
use Rattle.store_model.proofs.ListsLemmasCuts.{flat_map-cut_before, length-filter-le}
use Rattle.store_model.specs.Paths.{key_cmp}
use Rattle.node_pages.proofs.EntryLemmas.{len-with_page}
use Rattle.skip_levels.proofs.Apart.{list_pages, pages_of_group}
use Rattle.skip_groups.proofs.GroupEnds.{few_group_pages}
use Rattle.skip_levels.proofs.LevelChanges.{pages_between, lower_pages, higher_pages}
use Rattle.skip_levels.proofs.PlaceGroups.{level_is_list}

-- a map has no more pages than its list
pub len-map_of_pages : (ps : List Page) → maps.len (map_of_pages ps) ≤ length ps
len-map_of_pages [] = omega (arith, maps.len-empty key_cmp Page)
len-map_of_pages (p ∷ ps) = omega (arith, len-with_page (map_of_pages ps) p, len-map_of_pages ps)

module _ (d : Draw) where
  -- groups have no more pages than cells
  few_of_parts : (level : ℕ) (parts : List (List Cell))
      → length (flat_map (pages_of_group d level) parts) ≤ length (flat_map (λ cells. cells) parts)
  few_of_parts level [] = omega arith
  few_of_parts level (cells ∷ parts) =
      omega (
        arith,
        few_of_parts level parts,
        few_group_pages level (lead_of d level cells) cells,
        length-append (pages_of_group d level cells) (flat_map (pages_of_group d level) parts),
        length-append cells (flat_map (λ xs. xs) parts),
      )

  few_of_list : (level : ℕ) (cells : List Cell) → length (list_pages d level cells) ≤ length cells
  unfolding list_pages
  few_of_list level cells =
      omega (
        arith,
        few_of_parts level (cut_before (leads_group d level) cells),
        ap length
            (flat_map-cut_before (leads_group d level) cells),
      )

  -- nor has a level more pages than the list has pairs
  few_of_level : (s : List Pair) (level : ℕ) → length (level_pages d s level) ≤ length s
  unfolding level_list
  few_of_level s level =
      let stays = λ (pair : Pair). nat_le level (d.level pair.0) in
      omega (
        arith,
        ap length (level_is_list d level s),
        few_of_list level
            (level_list d s level),
        length-map (filter stays s) (cell_on level),
        length-filter-le stays s,
      )

  few_of_levels : (s : List Pair) (levels : List ℕ) → length s ≤ 8388608
      → length (flat_map (level_pages d s) levels) ≤ 8388608 * length levels
  few_of_levels s [] few = omega arith
  few_of_levels s (level ∷ levels) few =
      omega (
        arith,
        few_of_level s level,
        few_of_levels s levels few,
        length-append (level_pages d s level)
            (flat_map (level_pages d s) levels),
      )

-- in the middle of a change, with levels of the old list and of the new one
pub few_between : (m : PageMap) (d : Draw) (s t : List Pair) (level : ℕ) → d.height ≤ 256 → length s ≤ 8388608
    → length t ≤ 8388608 → level ≤ d.height → m ≡ map_of_pages (pages_between d s t level) → maps.len m ≤ 2147483648
few_between m d s t level narrow old_few new_few within is =
    omega (
      arith,
      ap maps.len is,
      len-map_of_pages (pages_between d s t level),
      length-append (lower_pages d s t level) (higher_pages d s t level),
      few_of_levels d s (numbers_from 0 level) old_few,
      few_of_levels d t (numbers_from level (d.height - level)) new_few,
      length-numbers_from 0 level,
      length-numbers_from level (d.height - level),
    )
