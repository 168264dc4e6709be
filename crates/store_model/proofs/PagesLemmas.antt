-- Lemmas on the cut of a list into pages: it loses no cell.
use Rattle.std.proofs.Common.{◌≡◌, ℕ, ◌≤◌, List, [], ◌∷◌, map, refl, ap, ◌∙◌, cond, arith, true, false, nat_le, le-leb}
use Rattle.std.proofs.Common.{◌==◌}
use Rattle.std.specs.List.{flat_map, filter, enumerate_from}
use Rattle.store_model.specs.Lists.{runs}
use Rattle.store_model.specs.Labels.{Lead}
use Rattle.store_model.specs.Draws.{Draw}
use Rattle.store_model.specs.Pairs.{Pair}
use Rattle.store_model.specs.Pages.{Cell, Page, page_room, cell_on, level_list, leads_group, groups, lead_of}
use Rattle.store_model.specs.Pages.{group_pages, level_pages}
use Rattle.store_model.proofs.ListsLemmasCuts.{flat_map-flat_map, flat_map-map, flat_map_same, flat_map-enumerate_from}
use Rattle.store_model.proofs.ListsLemmasCuts.{flat_map-runs, flat_map-cut_before}

-- a page of any level has room for a cell
pub some_room : (level : ℕ) → 1 ≤ page_room level
some_room level = elim (level == 0) as (λ b. 1 ≤ cond b 10 31) [ true ↦ omega arith | false ↦ omega arith ]

-- the cells of the pages of one group are those of the group
cells_of_group : (level : ℕ) (lead : Lead) (cells : List Cell)
    → flat_map (λ page. page.cells) (group_pages level lead cells) ≡ cells
unfolding group_pages
cells_of_group level lead cells =
    let page_of : ℕ × List Cell → Page = λ run. record {
      label = record { level = level; lead = lead; index = run.0 };
      cells = run.1;
    } in
    flat_map-map (λ page. page.cells) page_of (enumerate_from 0 (runs (page_room level) cells))
    ∙ flat_map-enumerate_from (λ run. run) 0 (runs (page_room level) cells)
    ∙ flat_map-runs (page_room level) cells (some_room level)

-- the cells of the pages of one level are those of its list
pub cells_of_level : (d : Draw) (s : List Pair) (level : ℕ)
    → flat_map (λ page. page.cells) (level_pages d s level) ≡ level_list d s level
unfolding level_pages groups
cells_of_level d s level =
    flat_map-flat_map (λ page. page.cells) (λ cells. group_pages level (lead_of d level cells) cells) (groups d s level)
    ∙ flat_map_same (λ cells. flat_map (λ page. page.cells) (group_pages level (lead_of d level cells) cells))
    (λ cells. cells) (groups d s level) (λ cells. cells_of_group level (lead_of d level cells) cells)
    ∙ flat_map-cut_before (leads_group d level) (level_list d s level)

-- all pairs stand on level 0
filter_level_0 : (d : Draw) (s : List Pair) → filter (λ pair. nat_le 0 (d.level pair.0)) s ≡ s
filter_level_0 d [] = refl
filter_level_0 d (pair ∷ s) =
    ap (λ b. cond b (pair ∷ filter (λ x. nat_le 0 (d.level x.0)) s) (filter (λ x. nat_le 0 (d.level x.0)) s))
    (le-leb 0 (d.level pair.0) (omega arith))
    ∙ ap (λ rest. pair ∷ rest) (filter_level_0 d s)

-- so the cells of level 0 are those of the pairs
pub cells_of_level_0 : (d : Draw) (s : List Pair)
    → flat_map (λ page. page.cells) (level_pages d s 0) ≡ map (cell_on 0) s
unfolding level_list
cells_of_level_0 d s = cells_of_level d s 0 ∙ ap (map (cell_on 0)) (filter_level_0 d s)
