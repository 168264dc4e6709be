-- How many pages a level has, group after group.
use Rattle.std.proofs.Common.{◌≡◌, ℕ, ◌+◌, ◌≤◌, List, length, drop, true, false, cond, ap, ◌∙◌, arith, ◌==◌}
use Rattle.std.specs.Int.{div_ceil}
use Rattle.std.specs.List.{filter, enumerate_from}
use Rattle.std.proofs.lemmas.List.{length-append, length-map, length-drop, drop-drop, drop_all}
use Rattle.std.proofs.lemmas.List.FromFn.{length-enumerate_from}
use Rattle.store_model.specs.Lists.{run_count, runs}
use Rattle.store_model.specs.Labels.{Lead}
use Rattle.store_model.specs.Draws.{Draw}
use Rattle.store_model.specs.Pages.{Cell, page_room, group_pages, level_pages, lead_of}
use Rattle.store_model.proofs.ListsLemmas.{length-runs}
use Rattle.store_model.proofs.ListsLemmasCuts.{length-filter-le}
use Rattle.layout_scratch.specs.declared.ranked.Ranked.{Ranked}
use Rattle.layout_scratch.specs.Ranks.{pairs_of, AreRanked, cells_on, IsFirstGroup}
use Rattle.layout_scratch.proofs.LevelCells.{stays, cell_of}
use Rattle.layout_scratch.proofs.LevelPages.{pages_of_group, level_pages-first, level_pages-none, ranked_behind}
use Rattle.layout_scratch.proofs.LevelPages.{ranked_front}

-- how many pages a group has
pub length-group_pages : (level : ℕ) (lead : Lead) (cells : List Cell)
    → length (group_pages level lead cells) ≡ run_count (page_room level) (length cells)
unfolding group_pages
length-group_pages level lead cells =
    length-map (enumerate_from 0 (runs (page_room level) cells)) (λ (run : ℕ × List Cell). record {
      label = record { level = level; lead = lead; index = run.0 };
      cells = run.1;
    })
    ∙ length-enumerate_from 0 (runs (page_room level) cells) ∙ length-runs (page_room level) cells

-- it is the number of cells over the room of a page, rounded up
pub div_ceil-room : (level n : ℕ) → div_ceil n (page_room level) ≡ run_count (page_room level) n
div_ceil-room level n = elim (level == 0) as (λ b. div_ceil n (cond b 10 31) ≡ run_count (cond b 10 31) n)
    [ true ↦ omega arith | false ↦ omega arith ]

-- and no more than there are cells
few_runs : (level n : ℕ) → run_count (page_room level) n ≤ n
few_runs level n = elim (level == 0) as (λ b. run_count (cond b 10 31) n ≤ n)
    [ true ↦ omega arith | false ↦ omega arith ]

-- a pair has one cell at most
few_cells : (level : ℕ) (rs : List Ranked) → length (cells_on level rs) ≤ length rs
few_cells level rs =
    omega (arith, length-map (filter (stays level) rs) (cell_of level), length-filter-le (stays level) rs)

-- the pages of the groups up to a pair are counted
pub record CountsLevel (level : ℕ) (ranked : List Ranked) (count start : ℕ) : Type 0 where
  pub within : start ≤ length ranked
  pub few : count ≤ start
  pub counted : (d : Draw) → AreRanked d ranked
      → count + length (level_pages d (pairs_of (drop start ranked)) level)
      ≡ length (level_pages d (pairs_of ranked) level)

pub count_none : (level : ℕ) (ranked : List Ranked) → CountsLevel level ranked 0 0
count_none level ranked = record { within = omega arith; few = omega arith; counted = λ d levels. omega arith }

pub count_all : (level : ℕ) (ranked : List Ranked) (count start : ℕ) → CountsLevel level ranked count start
    → length ranked ≤ start → (d : Draw) → AreRanked d ranked → count ≡ length (level_pages d (pairs_of ranked) level)
count_all level ranked count start so_far end d levels =
    let none : length (level_pages d (pairs_of (drop start ranked)) level) ≡ 0 =
    ap (λ (rs : List Ranked). length (level_pages d (pairs_of rs) level)) (drop_all start ranked end)
    ∙ ap length (level_pages-none d level) in
    omega (arith, so_far.counted d levels)

-- one group on
pub count_more : (level : ℕ) (ranked group : List Ranked) (count start n : ℕ) → CountsLevel level ranked count start
    → IsFirstGroup level (drop start ranked) group (drop (length group) (drop start ranked))
    → n ≡ run_count (page_room level) (length (cells_on level group))
    → CountsLevel level ranked (count + n) (start + length group)
count_more level ranked group count start n so_far first n_is =
    let rest = drop start ranked in
    let behind = drop (length group) rest in
    let behind_is : behind ≡ drop (start + length group) ranked = drop-drop (length group) start ranked in
    let long = ap length first.whole in
    record {
      within = omega (arith, so_far.within, long, length-append group behind, length-drop start ranked);
      few = omega (arith, so_far.few, few_runs level (length (cells_on level group)), few_cells level group);
      counted = λ d levels.
          let here = ranked_behind d start ranked levels in
          let made =
          ap length (level_pages-first d level rest group behind first
          (ranked_front d rest group behind first.whole here) (ranked_behind d (length group) rest here)) in
          let pages = pages_of_group d level (cells_on level group) in
          let there : length (level_pages d (pairs_of behind) level)
          ≡ length (level_pages d (pairs_of (drop (start + length group) ranked)) level) =
          ap (λ (rs : List Ranked). length (level_pages d (pairs_of rs) level)) behind_is in
          omega (
            arith,
            so_far.counted d levels,
            made,
            there,
            length-append pages
                (level_pages d (pairs_of behind) level),
            length-group_pages level (lead_of d level (cells_on level group))
                (cells_on level group),
          );
    }
