-- Lemmas on the pages of a list of pairs: each fits a slot.
use Rattle.std.proofs.Common.{◌≡◌, ℕ, zero, suc, ◌*◌, ◌<◌, ◌≤◌, List, [], ◌∷◌, map, length, refl, sym, ap, subst, ◌∙◌}
use Rattle.std.proofs.Common.{cond, arith, Bool, true, false, nat_le, ◌==◌, eqb-true, Some, None}
use Rattle.std.specs.List.{AllByRecursion, flat_map, filter, enumerate_from, IsDistinct}
use Rattle.std.specs.List.Sorted.{IsStrictlySortedBy}
use Rattle.std.specs.Ordering.{eq_by_cmp}
use Rattle.std.proofs.lemmas.Bool.{eqb-false}
use Rattle.std.proofs.lemmas.List.{length-append, length-map}
use Rattle.store_model.specs.Lists.{in_order, runs, cut_before, numbers_from, numbers_below}
use Rattle.store_model.specs.Paths.{key_cmp}
use Rattle.store_model.specs.Labels.{Lead, IsLead, label_cmp}
use Rattle.store_model.specs.Labels.Lead.{Start, Leader}
use Rattle.store_model.specs.Draws.{Draw, draw_of}
use Rattle.store_model.specs.Pairs.{Pair, pairs, IsPair, IsPairs}
use Rattle.store_model.specs.Pages.{Cell, Page, page_room, cell_on, level_list, leads_group, groups, lead_of}
use Rattle.store_model.specs.Pages.{group_pages, level_pages, pages_of_pairs, IsCell, IsPage, Fits, pages, page_count}
use Rattle.store_model.specs.Placement.{page_cmp}
use Rattle.store_model.specs.Parameters.{Parameters, IsParameters}
use Rattle.store_model.specs.Trees.{Tree, IsTree}
use Rattle.store_model.proofs.ListsLemmas.{all_none, all_weaker, all_with, all_map, all_flat_map, all_filter}
use Rattle.store_model.proofs.ListsLemmas.{all_numbers_below, rising_to_map, in_order_of_rising}
use Rattle.store_model.proofs.ListsLemmasCuts.{flat_map-cut_before, all_parts, rising_parts, length_of_parts, all_runs}
use Rattle.store_model.proofs.ListsLemmasCuts.{rising_runs, lengths_of_runs, all_enumerate_from}
use Rattle.store_model.proofs.PairsLemmas.{pairs_are_pairs}
use Rattle.store_model.proofs.PagesLemmas.{some_room, cells_of_level_0}
use Rattle.store_model.proofs.PagesLemmasOrder.{IsKeyed, cell_cmp, page_of, run_number_in_range, rising_level_list}
use Rattle.store_model.proofs.PagesLemmasOrder.{few_cells, rising_pages, rising_labels, distinct_labels}

-- what the pages need to know of a list of pairs
pub record IsPairList (s : List Pair) : Type 0 where
  pub pairs : IsPairs s
  pub few : length s ≤ 4294967296

-- the part of it that the order of labels needs
pub keyed : (s : List Pair) → IsPairList s → IsKeyed s
keyed s h = record {
  sorted = h.pairs.sorted;
  lengths = all_weaker _ _ (λ pair g. g.key_length) s h.pairs.pairs;
  few = h.few;
}

-- the cell of a pair on a level is a cell of that level
cell_of_pair : (level : ℕ) (pair : Pair) → IsPair pair → IsCell level (cell_on level pair)
cell_of_pair level pair h = go (level == 0) refl
  where
    go : (b : Bool) → (level == 0) ≡ b
        → IsCell level (cond b (record { key = pair.0; value = Some pair.1 }) (record { key = pair.0; value = None }))
    go true e = record { key_length = h.key_length; key_bytes = h.key_bytes; value = (eqb-true level 0 e, h.value) }
    go false e = record {
      key_length = h.key_length;
      key_bytes = h.key_bytes;
      value = (let apart = eqb-false level 0 e in omega arith);
    }

-- the cells of a level's list are cells of that level
cells_of_level_list : (d : Draw) (s : List Pair) (level : ℕ) → IsPairList s
    → AllByRecursion (IsCell level) (level_list d s level)
unfolding level_list
cells_of_level_list d s level h =
    let stays = λ (pair : Pair). nat_le level (d.level pair.0) in
    all_map IsPair (IsCell level) (cell_on level) (cell_of_pair level) (filter stays s)
    (all_filter IsPair stays s h.pairs.pairs)

-- what leads a group of such cells
lead_of_cells : (d : Draw) (level : ℕ) (cells : List Cell) → AllByRecursion (IsCell level) cells
    → IsLead (lead_of d level cells)
unfolding lead_of
lead_of_cells d level [] h = tt
lead_of_cells d level (cell ∷ cells) h =
    elim (leads_group d level cell) as (λ b. IsLead (cond b (Leader cell.key) Start))
    [ true ↦ ((h.0).key_length, (h.0).key_bytes) | false ↦ tt ]

-- a group of cells that rise
record IsCellGroup (level : ℕ) (cells : List Cell) : Type 0 where
  each : AllByRecursion (IsCell level) cells
  rising : IsStrictlySortedBy cell_cmp cells
  few : length cells ≤ 4294967296

-- each group of a level is one
all_cell_groups : (d : Draw) (s : List Pair) (level : ℕ) → IsPairList s
    → AllByRecursion (IsCellGroup level) (groups d s level)
unfolding groups
all_cell_groups d s level h =
    let cells = level_list d s level in
    let parts = cut_before (leads_group d level) cells in
    let whole = sym (flat_map-cut_before (leads_group d level) cells) in
    let each = all_parts (IsCell level) parts
    (subst (AllByRecursion (IsCell level)) whole (cells_of_level_list d s level h)) in
    let rising = rising_parts cell_cmp parts
    (subst (IsStrictlySortedBy cell_cmp) whole (rising_level_list d s level h.pairs.sorted)) in
    let few = length_of_parts 4294967296 parts
    (subst (λ cs. length cs ≤ 4294967296) whole (few_cells d s level (keyed s h))) in
    all_with (λ g. AllByRecursion (IsCell level) g × IsStrictlySortedBy cell_cmp g) _ _
    (λ g a b. record {
      each = a.0;
      rising = a.1;
      few = b;
    }) parts (all_with _ _ _ (λ g a b. (a, b)) parts each rising) few

-- a run of a group, which becomes a page
record IsRun (level : ℕ) (run : List Cell) : Type 0 where
  some_cell : 1 ≤ length run
  room : length run ≤ page_room level
  each : AllByRecursion (IsCell level) run
  rising : IsStrictlySortedBy cell_cmp run

-- each run of a group is one
all_cell_runs : (level : ℕ) (cells : List Cell) → IsCellGroup level cells
    → AllByRecursion (IsRun level) (runs (page_room level) cells)
all_cell_runs level cells h =
    let parts = runs (page_room level) cells in
    all_with (λ run. AllByRecursion (IsCell level) run × IsStrictlySortedBy cell_cmp run) _ _
    (λ run a b. record { some_cell = b.0; room = b.1; each = a.0; rising = a.1 }) parts
    (all_with _ _ _ (λ run a b. (a, b)) parts (all_runs (IsCell level) (page_room level) cells (some_room level) h.each)
    (rising_runs cell_cmp (page_room level) cells (some_room level) h.rising))
    (lengths_of_runs (page_room level) cells (some_room level))

-- the page of a run can stand in a slot
page_of_run : (level : ℕ) (lead : Lead) (index : ℕ) (run : List Cell) → level < 256 → IsLead lead → index < 4294967296
    → IsRun level run → IsPage (page_of level lead (index, run))
page_of_run level lead index run small l few h = record {
  label = record { level = small; lead = l; index = few };
  some_cell = h.some_cell;
  room = h.room;
  cells = h.each;
  rising = rising_to_map key_cmp (λ c. c.key) run h.rising;
}

-- and so can each page of a group
group_pages_are_pages : (level : ℕ) (lead : Lead) (cells : List Cell) → level < 256 → IsLead lead
    → IsCellGroup level cells → AllByRecursion IsPage (group_pages level lead cells)
unfolding group_pages
group_pages_are_pages level lead cells small l h =
    let parts = runs (page_room level) cells in
    all_map (λ run. (run.0 < 4294967296) × IsRun level run.1) IsPage (page_of level lead)
    (λ run g. page_of_run level lead run.0 run.1 small l g.0 g.1) (enumerate_from 0 parts)
    (all_with _ _ _ (λ run a b. (a, b)) (enumerate_from 0 parts) (run_number_in_range level cells h.few)
    (all_enumerate_from (IsRun level) 0 parts (all_cell_runs level cells h)))

-- and of a level
pub level_pages_are_pages : (d : Draw) (s : List Pair) (level : ℕ) → level < 256 → IsPairList s
    → AllByRecursion IsPage (level_pages d s level)
unfolding level_pages
level_pages_are_pages d s level small h =
    all_flat_map (IsCellGroup level) IsPage (λ cells. group_pages level (lead_of d level cells) cells)
    (λ cells g. group_pages_are_pages level (lead_of d level cells) cells small (lead_of_cells d level cells g.each) g)
    (groups d s level) (all_cell_groups d s level h)

-- each page of a list of pairs can stand in a slot
pub pages_are_pages : (d : Draw) (s : List Pair) → d.height ≤ 256 → IsPairList s
    → AllByRecursion IsPage (pages_of_pairs d s)
unfolding pages_of_pairs
pages_are_pages d s low h =
    all_flat_map (λ level. level < 256) IsPage (level_pages d s) (λ level l. level_pages_are_pages d s level l h)
    (numbers_below d.height) (all_weaker _ _ (λ level l. omega arith) (numbers_below d.height)
    (all_numbers_below 0 d.height))

-- ---- a tree that fits has few pairs

-- no page of a group has more cells than its level allows
room_of_group : (level : ℕ) (lead : Lead) (cells : List Cell)
    → AllByRecursion (λ page. length page.cells ≤ page_room level) (group_pages level lead cells)
unfolding group_pages
room_of_group level lead cells =
    let parts = runs (page_room level) cells in
    all_map (λ run. (1 ≤ length run.1) × (length run.1 ≤ page_room level)) (λ page. length page.cells ≤ page_room level)
    (page_of level lead) (λ run l. l.1) (enumerate_from 0 parts)
    (all_enumerate_from (λ run. (1 ≤ length run) × (length run ≤ page_room level)) 0 parts
    (lengths_of_runs (page_room level) cells (some_room level)))

-- nor has a page of a level
room_of_level : (d : Draw) (s : List Pair) (level : ℕ)
    → AllByRecursion (λ page. length page.cells ≤ page_room level) (level_pages d s level)
unfolding level_pages
room_of_level d s level =
    all_flat_map (λ cells. Unit {0}) (λ page. length page.cells ≤ page_room level)
    (λ cells. group_pages level (lead_of d level cells) cells)
    (λ cells u. room_of_group level (lead_of d level cells) cells) (groups d s level)
    (all_none _ (λ cells. tt) (groups d s level))

-- pages of at most n cells have at most n times as many cells as there are pages
length_of_cells : (n : ℕ) (pages : List Page) → AllByRecursion (λ page. length page.cells ≤ n) pages
    → length (flat_map (λ page. page.cells) pages) ≤ n * length pages
length_of_cells n [] h = omega arith
length_of_cells n (page ∷ pages) h =
    let rest = length_of_cells n pages h.1 in
    let first = h.0 in
    omega (arith, length-append page.cells (flat_map (λ p. p.cells) pages))

-- the pages of level 0 are among all pages
level_0_among_pages : (d : Draw) (s : List Pair) (height : ℕ) → 1 ≤ height
    → length (level_pages d s 0) ≤ length (flat_map (level_pages d s) (numbers_below height))
unfolding numbers_from
level_0_among_pages d s zero h = absurd (omega arith)
level_0_among_pages d s (suc height) h =
    omega (arith, length-append (level_pages d s 0) (flat_map (level_pages d s) (numbers_from 1 height)))

-- each page of level 0 has at most ten pairs
pub pairs_per_page : (d : Draw) (s : List Pair) → 1 ≤ d.height → length s ≤ 10 * length (pages_of_pairs d s)
unfolding pages_of_pairs
pairs_per_page d s h =
    let cells = length_of_cells 10 (level_pages d s 0) (room_of_level d s 0) in
    let all = ap length (cells_of_level_0 d s) ∙ length-map s (cell_on 0) in
    let among = level_0_among_pages d s d.height h in
    omega arith

-- the pairs of a tree that has no more pages than there are slots
pair_list_in_room : (t : Tree) (p : Parameters) → IsParameters p → IsTree t → page_count t p ≤ p.slots
    → IsPairList (pairs t p)
unfolding pages draw_of
pair_list_in_room t p h g room =
    record {
      pairs = pairs_are_pairs t p g;
      few = (let few = pairs_per_page (draw_of p) (pairs t p) h.some_level
          in let slots = h.slots_in_range in omega arith);
    }

-- the pairs of a tree that fits
pub pair_list_of_tree : (t : Tree) (p : Parameters) → IsParameters p → IsTree t → Fits t p → IsPairList (pairs t p)
pair_list_of_tree t p h g fits = pair_list_in_room t p h g fits.room

-- each page of such a tree can stand in a slot
pub tree_pages_are_pages : (t : Tree) (p : Parameters) → IsParameters p → IsTree t → Fits t p
    → AllByRecursion IsPage (pages t p)
unfolding pages draw_of
tree_pages_are_pages t p h g fits = let low = h.height_in_range
    in pages_are_pages (draw_of p) (pairs t p) (omega arith) (pair_list_of_tree t p h g fits)

-- the labels of its pages rise
pub rising_tree_labels : (t : Tree) (p : Parameters) → IsParameters p → IsTree t → Fits t p
    → IsStrictlySortedBy label_cmp (map (λ page. page.label) (pages t p))
unfolding pages
rising_tree_labels t p h g fits = rising_labels (draw_of p) (pairs t p)
    (keyed (pairs t p) (pair_list_of_tree t p h g fits))

-- and no two of them have the same bytes, where the pages are no more than the slots
pub distinct_labels_in_room : (t : Tree) (p : Parameters) → IsParameters p → IsTree t → page_count t p ≤ p.slots
    → IsDistinct (eq_by_cmp label_cmp) (map (λ page. page.label) (pages t p))
unfolding pages
distinct_labels_in_room t p h g room =
    distinct_labels (draw_of p) (pairs t p) (keyed (pairs t p) (pair_list_in_room t p h g room))

-- so where the tree fits
pub distinct_tree_labels : (t : Tree) (p : Parameters) → IsParameters p → IsTree t → Fits t p
    → IsDistinct (eq_by_cmp label_cmp) (map (λ page. page.label) (pages t p))
distinct_tree_labels t p h g fits = distinct_labels_in_room t p h g fits.room

-- the pages of a tree come by rank
pub tree_pages_by_rank : (t : Tree) (p : Parameters) → IsParameters p → IsTree t → Fits t p
    → in_order page_cmp (pages t p) ≡ pages t p
unfolding pages
tree_pages_by_rank t p h g fits = in_order_of_rising page_cmp (pages t p)
    (rising_pages (draw_of p) (pairs t p) (keyed (pairs t p) (pair_list_of_tree t p h g fits)))
