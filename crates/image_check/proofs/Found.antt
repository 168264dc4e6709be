-- What is found in slots by their order, by a walk over their groups, and by the pairs that it comes to.
use Rattle.std.proofs.Common.{◌≡◌, ℕ, ◌*◌, ◌≤◌, List, [], ◌∷◌, map, length, Option, Some, None, unwrap_or, refl, sym}
use Rattle.std.proofs.Common.{ap, subst, ◌∙◌, arith, cond, true, false, ◌==◌}
use Rattle.std.specs.Cmp.Lexicographic.{nat_list_cmp_total}
use Rattle.std.specs.declared.cmp.Ordering.TheVariants.{Less}
use Rattle.std.proofs.lemmas.Cmp.{on_total}
use Rattle.std.specs.List.{AllByRecursion, Contains, flat_map}
use Rattle.std.specs.List.Sorted.{IsStrictlySortedBy}
use Rattle.std.proofs.lemmas.List.{length-map}
use Rattle.std.proofs.lemmas.List.Concat.{length-flat_map}
use Rattle.std.proofs.lemmas.List.Elements.{All-from_recursion, All-contains}
use Rattle.std.proofs.lemmas.List.Sorted.{length_permutation}
use Rattle.std.proofs.lemmas.List.Sums.{sum_by-le}
use Rattle.store_model.specs.Parameters.{Parameters, IsParameters}
use Rattle.store_model.specs.Paths.{key_cmp}
use Rattle.store_model.specs.Trees.{Tree, IsTree}
use Rattle.store_model.specs.Pairs.{Pair, has_attributes, pairs}
use Rattle.store_model.specs.Draws.{draw_of}
use Rattle.store_model.specs.Pages.{Cell, Page, IsCell, IsCellValue, IsPage, IsBare, cell_on, page_room, pages}
use Rattle.store_model.specs.Pages.{page_count}
use Rattle.store_model.specs.Placement.{Table, pages_in}
use Rattle.store_model.specs.Images.{slots_of}
use Rattle.store_model.proofs.ListsLemmas.{all_weaker}
use Rattle.store_model.proofs.ListsLemmasOrder.{same_rising}
use Rattle.store_model.proofs.PairsLemmas.{pair_cmp, rising_pairs}
use Rattle.store_model.proofs.PagesLemmasOrder.{cell_cmp}
use Rattle.store_model.specs.PageMaps.{map_of_pages}
use Rattle.store_model.proofs.PageMapsLemmas.{one_held_map}
use Rattle.store_model.proofs.PlacementLemmas.{IsPermutation-place, some_slot}
use Rattle.store_model.proofs.PlacementLemmasDraws.{IsLawful-draw_of}
use Rattle.store_model.proofs.PlacementLemmasOrder.{held_contained}
use Rattle.store_model.proofs.PlacementLemmasTables.{held_page, room_of_table}
use Rattle.layout_conditions.specs.Pages.{HasCell}
use Rattle.layout_conditions.specs.Conditions.{StandsIn, IsSound, MeetConditions}
use Rattle.layout_conditions.specs.Layouts.{table_of_tree}
use Rattle.layout_conditions.proofs.HeldLemmas.{all_held, map_held, held_map, flat_map_held, no_longer}
use Rattle.layout_conditions.proofs.SameLemmas.{cell_cmp_total}
use Rattle.layout_conditions.proofs.LawLemmas.{table_is_of_tree, conditions_tell}
use Rattle.table_walk.specs.OrderCalls.{IsBelow, IsOrderedBelow}
use Rattle.table_walk.specs.Walked.{MeetWalk}
use Rattle.table_walk.specs.Walks.{pair_of, HoldsList}

-- ---- order

-- a table in order below the height is sound
pub sound_of : (p : Parameters) (slots : List (List ℕ)) (table : Table)
    → IsOrderedBelow (draw_of p) (draw_of p).height slots table → IsSound (draw_of p) table
sound_of p slots table is = record {
  ordered = is.ordered;
  levels = λ page stands. All-contains (IsBelow (draw_of p).height) (pages_in table) page
      (All-from_recursion (IsBelow (draw_of p).height) (pages_in table) is.below)
      (held_contained table stands.0 page stands.1);
}

-- and the other way round
pub order_of : (p : Parameters) (slots : List (List ℕ)) (table : Table) → slots ≡ slots_of table
    → IsSound (draw_of p) table → IsOrderedBelow (draw_of p) (draw_of p).height slots table
order_of p slots table are sound = record {
  ordered = sound.ordered;
  slots_are = are;
  below = all_held (IsBelow (draw_of p).height) (pages_in table)
      (λ page held. sound.levels page (some_stands page held));
}
  where
    some_stands : (page : Page) → Contains (pages_in table) page → StandsIn table page
    some_stands page held = some_slot table page held

-- ---- the pairs of cells

pairs_above : (x : Cell) (cells : List Cell)
    → AllByRecursion (λ key. key_cmp x.key key ≡ Less) (map (λ (cell : Cell). cell.key) cells)
    → AllByRecursion (λ pair. pair_cmp (pair_of x) pair ≡ Less) (map pair_of cells)
pairs_above x [] up = tt
pairs_above x (y ∷ cells) up = (up.0, pairs_above x cells up.1)

-- they rise as the keys of the cells do
pairs_rise : (cells : List Cell) → IsStrictlySortedBy key_cmp (map (λ (cell : Cell). cell.key) cells)
    → IsStrictlySortedBy pair_cmp (map pair_of cells)
unfolding IsStrictlySortedBy
pairs_rise [] up = tt
pairs_rise (x ∷ cells) up = (pairs_above x cells up.0, pairs_rise cells up.1)

cells_above : (x : Cell) (cells : List Cell)
    → AllByRecursion (λ key. key_cmp x.key key ≡ Less) (map (λ (cell : Cell). cell.key) cells)
    → AllByRecursion (λ cell. cell_cmp x cell ≡ Less) cells
cells_above x [] up = tt
cells_above x (y ∷ cells) up = (up.0, cells_above x cells up.1)

-- and so do the cells
cells_rise : (cells : List Cell) → IsStrictlySortedBy key_cmp (map (λ (cell : Cell). cell.key) cells)
    → IsStrictlySortedBy cell_cmp cells
unfolding IsStrictlySortedBy
cells_rise [] up = tt
cells_rise (x ∷ cells) up = (cells_above x cells up.0, cells_rise cells up.1)

-- no page has more than 31 cells
short_page : (page : Page) → IsPage page → length page.cells ≤ 31
short_page page one =
    let most : page_room page.label.level ≤ 31 =
    elim (page.label.level == 0) as (λ b. cond b 10 31 ≤ 31) [ true ↦ omega arith | false ↦ omega arith ] in
    let room = one.room in
    omega arith

-- ---- slots with a table in order

module _ (p : Parameters) (valid : IsParameters p) (slots : List (List ℕ)) (table : Table)
    (is : IsOrderedBelow (draw_of p) (draw_of p).height slots table) where
  -- it is the table by which they meet the conditions
  one_table : (meets : MeetConditions slots p) → meets.table ≡ table
  one_table meets =
      (one_held_map (draw_of p) slots (map_of_pages (pages_in meets.table))
      (map_of_pages (pages_in table)) meets.table table
      (record { ordered = meets.sound.ordered; slots_are = meets.slots_are; pages_are = refl })
      (record { ordered = is.ordered; slots_are = is.slots_are; pages_are = refl })).0

  -- so what a walk tests holds
  pub met_walks : MeetConditions slots p → MeetWalk (draw_of p) (StandsIn table)
  met_walks meets = subst (λ (u : Table). MeetWalk (draw_of p) (StandsIn u)) (one_table meets)
      (record { runs = meets.runs; groups = meets.groups; met = meets.met })

  module _ (Took TookNow : List Pair → Type 0) (holds : HoldsList (draw_of p) table Took TookNow) where
    -- the pairs that were taken
    abbrev pub taken : List Pair
    taken = map pair_of holds.cells

    -- a cell of level 0 is that of its pair
    of_pair : (cell : Cell) → HasCell (StandsIn table) 0 cell → cell_on 0 (pair_of cell) ≡ cell
    of_pair cell has =
        let page = held_page table has.there.0 has.page is.ordered.pages has.there.1 in
        let one = All-contains (IsCell has.page.label.level) has.page.cells cell
        (All-from_recursion (IsCell has.page.label.level) has.page.cells page.cells) has.in_page in
        by_value cell.value refl (subst (λ level. IsCell level cell) has.on_level one)
      where
        by_value : (value : Option (List ℕ)) → cell.value ≡ value → IsCell 0 cell → cell_on 0 (pair_of cell) ≡ cell
        by_value (Some v) e valid = λ i. record {
          key = cell.key;
          value = sym (e ∙ sym (ap (λ o. Some (unwrap_or o [])) e)) i;
        }
        by_value None e valid = absurd (let low = subst (IsCellValue 0) e valid.value in omega arith)

    -- each pair that was taken is that of a cell
    pub taken_cell : (pair : Pair) → Contains taken pair → HasCell (StandsIn table) 0 (cell_on 0 pair)
    taken_cell pair held =
        let cell = held_map pair_of holds.cells pair held in
        let has = (holds.cells_are cell.0).0 cell.1 in
        subst (HasCell (StandsIn table) 0) (sym (of_pair cell.0 has) ∙ ap (cell_on 0) cell.2) has

    -- and each cell of level 0 has its pair taken
    pub cell_taken : (pair : Pair) → HasCell (StandsIn table) 0 (cell_on 0 pair) → Contains taken pair
    cell_taken pair has =
        map_held pair_of holds.cells (cell_on 0 pair) ((holds.cells_are (cell_on 0 pair)).1 has)

    -- they rise
    rising_taken : IsStrictlySortedBy pair_cmp taken
    rising_taken = pairs_rise holds.cells holds.rising

    -- where they are a tree's, the slots meet the conditions
    abbrev pub meets : (t : Tree) → IsTree t → (has_attributes p.version ≡ false → IsBare t) → taken ≡ pairs t p
        → MeetConditions slots p
    meets t tree bare are = record {
      table = table;
      slots_are = is.slots_are;
      sound = sound_of p slots table is;
      runs = holds.meets.runs;
      groups = holds.meets.groups;
      met = holds.meets.met;
      tree = t;
      pairs_are = record {
        tree = tree;
        bare = bare;
        cells = λ pair. (
          λ has. subst (λ s. Contains s pair) are (cell_taken pair has),
          λ held.
              taken_cell pair (subst (λ s. Contains s pair) (sym are) held),
        );
      };
    }

    -- and the table has the pages of the tree
    pub found_count : (t : Tree) → IsTree t → (has_attributes p.version ≡ false → IsBare t) → taken ≡ pairs t p
        → length (pages_in table) ≡ page_count t p
    unfolding draw_of
    found_count t tree bare are =
        let one = meets t tree bare are in
        ap (λ u. length (pages_in u)) (table_is_of_tree slots p valid one)
        ∙ length_permutation (pages t p) (pages_in (table_of_tree t p))
        (IsPermutation-place (draw_of p) (pages t p) (IsLawful-draw_of p valid)
        (conditions_tell slots p valid one).fits.room)

    -- where the slots meet the conditions, they are the pairs of their tree
    pub met_taken : (there : MeetConditions slots p) → taken ≡ pairs there.tree p
    met_taken there =
        let same = one_table there in
        same_rising (on_total (λ (pair : Pair). pair.0) nat_list_cmp_total) taken (pairs there.tree p) rising_taken
        (rising_pairs there.tree p there.pairs_are.tree)
        (λ pair held. (there.pairs_are.cells pair).0
        (subst (λ u. HasCell (StandsIn u) 0 (cell_on 0 pair)) (sym same) (taken_cell pair held)))
        (λ pair held. cell_taken pair
        (subst (λ u. HasCell (StandsIn u) 0 (cell_on 0 pair)) same ((there.pairs_are.cells pair).1 held)))

    -- they are few
    pub few_taken : length taken ≤ 31 * p.slots
    unfolding draw_of
    few_taken =
        let all = flat_map (λ (page : Page). page.cells) (pages_in table) in
        let held : (cell : Cell) → Contains holds.cells cell → Contains all cell =
        λ cell there. let has = (holds.cells_are cell).0 there
        in flat_map_held (λ (page : Page). page.cells) (pages_in table) has.page cell
        (held_contained table has.there.0 has.page has.there.1) has.in_page in
        let fewer = no_longer cell_cmp_total holds.cells all (cells_rise holds.cells holds.rising) held in
        let sum = sum_by-le (λ (page : Page). length page.cells) 31 (pages_in table)
        (All-from_recursion (λ (page : Page). length page.cells ≤ 31) (pages_in table)
        (all_weaker IsPage (λ page. length page.cells ≤ 31) short_page (pages_in table) is.ordered.pages)) in
        let room = room_of_table (draw_of p) table is.ordered in
        omega (arith, length-map holds.cells pair_of, length-flat_map (λ (page : Page). page.cells) (pages_in table))
