-- The conditions hold of the slots of a tree's layout, and of no other slots.
use Rattle.std.proofs.Common.{◌≡◌, ℕ, ◌*◌, ◌<◌, ◌≤◌, List, map, length, refl, sym, ap, subst, ◌∙◌, arith, cond, true}
use Rattle.std.proofs.Common.{false, ◌==◌}
use Rattle.std.specs.List.{Contains, flat_map}
use Rattle.std.proofs.lemmas.List.{length-map}
use Rattle.std.proofs.lemmas.List.Concat.{length-flat_map}
use Rattle.std.proofs.lemmas.List.Elements.{All-from_recursion}
use Rattle.std.proofs.lemmas.List.Sorted.{Contains-permutation, IsPermutation-sym}
use Rattle.std.proofs.lemmas.List.Sums.{sum_by-le}
use Rattle.std.proofs.lemmas.Option.{same_Some}
use Rattle.store_model.specs.Parameters.{Parameters, IsParameters}
use Rattle.store_model.specs.Trees.{Tree, IsTree}
use Rattle.store_model.specs.Pairs.{pairs}
use Rattle.store_model.specs.Draws.{IsLawful, draw_of}
use Rattle.store_model.specs.Pages.{Cell, Page, cell_on, page_room, IsPage, Fits, pages_of_pairs, pages}
use Rattle.store_model.specs.Placement.{pages_in, IsOrderedTable}
use Rattle.store_model.specs.Images.{slots_of}
use Rattle.store_model.specs.PageMaps.{page_at, map_of_pages, pages_of_map, HoldsPages}
use Rattle.store_model.proofs.ListsLemmas.{all_none, all_weaker, rising_map}
use Rattle.store_model.proofs.PairsLemmas.{pair_cmp, rising_pairs, pairs_are_pairs}
use Rattle.store_model.proofs.PagesLemmasOrder.{cell_cmp, rising_pages}
use Rattle.store_model.proofs.PagesLemmasSizes.{IsPairList, keyed, pair_list_of_tree, tree_pages_are_pages}
use Rattle.store_model.proofs.PagesLemmasSizes.{distinct_tree_labels}
use Rattle.store_model.proofs.PlacementLemmas.{IsPermutation-place, some_slot}
use Rattle.store_model.proofs.PlacementLemmasDraws.{IsLawful-draw_of}
use Rattle.store_model.proofs.PlacementLemmasOrder.{page_cmp_total, held_contained}
use Rattle.store_model.proofs.PlacementLemmasTables.{IsOrderedTable-place, distinct_labels_of_table, held_page}
use Rattle.store_model.proofs.PlacementLemmasTables.{one_ordered_table, room_of_table}
use Rattle.store_model.proofs.PageMapsLemmas.{found_where_listed, HoldsPages-tree, table_of_held_map, one_held_map}
use Rattle.store_model.proofs.PageMapsLemmas.{pages_of_pairs_map}
use Rattle.store_model.proofs.TreesLemmasLayouts.{pages_tell_pairs, pairs_tell_trees}
use Rattle.layout_conditions.specs.Conditions.{StandsIn, MeetConditions}
use Rattle.layout_conditions.specs.Layouts.{table_of_tree, HaveLayout}
use Rattle.layout_conditions.proofs.HeldLemmas.{held_map, flat_map_held, no_longer}
use Rattle.layout_conditions.proofs.GroupLemmas.{AreLayout}
use Rattle.layout_conditions.proofs.SameLemmas.{cell_cmp_total, same_pages}
use Rattle.layout_conditions.proofs.CutLemmas.{low_level, cut_pages_meet}

-- levels fit a byte
low_height : (p : Parameters) → IsParameters p → (draw_of p).height ≤ 256
unfolding draw_of
low_height p is = let height = is.height_in_range in omega arith

-- ---- a layout meets the conditions

module _ (t : Tree) (p : Parameters) (is : IsParameters p) (tree : IsTree t) (fits : Fits t p) where
  law : IsLawful (draw_of p)
  law = IsLawful-draw_of p is

  -- a page stands in the table of the tree just where it is one of the tree's
  of_tree : (page : Page) → StandsIn (table_of_tree t p) page → Contains (pages_of_pairs (draw_of p) (pairs t p)) page
  unfolding pages draw_of
  of_tree page stands =
      let moves = IsPermutation-place (draw_of p) (pages t p) law fits.room in
      Contains-permutation (pages_in (table_of_tree t p)) (pages t p) page
      (IsPermutation-sym (pages t p) (pages_in (table_of_tree t p)) moves)
      (held_contained (table_of_tree t p) stands.0 page stands.1)

  in_table : (page : Page) → Contains (pages_of_pairs (draw_of p) (pairs t p)) page → StandsIn (table_of_tree t p) page
  unfolding pages draw_of
  in_table page held = some_slot (table_of_tree t p) page
      (Contains-permutation (pages t p) (pages_in (table_of_tree t p)) page
      (IsPermutation-place (draw_of p) (pages t p) law fits.room) held)

  ordered : IsOrderedTable (draw_of p) (table_of_tree t p)
  unfolding draw_of
  ordered = IsOrderedTable-place (draw_of p) (pages t p) law fits.room (distinct_tree_labels t p is tree fits)
      (tree_pages_are_pages t p is tree fits)

  tree_pages_meet : AreLayout (draw_of p) (pairs t p) (StandsIn (table_of_tree t p))
  tree_pages_meet = cut_pages_meet (draw_of p) (pairs t p) (StandsIn (table_of_tree t p)) law
      (pair_list_of_tree t p is tree fits) of_tree in_table (low_height p is)

  tree_levels : (page : Page) → StandsIn (table_of_tree t p) page → page.label.level < (draw_of p).height
  tree_levels = low_level (draw_of p) (pairs t p) (StandsIn (table_of_tree t p)) law
      (pair_list_of_tree t p is tree fits) of_tree in_table

-- slots that are the layout of a tree meet the conditions, with that tree
pub layout_meets : (slots : List (List ℕ)) (p : Parameters) (t : Tree) → IsParameters p → HaveLayout slots t p
    → (c : MeetConditions slots p) × (c.tree ≡ t)
layout_meets slots p t is have =
    let are = tree_pages_meet t p is have.tree have.fits in (
      record {
        table = table_of_tree t p;
        slots_are = have.slots_are;
        sound = record {
          ordered = ordered t p is have.tree have.fits;
          levels = tree_levels t p is have.tree have.fits;
        };
        runs = are.runs;
        groups = are.groups;
        met = are.met;
        tree = t;
        pairs_are = record { tree = have.tree; bare = have.fits.bare; cells = are.cells };
      },
      refl,
    )

-- ---- slots that meet the conditions are the tree's layout

module _ (slots : List (List ℕ)) (p : Parameters) (is : IsParameters p) (c : MeetConditions slots p) where
  -- pages of an ordered table with one label are one
  once : (a b : Page) → StandsIn c.table a → StandsIn c.table b → a.label ≡ b.label → a ≡ b
  once a b here there e =
      let distinct = distinct_labels_of_table (draw_of p) c.table (IsLawful-draw_of p is) c.sound.ordered in
      same_Some a b
      (sym (found_where_listed (pages_in c.table) a distinct (held_contained c.table here.0 a here.1))
      ∙ ap (page_at (map_of_pages (pages_in c.table))) e
      ∙ found_where_listed (pages_in c.table) b distinct (held_contained c.table there.0 b there.1))

  table_pages_meet : AreLayout (draw_of p) (pairs c.tree p) (StandsIn c.table)
  table_pages_meet = record {
    pages = λ page stands. held_page c.table stands.0 page c.sound.ordered.pages stands.1;
    once = once;
    runs = c.runs;
    groups = c.groups;
    met = c.met;
    cells = c.pairs_are.cells;
  }

  -- no page has more than 31 cells
  short_page : (page : Page) → IsPage page → length page.cells ≤ 31
  short_page page one =
      let most : page_room page.label.level ≤ 31 =
      elim (page.label.level == 0) as (λ b. cond b 10 31 ≤ 31) [ true ↦ omega arith | false ↦ omega arith ] in
      let room = one.room in
      omega arith

  -- so the pairs are no more than the cells of the table
  few_pairs : length (pairs c.tree p) ≤ length (pages_in c.table) * 31
  few_pairs =
      let s = pairs c.tree p in
      let cells = flat_map (λ (page : Page). page.cells) (pages_in c.table) in
      let rising = rising_map pair_cmp cell_cmp (cell_on 0) (λ pair. Unit {0}) (λ a b u v l. l) s
      (all_none _ (λ pair. tt) s) (rising_pairs c.tree p c.pairs_are.tree) in
      let held : (cell : Cell) → Contains (map (cell_on 0) s) cell → Contains cells cell =
      λ cell there. let pair = held_map (cell_on 0) s cell there in let has = (c.pairs_are.cells pair.0).1 pair.1 in
      flat_map_held (λ (page : Page). page.cells) (pages_in c.table) has.page cell
      (held_contained c.table has.there.0 has.page has.there.1) (subst (Contains has.page.cells) pair.2 has.in_page)
      in
      let fewer = no_longer cell_cmp_total (map (cell_on 0) s) cells rising held in
      let sum = sum_by-le (λ (page : Page). length page.cells) 31 (pages_in c.table)
      (All-from_recursion (λ (page : Page). length page.cells ≤ 31) (pages_in c.table)
      (all_weaker IsPage (λ page. length page.cells ≤ 31) short_page (pages_in c.table) c.sound.ordered.pages)) in
      omega (arith, length-map s (cell_on 0), length-flat_map (λ (page : Page). page.cells) (pages_in c.table))

  pair_list : IsPairList (pairs c.tree p)
  unfolding draw_of
  pair_list = record {
    pairs = pairs_are_pairs c.tree p c.pairs_are.tree;
    few = (let few = few_pairs in let room = room_of_table (draw_of p) c.table c.sound.ordered
        in let most = is.slots_in_range in omega arith);
  }

  -- the pages of the tree meet the conditions, too
  cut_meets : AreLayout (draw_of p) (pairs c.tree p) (Contains (pages_of_pairs (draw_of p) (pairs c.tree p)))
  cut_meets = cut_pages_meet (draw_of p) (pairs c.tree p) (Contains (pages_of_pairs (draw_of p) (pairs c.tree p)))
      (IsLawful-draw_of p is) pair_list (λ page held. held) (λ page held. held) (low_height p is)

  -- so they are those of the table
  tree_page_stands : (page : Page) → Contains (pages c.tree p) page → Contains (pages_in c.table) page
  unfolding pages
  tree_page_stands page held = let stands = same_pages cut_meets table_pages_meet page held
      in held_contained c.table stands.0 page stands.1

  standing_is_of_tree : (page : Page) → Contains (pages_in c.table) page → Contains (pages c.tree p) page
  unfolding pages
  standing_is_of_tree page held = same_pages table_pages_meet cut_meets page (some_slot c.table page held)

  -- and fit
  tree_fits : Fits c.tree p
  unfolding pages draw_of
  tree_fits = record {
    room =
        let fewer = no_longer page_cmp_total (pages c.tree p) (pages_in c.table)
        (rising_pages (draw_of p) (pairs c.tree p) (keyed (pairs c.tree p) pair_list)) tree_page_stands in
        let room = room_of_table (draw_of p) c.table c.sound.ordered in
        omega arith;
    bare = c.pairs_are.bare;
  }

  -- so the table is the tree's
  pub table_is_of_tree : c.table ≡ table_of_tree c.tree p
  unfolding draw_of
  table_is_of_tree =
      let own = ordered c.tree p is c.pairs_are.tree tree_fits in
      let in_place = IsPermutation-place (draw_of p) (pages c.tree p) (IsLawful-draw_of p is) tree_fits.room in
      one_ordered_table (draw_of p) c.table (table_of_tree c.tree p) (IsLawful-draw_of p is) c.sound.ordered own
      (λ page held. Contains-permutation (pages c.tree p) (pages_in (table_of_tree c.tree p)) page in_place
      (standing_is_of_tree page held))
      (λ page held. tree_page_stands page
      (Contains-permutation (pages_in (table_of_tree c.tree p)) (pages c.tree p) page
      (IsPermutation-sym (pages c.tree p) (pages_in (table_of_tree c.tree p)) in_place) held))

  -- slots that meet the conditions are the layout of the tree that they have the pairs of
  pub conditions_tell : HaveLayout slots c.tree p
  conditions_tell = record {
    tree = c.pairs_are.tree;
    fits = tree_fits;
    slots_are = c.slots_are ∙ ap slots_of table_is_of_tree;
  }

-- ---- one tree

-- the map of a tree's pages has them as they come
pages_of_tree_map : (t : Tree) (p : Parameters) → IsParameters p → IsTree t → Fits t p
    → pages_of_map (map_of_pages (pages t p)) ≡ pages_of_pairs (draw_of p) (pairs t p)
unfolding pages
pages_of_tree_map t p is tree fits = let list = pair_list_of_tree t p is tree fits
    in pages_of_pairs_map (draw_of p) (pairs t p) list.pairs list.few

-- slots that are the layouts of two trees are those of one
pub one_layout : (slots : List (List ℕ)) (p : Parameters) (t u : Tree) → IsParameters p → HaveLayout slots t p
    → HaveLayout slots u p → t ≡ u
unfolding draw_of
one_layout slots p t u is h g =
    let d = draw_of p in
    let law = IsLawful-draw_of p is in
    let m = map_of_pages (pages t p) in
    let n = map_of_pages (pages u p) in
    let a = table_of_held_map d slots m law
    (subst (λ (s : List (List ℕ)). HoldsPages d s m) (sym h.slots_are) (HoldsPages-tree t p is h.tree h.fits)) in
    let b = table_of_held_map d slots n law
    (subst (λ (s : List (List ℕ)). HoldsPages d s n) (sym g.slots_are) (HoldsPages-tree u p is g.tree g.fits)) in
    let same = (one_held_map d slots m n a.0 b.0 a.1 b.1).1 in
    pairs_tell_trees t u p h.tree g.tree
    (pages_tell_pairs d (pairs t p) (pairs u p) is.some_level (sym (pages_of_tree_map t p is h.tree h.fits)
    ∙ ap pages_of_map same ∙ pages_of_tree_map u p is g.tree g.fits))
