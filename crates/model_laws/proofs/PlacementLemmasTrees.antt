-- The table of a tree.
use Rattle.std.proofs.Common.{◌≡◌, ◌≤◌, ℕ, length, arith}
use Rattle.std.specs.List.{Contains}
use Rattle.std.specs.List.Sorted.{IsPermutation}
use Rattle.std.proofs.lemmas.List.Sorted.{length_permutation}
use Rattle.store_model.specs.Parameters.{Parameters, IsParameters}
use Rattle.store_model.specs.Trees.{Tree, IsTree}
use Rattle.store_model.specs.Draws.{draw_of}
use Rattle.store_model.specs.Pages.{Page, Fits, pages, page_count}
use Rattle.store_model.specs.Placement.{Table, place, pages_in, HoldsPage, IsInOrder, IsOrderedTable}
use Rattle.store_model.proofs.PagesLemmasSizes.{distinct_labels_in_room, distinct_tree_labels, tree_pages_are_pages}
use Rattle.store_model.proofs.PlacementLemmas.{exactly_one_slot}
use Rattle.store_model.proofs.PlacementLemmasDraws.{IsLawful-draw_of}
use Rattle.store_model.proofs.PlacementLemmasTables.{IsOrderedTable-place}
use Rattle.store_model.proofs.PlacementLemmasOrder.{place_is_the_only_order, length-pages_in-le}

-- the table of a tree is an ordered table
pub IsOrderedTable-tree : (t : Tree) (p : Parameters) → IsParameters p → IsTree t → Fits t p
    → IsOrderedTable (draw_of p) (place (draw_of p) (pages t p))
unfolding draw_of
IsOrderedTable-tree t p is tree fits =
    IsOrderedTable-place (draw_of p) (pages t p)
    (IsLawful-draw_of p is) fits.room (distinct_tree_labels t p is tree fits) (tree_pages_are_pages t p is tree fits)

-- each page of a tree stands in exactly one slot
pub one_slot_in_tree : (t : Tree) (p : Parameters) → IsParameters p → IsTree t → Fits t p → (page : Page)
    → Contains (pages t p) page
    → (slot : ℕ) × HoldsPage (place (draw_of p) (pages t p)) slot page
    × ((other : ℕ) → HoldsPage (place (draw_of p) (pages t p)) other page → other ≡ slot)
unfolding draw_of
one_slot_in_tree t p is tree fits =
    exactly_one_slot (draw_of p) (pages t p) (IsLawful-draw_of p is) fits.room (distinct_tree_labels t p is tree fits)

-- a table in order of a tree's pages is the tree's table
pub only_order_of_tree : (t : Tree) (p : Parameters) (table : Table) → IsParameters p → IsTree t
    → length table ≡ p.slots → IsPermutation (pages t p) (pages_in table) → IsInOrder (draw_of p) table
    → table ≡ place (draw_of p) (pages t p)
unfolding draw_of
only_order_of_tree t p table is tree size moves order =
    let room : page_count t p ≤ p.slots =
    omega (arith, length_permutation (pages t p) (pages_in table) moves, length-pages_in-le table) in
    place_is_the_only_order (draw_of p) table (pages t p) (IsLawful-draw_of p is) size
    (distinct_labels_in_room t p is tree room) moves order
