-- Lemmas on layouts: they tell trees and parameters apart.
use Rattle.std.proofs.Common.{◌≡◌, ℕ, zero, suc, ◌+◌, ◌≤◌, List, [], ◌∷◌, ◌++◌, map, length, take, Some, Bool, true}
use Rattle.std.proofs.Common.{false, cond, ◌==◌, IsTrue, refl, sym, ap, ap₂, subst, ◌∙◌, arith, ne_eqb}
use Rattle.std.specs.Ordering.{ordering_then}
use Rattle.std.specs.Cmp.{tied_itself}
use Rattle.std.specs.Cmp.Lexicographic.{nat_list_cmp_total}
use Rattle.std.specs.List.{AllByRecursion, filter, flat_map, enumerate_from}
use Rattle.std.specs.List.Sorted.{IsStrictlySortedBy, IsPermutation}
use Rattle.std.proofs.lemmas.List.{append-nil, append_assoc, append_cancel_left, length-map}
use Rattle.std.proofs.lemmas.List.Elements.{filter-append}
use Rattle.std.proofs.lemmas.List.FromFn.{length-enumerate_from}
use Rattle.std.proofs.lemmas.List.Sorted.{IsPermutation-sym, IsPermutation-trans, Contains-permutation}
use Rattle.store_model.specs.Lists.{zeros, run_count, runs, numbers_from, numbers_below}
use Rattle.store_model.specs.Parameters.{Parameters, IsParameters}
use Rattle.store_model.specs.Paths.{Path, Name, is_path, is_place, path_cmp, key, key_cmp, attribute_place}
use Rattle.store_model.specs.Paths.{attribute_key}
use Rattle.store_model.specs.Trees.{Tree, Node, Entry, Attributes, file_limit, IsNode, IsAttribute, IsEntry, IsTree}
use Rattle.store_model.specs.Trees.Node.{Directory, File}
use Rattle.store_model.specs.Pairs.{Pair, file_block, file_value, is_inline, file_pairs, node_pairs, attribute_value}
use Rattle.store_model.specs.Pairs.{attribute_pairs, entry_pairs, pairs}
use Rattle.store_model.specs.Draws.{Draw, IsLawful, draw_of}
use Rattle.store_model.specs.Pages.{Cell, Page, cell_on, lead_of, groups, group_pages, level_pages, pages_of_pairs}
use Rattle.store_model.specs.Pages.{page_room, Fits, pages}
use Rattle.store_model.specs.Placement.{place, pages_in, page_cmp}
use Rattle.store_model.specs.Images.{header, table_bytes, journal_len, layout, recovered, Represents}
use Rattle.store_model.proofs.ListsLemmas.{all_none, all_weaker, all_map, all_flat_map, all_numbers_from, then-Equal}
use Rattle.store_model.proofs.ListsLemmas.{nat_cmp-eq, length-runs}
use Rattle.store_model.proofs.ListsLemmasOrder.{same_rising}
use Rattle.store_model.proofs.ListsLemmasCuts.{flat_map-runs}
use Rattle.store_model.proofs.PathsLemmas.{place_of_path, place_of_attribute, order_of_keys}
use Rattle.store_model.proofs.PathsLemmasPlaces.{same_attribute_place}
use Rattle.store_model.proofs.PagesLemmas.{cells_of_level_0}
use Rattle.store_model.proofs.PagesLemmasOrder.{page_of, rising_pages}
use Rattle.store_model.proofs.PagesLemmasSizes.{keyed, pair_list_of_tree, tree_pages_are_pages}
use Rattle.store_model.proofs.PlacementLemmas.{length-place, IsPermutation-place}
use Rattle.store_model.proofs.PlacementLemmasOrder.{page_cmp_total}
use Rattle.store_model.proofs.PlacementLemmasDraws.{IsLawful-draw_of}
use Rattle.store_model.proofs.ImagesLemmas.{header-layout, slots-place}
use Rattle.store_model.proofs.TreesLemmasPaths.{same_from_tie}
use Rattle.store_model.proofs.TreesLemmasBytes.{fronts_same, heads_same, tails_same, four_bytes_same, headers_same}
use Rattle.store_model.proofs.TreesLemmasBytes.{viewed_headers_same, tables_same}

-- lists of pages that rise and have one table are the same
pub same_placement : (d : Draw) (ps qs : List Page) → IsLawful d → length ps ≤ d.slots → length qs ≤ d.slots
    → IsStrictlySortedBy page_cmp ps → IsStrictlySortedBy page_cmp qs → place d ps ≡ place d qs → ps ≡ qs
same_placement d ps qs law la lb h g e =
    let a = IsPermutation-place d ps law la in
    let b = subst (λ table. IsPermutation qs (pages_in table)) (sym e) (IsPermutation-place d qs law lb) in
    let moves = IsPermutation-trans ps (pages_in (place d ps)) qs a (IsPermutation-sym qs (pages_in (place d ps)) b) in
    same_rising page_cmp_total ps qs h g (λ z held. Contains-permutation ps qs z moves held)
    (λ z held. Contains-permutation qs ps z (IsPermutation-sym ps qs moves) held)

-- ---- the pages of a list of pairs tell it

-- the pages of a level are of that level
pub pages_on_level : (d : Draw) (s : List Pair) (level : ℕ)
    → AllByRecursion (λ page. page.label.level ≡ level) (level_pages d s level)
unfolding level_pages group_pages
pages_on_level d s level =
    all_flat_map (λ cells. Unit {0}) (λ page. page.label.level ≡ level)
    (λ cells. group_pages level (lead_of d level cells) cells)
    (λ cells u. all_map (λ run. Unit {0}) (λ page. page.label.level ≡ level) (page_of level (lead_of d level cells))
    (λ run v. refl) (enumerate_from 0 (runs (page_room level) cells))
    (all_none _ (λ run. tt) (enumerate_from 0 (runs (page_room level) cells))))
    (groups d s level) (all_none _ (λ cells. tt) (groups d s level))

-- a filter that keeps each element
filter_each : {X : Type 0} (test : X → Bool) (xs : List X)
    → AllByRecursion (λ x. test x ≡ true) xs → filter test xs ≡ xs
filter_each test [] h = refl
filter_each test (x ∷ xs) h = ap₂ (λ b rest. cond b (x ∷ rest) rest) h.0 (filter_each test xs h.1)

-- a filter that keeps none
filter_none : {X : Type 0} (test : X → Bool) (xs : List X)
    → AllByRecursion (λ x. test x ≡ false) xs → filter test xs ≡ []
filter_none test [] h = refl
filter_none test (x ∷ xs) h = ap₂ (λ b rest. cond b (x ∷ rest) rest) h.0 (filter_none test xs h.1)

-- whether a page is of level 0
abbrev is_on_level_0 : Page → Bool
is_on_level_0 page = page.label.level == 0

-- the pages of level 0 are those at the front
pages_of_level_0 : (d : Draw) (s : List Pair) → 1 ≤ d.height
    → filter is_on_level_0 (pages_of_pairs d s) ≡ level_pages d s 0
unfolding pages_of_pairs numbers_from
pages_of_level_0 d s h = by_height d.height h
  where
    by_height : (n : ℕ) → 1 ≤ n → filter is_on_level_0 (flat_map (level_pages d s) (numbers_below n))
        ≡ level_pages d s 0
    by_height zero l = absurd (omega arith)
    by_height (suc n) l =
        filter-append is_on_level_0 (level_pages d s 0) (flat_map (level_pages d s) (numbers_from 1 n))
        ∙ ap₂ (λ a b. a ++ b)
        (filter_each is_on_level_0 (level_pages d s 0)
        (all_weaker _ _ (λ page e. ap (λ k. k == 0) e) (level_pages d s 0) (pages_on_level d s 0)))
        (filter_none is_on_level_0 (flat_map (level_pages d s) (numbers_from 1 n))
        (all_flat_map (λ level. 1 ≤ level) (λ page. is_on_level_0 page ≡ false) (level_pages d s)
        (λ level g. all_weaker _ _ (λ page e. ne_eqb page.label.level 0 (λ zero_is. omega arith))
        (level_pages d s level) (pages_on_level d s level))
        (numbers_from 1 n) (all_numbers_from 1 n)))
        ∙ append-nil (level_pages d s 0)

-- the cells of pairs tell them
cells_tell_pairs : (r s : List Pair) → map (cell_on 0) r ≡ map (cell_on 0) s → r ≡ s
cells_tell_pairs [] [] e = refl
cells_tell_pairs [] (pair ∷ s) e = cc
cells_tell_pairs (pair ∷ r) [] e = cc
cells_tell_pairs (a ∷ r) (b ∷ s) e =
    let cell : cell_on 0 a ≡ cell_on 0 b = heads_same e in
    let key : a.0 ≡ b.0 = ap (λ (c : Cell). c.key) cell in
    let some : Some a.1 ≡ Some b.1 = ap (λ (c : Cell). c.value) cell in
    let value : a.1 ≡ b.1 = cc in
    let rest = cells_tell_pairs r s (tails_same e) in
    λ i. (key i, value i) ∷ rest i

-- the pages of a list of pairs tell it
pub pages_tell_pairs : (d : Draw) (r s : List Pair) → 1 ≤ d.height → pages_of_pairs d r ≡ pages_of_pairs d s → r ≡ s
pages_tell_pairs d r s h e =
    cells_tell_pairs r s
    (sym (cells_of_level_0 d r) ∙ ap (flat_map (λ page. page.cells))
    (sym (pages_of_level_0 d r h) ∙ ap (filter is_on_level_0) e ∙ pages_of_level_0 d s h) ∙ cells_of_level_0 d s)

-- ---- the pairs of a tree tell it

-- the key of a place tells it
pub keys_tell_places : (x y : Path) → IsTrue (is_place x) → IsTrue (is_place y) → key x 0 ≡ key y 0 → x ≡ y
keys_tell_places x y hx hy e =
    same_from_tie x y
    (sym (then-Equal (path_cmp x y)) ∙ ap (ordering_then (path_cmp x y)) (sym (nat_cmp-eq 0))
    ∙ sym (order_of_keys x y 0 0 hx hy (omega arith) (omega arith))
    ∙ ap (key_cmp (key x 0)) (sym e) ∙ tied_itself nat_list_cmp_total (key x 0))

-- so that of a path tells it
pub keys_tell_paths : (x y : Path) → IsTrue (is_path x) → IsTrue (is_path y) → key x 0 ≡ key y 0 → x ≡ y
keys_tell_paths x y hx hy e = keys_tell_places x y (place_of_path x hx) (place_of_path y hy) e

-- and that of an attribute of a path tells its name
pub keys_tell_attributes : (x : Path) (a b : Name × List ℕ) → IsTrue (is_path x) → IsAttribute x a → IsAttribute x b
    → attribute_key x a.0 ≡ attribute_key x b.0 → a.0 ≡ b.0
keys_tell_attributes x a b h ha hb e =
    let place = keys_tell_places (attribute_place x a.0) (attribute_place x b.0)
    (place_of_attribute x a.0 h ha.name ha.fits) (place_of_attribute x b.0 h hb.name hb.fits) e in
    (same_attribute_place x x a.0 b.0 place).1

-- the pairs of a file's blocks
abbrev blocks_of : Path → List ℕ → List Pair
blocks_of x bytes = map (λ b. (key x b.0, b.1)) (enumerate_from 1 (runs file_block bytes))

-- the values of numbered blocks are the blocks
values_of_blocks : (x : Path) (n : ℕ) (blocks : List (List ℕ))
    → map (λ (pair : Pair). pair.1) (map (λ b. (key x b.0, b.1)) (enumerate_from n blocks)) ≡ blocks
values_of_blocks x n [] = refl
values_of_blocks x n (block ∷ blocks) = ap (λ rest. block ∷ rest) (values_of_blocks x (n + 1) blocks)

-- how many blocks there are
length-blocks_of : (x : Path) (bytes : List ℕ) → length (blocks_of x bytes) ≡ length (runs file_block bytes)
length-blocks_of x bytes = length-map (enumerate_from 1 (runs file_block bytes)) _
    ∙ length-enumerate_from 1 (runs file_block bytes)

-- files whose first values and blocks are the same, in front of other pairs
files_same : (x y : Path) (a b : List ℕ) (u v : List Pair) → length a ≤ file_limit → length b ≤ file_limit
    → file_value (length a) ≡ file_value (length b) → blocks_of x a ++ u ≡ blocks_of y b ++ v → (a ≡ b) × (u ≡ v)
files_same x y a b u v la lb first e =
    let size : length a ≡ length b = four_bytes_same (length a) (length b) (omega arith)
    (omega arith) (tails_same first) in
    let count : length (blocks_of x a) ≡ length (blocks_of y b) =
    length-blocks_of x a ∙ length-runs file_block a ∙ ap (λ n. run_count file_block n) size
    ∙ sym (length-runs file_block b) ∙ sym (length-blocks_of y b) in
    let whole = fronts_same (blocks_of x a) (blocks_of y b) u v count e in
    let blocks : runs file_block a ≡ runs file_block b =
    sym (values_of_blocks x 1 (runs file_block a)) ∙ ap (map (λ (pair : Pair). pair.1)) whole.0
    ∙ values_of_blocks y 1 (runs file_block b) in (
      sym (flat_map-runs file_block a (omega arith)) ∙ ap (flat_map (λ run. run)) blocks
          ∙ flat_map-runs file_block b (omega arith),
      whole.1,
    )

-- a key and a value in a pair
pub pair_parts : {p q : Pair} → p ≡ q → (p.0 ≡ q.0) × (p.1 ≡ q.1)
pair_parts e = (ap (λ (p : Pair). p.0) e, ap (λ (p : Pair). p.1) e)

-- the pairs of files tell them, in front of other pairs: those that stand in their first pair, and those that have
-- blocks
file_pairs_same : (c d : Bool) (x y : Path) (a b : List ℕ) (u v : List Pair) → IsTrue (is_path x) → IsTrue (is_path y)
    → length a ≤ file_limit → length b ≤ file_limit → file_pairs c x a ++ u ≡ file_pairs d y b ++ v
    → (x ≡ y) × (a ≡ b) × (u ≡ v)
file_pairs_same true true x y a b u v hx hy la lb e = let first = pair_parts (heads_same e)
    in (keys_tell_paths x y hx hy first.0, tails_same first.1, tails_same e)
file_pairs_same true false x y a b u v hx hy la lb e = let first : ◌≡◌ {A = ℕ} 3 2 =
    heads_same (pair_parts (heads_same e)).1 in absurd (omega arith)
file_pairs_same false true x y a b u v hx hy la lb e = let first : ◌≡◌ {A = ℕ} 2 3 =
    heads_same (pair_parts (heads_same e)).1 in absurd (omega arith)
file_pairs_same false false x y a b u v hx hy la lb e =
    let first = pair_parts (heads_same e) in
    let rest = files_same x y a b u v la lb first.1 (tails_same e) in
    (keys_tell_paths x y hx hy first.0, rest.0, rest.1)

-- they are not those of a directory
not_of_a_file : (c : Bool) (x y : Path) (b : List ℕ) (p : Parameters) (u v : List Pair)
    → node_pairs x Directory p ++ u ≡ file_pairs c y b ++ v → ⊥
unfolding node_pairs
not_of_a_file true x y b p u v e = let first : ◌≡◌ {A = ℕ} 1 3 = heads_same (pair_parts (heads_same e)).1 in omega arith
not_of_a_file false x y b p u v e = let first : ◌≡◌ {A = ℕ} 1 2 =
    heads_same (pair_parts (heads_same e)).1 in omega arith

-- the pairs of what stands at a path tell it, in front of other pairs
pub nodes_same : (x y : Path) (a b : Node) (p : Parameters) (u v : List Pair) → IsTrue (is_path x) → IsTrue (is_path y)
    → IsNode a → IsNode b → node_pairs x a p ++ u ≡ node_pairs y b p ++ v → (x ≡ y) × (a ≡ b) × (u ≡ v)
unfolding node_pairs
nodes_same x y Directory Directory p u v hx hy ha hb e =
    (keys_tell_paths x y hx hy (pair_parts (heads_same e)).0, refl, tails_same e)
nodes_same x y Directory (File b) p u v hx hy ha hb e =
    absurd (not_of_a_file (is_inline p.version (length b)) x y b p u v e)
nodes_same x y (File a) Directory p u v hx hy ha hb e =
    absurd (not_of_a_file (is_inline p.version (length a)) y x a p v u (sym e))
nodes_same x y (File a) (File b) p u v hx hy ha hb e =
    let same = file_pairs_same (is_inline p.version (length a))
    (is_inline p.version (length b)) x y a b u v hx hy ha.0 hb.0 e in
    (same.0, ap File same.1, same.2)

-- there is a pair of a file
some_file_pair : (c : Bool) (x : Path) (bytes : List ℕ) (u : List Pair) → [] ≡ file_pairs c x bytes ++ u → ⊥
some_file_pair true x bytes u e = cc
some_file_pair false x bytes u e = cc

-- and of what stands at a path
pub some_pair : (x : Path) (a : Node) (p : Parameters) (u : List Pair) → [] ≡ node_pairs x a p ++ u → ⊥
unfolding node_pairs
some_pair x Directory p u e = cc
some_pair x (File bytes) p u e = some_file_pair (is_inline p.version (length bytes)) x bytes u e

-- the first pair of a file is not an attribute's
file_before_attribute : (c : Bool) (x : Path) (bytes : List ℕ) (u : List Pair) (k value : List ℕ) (v : List Pair)
    → file_pairs c x bytes ++ u ≡ (k, attribute_value value) ∷ v → ⊥
file_before_attribute true x bytes u k value v e = let first : ◌≡◌ {A = ℕ} 3 4 =
    heads_same (pair_parts (heads_same e)).1 in omega arith
file_before_attribute false x bytes u k value v e = let first : ◌≡◌ {A = ℕ} 2 4 =
    heads_same (pair_parts (heads_same e)).1 in omega arith

-- nor is that of what stands at a path
node_before_attribute : (x : Path) (a : Node) (p : Parameters) (u : List Pair) (k value : List ℕ) (v : List Pair)
    → node_pairs x a p ++ u ≡ (k, attribute_value value) ∷ v → ⊥
unfolding node_pairs
node_before_attribute x Directory p u k value v e = let first : ◌≡◌ {A = ℕ} 1 4 =
    heads_same (pair_parts (heads_same e)).1 in omega arith
node_before_attribute x (File bytes) p u k value v e =
    file_before_attribute (is_inline p.version (length bytes)) x bytes u k value v e

-- an entry's pairs in front of others: those of what stands there, and behind them those of its attributes
entry_in_front : (x : Path) (a : Entry) (p : Parameters) (u : List Pair)
    → entry_pairs x a p ++ u ≡ node_pairs x a.node p ++ (attribute_pairs x a.attributes ++ u)
entry_in_front x a p u = append_assoc (node_pairs x a.node p) (attribute_pairs x a.attributes) u

-- so no tree's first pair is an attribute's
tree_before_attribute : (t : Tree) (p : Parameters) (k value : List ℕ) (v : List Pair)
    → pairs t p ≡ (k, attribute_value value) ∷ v → ⊥
unfolding pairs
tree_before_attribute [] p k value v e = cc
tree_before_attribute (f ∷ t) p k value v e =
    node_before_attribute f.0 f.1.node p (attribute_pairs f.0 f.1.attributes ++ pairs t p) k value v
    (sym (entry_in_front f.0 f.1 p (pairs t p)) ∙ e)

-- the pairs of attributes of a path tell them, in front of the pairs of trees
attributes_same : (x : Path) (ms ns : Attributes) (t u : Tree) (p : Parameters) → IsTrue (is_path x)
    → AllByRecursion (IsAttribute x) ms → AllByRecursion (IsAttribute x) ns
    → attribute_pairs x ms ++ pairs t p ≡ attribute_pairs x ns ++ pairs u p
    → (ms ≡ ns) × (pairs t p ≡ pairs u p)
unfolding attribute_pairs
attributes_same x [] [] t u p h g k e = (refl, e)
attributes_same x [] (n ∷ ns) t u p h g k e =
    absurd (tree_before_attribute t p (attribute_key x n.0) n.1 (attribute_pairs x ns ++ pairs u p) e)
attributes_same x (m ∷ ms) [] t u p h g k e =
    absurd (tree_before_attribute u p (attribute_key x m.0) m.1 (attribute_pairs x ms ++ pairs t p) (sym e))
attributes_same x (m ∷ ms) (n ∷ ns) t u p h g k e =
    let first = pair_parts (heads_same e) in
    let name = keys_tell_attributes x m n h g.0 k.0 first.0 in
    let value = tails_same first.1 in
    let rest = attributes_same x ms ns t u p h g.1 k.1 (tails_same e) in
    let behind = rest.0 in
    ((λ i. (name i, value i) ∷ behind i), rest.1)

-- what the pairs of an entry need to tell it
record IsTold (entry : Path × Entry) : Type 0 where
  path : IsTrue (is_path entry.0)
  node : IsNode entry.1.node
  attributes : AllByRecursion (IsAttribute entry.0) entry.1.attributes

-- each entry of a tree has it
told_entries : (t : Tree) → IsTree t → AllByRecursion IsTold t
told_entries t h = all_weaker (IsEntry t) IsTold (λ f k. record {
  path = k.path;
  node = k.node;
  attributes = (k.attributes).each;
}) t h.entries

-- the pairs of entries tell them
entries_same : (t u : Tree) (p : Parameters) → AllByRecursion IsTold t → AllByRecursion IsTold u
    → pairs t p ≡ pairs u p → t ≡ u
unfolding pairs
entries_same [] [] p h g e = refl
entries_same [] (f ∷ u) p h g e =
    absurd (some_pair f.0 f.1.node p (attribute_pairs f.0 f.1.attributes ++ pairs u p)
    (e ∙ entry_in_front f.0 f.1 p (pairs u p)))
entries_same (f ∷ t) [] p h g e =
    absurd (some_pair f.0 f.1.node p (attribute_pairs f.0 f.1.attributes ++ pairs t p)
    (sym e ∙ entry_in_front f.0 f.1 p (pairs t p)))
entries_same (f ∷ t) (k ∷ u) p h g e =
    let whole = sym (entry_in_front f.0 f.1 p (pairs t p)) ∙ e ∙ entry_in_front k.0 k.1 p (pairs u p) in
    let first = nodes_same f.0 k.0 f.1.node k.1.node p (attribute_pairs f.0 f.1.attributes ++ pairs t p)
    (attribute_pairs k.0 k.1.attributes ++ pairs u p) (h.0).path (g.0).path (h.0).node (g.0).node whole in
    let path = first.0 in
    let node = first.1 in
    let behind : attribute_pairs f.0 f.1.attributes ++ pairs t p ≡ attribute_pairs f.0 k.1.attributes ++ pairs u p =
    first.2 ∙ ap (λ x. attribute_pairs x k.1.attributes ++ pairs u p) (sym path) in
    let others : AllByRecursion (IsAttribute f.0) k.1.attributes =
    subst (λ x. AllByRecursion (IsAttribute x) k.1.attributes) (sym path) (g.0).attributes in
    let later = attributes_same f.0 f.1.attributes k.1.attributes t u p (h.0).path (h.0).attributes others behind in
    let attributes = later.0 in
    let rest = entries_same t u p h.1 g.1 later.1 in
    λ i. (path i, record { node = node i; attributes = attributes i }) ∷ rest i

-- the pairs of a tree tell it
pub pairs_tell_trees : (t u : Tree) (p : Parameters) → IsTree t → IsTree u → pairs t p ≡ pairs u p → t ≡ u
pairs_tell_trees t u p h g e = entries_same t u p (told_entries t h) (told_entries u g) e

-- ---- layouts

-- the layouts of two trees under the same parameters
same_parameters : (t u : Tree) (p : Parameters) → IsParameters p → IsTree t → IsTree u → Fits t p → Fits u p
    → layout t p ≡ layout u p → t ≡ u
unfolding layout pages draw_of
same_parameters t u p is ht hu ft fu e =
    let d = draw_of p in
    let law = IsLawful-draw_of p is in
    let bytes = append_cancel_left (header p ++ zeros (journal_len p.slots)) (table_bytes (place d (pages t p)))
    (table_bytes (place d (pages u p))) e in
    let table = tables_same (place d (pages t p)) (place d (pages u p))
    (slots-place d (pages t p) law ft.room (tree_pages_are_pages t p is ht ft))
    (slots-place d (pages u p) law fu.room (tree_pages_are_pages u p is hu fu))
    (length-place d (pages t p) ∙ sym (length-place d (pages u p))) bytes in
    let all = same_placement d (pages t p) (pages u p) law ft.room fu.room
    (rising_pages d (pairs t p) (keyed (pairs t p) (pair_list_of_tree t p is ht ft)))
    (rising_pages d (pairs u p) (keyed (pairs u p) (pair_list_of_tree u p is hu fu))) table in
    pairs_tell_trees t u p ht hu (pages_tell_pairs d (pairs t p) (pairs u p) is.some_level all)

-- a layout tells its tree and its parameters
pub layouts_tell : (t u : Tree) (p q : Parameters) → IsParameters p → IsParameters q → IsTree t → IsTree u → Fits t p
    → Fits u q → layout t p ≡ layout u q → (t ≡ u) × (p ≡ q)
layouts_tell t u p q hp hq ht hu ft fu e =
    let same : p ≡ q = headers_same p q hp hq
    (sym (header-layout t p hp) ∙ ap (λ image. take 4096 image) e ∙ header-layout u q hq) in
    (same_parameters t u p hp ht hu ft (subst (Fits u) (sym same) fu) (e ∙ ap (layout u) (sym same)), same)

-- an image tells the tree that it represents, and its parameters
pub images_tell : (image : List ℕ) (t u : Tree) (p q : Parameters) → Represents image t p
    → Represents image u q → (t ≡ u) × (p ≡ q)
images_tell image t u p q h g =
    let same : p ≡ q = viewed_headers_same image p q
    h.names.in_range g.names.in_range h.names.header_is g.names.header_is in
    layouts_tell t u p q h.names.in_range g.names.in_range h.tree g.tree h.fits g.fits (sym h.layout_is
    ∙ ap (λ (r : Parameters). recovered r.slots image) same ∙ g.layout_is)
