-- The slots of a table that hold a page, beside a table in which none does.
use Rattle.std.proofs.Common.{◌≡◌, ◌≢◌, ℕ, zero, suc, ◌+◌, ◌<◌, ◌≤◌, List, [], ◌∷◌, ◌++◌, Bool, true, false, cond, not}
use Rattle.std.proofs.Common.{length, map, replicate, slice_get, slice_index, get_or, Option, Some, None, refl, sym, ap}
use Rattle.std.proofs.Common.{ap₂, subst, ◌∙◌, is_some, inl, inr, arith, ⊎_elim, length-append}
use Rattle.std.specs.List.{flat_map, sum_by, AllByRecursion}
use Rattle.std.specs.Option.{option_map_or}
use Rattle.std.specs.Cmp.Lexicographic.{bytes_decides}
use Rattle.std.proofs.lemmas.Bool.{cases_Bool, false≢true}
use Rattle.std.proofs.lemmas.Option.{same_Some, none-some, slice_get_cases}
use Rattle.std.proofs.lemmas.List.{length-map, map-append, get_or-map}
use Rattle.std.proofs.lemmas.List.Sums.{sum_by-cons}
use Rattle.store_model.specs.Lists.{zero_filled, numbers_from, numbers_below, same_bytes, cut_before, in_order}
use Rattle.store_model.specs.Parameters.{Parameters}
use Rattle.store_model.specs.Paths.{Path}
use Rattle.store_model.specs.Trees.{Tree, Node, empty_tree}
use Rattle.store_model.specs.Trees.Node.{Directory, File}
use Rattle.store_model.specs.Draws.{Draw, draw_of}
use Rattle.store_model.specs.Pairs.{is_inline, file_pairs, node_pairs, attribute_pairs, entry_pairs, pairs}
use Rattle.store_model.specs.Pages.{Page, IsPage, pages, page_count, pages_of_pairs, level_pages, groups, level_list}
use Rattle.store_model.specs.Placement.{Table, place, put_all, pages_in}
use Rattle.store_model.specs.Images.{page_bytes, slot_bytes}
use Rattle.store_model.proofs.PagesLemmasSizes.{pairs_per_page, tree_pages_are_pages}
use Rattle.store_model.proofs.ImagesLemmas.{IsSlot, AllByRecursion-slots, length-slot_bytes, slots-place}
use Rattle.store_model.proofs.PlacementLemmas.{length-place}
use Rattle.store_model.proofs.PlacementLemmasDraws.{IsLawful-draw_of}
use Rattle.layout_conditions.specs.Layouts.{table_of_tree}
use Rattle.gate_journal.specs.Changes.{AreChanges}
use Rattle.table_memory.specs.Differences.{AreDifferences}
use Rattle.table_memory.specs.SlotCaches.{changes_of}
use Rattle.table_memory.proofs.DifferLemmas.{rising_none, rising_later, rising_more, differences_none}
use Rattle.table_memory.proofs.DifferLemmas.{differences_later, differences_more}
use Rattle.staged_tree.specs.TableChanges.{bytes_of, differing, slots_between, empty_slot}
use Rattle.staged_tree.specs.UsedSlots.{slot_in, used_changes, AreUsed}
use Rattle.staged_tree.proofs.TreePages.{table_count}
use Rattle.image_check.specs.Standing.{IsFitting}

-- a page does not have the bytes of an empty slot: its first byte is 1
pub page_not_empty : (page : Page) → slot_bytes None ≢ slot_bytes (Some page)
unfolding page_bytes slot_bytes zero_filled
page_not_empty page same = let first : 0 ≡ 1 = ap (λ (bytes : List ℕ). slice_index bytes 0) same
    in absurd (omega (arith, first))

-- ---- counted

-- what two slots count: 1 where their bytes differ
abbrev told_apart : List ℕ → List ℕ → ℕ
told_apart x y = cond (not (same_bytes x y)) 1 0

abbrev counts : (ℕ → List ℕ) → (ℕ → List ℕ) → ℕ → ℕ
counts old new i = told_apart (old i) (new i)

same_counts : (x y : List ℕ) → x ≡ y → told_apart x y ≡ 0
same_counts x y same = ap (λ (b : Bool). cond {A = ℕ} (not b) 1 0) ((bytes_decides x y).1 same)

other_counts : (x y : List ℕ) → x ≢ y → told_apart x y ≡ 1
other_counts x y other =
    let test : same_bytes x y ≡ false =
    ⊎_elim (λ yes. absurd (other ((bytes_decides x y).0 yes))) (λ no. no) (cases_Bool (same_bytes x y)) in
    ap (λ (b : Bool). cond {A = ℕ} (not b) 1 0) test

-- as many slots differ from empty ones as hold a page
used_count : (old new : ℕ → List ℕ) (table : Table) (first : ℕ)
    → ((i : ℕ) → i < length table → old (first + i) ≡ slot_bytes None)
    → ((i : ℕ) → i < length table → new (first + i) ≡ bytes_of table i)
    → sum_by (counts old new) (numbers_from first (length table)) ≡ length (pages_in table)
unfolding numbers_from pages_in
used_count old new [] first empty held = refl
used_count old new (None ∷ table) first empty held =
    let here : first + 0 ≡ first = omega arith in
    let low : 0 < length (None ∷ table) = omega arith in
    let same : old first ≡ new first = ap old (sym here) ∙ empty 0 low ∙ sym (held 0 low) ∙ ap new here in
    sum_by-cons (counts old new) first (numbers_from (suc first) (length table))
    ∙ ap₂ (λ (m n : ℕ). m + n) (same_counts (old first) (new first) same)
    (used_count old new table (suc first) (λ i below. let next : suc first + i ≡ first + suc i = omega arith
    in ap old next ∙ empty (suc i) (omega (arith, below)))
    (λ i below. let next : suc first + i ≡ first + suc i = omega arith
    in ap new next ∙ held (suc i) (omega (arith, below))))
    ∙ omega arith
used_count old new (Some page ∷ table) first empty held =
    let here : first + 0 ≡ first = omega arith in
    let low : 0 < length (Some page ∷ table) = omega arith in
    let was : old first ≡ slot_bytes None = ap old (sym here) ∙ empty 0 low in
    let is : new first ≡ slot_bytes (Some page) = ap new (sym here) ∙ held 0 low in
    sum_by-cons (counts old new) first (numbers_from (suc first) (length table))
    ∙ ap₂ (λ (m n : ℕ). m + n) (other_counts (old first) (new first)
    (λ same. page_not_empty page (sym was ∙ same ∙ is)))
    (used_count old new table (suc first) (λ i below. let next : suc first + i ≡ first + suc i = omega arith
    in ap old next ∙ empty (suc i) (omega (arith, below)))
    (λ i below. let next : suc first + i ≡ first + suc i = omega arith
    in ap new next ∙ held (suc i) (omega (arith, below))))
    ∙ omega arith

-- ---- the table of the empty tree

no_levels : (d : Draw) (levels : List ℕ) → flat_map (level_pages d []) levels ≡ []
unfolding level_pages groups level_list cut_before
no_levels d [] = refl
no_levels d (level ∷ levels) = no_levels d levels

no_pages : (p : Parameters) → pages empty_tree p ≡ []
unfolding pages pages_of_pairs pairs
no_pages p = no_levels (draw_of p) (numbers_below (draw_of p).height)

no_places : (d : Draw) → place d [] ≡ replicate d.slots None
unfolding place put_all in_order
no_places d = refl

free_bytes : (n i : ℕ) → i < n → bytes_of (replicate n None) i ≡ slot_bytes None
free_bytes zero i below = absurd (omega (arith, below))
free_bytes (suc n) zero below = refl
free_bytes (suc n) (suc i) below = free_bytes n i (omega (arith, below))

-- none of its slots holds a page
pub empty_bytes : (p : Parameters) (i : ℕ) → i < p.slots → bytes_of (table_of_tree empty_tree p) i ≡ slot_bytes None
unfolding draw_of
empty_bytes p i below = ap (λ (ps : List Page). bytes_of (place (draw_of p) ps) i) (no_pages p)
    ∙ ap (λ (table : Table). bytes_of table i) (no_places (draw_of p)) ∙ free_bytes p.slots i below

-- The layout of a tree differs from that of the empty one in as many slots as the tree has pages.
pub used_between : (t : Tree) (p : Parameters) → IsFitting t p → slots_between p empty_tree t ≡ page_count t p
unfolding draw_of
used_between t p fitting =
    let table = table_of_tree t p in
    let long : length table ≡ p.slots = length-place (draw_of p) (pages t p) in
    ap (differing (table_of_tree empty_tree p) table) (sym long)
    ∙ used_count (bytes_of (table_of_tree empty_tree p)) (bytes_of table) table 0
    (λ i below. let here : 0 + i ≡ i = omega arith
    in ap (bytes_of (table_of_tree empty_tree p)) here ∙ empty_bytes p i (subst (λ (n : ℕ). i < n) long below))
    (λ i below. let here : 0 + i ≡ i = omega arith in ap (bytes_of table) here)
    ∙ table_count t p fitting

-- ---- found one after another

pub used_none : (table : Table) → AreUsed table 0 []
used_none table = record { are = rising_none; differ = differences_none empty_slot (bytes_of table) }

held_bytes : (table : Table) (i : ℕ) (held : Option Page) → slice_get table i ≡ Some held
    → bytes_of table i ≡ slot_bytes held
held_bytes table i held is = ap (λ (o : Option (Option Page)). option_map_or slot_bytes o []) is

-- past a slot that holds no page
pub used_later : (table : Table) (n : ℕ) (numbers : List ℕ) → slice_get table n ≡ Some None → AreUsed table n numbers
    → AreUsed table (n + 1) numbers
used_later table n numbers free used = record {
  are = rising_later n (n + 1) (used_changes table numbers) (omega arith) used.are;
  differ = differences_later empty_slot (bytes_of table) n (n + 1) (used_changes table numbers) (omega arith)
      (λ i low high. let here : i ≡ n = omega (arith, low, high)
      in sym (ap (bytes_of table) here ∙ held_bytes table n None free)) used.differ;
}

-- past one that holds one
pub used_more : (table : Table) (n : ℕ) (numbers : List ℕ) (page : Page) → slice_get table n ≡ Some (Some page)
    → length (slot_bytes (Some page)) ≡ 4096 → AreUsed table n numbers → AreUsed table (n + 1) (numbers ++ n ∷ [])
used_more table n numbers page held long used =
    let is : bytes_of table n ≡ slot_bytes (Some page) = held_bytes table n (Some page) held in
    let items = map (slot_in table) numbers in
    let more : map (slot_in table) (numbers ++ n ∷ []) ≡ items ++ slot_in table n ∷ [] =
    map-append (slot_in table) numbers (n ∷ []) in
    record {
      are = subst (λ (es : List (ℕ × List ℕ)). AreChanges (n + 1) (changes_of es)) (sym more)
          (rising_more n items (bytes_of table n) used.are (ap length is ∙ long));
      differ = subst (λ (es : List (ℕ × List ℕ)). AreDifferences empty_slot (bytes_of table) (n + 1) (changes_of es))
          (sym more)
          (differences_more n items (bytes_of table n) empty_slot (bytes_of table) used.differ refl
          (λ same. page_not_empty page (same ∙ is)));
    }

-- what each slot of a table holds is so of one of them
slot_at : (table : Table) (i : ℕ) (held : Option Page) → slice_get table i ≡ Some held
    → AllByRecursion IsSlot table → IsSlot held
slot_at [] i held is all = absurd (none-some held is)
slot_at (what ∷ table) zero held is all = subst IsSlot (same_Some what held is) all.0
slot_at (what ∷ table) (suc i) held is all = slot_at table i held is all.1

-- past the next slot, once it is told whether it holds a page
pub used_next : (table : Table) (n : ℕ) (numbers : List ℕ) (is_used : Bool) → n < length table
    → AllByRecursion IsPage (pages_in table)
    → ((held : Option Page) → slice_get table n ≡ Some held → is_used ≡ is_some held) → AreUsed table n numbers
    → (is_used ≡ true → AreUsed table (n + 1) (numbers ++ n ∷ [])) × (is_used ≡ false → AreUsed table (n + 1) numbers)
used_next table n numbers is_used below all tells used = elim (slice_get_cases table n).1 [
  | inl at ↦ by at.0 at.2 (slot_at table n at.0 at.2 (AllByRecursion-slots table all))
  | inr past ↦ let far = past.0 in absurd (omega (arith, below, far))
]
  where
    by : (held : Option Page) → slice_get table n ≡ Some held → IsSlot held
        → (is_used ≡ true → AreUsed table (n + 1) (numbers ++ n ∷ []))
        × (is_used ≡ false → AreUsed table (n + 1) numbers)
    by None is valid =
        (λ yes. absurd (false≢true (sym (tells None is) ∙ yes)), λ no. used_later table n numbers is used)
    by (Some page) is valid = (
      λ yes. used_more table n numbers page is (length-slot_bytes (Some page) valid) used,
      λ no.
          absurd (false≢true (sym no ∙ tells (Some page) is)),
    )

-- ---- as changes

pub used_number : (table : Table) (numbers : List ℕ) (k : ℕ) (d : ℕ) → k < length numbers
    → (used_changes table numbers).slot k ≡ get_or numbers k d
used_number table numbers k d below =
    ap (λ (e : ℕ × List ℕ). e.0) (get_or-map (slot_in table) numbers k d (0, []) below)

pub used_bytes : (table : Table) (numbers : List ℕ) (k : ℕ) (d : ℕ) → k < length numbers
    → (used_changes table numbers).bytes k ≡ bytes_of table (get_or numbers k d)
used_bytes table numbers k d below = ap (λ (e : ℕ × List ℕ). e.1) (get_or-map (slot_in table) numbers k d (0, []) below)

pub used_length : (table : Table) (numbers : List ℕ) → (used_changes table numbers).count ≡ length numbers
used_length table numbers = length-map numbers (slot_in table)

-- the number of a change is that of a slot of the table
pub used_below : (table : Table) (numbers : List ℕ) (k at : ℕ) → AreUsed table (length table) numbers
    → k < (used_changes table numbers).count → at ≡ (used_changes table numbers).slot k → at < length table
used_below table numbers k at used inside is = subst (λ (n : ℕ). n < length table) (sym is) (used.are.below k inside)

-- the bytes that a slot of the table has are those of its change
pub bytes_there : (table : Table) (numbers : List ℕ) (k at : ℕ) (bytes : List ℕ) → AreUsed table (length table) numbers
    → k < (used_changes table numbers).count → at ≡ (used_changes table numbers).slot k
    → ((held : Option Page) → slice_get table at ≡ Some held → bytes ≡ slot_bytes held)
    → bytes ≡ (used_changes table numbers).bytes k
bytes_there table numbers k at bytes used inside is shows =
    let long = used_length table numbers in
    let below : k < length numbers = omega (arith, inside, long) in
    let there = used_below table numbers k at used inside is in
    elim (slice_get_cases table at).1 [
      | inl found ↦ shows found.0 found.2 ∙ sym (held_bytes table at found.0 found.2)
          ∙ ap (bytes_of table) (is ∙ used_number table numbers k at below) ∙ sym (used_bytes table numbers k at below)
      | inr past ↦ let far = past.0 in absurd (omega (arith, there, far))
    ]

pages_of_slots : (table : Table) → AllByRecursion IsSlot table → AllByRecursion IsPage (pages_in table)
unfolding pages_in
pages_of_slots [] all = tt
pages_of_slots (None ∷ table) all = pages_of_slots table all.1
pages_of_slots (Some page ∷ table) all = (all.0, pages_of_slots table all.1)

-- what the layout of a tree holds are pages
pub pages_are_placed : (t : Tree) (p : Parameters) (layout : Table) → IsFitting t p → layout ≡ table_of_tree t p
    → AllByRecursion IsPage (pages_in layout)
unfolding draw_of
pages_are_placed t p layout fitting is =
    subst (λ (table : Table). AllByRecursion IsPage (pages_in table)) (sym is)
    (pages_of_slots (table_of_tree t p)
    (slots-place (draw_of p) (pages t p) (IsLawful-draw_of p fitting.in_range)
    fitting.fits.room (tree_pages_are_pages t p fitting.in_range fitting.tree fitting.fits)))

-- they are those of the layout of a tree
pub used_of : (t : Tree) (p : Parameters) (layout : Table) (numbers : List ℕ) → layout ≡ table_of_tree t p
    → AreUsed layout (length layout) numbers
    → AreChanges p.slots (used_changes layout numbers)
    × AreDifferences empty_slot (bytes_of (table_of_tree t p)) p.slots (used_changes layout numbers)
unfolding draw_of
used_of t p layout numbers is used =
    let long : length layout ≡ p.slots = ap length is ∙ length-place (draw_of p) (pages t p) in (
      subst (λ (n : ℕ). AreChanges n (used_changes layout numbers)) long used.are,
      subst (λ (table : Table). AreDifferences empty_slot (bytes_of table) p.slots (used_changes layout numbers)) is
          (subst (λ (n : ℕ). AreDifferences empty_slot (bytes_of layout) n (used_changes layout numbers)) long
          used.differ),
    )

pub slots_of_layout : (t : Tree) (p : Parameters) (layout : Table) → layout ≡ table_of_tree t p
    → length layout ≡ p.slots
unfolding draw_of
slots_of_layout t p layout is = ap length is ∙ length-place (draw_of p) (pages t p)

pub count_of_layout : (t : Tree) (p : Parameters) (layout : Table) (count : ℕ) → IsFitting t p
    → layout ≡ table_of_tree t p → count ≡ length (pages_in layout) → count ≡ page_count t p
count_of_layout t p layout count fitting is counts =
    counts ∙ ap (λ (table : Table). length (pages_in table)) is ∙ table_count t p fitting

-- ---- a tree with no page

some_file : (short : Bool) (x : Path) (bytes : List ℕ) → 1 ≤ length (file_pairs short x bytes)
some_file true x bytes = omega arith
some_file false x bytes = omega arith

-- whatever stands at a path has a pair
some_pair : (x : Path) (node : Node) (p : Parameters) → 1 ≤ length (node_pairs x node p)
unfolding node_pairs
some_pair x Directory p = omega arith
some_pair x (File bytes) p = some_file (is_inline p.version (length bytes)) x bytes

no_pairs : (t : Tree) (p : Parameters) → length (pairs t p) ≡ 0 → t ≡ empty_tree
unfolding pairs
no_pairs [] p none = refl
no_pairs (e ∷ t) p none =
    let some = some_pair e.0 e.1.node p in
    absurd (omega (
      arith,
      none,
      some,
      length-append (entry_pairs e.0 e.1 p)
          (pairs t p),
      length-append (node_pairs e.0 e.1.node p) (attribute_pairs e.0 e.1.attributes),
    ))

-- the empty tree alone has no page
pub none_used : (t : Tree) (p : Parameters) → IsFitting t p → page_count t p ≡ 0 → t ≡ empty_tree
unfolding draw_of pages
none_used t p fitting none = let few = pairs_per_page (draw_of p) (pairs t p) fitting.in_range.some_level
    in no_pairs t p (omega (arith, few, none))

pub empty_count : (p : Parameters) → page_count empty_tree p ≡ 0
empty_count p = ap length (no_pages p)
