-- Pages as a finite map: their list by rank, their lookups, and the slots that hold them.
use Rattle.std.proofs.Common.{◌≡◌, ℕ, ◌≤◌, T, ◌⊎◌, inl, inr, List, [], ◌∷◌, Bool, true, false, cond, not, Option, Some}
use Rattle.std.proofs.Common.{None, length, map, replicate, refl, ap, ap₂, sym, subst, ◌∙◌, arith}
use Rattle.std.specs.FinMap as maps
use Rattle.std.specs.FinMap.Entries as entries
use Rattle.std.specs.FinMap.{entries-insert, entries_sorted, len-entries, same_entries_map, same_map, get-entries}
use Rattle.std.specs.FinMap.{get-empty, get-insert, get-remove, get-from_entries, nat_cmp-IsAntisymmetric}
use Rattle.std.specs.FinMap.{slice_cmp-IsAntisymmetric}
use Rattle.std.specs.List.{find, filter, IsDistinct, AllByRecursion, Contains}
use Rattle.std.specs.List.Sorted.{IsStrictlySortedBy}
use Rattle.std.specs.declared.cmp.Ordering.{Ordering}
use Rattle.std.specs.declared.cmp.Ordering.TheVariants.{Less, Equal, Greater}
use Rattle.std.specs.Ordering.{nat_cmp, is_gt, is_eq, eq_by_cmp, ordering_reverse}
use Rattle.std.proofs.lemmas.Cmp.{eq_by_cmp_equiv}
use Rattle.std.specs.Cmp.{IsTotalOrder, tied_itself}
use Rattle.std.specs.Cmp.Lexicographic.{slice_cmp, nat_list_cmp_total}
use Rattle.std.proofs.lemmas.List.{length-map}
use Rattle.std.proofs.lemmas.List.Kept.{IsStrictlySortedBy-filter}
use Rattle.std.proofs.lemmas.Option.{same_Some}
use Rattle.std.proofs.lemmas.Map.Keys.{IsDistinct-from_sorted}
use Rattle.std.proofs.lemmas.List.Sorted.{length_permutation, IsPermutation-sym}
use Rattle.store_model.specs.Lists.{insert_in_order, in_order}
use Rattle.store_model.specs.Labels.{Label, label_bytes, label_cmp}
use Rattle.store_model.specs.Parameters.{Parameters, IsParameters}
use Rattle.store_model.specs.Trees.{Tree, IsTree}
use Rattle.store_model.specs.Pairs.{Pair, IsPairs, pairs}
use Rattle.store_model.specs.Draws.{Draw, IsLawful, draw_of}
use Rattle.store_model.specs.Pages.{Page, IsPage, pages_of_pairs, Fits, pages}
use Rattle.store_model.specs.Placement.{Table, put_all, place, pages_in, page_cmp, HoldsPage, IsOrderedTable}
use Rattle.store_model.specs.Images.{slots_of}
use Rattle.store_model.specs.PageMaps.{PageMap, page_at, with_page, without_page, map_of_pages, pages_of_map, IsUnder}
use Rattle.store_model.specs.PageMaps.{IsPageMap, HoldsPages, IsTableOf}
use Rattle.store_model.proofs.ListsLemmas.{all_weaker, all_map, all_with, rising_from_is_sorted, rising_from_map}
use Rattle.store_model.proofs.ListsLemmas.{rising_to_map, in_order_of_rising}
use Rattle.store_model.proofs.ListsLemmasOrder.{held_cases, held_first, held_later, held_all}
use Rattle.store_model.proofs.ListsLemmasOrder.{AllByRecursion-permutation, IsPermutation-in_order, sorted_in_order}
use Rattle.store_model.proofs.ListsLemmasOrder.{same_as_in_order, distinct_from_map}
use Rattle.store_model.proofs.ImagesLemmas.{IsSlot, AllByRecursion-slots}
use Rattle.store_model.proofs.PlacementLemmas.{IsPermutation-place, some_slot}
use Rattle.store_model.proofs.PlacementLemmasOrder.{page_cmp_total, held_contained}
use Rattle.store_model.proofs.PagesLemmasOrder.{rising_pages}
use Rattle.store_model.proofs.PagesLemmasSizes.{keyed, pages_are_pages, pair_list_of_tree, tree_pages_are_pages}
use Rattle.store_model.proofs.PlacementLemmasTables.{distinct_labels_of_table, IsOrderedTable-place, room_of_table}
use Rattle.store_model.proofs.PlacementLemmasTables.{ordered_table_is_place}
use Rattle.store_model.proofs.TreesLemmasBytes.{heads_same, tails_same, slots_same}

-- ---- entries in the order of their keys

-- a test that holds
true_from_T : (b : Bool) → T b → b ≡ true
true_from_T true h = refl
true_from_T false h = absurd h

-- an entry whose key is new goes into its place
put_in_order : {K X : Type 0} (R : K → K → Ordering) (k : K) (v : X) (es : List (K × X))
    → AllByRecursion (λ e. eq_by_cmp R k e.0 ≡ false) es
    → entries.put R k v es ≡ insert_in_order (λ a b. R a.0 b.0) (k, v) es
unfolding insert_in_order
put_in_order R k v [] new = refl
put_in_order {K} {X} R k v (e ∷ es) new = by_case (R k e.0) refl (put_in_order R k v es new.1)
  where
    by_case : (r : Ordering) → R k e.0 ≡ r → entries.put R k v es ≡ insert_in_order (λ a b. R a.0 b.0) (k, v) es
        → entries.by_order r ((k, v) ∷ e ∷ es) ((e.0, v) ∷ es) (e ∷ entries.put R k v es)
        ≡ cond (is_gt r) (e ∷ insert_in_order (λ a b. R a.0 b.0) (k, v) es) ((k, v) ∷ e ∷ es)
    by_case Less is rest = refl
    by_case Equal is rest = let tied : eq_by_cmp R k e.0 ≡ true = ap is_eq is in let other = new.0 in cc
    by_case Greater is rest = ap (λ fs. e ∷ fs) rest

-- a list of no length
no_elements : {A : Type 0} (xs : List A) → length xs ≡ 0 → xs ≡ []
no_elements [] e = refl
no_elements (x ∷ xs) e = absurd (omega arith)

-- the entries of the map of a list whose keys differ are the list in order
entries-from_distinct : {K X : Type 0} {R : K → K → Ordering} → IsTotalOrder R → (es : List (K × X))
    → IsDistinct (eq_by_cmp (λ a b. R a.0 b.0)) es
    → maps.entries (maps.from_entries {R = R} es) ≡ in_order (λ a b. R a.0 b.0) es
unfolding in_order IsDistinct
entries-from_distinct {X = X} {R = R} o [] distinct =
    no_elements (maps.entries (maps.empty {X = X} {R = R}))
    (sym (len-entries (maps.empty {X = X} {R = R})) ∙ maps.len-empty R X)
entries-from_distinct {R = R} o (e ∷ es) distinct =
    let rest = entries-from_distinct o es distinct.1 in
    entries-insert o (maps.from_entries {R = R} es) e.0 e.1
    ∙ ap (entries.put R e.0 e.1) rest
    ∙ put_in_order R e.0 e.1 (in_order (λ a b. R a.0 b.0) es)
    (AllByRecursion-permutation (λ f. eq_by_cmp R e.0 f.0 ≡ false) es (in_order (λ a b. R a.0 b.0) es)
    (IsPermutation-in_order (λ a b. R a.0 b.0) es) distinct.0)

-- what a map gives, in order, is what it gives of the list in order
insert_in_order-map : {X Y : Type 0} (cmp : Y → Y → Ordering) (f : X → Y) (x : X) (ys : List X)
    → insert_in_order cmp (f x) (map f ys) ≡ map f (insert_in_order (λ a b. cmp (f a) (f b)) x ys)
unfolding insert_in_order
insert_in_order-map cmp f x [] = refl
insert_in_order-map {X} {Y} cmp f x (y ∷ ys) = picked (is_gt (cmp (f x) (f y))) (insert_in_order-map cmp f x ys)
  where
    picked : (b : Bool) → insert_in_order cmp (f x) (map f ys) ≡ map f (insert_in_order (λ a b. cmp (f a) (f b)) x ys)
        → cond b (f y ∷ insert_in_order cmp (f x) (map f ys)) (f x ∷ f y ∷ map f ys)
        ≡ map f (cond b (y ∷ insert_in_order (λ a b. cmp (f a) (f b)) x ys) (x ∷ y ∷ ys))
    picked true rest = ap (λ zs. f y ∷ zs) rest
    picked false rest = refl

in_order-map : {X Y : Type 0} (cmp : Y → Y → Ordering) (f : X → Y) (xs : List X)
    → in_order cmp (map f xs) ≡ map f (in_order (λ a b. cmp (f a) (f b)) xs)
unfolding in_order
in_order-map cmp f [] = refl
in_order-map cmp f (x ∷ xs) = ap (insert_in_order cmp (f x)) (in_order-map cmp f xs)
    ∙ insert_in_order-map cmp f x (in_order (λ a b. cmp (f a) (f b)) xs)

-- each entry of a list that rises is found under its key
all_found : {K X : Type 0} {R : K → K → Ordering} → IsTotalOrder R → (es : List (K × X))
    → IsStrictlySortedBy (λ a b. R a.0 b.0) es → AllByRecursion (λ e. entries.find R e.0 es ≡ Some e.1) es
unfolding IsStrictlySortedBy
all_found o [] up = tt
all_found {K} {X} {R} o (e ∷ es) up = (
  ap (λ r. cond (is_eq r) (Some e.1) (entries.find R e.0 es)) (tied_itself o e.0),
  all_with (λ f. R e.0 f.0 ≡ Less) (λ f. entries.find R f.0 es ≡ Some f.1) (λ f. entries.find R f.0 (e ∷ es) ≡ Some f.1)
      (λ f below found. ap (λ r. cond (is_eq r) (Some e.1) (entries.find R f.0 es))
      (o.antisymm f.0 e.0 ∙ ap ordering_reverse below) ∙ found) es up.0 (all_found o es up.1),
)

-- ---- the pages of a map by rank

-- the entry of a page
abbrev entry_of : Page → List ℕ × Page
entry_of page = (label_bytes page.label, page)

-- the page of each entry
pages_of_entries : (pages : List Page) → map (λ (e : List ℕ × Page). e.1) (map entry_of pages) ≡ pages
pages_of_entries [] = refl
pages_of_entries (page ∷ pages) = ap (λ ps. page ∷ ps) (pages_of_entries pages)

-- the entries of the map of pages with distinct labels
entries-map_of_pages : (pages : List Page) → IsDistinct (eq_by_cmp label_cmp) (map (λ page. page.label) pages)
    → maps.entries (map_of_pages pages) ≡ map entry_of (in_order page_cmp pages)
unfolding IsDistinct
entries-map_of_pages pages distinct =
    entries-from_distinct nat_list_cmp_total (map entry_of pages)
    (distinct_to_map pages (distinct_from_map label_cmp (λ page. page.label) pages distinct))
    ∙ in_order-map (λ a b. slice_cmp nat_cmp a.0 b.0) entry_of pages
  where
    all_to_map : (page : Page) (others : List Page)
        → AllByRecursion (λ other. eq_by_cmp page_cmp page other ≡ false) others
        → AllByRecursion (λ e. eq_by_cmp (slice_cmp nat_cmp) (label_bytes page.label) e.0 ≡ false) (map entry_of others)
    all_to_map page others all = all_map (λ other. eq_by_cmp page_cmp page other ≡ false)
        (λ e. eq_by_cmp (slice_cmp nat_cmp) (label_bytes page.label) e.0 ≡ false) entry_of
        (λ other apart. apart) others all

    distinct_to_map : (ps : List Page) → IsDistinct (eq_by_cmp page_cmp) ps
        → IsDistinct (eq_by_cmp {K = List ℕ × Page} (λ a b. slice_cmp nat_cmp a.0 b.0)) (map entry_of ps)
    distinct_to_map [] apart = tt
    distinct_to_map (page ∷ ps) apart = (all_to_map page ps apart.0, distinct_to_map ps apart.1)

-- the map of pages with distinct labels has them by rank
pub pages_of_map-map_of_pages : (pages : List Page) → IsDistinct (eq_by_cmp label_cmp) (map (λ page. page.label) pages)
    → pages_of_map (map_of_pages pages) ≡ in_order page_cmp pages
pages_of_map-map_of_pages pages distinct = ap (map (λ (e : List ℕ × Page). e.1)) (entries-map_of_pages pages distinct)
    ∙ pages_of_entries (in_order page_cmp pages)

-- and as they come where they rise by label
pub pages_of_rising_map : (pages : List Page) → IsStrictlySortedBy page_cmp pages
    → pages_of_map (map_of_pages pages) ≡ pages
pages_of_rising_map pages up =
    pages_of_map-map_of_pages pages
    (IsDistinct-from_sorted label_cmp (map (λ page. page.label) pages)
    (rising_to_map label_cmp (λ page. page.label) pages up)) ∙ in_order_of_rising page_cmp pages up

-- ---- lookups in the map of a list

-- what is under some bytes is the first page with them as its label
pub get-map_of_pages : (pages : List Page) (bytes : List ℕ)
    → maps.get (map_of_pages pages) bytes
    ≡ find (λ page. eq_by_cmp (slice_cmp nat_cmp) bytes (label_bytes page.label)) pages
get-map_of_pages pages bytes = get-from_entries nat_list_cmp_total (map entry_of pages) bytes ∙ first_found pages
  where
    first_found : (ps : List Page) → entries.find (slice_cmp nat_cmp) bytes (map entry_of ps)
        ≡ find (λ page. eq_by_cmp (slice_cmp nat_cmp) bytes (label_bytes page.label)) ps
    first_found [] = refl
    first_found (page ∷ ps) =
        ap (cond (eq_by_cmp (slice_cmp nat_cmp) bytes (label_bytes page.label)) (Some page)) (first_found ps)

-- the page under a label
pub page_at-map_of_pages : (pages : List Page) (l : Label)
    → page_at (map_of_pages pages) l ≡ find (λ page. eq_by_cmp label_cmp l page.label) pages
page_at-map_of_pages pages l = get-map_of_pages pages (label_bytes l)

-- what a search finds passes its test, and is one of the list
found_passes : {X : Type 0} (P : X → Type 0) (test : X → Bool) (xs : List X) (x : X) → AllByRecursion P xs
    → find test xs ≡ Some x → P x × (test x ≡ true)
found_passes P test [] x all e = cc
found_passes {X} P test (y ∷ ys) x all e = picked (test y) refl e (found_passes P test ys x all.1)
  where
    picked : (b : Bool) → test y ≡ b → cond b (Some y) (find test ys) ≡ Some x
        → (find test ys ≡ Some x → P x × (test x ≡ true)) → P x × (test x ≡ true)
    picked true is e later = let same = same_Some y x e in (subst P same all.0, ap test (sym same) ∙ is)
    picked false is e later = later e

-- bytes that tie are the same
same_bytes_of_tie : (a b : List ℕ) → eq_by_cmp (slice_cmp nat_cmp) a b ≡ true → a ≡ b
same_bytes_of_tie a b e = slice_cmp-IsAntisymmetric nat_cmp-IsAntisymmetric a b (tie (slice_cmp nat_cmp a b) e)
  where
    tie : (o : Ordering) → is_eq o ≡ true → o ≡ Equal
    tie Less e = cc
    tie Equal e = refl
    tie Greater e = cc

-- the map of pages is a page map
pub IsPageMap-map_of_pages : (pages : List Page) → AllByRecursion IsPage pages → IsPageMap (map_of_pages pages)
IsPageMap-map_of_pages pages all bytes page e =
    let found = found_passes IsPage (λ p. eq_by_cmp (slice_cmp nat_cmp) bytes (label_bytes p.label)) pages page all
    (sym (get-map_of_pages pages bytes) ∙ e) in
    record { valid = found.0; under = same_bytes_of_tie bytes (label_bytes page.label) found.1 }

-- ---- page maps and their lists

-- each entry of a page map is a page under its label
under_labels : (m : PageMap) → IsPageMap m → AllByRecursion (λ e. IsUnder e.0 e.1) (maps.entries m)
under_labels m is =
    let up = rising_from_is_sorted (slice_cmp nat_cmp) (maps.entries m) (true_from_T _ (entries_sorted m)) in
    all_weaker (λ e. entries.find (slice_cmp nat_cmp) e.0 (maps.entries m) ≡ Some e.1) (λ e. IsUnder e.0 e.1)
    (λ e found. is e.0 e.1 (get-entries m e.0 ∙ found)) (maps.entries m)
    (all_found nat_list_cmp_total (maps.entries m) up)

-- so its entries are those of its pages
pub entries_of_page_map : (m : PageMap) → IsPageMap m → maps.entries m ≡ map entry_of (pages_of_map m)
entries_of_page_map m is = by_entries (maps.entries m) (under_labels m is)
  where
    by_entries : (es : List (List ℕ × Page)) → AllByRecursion (λ e. IsUnder e.0 e.1) es
        → es ≡ map entry_of (map (λ e. e.1) es)
    by_entries [] all = refl
    by_entries (e ∷ es) all = let first : e.0 ≡ label_bytes e.1.label = all.0.under in let rest = by_entries es all.1
        in λ i. (first i, e.1) ∷ rest i

-- its pages are pages
pub pages_of_page_map : (m : PageMap) → IsPageMap m → AllByRecursion IsPage (pages_of_map m)
pages_of_page_map m is = all_map (λ e. IsUnder e.0 e.1) IsPage (λ e. e.1) (λ e u. u.valid)
    (maps.entries m) (under_labels m is)

-- and they rise by label
pub rising_page_map : (m : PageMap) → IsPageMap m → IsStrictlySortedBy page_cmp (pages_of_map m)
rising_page_map m is =
    rising_from_map (λ (a b : List ℕ × Page). slice_cmp nat_cmp a.0 b.0) entry_of (pages_of_map m)
    (subst (IsStrictlySortedBy (λ (a b : List ℕ × Page). slice_cmp nat_cmp a.0 b.0)) (entries_of_page_map m is)
    (rising_from_is_sorted (slice_cmp nat_cmp) (maps.entries m) (true_from_T _ (entries_sorted m))))

-- so no label stands twice
pub distinct_page_map : (m : PageMap) → IsPageMap m
    → IsDistinct (eq_by_cmp label_cmp) (map (λ page. page.label) (pages_of_map m))
distinct_page_map m is = IsDistinct-from_sorted label_cmp (map (λ page. page.label) (pages_of_map m))
    (rising_to_map label_cmp (λ page. page.label) (pages_of_map m) (rising_page_map m is))

-- two page maps of the same pages are one
pub same_page_map : (m n : PageMap) → IsPageMap m → IsPageMap n → pages_of_map m ≡ pages_of_map n → m ≡ n
same_page_map m n is_m is_n e = same_entries_map m n
    (entries_of_page_map m is_m ∙ ap (map entry_of) e ∙ sym (entries_of_page_map n is_n))

-- a page map is that of its pages
pub map_of_pages-pages_of_map : (m : PageMap) → IsPageMap m → map_of_pages (pages_of_map m) ≡ m
map_of_pages-pages_of_map m is = same_page_map (map_of_pages (pages_of_map m)) m
    (IsPageMap-map_of_pages (pages_of_map m) (pages_of_page_map m is)) is
    (pages_of_rising_map (pages_of_map m) (rising_page_map m is))

-- it has as many entries as pages
pub len-pages_of_map : (m : PageMap) → maps.len m ≡ length (pages_of_map m)
len-pages_of_map m = len-entries m ∙ sym (length-map (maps.entries m) (λ e. e.1))

-- ---- changes

-- an empty map is a page map
pub IsPageMap-empty : IsPageMap maps.empty
IsPageMap-empty bytes page e = let none = get-empty {X = Page} (slice_cmp nat_cmp) bytes in cc

-- the page under a label, with a page put in
pub page_at-with_page : (m : PageMap) (page : Page) (l : Label)
    → page_at (with_page m page) l ≡ cond (eq_by_cmp label_cmp l page.label) (Some page) (page_at m l)
page_at-with_page m page l = get-insert nat_list_cmp_total m (label_bytes page.label) page (label_bytes l)

-- the page under a label, with one taken out
pub page_at-without_page : (m : PageMap) (k l : Label)
    → page_at (without_page m k) l ≡ cond (eq_by_cmp label_cmp l k) None (page_at m l)
page_at-without_page m k l = get-remove nat_list_cmp_total m (label_bytes k) (label_bytes l)

-- with a page put in a page map stays one
pub IsPageMap-with_page : (m : PageMap) (page : Page) → IsPageMap m → IsPage page → IsPageMap (with_page m page)
IsPageMap-with_page m page is valid bytes other e =
    picked (eq_by_cmp (slice_cmp nat_cmp) bytes (label_bytes page.label)) refl
    (sym (get-insert nat_list_cmp_total m (label_bytes page.label) page bytes) ∙ e)
  where
    picked : (b : Bool) → eq_by_cmp (slice_cmp nat_cmp) bytes (label_bytes page.label) ≡ b
        → cond b (Some page) (maps.get m bytes) ≡ Some other → IsUnder bytes other
    picked true tie e = subst (IsUnder bytes) (same_Some page other e)
        (record { valid = valid; under = same_bytes_of_tie bytes (label_bytes page.label) tie })
    picked false tie e = is bytes other e

-- and with one taken out
pub IsPageMap-without_page : (m : PageMap) (l : Label) → IsPageMap m → IsPageMap (without_page m l)
IsPageMap-without_page m l is bytes other e =
    picked (eq_by_cmp (slice_cmp nat_cmp) bytes (label_bytes l))
    (sym (get-remove nat_list_cmp_total m (label_bytes l) bytes) ∙ e)
  where
    picked : (b : Bool) → cond b None (maps.get m bytes) ≡ Some other → IsUnder bytes other
    picked true e = cc
    picked false e = is bytes other e

-- ---- slots that hold a map

-- placement of pages in order is placement of the pages
place-in_order : (d : Draw) (pages : List Page) → IsDistinct (eq_by_cmp label_cmp) (map (λ page. page.label) pages)
    → place d (in_order page_cmp pages) ≡ place d pages
unfolding place
place-in_order d pages distinct = ap (put_all d (replicate d.slots None))
    (in_order_of_rising page_cmp (in_order page_cmp pages)
    (sorted_in_order page_cmp page_cmp_total pages (distinct_from_map label_cmp (λ page. page.label) pages distinct)))

-- an ordered table holds the map of its pages
pub HoldsPages-slots_of : (d : Draw) (table : Table) → IsLawful d → IsOrderedTable d table
    → HoldsPages d (slots_of table) (map_of_pages (pages_in table))
HoldsPages-slots_of d table law is =
    let pages = pages_in table in
    let distinct = distinct_labels_of_table d table law is in
    let by_rank = pages_of_map-map_of_pages pages distinct in
    record {
      pages = IsPageMap-map_of_pages pages is.pages;
      fits = omega (
        arith,
        len-pages_of_map (map_of_pages pages),
        ap length by_rank,
        length_permutation pages
            (in_order page_cmp pages) (IsPermutation-in_order page_cmp pages),
        room_of_table d table is,
      );
      slots_are = ap slots_of (ordered_table_is_place d table law is ∙ sym (place-in_order d pages distinct)
          ∙ ap (place d) (sym by_rank));
    }

-- the placement of a page map is an ordered table
pub IsOrderedTable-page_map : (d : Draw) (m : PageMap) → IsLawful d → IsPageMap m → maps.len m ≤ d.slots
    → IsOrderedTable d (place d (pages_of_map m))
IsOrderedTable-page_map d m law is room =
    IsOrderedTable-place d (pages_of_map m) law (omega (arith, len-pages_of_map m)) (distinct_page_map m is)
    (pages_of_page_map m is)

-- whose pages are those of the map
pub pages_of_placed_map : (d : Draw) (m : PageMap) → IsLawful d → IsPageMap m → maps.len m ≤ d.slots
    → map_of_pages (pages_in (place d (pages_of_map m))) ≡ m
pages_of_placed_map d m law is room =
    let table = place d (pages_of_map m) in
    let ordered = IsOrderedTable-page_map d m law is room in
    let distinct = distinct_labels_of_table d table law ordered in
    let moves = IsPermutation-sym (pages_of_map m) (pages_in table)
    (IsPermutation-place d (pages_of_map m) law (omega (arith, len-pages_of_map m))) in
    same_page_map (map_of_pages (pages_in table)) m (IsPageMap-map_of_pages (pages_in table) ordered.pages) is
    (pages_of_map-map_of_pages (pages_in table) distinct
    ∙ sym (same_as_in_order page_cmp page_cmp_total (pages_in table) (pages_of_map m) moves
    (distinct_from_map label_cmp (λ page. page.label) (pages_in table) distinct) (rising_page_map m is)))

-- slots that hold a map are those of an ordered table of its pages
pub table_of_held_map : (d : Draw) (slots : List (List ℕ)) (m : PageMap) → IsLawful d → HoldsPages d slots m
    → (table : Table) × IsTableOf d slots m table
table_of_held_map d slots m law held = (
  place d (pages_of_map m),
  record {
    ordered = IsOrderedTable-page_map d m law held.pages held.fits;
    slots_are = held.slots_are;
    pages_are = pages_of_placed_map d m law held.pages held.fits;
  },
)

-- the slots of an ordered table of a map's pages hold the map
pub HoldsPages-table_of : (d : Draw) (slots : List (List ℕ)) (m : PageMap) (table : Table) → IsLawful d
    → IsTableOf d slots m table → HoldsPages d slots m
HoldsPages-table_of d slots m table law is =
    subst (λ (ss : List (List ℕ)). HoldsPages d ss m) (sym is.slots_are)
    (subst (HoldsPages d (slots_of table)) is.pages_are (HoldsPages-slots_of d table law is.ordered))

-- the slots of two tables of pages tell them apart
pub slots_of_same : (a b : Table) → AllByRecursion IsSlot a → AllByRecursion IsSlot b → slots_of a ≡ slots_of b → a ≡ b
slots_of_same [] [] all_a all_b e = refl
slots_of_same [] (y ∷ b) all_a all_b e = cc
slots_of_same (x ∷ a) [] all_a all_b e = cc
slots_of_same (x ∷ a) (y ∷ b) all_a all_b e =
    ap₂ (λ z zs. z ∷ zs) (slots_same x y all_a.0 all_b.0 (heads_same e))
    (slots_of_same a b all_a.1 all_b.1 (tails_same e))

-- so slots hold one map at most, in one table
pub one_held_map : (d : Draw) (slots : List (List ℕ)) (m n : PageMap) (a b : Table) → IsTableOf d slots m a
    → IsTableOf d slots n b → (a ≡ b) × (m ≡ n)
one_held_map d slots m n a b is_a is_b =
    let same = slots_of_same a b (AllByRecursion-slots a is_a.ordered.pages) (AllByRecursion-slots b is_b.ordered.pages)
    (sym is_a.slots_are ∙ is_b.slots_are) in
    (same, sym is_a.pages_are ∙ ap (λ (t : Table). map_of_pages (pages_in t)) same ∙ is_b.pages_are)

-- ---- pages in slots, by lookups

-- what holds of all that a list holds
all_held : {X : Type 0} (P : X → Type 0) (xs : List X) → ((x : X) → Contains xs x → P x) → AllByRecursion P xs
all_held P [] f = tt
all_held P (x ∷ xs) f = (f x (held_first x xs), all_held P xs (λ y held. f y (held_later x xs y held)))

-- what is found under a label is a page of the list
pub listed_where_found : (pages : List Page) (bytes : List ℕ) (page : Page)
    → maps.get (map_of_pages pages) bytes ≡ Some page → Contains pages page
listed_where_found pages bytes page e =
    (found_passes (Contains pages) (λ p. eq_by_cmp (slice_cmp nat_cmp) bytes (label_bytes p.label)) pages page
    (all_held (Contains pages) pages (λ p held. held)) (sym (get-map_of_pages pages bytes) ∙ e)).0

-- a page of a list with distinct labels is found under its label
pub found_where_listed : (pages : List Page) (page : Page) → IsDistinct (eq_by_cmp label_cmp) (map (λ p. p.label) pages)
    → Contains pages page → page_at (map_of_pages pages) page.label ≡ Some page
unfolding IsDistinct
found_where_listed pages page distinct held = page_at-map_of_pages pages page.label
    ∙ among pages (distinct_from_map label_cmp (λ p. p.label) pages distinct) held
  where
    among : (ps : List Page) → IsDistinct (eq_by_cmp page_cmp) ps → Contains ps page
        → find (λ p. eq_by_cmp page_cmp page p) ps ≡ Some page
    among [] apart (k, l, e) = absurd (omega arith)
    among (p ∷ ps) apart held = by_case (held_cases p ps page held) (among ps apart.1)
      where
        by_case : (p ≡ page) ⊎ Contains ps page
            → (Contains ps page → find (λ q. eq_by_cmp page_cmp page q) ps ≡ Some page)
            → find (λ q. eq_by_cmp page_cmp page q) (p ∷ ps) ≡ Some page
        by_case (inl e) later = ap (λ o. cond (is_eq o) (Some p) (find (λ q. eq_by_cmp page_cmp page q) ps))
            (ap (page_cmp page) e ∙ tied_itself page_cmp_total page) ∙ ap Some e
        by_case (inr held) later = ap (λ b. cond b (Some p) (find (λ q. eq_by_cmp page_cmp page q) ps))
            ((eq_by_cmp_equiv page_cmp_total).symm page p
            ∙ held_all (λ q. eq_by_cmp page_cmp p q ≡ false) ps page apart.0 held) ∙ later held

-- a page under its label stands in a slot of the table
pub found_stands : (d : Draw) (slots : List (List ℕ)) (m : PageMap) (table : Table) (page : Page)
    → IsTableOf d slots m table → page_at m page.label ≡ Some page → (slot : ℕ) × HoldsPage table slot page
found_stands d slots m table page is e =
    some_slot table page (listed_where_found (pages_in table) (label_bytes page.label) page
    (ap (λ (n : PageMap). page_at n page.label) is.pages_are ∙ e))

-- and a page that a slot holds is under its label
pub standing_found : (d : Draw) (slots : List (List ℕ)) (m : PageMap) (table : Table) (slot : ℕ) (page : Page)
    → IsLawful d → IsTableOf d slots m table → HoldsPage table slot page → page_at m page.label ≡ Some page
standing_found d slots m table slot page law is held =
    ap (λ (n : PageMap). page_at n page.label) (sym is.pages_are)
    ∙ found_where_listed (pages_in table) page (distinct_labels_of_table d table law is.ordered)
    (held_contained table slot page held)

-- options that give the same are the same
same_options : {X : Type 0} (a b : Option X) → ((x : X) → a ≡ Some x → b ≡ Some x)
    → ((x : X) → b ≡ Some x → a ≡ Some x) → a ≡ b
same_options None None there back = refl
same_options None (Some y) there back = back y refl
same_options (Some x) b there back = sym (there x refl)

-- an ordered table holds a page map where its pages are those under their labels
pub HoldsPages-lookups : (d : Draw) (table : Table) (m : PageMap) → IsLawful d → IsOrderedTable d table → IsPageMap m
    → ((slot : ℕ) (page : Page) → HoldsPage table slot page → page_at m page.label ≡ Some page)
    → ((page : Page) → page_at m page.label ≡ Some page → (slot : ℕ) × HoldsPage table slot page)
    → HoldsPages d (slots_of table) m
HoldsPages-lookups d table m law ordered is there back =
    subst (HoldsPages d (slots_of table))
    (same_map nat_list_cmp_total (slice_cmp-IsAntisymmetric nat_cmp-IsAntisymmetric)
    (map_of_pages (pages_in table)) m alike) (HoldsPages-slots_of d table law ordered)
  where
    to : (bytes : List ℕ) (page : Page) → maps.get (map_of_pages (pages_in table)) bytes ≡ Some page
        → maps.get m bytes ≡ Some page
    to bytes page e =
        let under = IsPageMap-map_of_pages (pages_in table) ordered.pages bytes page e in
        let stands = some_slot table page (listed_where_found (pages_in table) bytes page e) in
        ap (maps.get m) under.under ∙ there stands.0 page stands.1

    from : (bytes : List ℕ) (page : Page) → maps.get m bytes ≡ Some page
        → maps.get (map_of_pages (pages_in table)) bytes ≡ Some page
    from bytes page e =
        let under = is bytes page e in
        let stands = back page (ap (maps.get m) (sym under.under) ∙ e) in
        ap (maps.get (map_of_pages (pages_in table))) under.under
        ∙ found_where_listed (pages_in table) page (distinct_labels_of_table d table law ordered)
        (held_contained table stands.0 page stands.1)

    alike : (bytes : List ℕ) → maps.get (map_of_pages (pages_in table)) bytes ≡ maps.get m bytes
    alike bytes = same_options (maps.get (map_of_pages (pages_in table)) bytes) (maps.get m bytes)
        (to bytes) (from bytes)

-- the placement of pages that rise by label holds their map
pub HoldsPages-place : (d : Draw) (pages : List Page) → length pages ≤ d.slots → AllByRecursion IsPage pages
    → IsStrictlySortedBy page_cmp pages → HoldsPages d (slots_of (place d pages)) (map_of_pages pages)
HoldsPages-place d pages room all up =
    let by_rank = pages_of_rising_map pages up in
    record {
      pages = IsPageMap-map_of_pages pages all;
      fits = omega (arith, len-pages_of_map (map_of_pages pages), ap length by_rank);
      slots_are = ap (λ (ps : List Page). slots_of (place d ps)) (sym by_rank);
    }

-- ---- the pages of a changed map by rank

-- a page with a new label goes into its place
pub pages_of_map-with_page : (m : PageMap) (page : Page) → IsPageMap m → page_at m page.label ≡ None
    → pages_of_map (with_page m page) ≡ insert_in_order page_cmp page (pages_of_map m)
unfolding in_order IsDistinct
pages_of_map-with_page m page is new =
    let pages = pages_of_map m in
    let whole = map_of_pages-pages_of_map m is in
    let distinct = distinct_page_map m is in
    ap (λ (n : PageMap). pages_of_map (with_page n page)) (sym whole)
    ∙ pages_of_map-map_of_pages (page ∷ pages) (
      all_map (λ other. eq_by_cmp label_cmp page.label other.label ≡ false)
          (λ l. eq_by_cmp label_cmp page.label l ≡ false) (λ other. other.label) (λ other e. e) pages
          (all_held (λ other. eq_by_cmp label_cmp page.label other.label ≡ false) pages
          (λ other held. apart other (found_where_listed pages other distinct held)
          (eq_by_cmp label_cmp page.label other.label) refl)),
      distinct,
    )
    ∙ ap (insert_in_order page_cmp page) (in_order_of_rising page_cmp pages (rising_page_map m is))
  where
    apart : (other : Page) → page_at (map_of_pages (pages_of_map m)) other.label ≡ Some other → (b : Bool)
        → eq_by_cmp label_cmp page.label other.label ≡ b → b ≡ false
    apart other found true e =
        let same : label_bytes page.label ≡ label_bytes other.label =
        same_bytes_of_tie (label_bytes page.label) (label_bytes other.label) e in
        let here : page_at m page.label ≡ Some other =
        ap (maps.get m) same ∙ ap (λ (n : PageMap). page_at n other.label) (sym (map_of_pages-pages_of_map m is))
        ∙ found in
        cc
    apart other found false e = refl

-- a filter of entries by their keys is one of their pages
filter-entries : (test : List ℕ → Bool) (pages : List Page)
    → filter (λ e. test e.0) (map entry_of pages) ≡ map entry_of (filter (λ page. test (label_bytes page.label)) pages)
filter-entries test [] = refl
filter-entries test (page ∷ pages) = picked (test (label_bytes page.label)) (filter-entries test pages)
  where
    picked : (b : Bool) → filter (λ e. test e.0) (map entry_of pages)
        ≡ map entry_of (filter (λ p. test (label_bytes p.label)) pages)
        → cond b (entry_of page ∷ filter (λ e. test e.0) (map entry_of pages))
        (filter (λ e. test e.0) (map entry_of pages))
        ≡ map entry_of (cond b (page ∷ filter (λ p. test (label_bytes p.label)) pages)
        (filter (λ p. test (label_bytes p.label)) pages))
    picked true rest = ap (λ es. entry_of page ∷ es) rest
    picked false rest = rest

-- what is taken out is left out
pub pages_of_map-without_page : (m : PageMap) (l : Label) → IsPageMap m
    → pages_of_map (without_page m l) ≡ filter (λ page. not (eq_by_cmp label_cmp l page.label)) (pages_of_map m)
pages_of_map-without_page m l is = ap pages_of_map same
    ∙ pages_of_rising_map left (IsStrictlySortedBy-filter page_cmp stays pages (rising_page_map m is))
  where
    pages : List Page
    pages = pages_of_map m

    other : List ℕ → Bool
    other bytes = not (eq_by_cmp (slice_cmp nat_cmp) (label_bytes l) bytes)

    stays : Page → Bool
    stays page = other (label_bytes page.label)

    left : List Page
    left = filter stays pages

    same : without_page m l ≡ map_of_pages left
    same = same_map nat_list_cmp_total (slice_cmp-IsAntisymmetric nat_cmp-IsAntisymmetric) (without_page m l)
        (map_of_pages left) (λ bytes. get-remove nat_list_cmp_total m (label_bytes l) bytes
        ∙ taken bytes ∙ sym (kept bytes))
      where
        kept : (bytes : List ℕ) → maps.get (map_of_pages left) bytes ≡ cond (other bytes) (maps.get m bytes) None
        kept bytes =
            get-from_entries nat_list_cmp_total (map entry_of left) bytes
            ∙ ap (entries.find (slice_cmp nat_cmp) bytes) (sym (filter-entries other pages))
            ∙ entries.find-where_key (slice_cmp nat_cmp) other bytes
            (λ x e. ap other (sym (slice_cmp-IsAntisymmetric nat_cmp-IsAntisymmetric bytes x e)))
            (map entry_of pages)
            ∙ ap (λ found. cond (other bytes) found None)
            (ap (entries.find (slice_cmp nat_cmp) bytes) (sym (entries_of_page_map m is))
            ∙ sym (get-entries m bytes))

        turned : (b : Bool) (found : Option Page) → cond b None found ≡ cond (not b) found None
        turned true found = refl
        turned false found = refl

        taken : (bytes : List ℕ) → cond (eq_by_cmp (slice_cmp nat_cmp) bytes (label_bytes l)) None (maps.get m bytes)
            ≡ cond (other bytes) (maps.get m bytes) None
        taken bytes =
            ap (λ b. cond b None (maps.get m bytes)) ((eq_by_cmp_equiv nat_list_cmp_total).symm bytes (label_bytes l))
            ∙ turned (eq_by_cmp (slice_cmp nat_cmp) (label_bytes l) bytes) (maps.get m bytes)

-- ---- the pages of pairs and trees

-- the pages of a list of pairs are those of their map, by rank
pub pages_of_pairs_map : (d : Draw) (s : List Pair) → IsPairs s → length s ≤ 4294967296
    → pages_of_map (map_of_pages (pages_of_pairs d s)) ≡ pages_of_pairs d s
pages_of_pairs_map d s pairs few = pages_of_rising_map (pages_of_pairs d s)
    (rising_pages d s (keyed s (record { pairs = pairs; few = few })))

-- and their map is a page map
pub IsPageMap-pages_of_pairs : (d : Draw) (s : List Pair) → d.height ≤ 256 → IsPairs s → length s ≤ 4294967296
    → IsPageMap (map_of_pages (pages_of_pairs d s))
IsPageMap-pages_of_pairs d s low pairs few =
    IsPageMap-map_of_pages (pages_of_pairs d s) (pages_are_pages d s low (record { pairs = pairs; few = few }))

-- the slots of a tree hold the map of its pages
pub HoldsPages-tree : (t : Tree) (p : Parameters) → IsParameters p → IsTree t → Fits t p
    → HoldsPages (draw_of p) (slots_of (place (draw_of p) (pages t p))) (map_of_pages (pages t p))
unfolding draw_of pages
HoldsPages-tree t p is tree fits =
    HoldsPages-place (draw_of p) (pages t p) fits.room (tree_pages_are_pages t p is tree fits)
    (rising_pages (draw_of p) (pairs t p) (keyed (pairs t p) (pair_list_of_tree t p is tree fits)))
