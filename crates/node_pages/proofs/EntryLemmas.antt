-- What each call makes of pages in memory, and of the map that they are.
use Rattle.std.proofs.Common.{◌≡◌, ℕ, zero, suc, ◌+◌, ◌<◌, ◌≤◌, List, [], ◌∷◌, ◌++◌, map, length, get_or, set, take}
use Rattle.std.proofs.Common.{drop, Bool, true, false, not, cond, T, IsTrue, Some, None, refl, sym, ap, ap₂, subst, ◌∙◌}
use Rattle.std.proofs.Common.{arith}
use Rattle.std.specs.Ordering.{is_eq, eq_by_cmp}
use Rattle.std.specs.List.{AllByRecursion, insert, remove}
use Rattle.std.specs.Cmp.Lexicographic.{nat_list_cmp_total}
use Rattle.std.specs.Cmp.{alike_right, eq_by_cmp_equiv}
use Rattle.std.specs.FinMap.{find, put, is_sorted, entries-from_sorted, get-from_sorted, entries-insert, get-remove}
use Rattle.std.specs.FinMap.{same_entries_map, same_map, entries, empty, len, len-entries, len-empty, len-insert}
use Rattle.std.specs.FinMap.{contains_key, slice_cmp-IsAntisymmetric, nat_cmp-IsAntisymmetric}
use Rattle.std.specs.FinMap.Entries.{is_sorted-put, is_sorted-where_key, find-where_key}
use Rattle.std.proofs.lemmas.List.{length-map, map-set, map-append, take-map, drop-map}
use Rattle.store_model.specs.Paths.{key_cmp}
use Rattle.store_model.specs.Labels.{Label, label_bytes}
use Rattle.store_model.specs.Pages.{Page, IsPage}
use Rattle.store_model.specs.PageMaps.{PageMap, page_at, with_page, without_page}
use Rattle.store_model.proofs.ListsLemmas.{all_append}
use Rattle.node_pages.specs.PageEntries.{entry_of, map_of_sorted}
use Rattle.node_pages.specs.EntryPlaces.{StandsAt, LacksAt, without_key}

-- a test that holds
pub true_from_holds : (b : Bool) → T b → IsTrue b
true_from_holds true h = refl
true_from_holds false h = absurd h

turned : {X : Type 0} (b : Bool) (x y : X) → cond (not b) x y ≡ cond b y x
turned true x y = refl
turned false x y = refl

-- ---- edits of lists

pub map-insert : {X Y : Type 0} (f : X → Y) (xs : List X) (i : ℕ) (x : X)
    → map f (insert xs i x) ≡ insert (map f xs) i (f x)
map-insert f xs i x = map-append f (take i xs) (x ∷ drop i xs)
    ∙ ap₂ (λ front back. front ++ f x ∷ back) (sym (take-map f i xs)) (sym (drop-map f i xs))

pub map-remove : {X Y : Type 0} (f : X → Y) (xs : List X) (i : ℕ) → map f (remove xs i) ≡ remove (map f xs) i
map-remove f xs i = map-append f (take i xs) (drop (suc i) xs)
    ∙ ap₂ (λ front back. front ++ back) (sym (take-map f i xs)) (sym (drop-map f (suc i) xs))

all_set : {X : Type 0} (P : X → Type 0) (xs : List X) (i : ℕ) (x : X) → P x → AllByRecursion P xs
    → AllByRecursion P (set xs i x)
all_set P [] i x here h = tt
all_set P (y ∷ ys) zero x here h = (here, h.1)
all_set P (y ∷ ys) (suc i) x here h = (h.0, all_set P ys i x here h.1)

pub all_take : {X : Type 0} (P : X → Type 0) (n : ℕ) (xs : List X) → AllByRecursion P xs → AllByRecursion P (take n xs)
all_take P zero xs h = tt
all_take P (suc n) [] h = tt
all_take P (suc n) (x ∷ xs) h = (h.0, all_take P n xs h.1)

pub all_drop : {X : Type 0} (P : X → Type 0) (n : ℕ) (xs : List X) → AllByRecursion P xs → AllByRecursion P (drop n xs)
all_drop P zero xs h = h
all_drop P (suc n) [] h = tt
all_drop P (suc n) (x ∷ xs) h = all_drop P n xs h.1

-- ---- pages that a map is made of

-- where the page of a label stands there is an item
pub stands_within : {A : Type 0} (page_of : A → Page) (items : List A) (key : List ℕ) (at : ℕ)
    → StandsAt (map entry_of (map page_of items)) key at → at < length items
stands_within page_of items key at stands =
    subst (λ (n : ℕ). at < n) (length-map (map page_of items) entry_of ∙ length-map items page_of) stands.within

-- pages that come by rising label, and the map that they are
pub record AreMap (pages : List Page) (m : PageMap) : Type 0 where
  pub sorted : IsTrue (is_sorted key_cmp (map entry_of pages))
  pub valid : AllByRecursion IsPage pages
  pub map_is : map_of_sorted pages ≡ m

module _ (pages : List Page) (sorted : IsTrue (is_sorted key_cmp (map entry_of pages)))
    (valid : AllByRecursion IsPage pages) where
  holds : T (is_sorted key_cmp (map entry_of pages))
  holds = subst T (sym sorted) tt

  pub page_there : (label : Label) (at : ℕ) (d : Page) → StandsAt (map entry_of pages) (label_bytes label) at
      → page_at (map_of_sorted pages) label ≡ Some (get_or pages at d)
  page_there label at d h =
      get-from_sorted key_cmp (map entry_of pages) (label_bytes label) holds ∙ h.found (entry_of d)
      ∙ ap Some (same_place pages at)
    where
      same_place : (ps : List Page) (i : ℕ) → (get_or (map entry_of ps) i (entry_of d)).1 ≡ get_or ps i d
      same_place [] i = refl
      same_place (p ∷ ps) zero = refl
      same_place (p ∷ ps) (suc i) = same_place ps i

  pub no_page : (label : Label) (at : ℕ) → LacksAt (map entry_of pages) (label_bytes label) at
      → page_at (map_of_sorted pages) label ≡ None
  no_page label at h = get-from_sorted key_cmp (map entry_of pages) (label_bytes label) holds ∙ h.found

  -- pages whose entries are the old ones with one put
  pub put_pages : (new : List Page) (page : Page) → AllByRecursion IsPage new
      → map entry_of new ≡ put key_cmp (label_bytes page.label) page (map entry_of pages)
      → AreMap new (with_page (map_of_sorted pages) page)
  put_pages new page all is =
      let rises = true_from_holds _
      (subst (λ es. T (is_sorted key_cmp es)) (sym is)
      (is_sorted-put key_cmp nat_list_cmp_total (label_bytes page.label) page (map entry_of pages) holds)) in
      record {
        sorted = rises;
        valid = all;
        map_is = same_entries_map (map_of_sorted new) (with_page (map_of_sorted pages) page)
            (entries-from_sorted key_cmp (map entry_of new) (subst T (sym rises) tt) ∙ is
            ∙ sym (entries-insert nat_list_cmp_total (map_of_sorted pages) (label_bytes page.label) page
            ∙ ap (put key_cmp (label_bytes page.label) page)
            (entries-from_sorted key_cmp (map entry_of pages) holds)));
      }

  pub overwritten : (page : Page) (at : ℕ) → IsPage page → StandsAt (map entry_of pages) (label_bytes page.label) at
      → AreMap (set pages at page) (with_page (map_of_sorted pages) page)
  overwritten page at is h = put_pages (set pages at page) page (all_set IsPage pages at page is valid)
      (map-set entry_of pages at page ∙ sym (h.put page))

  pub inserted : (page : Page) (at : ℕ) → IsPage page → LacksAt (map entry_of pages) (label_bytes page.label) at
      → AreMap (insert pages at page) (with_page (map_of_sorted pages) page)
  inserted page at is h =
      put_pages (insert pages at page) page
      (all_append IsPage (take at pages) (page ∷ drop at pages) (all_take IsPage at pages valid)
      (is, all_drop IsPage at pages valid))
      (map-insert entry_of pages at page ∙ sym (h.put page))

  -- pages whose entries are the old ones without those of a label
  pub dropped_pages : (new : List Page) (label : Label) → AllByRecursion IsPage new
      → map entry_of new ≡ without_key (label_bytes label) (map entry_of pages)
      → AreMap new (without_page (map_of_sorted pages) label)
  dropped_pages new label all is =
      let key = label_bytes label in
      let keeps = λ (k : List ℕ). not (is_eq (key_cmp key k)) in
      let rises = true_from_holds _
      (subst (λ es. T (is_sorted key_cmp es)) (sym is)
      (is_sorted-where_key key_cmp keeps (map entry_of pages) holds)) in
      record {
        sorted = rises;
        valid = all;
        map_is = same_map nat_list_cmp_total (slice_cmp-IsAntisymmetric nat_cmp-IsAntisymmetric) (map_of_sorted new)
            (without_page (map_of_sorted pages) label) (λ q.
            get-from_sorted key_cmp (map entry_of new) q (subst T (sym rises) tt) ∙ ap (find key_cmp q) is ∙ gone q
            ∙ sym (get-remove nat_list_cmp_total (map_of_sorted pages) key q
            ∙ ap (cond (eq_by_cmp key_cmp q key) None) (get-from_sorted key_cmp (map entry_of pages) q holds)));
      }
    where
      gone : (q : List ℕ) → find key_cmp q (without_key (label_bytes label) (map entry_of pages))
          ≡ cond (eq_by_cmp key_cmp q (label_bytes label)) None (find key_cmp q (map entry_of pages))
      gone q =
          find-where_key key_cmp (λ k. not (eq_by_cmp key_cmp (label_bytes label) k)) q
          (λ k t. ap (λ r. not (is_eq r)) (sym (alike_right nat_list_cmp_total q k (label_bytes label) t)))
          (map entry_of pages)
          ∙ turned (eq_by_cmp key_cmp (label_bytes label) q) (find key_cmp q (map entry_of pages)) None
          ∙ ap (λ b. cond b None (find key_cmp q (map entry_of pages)))
          ((eq_by_cmp_equiv nat_list_cmp_total).symm (label_bytes label) q)

  pub dropped : (label : Label) (at : ℕ) → StandsAt (map entry_of pages) (label_bytes label) at
      → AreMap (remove pages at) (without_page (map_of_sorted pages) label)
  dropped label at h =
      dropped_pages (remove pages at) label
      (all_append IsPage (take at pages) (drop (suc at) pages) (all_take IsPage at pages valid)
      (all_drop IsPage (suc at) pages valid))
      (map-remove entry_of pages at ∙ sym h.taken)

  pub nothing_dropped : (label : Label) (at : ℕ) → LacksAt (map entry_of pages) (label_bytes label) at
      → AreMap pages (without_page (map_of_sorted pages) label)
  nothing_dropped label at h = dropped_pages pages label valid (sym h.taken)

get_or-map : {X Y : Type 0} (f : X → Y) (xs : List X) (i : ℕ) (d : X) → get_or (map f xs) i (f d) ≡ f (get_or xs i d)
get_or-map f [] i d = refl
get_or-map f (x ∷ xs) zero d = refl
get_or-map f (x ∷ xs) (suc i) d = get_or-map f xs i d

-- items that each hold a page
module _ {B : Type 0} (page_of : B → Page) (items : List B)
    (sorted : IsTrue (is_sorted key_cmp (map entry_of (map page_of items))))
    (valid : AllByRecursion IsPage (map page_of items)) where
  pub item_there : (label : Label) (at : ℕ) (item : B) → item ≡ get_or items at item
      → StandsAt (map entry_of (map page_of items)) (label_bytes label) at
      → page_at (map_of_sorted (map page_of items)) label ≡ Some (page_of item)
  item_there label at item is h =
      page_there (map page_of items) sorted valid label at (page_of item) h
      ∙ ap Some (get_or-map page_of items at item ∙ ap page_of (sym is))

  pub item_overwritten : (item : B) (page : Page) (at : ℕ) → page_of item ≡ page → IsPage page
      → StandsAt (map entry_of (map page_of items)) (label_bytes page.label) at
      → AreMap (map page_of (set items at item)) (with_page (map_of_sorted (map page_of items)) page)
  item_overwritten item page at is valid_page h =
      subst (λ pages. AreMap pages (with_page (map_of_sorted (map page_of items)) page))
      (ap (set (map page_of items) at) (sym is) ∙ sym (map-set page_of items at item))
      (overwritten (map page_of items) sorted valid page at valid_page h)

  pub item_inserted : (item : B) (page : Page) (at : ℕ) → page_of item ≡ page → IsPage page
      → LacksAt (map entry_of (map page_of items)) (label_bytes page.label) at
      → AreMap (map page_of (insert items at item)) (with_page (map_of_sorted (map page_of items)) page)
  item_inserted item page at is valid_page h =
      subst (λ pages. AreMap pages (with_page (map_of_sorted (map page_of items)) page))
      (ap (insert (map page_of items) at) (sym is) ∙ sym (map-insert page_of items at item))
      (inserted (map page_of items) sorted valid page at valid_page h)

  pub item_dropped : (label : Label) (at : ℕ) → StandsAt (map entry_of (map page_of items)) (label_bytes label) at
      → AreMap (map page_of (remove items at)) (without_page (map_of_sorted (map page_of items)) label)
  item_dropped label at h =
      subst (λ pages. AreMap pages (without_page (map_of_sorted (map page_of items)) label))
      (sym (map-remove page_of items at))
      (dropped (map page_of items) sorted valid label at h)

  -- so are the items where memory for one more ran out
  pub rises_either_way : (b : Bool) (item : B) (at : ℕ) (m : PageMap) → AreMap (map page_of (insert items at item)) m
      → IsTrue (is_sorted key_cmp (map entry_of (map page_of (cond b (insert items at item) items))))
  rises_either_way true item at m h = h.sorted
  rises_either_way false item at m h = sorted

  pub valid_either_way : (b : Bool) (item : B) (at : ℕ) (m : PageMap) → AreMap (map page_of (insert items at item)) m
      → AllByRecursion IsPage (map page_of (cond b (insert items at item) items))
  valid_either_way true item at m h = h.valid
  valid_either_way false item at m h = valid

-- ---- how many pages there are

-- no page is the empty map
pub map_of_none : map_of_sorted [] ≡ empty
map_of_none = same_entries_map (map_of_sorted []) empty (entries-from_sorted key_cmp [] tt ∙ sym (entries_of_empty))
  where
    entries_of_empty : entries (empty {X = Page} {R = key_cmp}) ≡ []
    entries_of_empty = no_entries (entries empty)
        (sym (len-entries (empty {X = Page} {R = key_cmp})) ∙ len-empty key_cmp Page)
      where
        no_entries : (es : List (List ℕ × Page)) → length es ≡ 0 → es ≡ []
        no_entries [] e = refl
        no_entries (x ∷ es) e = absurd (omega arith)

-- a put adds one at most
pub len-with_page : (m : PageMap) (page : Page) → len (with_page m page) ≤ len m + 1
len-with_page m page = subst (λ n. n ≤ len m + 1) (sym (len-insert nat_list_cmp_total m (label_bytes page.label) page))
    (by_test (contains_key m (label_bytes page.label)))
  where
    by_test : (b : Bool) → cond b (len m) (len m + 1) ≤ len m + 1
    by_test true = omega arith
    by_test false = omega arith
