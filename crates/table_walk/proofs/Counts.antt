-- How many pages with distinct labels there are among others.
use Rattle.std.proofs.Common.{◌≡◌, ◌+◌, ◌≤◌, ◌⊎◌, inl, inr, true, false, List, [], ◌∷◌, ◌++◌, length, map, sym, ap}
use Rattle.std.proofs.Common.{subst, ◌∙◌, arith}
use Rattle.std.specs.List.{Contains, IsDistinct, AllByRecursion}
use Rattle.std.specs.FinMap as maps
use Rattle.std.specs.Ordering.{eq_by_cmp, is_eq}
use Rattle.std.specs.Cmp.{tied_itself}
use Rattle.std.specs.Cmp.Lexicographic.{nat_list_cmp_total}
use Rattle.std.proofs.lemmas.List.Elements.{Contains-append_left, Contains-append_right, Contains-append_cases}
use Rattle.store_model.specs.Labels.{Label, label_bytes, label_cmp}
use Rattle.store_model.specs.Pages.{Page}
use Rattle.store_model.specs.PageMaps.{PageMap, page_at, pages_of_map, IsPageMap}
use Rattle.store_model.proofs.ListsLemmasOrder.{held_cases, held_first, held_later}
use Rattle.store_model.proofs.PageMapsLemmas.{map_of_pages-pages_of_map, len-pages_of_map, distinct_page_map}
use Rattle.store_model.proofs.PageMapsLemmas.{listed_where_found, found_where_listed}
use Rattle.table_walk.specs.Walked.{InMap, AreDistinct}
use Rattle.table_walk.proofs.KeyOrder.{none_in}

-- a list parted at one of its elements
record Parted (x : Page) (xs : List Page) : Type 0 where
  front : List Page
  back : List Page
  parts : xs ≡ front ++ x ∷ back

parted : (x : Page) (xs : List Page) → Contains xs x → Parted x xs
parted x [] held = absurd (none_in x held)
parted x (y ∷ ys) held = by_place (parted x ys) (held_cases y ys x held)
  where
    by_place : (Contains ys x → Parted x ys) → (y ≡ x) ⊎ Contains ys x → Parted x (y ∷ ys)
    by_place rest (inl same) = record { front = []; back = ys; parts = ap (λ (z : Page). z ∷ ys) same }
    by_place rest (inr later) = let p = rest later in record {
      front = y ∷ p.front;
      back = p.back;
      parts = ap (λ (zs : List Page). y ∷ zs) p.parts;
    }

-- another element of the list is in one of the two parts
in_rest : (x z : Page) (front back : List Page) → (x ≡ z → ⊥) → Contains (front ++ x ∷ back) z
    → Contains (front ++ back) z
in_rest x z front back other held = by_place (Contains-append_cases front (x ∷ back) z held)
  where
    by_back : (x ≡ z) ⊎ Contains back z → Contains (front ++ back) z
    by_back (inl same) = absurd (other same)
    by_back (inr later) = Contains-append_right front back z later

    by_place : Contains front z ⊎ Contains (x ∷ back) z → Contains (front ++ back) z
    by_place (inl held) = Contains-append_left front back z held
    by_place (inr held) = by_back (held_cases x back z held)

rest_in : (x z : Page) (front back : List Page) → Contains (front ++ back) z → Contains (front ++ x ∷ back) z
rest_in x z front back held = by_place (Contains-append_cases front back z held)
  where
    by_place : Contains front z ⊎ Contains back z → Contains (front ++ x ∷ back) z
    by_place (inl held) = Contains-append_left front (x ∷ back) z held
    by_place (inr held) = Contains-append_right front (x ∷ back) z (held_later x back z held)

length_parted : (x : Page) (front back : List Page) → length (front ++ x ∷ back) ≡ length (front ++ back) + 1
length_parted x [] back = omega arith
length_parted x (y ∷ front) back = let rest = length_parted x front back in omega (arith, rest)

-- a page that is another one's has another label
other_page : (x : Page) (xs : List Page) → AreDistinct (x ∷ xs) → (z : Page) → Contains xs z → x ≡ z → ⊥
other_page x xs distinct z held same = distinct.0 z held (ap (λ (page : Page). page.label) (sym same))

-- distinct pages among others are no more than these
pub length_within : (xs ys : List Page) → AreDistinct xs → ((z : Page) → Contains xs z → Contains ys z)
    → length xs ≤ length ys
length_within [] ys distinct within = omega arith
length_within (x ∷ xs) ys distinct within =
    let p = parted x ys (within x (held_first x xs)) in
    let fewer = length_within xs (p.front ++ p.back)
    distinct.1 (λ z held. in_rest x z p.front p.back (other_page x xs distinct z held)
    (subst (λ (l : List Page). Contains l z) p.parts (within z (held_later x xs z held)))) in
    let count = length_parted x p.front p.back in
    omega (arith, ap length p.parts)

-- and where they are no fewer, they are just these
pub within_back : (xs ys : List Page) → AreDistinct xs → ((z : Page) → Contains xs z → Contains ys z)
    → length ys ≤ length xs → (z : Page) → Contains ys z → Contains xs z
within_back [] [] distinct within most z held = held
within_back [] (y ∷ ys) distinct within most z held = absurd (omega arith)
within_back (x ∷ xs) ys distinct within most z held =
    let p = parted x ys (within x (held_first x xs)) in
    let count = length_parted x p.front p.back in
    let back = within_back xs (p.front ++ p.back)
    distinct.1 (λ w h. in_rest x w p.front p.back (other_page x xs distinct w h)
    (subst (λ (l : List Page). Contains l w) p.parts (within w (held_later x xs w h))))
    (omega (arith, ap length p.parts)) in
    by_front p.front p.back back
    (Contains-append_cases p.front (x ∷ p.back) z (subst (λ (l : List Page). Contains l z) p.parts held))
  where
    by_back : (front back : List Page) → ((w : Page) → Contains (front ++ back) w → Contains xs w)
        → (x ≡ z) ⊎ Contains back z → Contains (x ∷ xs) z
    by_back front back all (inl same) = subst (Contains (x ∷ xs)) same (held_first x xs)
    by_back front back all (inr later) = held_later x xs z (all z (Contains-append_right front back z later))

    by_front : (front back : List Page) → ((w : Page) → Contains (front ++ back) w → Contains xs w)
        → Contains front z ⊎ Contains (x ∷ back) z → Contains (x ∷ xs) z
    by_front front back all (inl held) = held_later x xs z (all z (Contains-append_left front back z held))
    by_front front back all (inr held) = by_back front back all (held_cases x back z held)

-- ---- the pages of a map

-- a page map has the pages of its list
pub listed : (m : PageMap) → IsPageMap m → (page : Page) → InMap m page → Contains (pages_of_map m) page
listed m is page there = listed_where_found (pages_of_map m) (label_bytes page.label) page
    (ap (λ (n : PageMap). maps.get n (label_bytes page.label)) (map_of_pages-pages_of_map m is) ∙ there)

pub unlisted : (m : PageMap) → IsPageMap m → (page : Page) → Contains (pages_of_map m) page → InMap m page
unlisted m is page held = ap (λ (n : PageMap). page_at n page.label) (sym (map_of_pages-pages_of_map m is))
    ∙ found_where_listed (pages_of_map m) page (distinct_page_map m is) held

-- labels that differ by their order differ
apart_from : (page : Page) (pages : List Page)
    → AllByRecursion (λ l. eq_by_cmp label_cmp page.label l ≡ false) (map (λ p. p.label) pages) → (other : Page)
    → Contains pages other → other.label ≡ page.label → ⊥
apart_from page [] all other held same = none_in other held
apart_from page (p ∷ ps) all other held same =
    by_place (λ later. apart_from page ps all.1 other later same) (held_cases p ps other held)
  where
    by_place : (Contains ps other → ⊥) → (p ≡ other) ⊎ Contains ps other → ⊥
    by_place rest (inl is) =
        let tied : eq_by_cmp label_cmp page.label p.label ≡ true =
        subst (λ (l : Label). eq_by_cmp label_cmp page.label l ≡ true)
        (sym same ∙ ap (λ (q : Page). q.label) (sym is))
        (ap is_eq (tied_itself nat_list_cmp_total (label_bytes page.label))) in
        let other_is = all.0 in cc
    by_place rest (inr later) = rest later

distinct_from : (pages : List Page) → IsDistinct (eq_by_cmp label_cmp) (map (λ p. p.label) pages) → AreDistinct pages
unfolding IsDistinct
distinct_from [] distinct = tt
distinct_from (page ∷ pages) distinct = (apart_from page pages distinct.0, distinct_from pages distinct.1)

pub distinct_in_map : (m : PageMap) → IsPageMap m → AreDistinct (pages_of_map m)
distinct_in_map m is = distinct_from (pages_of_map m) (distinct_page_map m is)

-- so many distinct pages of the map are all
pub all_in_map : (m : PageMap) (pages : List Page) → IsPageMap m → AreDistinct pages
    → ((page : Page) → Contains pages page → InMap m page) → length pages ≡ maps.len m → (page : Page)
    → InMap m page → Contains pages page
all_in_map m pages is distinct there count page held =
    within_back pages (pages_of_map m) distinct (λ p h. listed m is p (there p h))
    (omega (arith, count, len-pages_of_map m)) page (listed m is page held)

-- distinct pages of the map are no more than it has
pub few_in_map : (m : PageMap) (pages : List Page) → IsPageMap m → AreDistinct pages
    → ((page : Page) → Contains pages page → InMap m page) → length pages ≤ maps.len m
few_in_map m pages is distinct there = let few =
    length_within pages (pages_of_map m) distinct (λ p h. listed m is p (there p h))
    in omega (arith, len-pages_of_map m)

-- and no fewer where they are all
pub many_in_map : (m : PageMap) (pages : List Page) → IsPageMap m → ((page : Page) → InMap m page → Contains pages page)
    → maps.len m ≤ length pages
many_in_map m pages is all = let few =
    length_within (pages_of_map m) pages (distinct_in_map m is) (λ p h. all p (unlisted m is p h))
    in omega (arith, len-pages_of_map m)
