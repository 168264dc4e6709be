-- The table of a placement is in order, and is the only table in order of its pages.
use Rattle.std.proofs.Common.{◌≡◌, ◌≢◌, ℕ, zero, suc, ◌+◌, ◌-◌, ◌%◌, ◌<◌, ◌≤◌, List, [], ◌∷◌, Bool, true, false, cond}
use Rattle.std.proofs.Common.{Option, Some, None, length, map, get_or, replicate, slice_get, slice_set, refl, ap, sym}
use Rattle.std.proofs.Common.{subst, ◌∙◌, ◌⊎◌, inl, inr, ⊎_elim, arith, length-set}
use Rattle.std.specs.List.{find, IsDistinct, AllByRecursion, Contains}
use Rattle.std.specs.List.Sorted.{IsPermutation, IsStrictlySortedBy}
use Rattle.std.specs.declared.cmp.Ordering.{Ordering}
use Rattle.std.specs.declared.cmp.Ordering.TheVariants.{Less}
use Rattle.std.specs.Ordering.{eq_by_cmp}
use Rattle.std.specs.Cmp.{IsTotalOrder}
use Rattle.std.proofs.Math.Nat.{mod-eq_of_lt, add-mod_left}
use Rattle.std.proofs.lemmas.Bool.{cases_lt}
use Rattle.std.proofs.lemmas.Cmp.{tied_itself, on_total, eq_by_cmp_equiv}
use Rattle.std.proofs.lemmas.List.{length-map, length-replicate, get_or-map, get_or_default, ext_get_or}
use Rattle.std.proofs.lemmas.List.Sorted.{length_permutation, Contains-permutation, IsPermutation-map}
use Rattle.std.proofs.lemmas.List.Sorted.{IsPermutation-sym, IsPermutation-trans}
use Rattle.std.proofs.lemmas.Map.Keys.{IsDistinct-IsPermutation, Less-from_sorted}
use Rattle.std.proofs.lemmas.Option.{same_Some, slice_get_within, slice_get-get_or}
use Rattle.store_model.specs.Lists.{numbers_below, in_order}
use Rattle.store_model.specs.Labels.{Label, label_cmp}
use Rattle.store_model.specs.Draws.{Draw, IsLawful}
use Rattle.store_model.specs.Pages.{Page}
use Rattle.store_model.specs.Placement.{Table, probe, probes, is_free, put_at, put_first_free, put_all, page_cmp, place}
use Rattle.store_model.specs.Placement.{pages_in, HoldsPage, IsInOrder}
use Rattle.store_model.proofs.ListsLemmas.{all_with, all_none}
use Rattle.store_model.proofs.ListsLemmasOrder.{sorted_in_order, distinct_from_map}
use Rattle.store_model.proofs.PlacementLemmas.{length-numbers_from, get_or-numbers_from, IsPermutation-in_order}
use Rattle.store_model.proofs.PlacementLemmas.{probe_reaches, length-place, IsPermutation-place, label_cmp_total}
use Rattle.store_model.proofs.PlacementLemmas.{first_free, one_slot, some_slot, IsDistinct-place, IsPermutation-put}
use Rattle.store_model.proofs.PlacementLemmas.{pages_in-replicate}

-- pages are in a total order, by their labels
pub page_cmp_total : IsTotalOrder page_cmp
page_cmp_total = on_total (λ (page : Page). page.label) label_cmp_total

-- what is found is the first that passes
record IsFirst {X : Type 0} (test : X → Bool) (xs : List X) (x : X) (i : ℕ) : Type 0 where
  within : i < length xs
  is : (d : X) → get_or xs i d ≡ x
  passes : test x ≡ true
  before : (k : ℕ) (d : X) → k < i → test (get_or xs k d) ≡ false

-- what a search finds is the first that passes
first_found : {X : Type 0} (test : X → Bool) (xs : List X) (x : X) → find test xs ≡ Some x
    → (i : ℕ) × IsFirst test xs x i
first_found test [] x e = cc
first_found {X} test (y ∷ ys) x e = picked (test y) refl e (first_found test ys x)
  where
    picked : (b : Bool) → test y ≡ b → cond b (Some y) (find test ys) ≡ Some x
        → (find test ys ≡ Some x → (i : ℕ) × IsFirst test ys x i) → (i : ℕ) × IsFirst test (y ∷ ys) x i
    picked true t e rest = (
      zero,
      record {
        within = omega arith;
        is = λ d. same_Some y x e;
        passes = ap test (sym (same_Some y x e)) ∙ t;
        before = λ k d h. absurd (omega arith);
      },
    )
    picked false t e rest = let r = rest e
        in (
          suc r.0,
          record {
            within = omega (arith, r.1.within);
            is = r.1.is;
            passes = r.1.passes;
            before = λ k d h. before_suc r.0 (r.1.before) k d h;
          },
        )
      where
        before_suc : (i : ℕ) → ((k : ℕ) (d : X) → k < i → test (get_or ys k d) ≡ false) → (k : ℕ) (d : X) → k < suc i
            → test (get_or (y ∷ ys) k d) ≡ false
        before_suc i f zero d h = t
        before_suc i f (suc k) d h = f k d (omega arith)

-- slot number i of a probe sequence is i behind the start, once round at most
probe_value : (slots start i : ℕ) → start < slots → i < slots
    → ((probe slots start i ≡ start + i) × (start + i < slots)) ⊎ (probe slots start i + slots ≡ start + i)
probe_value slots start i s h = ⊎_elim (λ (low : start + i < slots). inl (mod-eq_of_lt low, low))
    (λ (high : slots ≤ start + i). inr (round high)) (cases_lt (start + i) slots)
  where
    round : slots ≤ start + i → (start + i) % slots + slots ≡ start + i
    round high =
        let e : start + i ≡ slots + (start + i - slots) = omega arith in
        let m : (start + i) % slots ≡ start + i - slots =
        ap (λ (n : ℕ). n % slots) e ∙ add-mod_left slots (start + i - slots) ∙ mod-eq_of_lt (omega arith) in
        omega arith

-- the probe sequence passes each slot once
pub probe_once : (slots start i j : ℕ) → start < slots → i < slots → j < slots
    → probe slots start i ≡ probe slots start j → i ≡ j
probe_once slots start i j s h g e = omega (arith, probe_value slots start i s h, probe_value slots start j s g)

-- slot number k of the probe sequence
get_or-probes : (d : Draw) (l : Label) (k e : ℕ) → k < d.slots → get_or (probes d l) k e ≡ probe d.slots (d.start l) k
unfolding probes
get_or-probes d l k e h = get_or-map (probe d.slots (d.start l)) (numbers_below d.slots) k 0 e
    (omega (arith, length-numbers_from 0 d.slots))
    ∙ ap (probe d.slots (d.start l)) (get_or-numbers_from 0 d.slots k 0 h ∙ omega arith)

-- a probe sequence has as many slots as the table
length-probes : (d : Draw) (l : Label) → length (probes d l) ≡ d.slots
unfolding probes
length-probes d l = length-map (numbers_below d.slots) (probe d.slots (d.start l)) ∙ length-numbers_from 0 d.slots

-- a slot that is not free holds a page
taken_holds : (table : Table) (slot : ℕ) → slot < length table → is_free table slot ≡ false
    → (other : Page) × HoldsPage table slot other
taken_holds [] slot h e = absurd (omega arith)
taken_holds (None ∷ table) zero h e = cc
taken_holds (Some page ∷ table) zero h e = (page, refl)
taken_holds (slot' ∷ table) (suc slot) h e = taken_holds table slot (omega arith) e

-- the first free slot of a page's probe sequence
record IsFirstFree (d : Draw) (table : Table) (page : Page) (slot index : ℕ) : Type 0 where
  at : find (is_free table) (probes d page.label) ≡ Some slot
  empty : slice_get table slot ≡ Some None
  within : index < d.slots
  is : probe d.slots (d.start page.label) index ≡ slot
  before : (k : ℕ) → k < index → (other : Page) × HoldsPage table (probe d.slots (d.start page.label) k) other

-- a table with room has such a slot
first_free_slot : (d : Draw) (table : Table) (page : Page) → IsLawful d → length table ≡ d.slots
    → length (pages_in table) < d.slots → (slot : ℕ) × (index : ℕ) × IsFirstFree d table page slot index
first_free_slot d table page law is room =
    let f = first_free d table page law is room in
    let first = first_found (is_free table) (probes d page.label) f.0 f.1 in
    let inside : first.0 < d.slots = omega (arith, first.1.within, length-probes d page.label) in (
      f.0,
      first.0,
      record {
        at = f.1;
        empty = f.2;
        within = inside;
        is = sym (get_or-probes d page.label first.0 0 inside) ∙ first.1.is 0;
        before = λ k h. taken_holds table (probe d.slots (d.start page.label) k)
            (omega (arith, law.start_in_range page.label))
            (ap (is_free table) (sym (get_or-probes d page.label k 0 (omega arith))) ∙ first.1.before k 0 h);
      },
    )

-- what a slot holds after a put into a slot
get_set_cases : {X : Type 0} (xs : List X) (i j : ℕ) (y z : X) → slice_get (slice_set xs i y) j ≡ Some z
    → ((j ≡ i) × (y ≡ z)) ⊎ (slice_get xs j ≡ Some z)
get_set_cases [] i j y z e = inr e
get_set_cases (x ∷ xs) zero zero y z e = inl (refl, same_Some y z e)
get_set_cases (x ∷ xs) zero (suc j) y z e = inr e
get_set_cases (x ∷ xs) (suc i) zero y z e = inr e
get_set_cases (x ∷ xs) (suc i) (suc j) y z e =
    ⊎_elim (λ p. inl (ap suc p.0, p.1)) (λ p. inr p) (get_set_cases xs i j y z e)

-- a put into a slot keeps what the others hold
get_set_other : {X : Type 0} (xs : List X) (i j : ℕ) (y : X) → j ≢ i → slice_get (slice_set xs i y) j ≡ slice_get xs j
get_set_other [] i j y n = refl
get_set_other (x ∷ xs) zero zero y n = absurd (n refl)
get_set_other (x ∷ xs) zero (suc j) y n = refl
get_set_other (x ∷ xs) (suc i) zero y n = refl
get_set_other (x ∷ xs) (suc i) (suc j) y n = get_set_other xs i j y (λ e. n (ap suc e))

-- a put into an empty slot keeps what the other slots hold
kept_by_put : (table : Table) (slot j : ℕ) (page other : Page) → slice_get table slot ≡ Some None
    → HoldsPage table j other → HoldsPage (slice_set table slot (Some page)) j other
kept_by_put table slot j page other empty held = get_set_other table slot j (Some page) (λ e. apart e) ∙ held
  where
    apart : j ≡ slot → ⊥
    apart e = cc

-- each page of the table has a smaller label
abbrev AllSmaller : Table → Page → Type 0
AllSmaller table page = (slot : ℕ) (other : Page) → HoldsPage table slot other → label_cmp other.label page.label ≡ Less

-- the page put into its first free slot stands behind smaller ones
abbrev StandsBehindSmaller : Draw → Table → ℕ → Page → Type 0
StandsBehindSmaller d table slot page = (i : ℕ) → i < d.slots → probe d.slots (d.start page.label) i ≡ slot
    → (k : ℕ) → k < i → (other : Page) × HoldsPage table (probe d.slots (d.start page.label) k) other
    × (label_cmp other.label page.label ≡ Less)

-- a page of greater label stands so in its first free slot
put_stands_behind : (d : Draw) (table : Table) (page : Page) (slot index : ℕ) → IsLawful d
    → IsFirstFree d table page slot index → AllSmaller table page → StandsBehindSmaller d table slot page
put_stands_behind d table page slot index law free smaller i within at k below =
    let same : i ≡ index = probe_once d.slots (d.start page.label) i index
    (law.start_in_range page.label) within free.within (at ∙ sym free.is) in
    let r = free.before k (omega arith) in
    (r.0, r.1, smaller (probe d.slots (d.start page.label) k) r.0 r.1)

-- a put of a page with a greater label into its first free slot keeps a table in order
put_in_order : (d : Draw) (table : Table) (page : Page) (slot index : ℕ) → IsLawful d
    → IsFirstFree d table page slot index → AllSmaller table page → IsInOrder d table
    → IsInOrder d (slice_set table slot (Some page))
put_in_order d table page slot index law free smaller order p i within held k below =
    ⊎_elim (λ same. new same.0 (same_Some page p same.1)) (λ old. kept (order p i within old k below))
    (get_set_cases table slot (probe d.slots (d.start p.label) i) (Some page) (Some p) held)
  where
    kept : (other : Page) × HoldsPage table (probe d.slots (d.start p.label) k) other
        × (label_cmp other.label p.label ≡ Less) → (other : Page)
        × HoldsPage (slice_set table slot (Some page)) (probe d.slots (d.start p.label) k) other
        × (label_cmp other.label p.label ≡ Less)
    kept r = (r.0, kept_by_put table slot (probe d.slots (d.start p.label) k) page r.0 free.empty r.1, r.2)

    new : probe d.slots (d.start p.label) i ≡ slot → page ≡ p
        → (other : Page) × HoldsPage (slice_set table slot (Some page)) (probe d.slots (d.start p.label) k) other
        × (label_cmp other.label p.label ≡ Less)
    new at e = kept (subst (StandsBehindSmaller d table slot) e
        (put_stands_behind d table page slot index law free smaller) i within at k below)

-- what is smaller than all that follow stays so with one more page
smaller_after_put : (table : Table) (slot : ℕ) (page p : Page) → page_cmp page p ≡ Less → AllSmaller table p
    → AllSmaller (slice_set table slot (Some page)) p
smaller_after_put table slot page p less smaller s other held =
    ⊎_elim (λ same. subst (λ (q : Page). label_cmp q.label p.label ≡ Less) (same_Some page other same.1) less)
    (λ old. smaller s other old) (get_set_cases table slot s (Some page) (Some other) held)

-- pages that rise, put in one after another, keep a table of smaller pages in order
put_all_in_order : (d : Draw) (table : Table) (pages : List Page) → IsLawful d → length table ≡ d.slots
    → length pages + length (pages_in table) ≤ d.slots
    → IsStrictlySortedBy page_cmp pages → AllByRecursion (AllSmaller table) pages → IsInOrder d table
    → IsInOrder d (put_all d table pages)
unfolding put_all put_first_free IsStrictlySortedBy
put_all_in_order d table [] law is room up smaller order = order
put_all_in_order d table (page ∷ pages) law is room up smaller order =
    let f = first_free_slot d table page law is (omega arith) in
    let put = IsPermutation-put table f.0 page f.2.empty in
    let moved : length (pages_in (slice_set table f.0 (Some page))) ≡ suc (length (pages_in table)) =
    length_permutation (page ∷ pages_in table) (pages_in (slice_set table f.0 (Some page))) put in
    subst (λ (o : Option ℕ). IsInOrder d (put_all d (put_at table page o) pages)) (sym f.2.at)
    (put_all_in_order d (slice_set table f.0 (Some page)) pages law
    (length-set table f.0 (Some page) ∙ is) (omega arith) up.1
    (all_with (λ p. page_cmp page p ≡ Less) (AllSmaller table) (AllSmaller (slice_set table f.0 (Some page)))
    (smaller_after_put table f.0 page) pages up.0 smaller.1)
    (put_in_order d table page f.0 f.1 law f.2 smaller.0 order))

-- an empty table holds no page
nothing_held : (n slot : ℕ) (page : Page) → HoldsPage (replicate n None) slot page → ⊥
nothing_held zero slot page e = cc
nothing_held (suc n) zero page e = cc
nothing_held (suc n) (suc slot) page e = nothing_held n slot page e

-- the table of pages with distinct labels is in order
pub IsInOrder-place : (d : Draw) (pages : List Page) → IsLawful d → length pages ≤ d.slots
    → IsDistinct (eq_by_cmp label_cmp) (map (λ page. page.label) pages) → IsInOrder d (place d pages)
unfolding place
IsInOrder-place d pages law room distinct =
    put_all_in_order d (replicate d.slots None) (in_order page_cmp pages) law (length-replicate d.slots None)
    (omega (
      arith,
      length_permutation pages (in_order page_cmp pages) (IsPermutation-in_order page_cmp pages),
      ap length
          (pages_in-replicate d.slots),
    ))
    (sorted_in_order page_cmp page_cmp_total pages (distinct_from_map label_cmp (λ page. page.label) pages distinct))
    (all_none (AllSmaller (replicate d.slots None)) (λ p slot other held. absurd (nothing_held d.slots slot other held))
    (in_order page_cmp pages))
    (λ p i within held k below. absurd (nothing_held d.slots (probe d.slots (d.start p.label) i) p held))

-- two tables in order, with the same pages, whose labels are distinct
record HoldSame (d : Draw) (a b : Table) : Type 0 where
  law : IsLawful d
  length_a : length a ≡ d.slots
  length_b : length b ≡ d.slots
  distinct_b : IsDistinct (eq_by_cmp label_cmp) (map (λ page. page.label) (pages_in b))
  in_b : (slot : ℕ) (page : Page) → HoldsPage a slot page → (other : ℕ) × HoldsPage b other page
  in_a : (slot : ℕ) (page : Page) → HoldsPage b slot page → (other : ℕ) × HoldsPage a other page
  order_a : IsInOrder d a
  order_b : IsInOrder d b

-- the second table holds the page wherever the first does
abbrev AgreesAt : Table → Table → Page → Type 0
AgreesAt a b page = (slot : ℕ) → HoldsPage a slot page → HoldsPage b slot page

-- no page is smaller than itself
pub not_below_itself : (page other : Page) → label_cmp other.label page.label ≡ Less → other ≡ page → ⊥
not_below_itself page other less same =
    let less' : page_cmp page page ≡ Less = subst (λ (p : Page). page_cmp p page ≡ Less) same less in
    let tied = tied_itself page_cmp_total page in
    cc

-- one slot holds one page
pub one_page : (table : Table) (slot : ℕ) (p q : Page) → HoldsPage table slot p → HoldsPage table slot q → p ≡ q
one_page table slot p q g h = cc

-- two tables agree at a page, where they do at each smaller one
agree_step : (d : Draw) (a b : Table) → HoldSame d a b → (page : Page)
    → ((q : Page) → label_cmp q.label page.label ≡ Less → AgreesAt a b q) → AgreesAt a b page
agree_step d a b h page smaller slot held = by_places (cases_lt j.0 i.0) (cases_lt i.0 j.0)
  where
    o : (other : ℕ) × HoldsPage b other page
    o = h.in_b slot page held

    i : (i : ℕ) × (i < d.slots) × (probe d.slots (d.start page.label) i ≡ slot)
    i = probe_reaches d.slots (d.start page.label) slot (h.law.start_in_range page.label)
        (omega (arith, slice_get_within a slot (Some page) held, h.length_a))

    j : (j : ℕ) × (j < d.slots) × (probe d.slots (d.start page.label) j ≡ o.0)
    j = probe_reaches d.slots (d.start page.label) o.0 (h.law.start_in_range page.label)
        (omega (arith, slice_get_within b o.0 (Some page) o.1, h.length_b))

    in_a_at_i : HoldsPage a (probe d.slots (d.start page.label) i.0) page
    in_a_at_i = subst (λ (s : ℕ). HoldsPage a s page) (sym i.2) held

    in_b_at_j : HoldsPage b (probe d.slots (d.start page.label) j.0) page
    in_b_at_j = subst (λ (s : ℕ). HoldsPage b s page) (sym j.2) o.1

    before_i : j.0 < i.0 → ⊥
    before_i lt =
        let r = h.order_a page i.0 i.1 in_a_at_i j.0 lt in
        not_below_itself page r.0 r.2 (one_page b (probe d.slots (d.start page.label) j.0) r.0 page
        (smaller r.0 r.2 (probe d.slots (d.start page.label) j.0) r.1) in_b_at_j)

    before_j : i.0 < j.0 → ⊥
    before_j lt =
        let r = h.order_b page j.0 j.1 in_b_at_j i.0 lt in
        let s = h.in_a (probe d.slots (d.start page.label) i.0) r.0 r.1 in
        let e : s.0 ≡ probe d.slots (d.start page.label) i.0 =
        one_slot b s.0 (probe d.slots (d.start page.label) i.0) r.0 h.distinct_b (smaller r.0 r.2 s.0 s.1) r.1 in
        not_below_itself page r.0 r.2 (one_page a (probe d.slots (d.start page.label) i.0) r.0 page
        (subst (λ (n : ℕ). HoldsPage a n r.0) e s.1) in_a_at_i)

    by_places : (j.0 < i.0) ⊎ (i.0 ≤ j.0) → (i.0 < j.0) ⊎ (j.0 ≤ i.0) → HoldsPage b slot page
    by_places (inl lt) y = absurd (before_i lt)
    by_places (inr le) (inl lt) = absurd (before_j lt)
    by_places (inr le) (inr ge) =
        let e : j.0 ≡ i.0 = omega arith in
        subst (λ (s : ℕ). HoldsPage b s page) (sym j.2 ∙ ap (probe d.slots (d.start page.label)) e ∙ i.2) o.1

-- what a slot holds is a page of the table
pub held_contained : (table : Table) (slot : ℕ) (page : Page) → HoldsPage table slot page
    → Contains (pages_in table) page
unfolding pages_in
held_contained [] slot page e = cc
held_contained (None ∷ table) zero page e = cc
held_contained (None ∷ table) (suc slot) page e = held_contained table slot page e
held_contained (Some other ∷ table) zero page e =
    (zero, omega arith, same_Some other page (same_Some (Some other) (Some page) e))
held_contained (Some other ∷ table) (suc slot) page e = let c = held_contained table slot page e
    in (suc c.0, omega (arith, c.1), c.2)

-- of two elements of a list that rises, the smaller one stands before
place_of_smaller : {X : Type 0} (cmp : X → X → Ordering) → IsTotalOrder cmp → (xs : List X) (i j : ℕ) (x y : X)
    → IsStrictlySortedBy cmp xs → i < length xs → j < length xs → get_or xs i x ≡ x → get_or xs j y ≡ y
    → cmp y x ≡ Less → j < i
place_of_smaller {X} cmp o xs i j x y up in_i in_j at_i at_j less = by_place (cases_lt i j) (cases_lt j i)
  where
    at_j' : get_or xs j x ≡ y
    at_j' = get_or_default xs j x y in_j ∙ at_j

    not_itself : (z : X) → cmp z z ≡ Less → ⊥
    not_itself z e = let tied = tied_itself o z in cc

    by_place : (i < j) ⊎ (j ≤ i) → (j < i) ⊎ (i ≤ j) → j < i
    by_place (inl lt) q =
        let before : cmp x y ≡ Less = sym (λ k. cmp (at_i k) (at_j' k)) ∙ Less-from_sorted cmp xs i j x up lt in_j in
        absurd (not_itself x (o.trans x y x before less))
    by_place (inr p) (inl lt) = lt
    by_place (inr p) (inr q) =
        let same : i ≡ j = omega arith in
        let alike : x ≡ y = sym at_i ∙ ap (λ (k : ℕ). get_or xs k x) same ∙ at_j' in
        absurd (not_itself x (subst (λ (z : X). cmp z x ≡ Less) (sym alike) less))

-- two tables agree at the first n pages of the first, in the order of labels
agree_below : (d : Draw) (a b : Table) → HoldSame d a b
    → (up : IsStrictlySortedBy page_cmp (in_order page_cmp (pages_in a))) → (n k : ℕ) (page : Page) → k < n
    → k < length (in_order page_cmp (pages_in a))
    → get_or (in_order page_cmp (pages_in a)) k page ≡ page → AgreesAt a b page
agree_below d a b h up zero k page lt within at = absurd (omega arith)
agree_below d a b h up (suc n) k page lt within at =
    agree_step d a b h page (λ q less slot held. at_smaller q less slot held
    (Contains-permutation (pages_in a) (in_order page_cmp (pages_in a)) q (IsPermutation-in_order page_cmp (pages_in a))
    (held_contained a slot q held)) (agree_below d a b h up n))
  where
    at_smaller : (q : Page) → label_cmp q.label page.label ≡ Less → (slot : ℕ) → HoldsPage a slot q
        → Contains (in_order page_cmp (pages_in a)) q
        → ((k : ℕ) (page : Page) → k < n → k < length (in_order page_cmp (pages_in a))
        → get_or (in_order page_cmp (pages_in a)) k page ≡ page → AgreesAt a b page) → HoldsPage b slot q
    at_smaller q less slot held c rest =
        let before : c.0 < k = place_of_smaller page_cmp page_cmp_total
        (in_order page_cmp (pages_in a)) k c.0 page q up within c.1 at c.2 less in
        rest c.0 q (omega arith) c.1 c.2 slot held

-- two tables agree at every page
agree_everywhere : (d : Draw) (a b : Table) → HoldSame d a b
    → IsStrictlySortedBy page_cmp (in_order page_cmp (pages_in a)) → (page : Page) → AgreesAt a b page
agree_everywhere d a b h up page slot held =
    let c = Contains-permutation (pages_in a) (in_order page_cmp (pages_in a)) page
    (IsPermutation-in_order page_cmp (pages_in a)) (held_contained a slot page held) in
    agree_below d a b h up (suc c.0) c.0 page (omega arith) c.1 c.2 slot held

-- so they hold the same in each slot
same_slot : (d : Draw) (a b : Table) → HoldSame d a b → ((page : Page) → AgreesAt a b page)
    → (slot : ℕ) (x y : Option Page) → slice_get a slot ≡ Some x → slice_get b slot ≡ Some y → x ≡ y
same_slot d a b h agree slot None None p q = refl
same_slot d a b h agree slot (Some page) y p q = let r = agree page slot p in cc
same_slot d a b h agree slot None (Some page) p q =
    let s = h.in_a slot page q in
    let e : s.0 ≡ slot = one_slot b s.0 slot page h.distinct_b (agree page s.0 s.1) q in
    let r : HoldsPage a slot page = subst (λ (n : ℕ). HoldsPage a n page) e s.1 in
    cc

-- two tables in order of the same pages, with distinct labels, are one
pub one_table_of_pages : (d : Draw) (a b : Table) → IsLawful d → length a ≡ d.slots → length b ≡ d.slots
    → IsDistinct (eq_by_cmp label_cmp) (map (λ page. page.label) (pages_in a))
    → IsDistinct (eq_by_cmp label_cmp) (map (λ page. page.label) (pages_in b))
    → ((page : Page) → Contains (pages_in a) page → Contains (pages_in b) page)
    → ((page : Page) → Contains (pages_in b) page → Contains (pages_in a) page) → IsInOrder d a
    → IsInOrder d b → a ≡ b
one_table_of_pages d a b law length_a length_b distinct_a distinct_b there back order_a order_b =
    let h : HoldSame d a b = record {
      law = law;
      length_a = length_a;
      length_b = length_b;
      distinct_b = distinct_b;
      in_b = λ slot page held. some_slot b page (there page (held_contained a slot page held));
      in_a = λ slot page held. some_slot a page (back page (held_contained b slot page held));
      order_a = order_a;
      order_b = order_b;
    } in
    let agree = agree_everywhere d a b h
    (sorted_in_order page_cmp page_cmp_total (pages_in a)
    (distinct_from_map label_cmp (λ page. page.label) (pages_in a) distinct_a)) in
    ext_get_or None a b (length_a ∙ sym length_b)
    (λ i within. same_slot d a b h agree i (get_or a i None) (get_or b i None) (slice_get-get_or a i None within)
    (slice_get-get_or b i None (omega arith)))

-- a table in order is the only one in order with its pages
pub one_table_in_order : (d : Draw) (a b : Table) → IsLawful d → length a ≡ d.slots → length b ≡ d.slots
    → IsDistinct (eq_by_cmp label_cmp) (map (λ page. page.label) (pages_in a))
    → IsPermutation (pages_in a) (pages_in b) → IsInOrder d a → IsInOrder d b → a ≡ b
one_table_in_order d a b law length_a length_b distinct moves =
    one_table_of_pages d a b law length_a length_b distinct
    (IsDistinct-IsPermutation (eq_by_cmp label_cmp)
    (eq_by_cmp_equiv label_cmp_total).symm (map (λ page. page.label) (pages_in a))
    (map (λ page. page.label) (pages_in b))
    (IsPermutation-map (λ (page : Page). page.label) (pages_in a) (pages_in b) moves) distinct)
    (λ page held. Contains-permutation (pages_in a) (pages_in b) page moves held)
    (λ page held. Contains-permutation (pages_in b) (pages_in a) page
    (IsPermutation-sym (pages_in a) (pages_in b) moves) held)

-- a table has no more pages than slots
pub length-pages_in-le : (table : Table) → length (pages_in table) ≤ length table
unfolding pages_in
length-pages_in-le [] = omega arith
length-pages_in-le (None ∷ table) = omega (arith, length-pages_in-le table)
length-pages_in-le (Some page ∷ table) = omega (arith, length-pages_in-le table)

-- a table in order of pages is their placement
pub place_is_the_only_order : (d : Draw) (table : Table) (pages : List Page) → IsLawful d → length table ≡ d.slots
    → IsDistinct (eq_by_cmp label_cmp) (map (λ page. page.label) pages)
    → IsPermutation pages (pages_in table) → IsInOrder d table → table ≡ place d pages
place_is_the_only_order d table pages law is distinct moves order =
    let room : length pages ≤ d.slots =
    omega (arith, length_permutation pages (pages_in table) moves, length-pages_in-le table) in
    sym (one_table_in_order d (place d pages) table law (length-place d pages) is
    (IsDistinct-place d pages law room distinct)
    (IsPermutation-trans (pages_in (place d pages)) pages (pages_in table)
    (IsPermutation-sym pages (pages_in (place d pages)) (IsPermutation-place d pages law room)) moves)
    (IsInOrder-place d pages law room distinct) order)
