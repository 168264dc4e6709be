-- Where placement puts the pages: each in one slot, and nothing else.
use Rattle.std.proofs.Common.{◌≡◌, ℕ, zero, suc, ◌+◌, ◌-◌, ◌%◌, ◌<◌, ◌≤◌, List, [], ◌∷◌, ◌++◌, Bool, true, false, cond}
use Rattle.std.proofs.Common.{Option, Some, None, length, map, get_or, replicate, slice_get, slice_set, refl, ap, sym}
use Rattle.std.proofs.Common.{subst, ◌∙◌, ⊎_elim, arith, length-set}
use Rattle.std.specs.List.{find, IsDistinct, AllByRecursion, Contains}
use Rattle.std.specs.List.Sorted.{IsPermutation}
use Rattle.std.specs.Ordering.{is_eq, eq_by_cmp}
use Rattle.std.specs.Cmp.{IsTotalOrder}
use Rattle.std.proofs.Math.Nat.{mod-eq_of_lt, add-mod_left}
use Rattle.std.proofs.lemmas.Bool.{cases_lt, false≢true}
use Rattle.std.proofs.lemmas.Cmp.{tied_itself, eq_by_cmp_equiv, on_total, nat_list_cmp_total}
use Rattle.std.proofs.lemmas.Map.Keys.{IsDistinct-head, IsDistinct-tail, IsDistinct-IsPermutation}
use Rattle.std.proofs.lemmas.Option.{same_Some}
use Rattle.std.proofs.lemmas.List.{length-map, length-replicate, get_or-map, append-nil}
use Rattle.std.proofs.lemmas.List.Sorted.{IsPermutation-refl, IsPermutation-sym, IsPermutation-trans}
use Rattle.std.proofs.lemmas.List.Sorted.{IsPermutation-cons, IsPermutation-middle, IsPermutation-append_right}
use Rattle.std.proofs.lemmas.List.Sorted.{IsPermutation-map, length_permutation, Contains-permutation}
use Rattle.store_model.specs.Lists.{numbers_from, numbers_below, in_order}
use Rattle.store_model.specs.Labels.{Label, label_bytes, label_cmp}
use Rattle.store_model.specs.Draws.{Draw, IsLawful}
use Rattle.store_model.specs.Pages.{Page}
use Rattle.store_model.specs.Placement.{Table, probe, probes, holds_nothing, is_free, put_at, put_first_free, put_all}
use Rattle.store_model.specs.Placement.{page_cmp, place, pages_in, HoldsPage}
pub use Rattle.store_model.proofs.ListsLemmas.{length-numbers_from}
use Rattle.store_model.proofs.ListsLemmasOrder.{IsPermutation-first_two}
pub use Rattle.store_model.proofs.ListsLemmasOrder.{IsPermutation-insert_in_order, IsPermutation-in_order}

-- number i of those is i above the first
pub get_or-numbers_from : (first count i d : ℕ) → i < count → get_or (numbers_from first count) i d ≡ first + i
unfolding numbers_from
get_or-numbers_from first zero i d h = absurd (omega arith)
get_or-numbers_from first (suc count) zero d h = omega arith
get_or-numbers_from first (suc count) (suc i) d h =
    omega (arith, get_or-numbers_from (suc first) count i d (omega arith))

-- a test that one element passes finds one that passes
found : {X : Type 0} (test : X → Bool) (xs : List X) (i : ℕ) (d : X) → i < length xs → test (get_or xs i d) ≡ true
    → (x : X) × (find test xs ≡ Some x) × (test x ≡ true)
found test [] i d h e = absurd (omega arith)
found test (x ∷ xs) zero d h e = (x, ap (λ b. cond b (Some x) (find test xs)) e, e)
found {X} test (x ∷ xs) (suc i) d h e = first_or (test x) refl (found test xs i d (omega arith) e)
  where
    first_or : (b : Bool) → test x ≡ b → (y : X) × (find test xs ≡ Some y) × (test y ≡ true)
        → (y : X) × (find test (x ∷ xs) ≡ Some y) × (test y ≡ true)
    first_or true is rest = (x, ap (λ b. cond b (Some x) (find test xs)) is, is)
    first_or false is rest = (rest.0, ap (λ b. cond b (Some x) (find test xs)) is ∙ rest.1, rest.2)

-- a table with fewer pages than slots has an empty slot
pub empty_slot : (table : Table) → length (pages_in table) < length table
    → (k : ℕ) × (k < length table) × (slice_get table k ≡ Some None)
unfolding pages_in
empty_slot [] h = absurd (omega arith)
empty_slot (None ∷ table) h = (zero, omega arith, refl)
empty_slot (Some page ∷ table) h = let e = empty_slot table (omega arith) in (suc e.0, omega arith, e.2)

-- the probe sequence reaches each slot
pub probe_reaches : (slots start k : ℕ) → start < slots → k < slots → (i : ℕ) × (i < slots) × (probe slots start i ≡ k)
probe_reaches slots start k s h = ⊎_elim (λ (below : k < start). (slots - start + k, omega arith, below_start below))
    (λ (above : start ≤ k). (k - start, omega arith, from_start above)) (cases_lt k start)
  where
    below_start : k < start → (start + (slots - start + k)) % slots ≡ k
    below_start below = let e : start + (slots - start + k) ≡ slots + k = omega arith
        in ap (λ n. n % slots) e ∙ add-mod_left slots k ∙ mod-eq_of_lt h

    from_start : start ≤ k → (start + (k - start)) % slots ≡ k
    from_start above = let e : start + (k - start) ≡ k = omega arith in ap (λ n. n % slots) e ∙ mod-eq_of_lt h

-- a slot is free where it is in the table and holds nothing
free_is_empty : (o : Option (Option Page)) → holds_nothing o ≡ true → o ≡ Some None
free_is_empty None e = cc
free_is_empty (Some None) e = refl
free_is_empty (Some (Some page)) e = cc

-- a page in an empty slot joins the pages of the table
pub IsPermutation-put : (table : Table) (k : ℕ) (page : Page) → slice_get table k ≡ Some None
    → IsPermutation (page ∷ pages_in table) (pages_in (slice_set table k (Some page)))
unfolding pages_in
IsPermutation-put [] k page e = cc
IsPermutation-put (None ∷ table) zero page e = IsPermutation-refl (page ∷ pages_in table)
IsPermutation-put (Some other ∷ table) zero page e = cc
IsPermutation-put (None ∷ table) (suc k) page e = IsPermutation-put table k page e
IsPermutation-put (Some other ∷ table) (suc k) page e =
    IsPermutation-trans (page ∷ other ∷ pages_in table) (other ∷ page ∷ pages_in table)
    (other ∷ pages_in (slice_set table k (Some page)))
    (IsPermutation-first_two page other (pages_in table))
    (IsPermutation-cons other (page ∷ pages_in table) (pages_in (slice_set table k (Some page)))
    (IsPermutation-put table k page e))

-- a table with room has a first free slot in each probe sequence
pub first_free : (d : Draw) (table : Table) (page : Page) → IsLawful d → length table ≡ d.slots
    → length (pages_in table) < d.slots
    → (k : ℕ) × (find (is_free table) (probes d page.label) ≡ Some k) × (slice_get table k ≡ Some None)
unfolding probes
first_free d table page law is room =
    let e = empty_slot table (omega arith) in
    let r = probe_reaches d.slots (d.start page.label) e.0 (law.start_in_range page.label) (omega arith) in
    let at : get_or (probes d page.label) r.0 0 ≡ e.0 =
    get_or-map (probe d.slots (d.start page.label)) (numbers_below d.slots) r.0 0 0
    (omega (arith, length-numbers_from 0 d.slots))
    ∙ ap (probe d.slots (d.start page.label)) (get_or-numbers_from 0 d.slots r.0 0 r.1 ∙ omega arith) ∙ r.2 in
    let f = found (is_free table) (probes d page.label) r.0 0
    (omega (
      arith,
      length-map (numbers_below d.slots) (probe d.slots (d.start page.label)),
      length-numbers_from 0
          d.slots,
    )) (ap (is_free table) at ∙ ap holds_nothing e.2) in
    (f.0, f.1, free_is_empty (slice_get table f.0) f.2)

-- a put keeps the number of slots
pub length-put_first_free : (d : Draw) (table : Table) (page : Page)
    → length (put_first_free d table page) ≡ length table
unfolding put_first_free
length-put_first_free d table page = length-put_at (find (is_free table) (probes d page.label))
  where
    length-put_at : (o : Option ℕ) → length (put_at table page o) ≡ length table
    length-put_at None = refl
    length-put_at (Some k) = length-set table k (Some page)

-- a page put into a table with room joins its pages
pub IsPermutation-put_first_free : (d : Draw) (table : Table) (page : Page) → IsLawful d → length table ≡ d.slots
    → length (pages_in table) < d.slots
    → IsPermutation (page ∷ pages_in table) (pages_in (put_first_free d table page))
unfolding put_first_free
IsPermutation-put_first_free d table page law is room =
    let f = first_free d table page law is room in
    subst (λ (o : Option ℕ). IsPermutation (page ∷ pages_in table) (pages_in (put_at table page o))) (sym f.1)
    (IsPermutation-put table f.0 page f.2)

-- pages put in one after another join those of the table
pub IsPermutation-put_all : (d : Draw) (table : Table) (pages : List Page) → IsLawful d → length table ≡ d.slots
    → length pages + length (pages_in table) ≤ d.slots
    → IsPermutation (pages ++ pages_in table) (pages_in (put_all d table pages))
unfolding put_all
IsPermutation-put_all d table [] law is room = IsPermutation-refl (pages_in table)
IsPermutation-put_all d table (page ∷ pages) law is room =
    let p = IsPermutation-put_first_free d table page law is (omega arith) in
    IsPermutation-trans (page ∷ (pages ++ pages_in table)) (pages ++ page ∷ pages_in table)
    (pages_in (put_all d (put_first_free d table page) pages))
    (IsPermutation-sym (pages ++ page ∷ pages_in table) (page ∷ (pages ++ pages_in table))
    (IsPermutation-middle pages page (pages_in table)))
    (IsPermutation-trans (pages ++ page ∷ pages_in table) (pages ++ pages_in (put_first_free d table page))
    (pages_in (put_all d (put_first_free d table page) pages))
    (IsPermutation-append_right pages (page ∷ pages_in table) (pages_in (put_first_free d table page)) p)
    (IsPermutation-put_all d (put_first_free d table page) pages law (length-put_first_free d table page ∙ is)
    (omega (arith, length_permutation (page ∷ pages_in table) (pages_in (put_first_free d table page)) p))))

-- puts keep the number of slots
pub length-put_all : (d : Draw) (table : Table) (pages : List Page) → length (put_all d table pages) ≡ length table
unfolding put_all
length-put_all d table [] = refl
length-put_all d table (page ∷ pages) = length-put_all d (put_first_free d table page) pages
    ∙ length-put_first_free d table page

-- empty slots hold no pages
pub pages_in-replicate : (n : ℕ) → pages_in (replicate n None) ≡ []
unfolding pages_in
pages_in-replicate zero = refl
pages_in-replicate (suc n) = pages_in-replicate n

-- the table has all slots
pub length-place : (d : Draw) (pages : List Page) → length (place d pages) ≡ d.slots
unfolding place
length-place d pages = length-put_all d (replicate d.slots None) (in_order page_cmp pages)
    ∙ length-replicate d.slots None

-- the pages of the table are the pages placed
pub IsPermutation-place : (d : Draw) (pages : List Page) → IsLawful d → length pages ≤ d.slots
    → IsPermutation pages (pages_in (place d pages))
unfolding place
IsPermutation-place d pages law room =
    let none = pages_in-replicate d.slots in
    let sorted = IsPermutation-in_order page_cmp pages in
    let put = IsPermutation-put_all d (replicate d.slots None) (in_order page_cmp pages) law
    (length-replicate d.slots None)
    (omega (arith, length_permutation pages (in_order page_cmp pages) sorted, ap length none)) in
    IsPermutation-trans pages (in_order page_cmp pages)
    (pages_in (put_all d (replicate d.slots None) (in_order page_cmp pages))) sorted
    (subst (λ (ps : List Page). IsPermutation ps
    (pages_in (put_all d (replicate d.slots None) (in_order page_cmp pages))))
    (ap (λ (ps : List Page). in_order page_cmp pages ++ ps) none ∙ append-nil (in_order page_cmp pages)) put)

-- what holds of each page of a table, at a page that a slot holds
pub held_passes : (P : Label → Type 0) (table : Table) (slot : ℕ) (page : Page)
    → AllByRecursion P (map (λ p. p.label) (pages_in table)) → HoldsPage table slot page → P page.label
unfolding pages_in
held_passes P [] slot page all e = cc
held_passes P (None ∷ table) zero page all e = cc
held_passes P (None ∷ table) (suc slot) page all e = held_passes P table slot page all e
held_passes P (Some other ∷ table) zero page all e =
    subst (λ (p : Page). P p.label) (same_Some other page (same_Some (Some other) (Some page) e)) all.0
held_passes P (Some other ∷ table) (suc slot) page all e = held_passes P table slot page all.1 e

-- labels are in a total order
pub label_cmp_total : IsTotalOrder label_cmp
label_cmp_total = on_total label_bytes nat_list_cmp_total

-- a label does not differ from itself
not_itself : (k l : Label) → k ≡ l → eq_by_cmp label_cmp k l ≡ false → ⊥
not_itself k l same e = false≢true (sym e ∙ ap (λ (m : Label). eq_by_cmp label_cmp k m) (sym same)
    ∙ ap is_eq (tied_itself label_cmp_total k))

-- where labels differ, two slots that hold one page are one slot
pub one_slot : (table : Table) (i j : ℕ) (page : Page)
    → IsDistinct (eq_by_cmp label_cmp) (map (λ p. p.label) (pages_in table)) → HoldsPage table i page
    → HoldsPage table j page → i ≡ j
unfolding pages_in
one_slot [] i j page distinct p q = cc
one_slot (None ∷ table) zero j page distinct p q = cc
one_slot (None ∷ table) (suc i) zero page distinct p q = cc
one_slot (None ∷ table) (suc i) (suc j) page distinct p q = ap suc (one_slot table i j page distinct p q)
one_slot (Some other ∷ table) zero zero page distinct p q = refl
one_slot (Some other ∷ table) zero (suc j) page distinct p q =
    absurd (not_itself other.label page.label
    (ap (λ (x : Page). x.label) (same_Some other page (same_Some (Some other) (Some page) p)))
    (held_passes (λ l. eq_by_cmp label_cmp other.label l ≡ false) table j page
    (IsDistinct-head (eq_by_cmp label_cmp) other.label (map (λ x. x.label) (pages_in table)) distinct) q))
one_slot (Some other ∷ table) (suc i) zero page distinct p q =
    absurd (not_itself other.label page.label
    (ap (λ (x : Page). x.label) (same_Some other page (same_Some (Some other) (Some page) q)))
    (held_passes (λ l. eq_by_cmp label_cmp other.label l ≡ false) table i page
    (IsDistinct-head (eq_by_cmp label_cmp) other.label (map (λ x. x.label) (pages_in table)) distinct) p))
one_slot (Some other ∷ table) (suc i) (suc j) page distinct p q =
    ap suc (one_slot table i j page
    (IsDistinct-tail (eq_by_cmp label_cmp) other.label (map (λ x. x.label) (pages_in table)) distinct) p q)

-- a page of the table stands in a slot
pub some_slot : (table : Table) (page : Page) → Contains (pages_in table) page → (slot : ℕ) × HoldsPage table slot page
unfolding pages_in
some_slot [] page h = absurd (omega (arith, h.1))
some_slot (None ∷ table) page h = let s = some_slot table page h in (suc s.0, s.1)
some_slot (Some other ∷ table) page (zero, l, e) = (zero, ap (λ (x : Page). Some (Some x)) e)
some_slot (Some other ∷ table) page (suc k, l, e) = let s = some_slot table page (k, omega arith, e) in (suc s.0, s.1)

-- the labels of a table are as distinct as those of the pages placed
pub IsDistinct-place : (d : Draw) (pages : List Page) → IsLawful d → length pages ≤ d.slots
    → IsDistinct (eq_by_cmp label_cmp) (map (λ page. page.label) pages)
    → IsDistinct (eq_by_cmp label_cmp) (map (λ page. page.label) (pages_in (place d pages)))
IsDistinct-place d pages law room =
    IsDistinct-IsPermutation (eq_by_cmp label_cmp)
    (eq_by_cmp_equiv label_cmp_total).symm (map (λ page. page.label) pages)
    (map (λ page. page.label) (pages_in (place d pages)))
    (IsPermutation-map (λ (page : Page). page.label) pages (pages_in (place d pages))
    (IsPermutation-place d pages law room))

-- each page placed stands in exactly one slot
pub exactly_one_slot : (d : Draw) (pages : List Page) → IsLawful d → length pages ≤ d.slots
    → IsDistinct (eq_by_cmp label_cmp) (map (λ page. page.label) pages) → (page : Page) → Contains pages page
    → (slot : ℕ) × HoldsPage (place d pages) slot page
    × ((other : ℕ) → HoldsPage (place d pages) other page → other ≡ slot)
exactly_one_slot d pages law room distinct page h =
    let s = some_slot (place d pages) page
    (Contains-permutation pages (pages_in (place d pages)) page (IsPermutation-place d pages law room) h) in
    (s.0, s.1, λ other p. one_slot (place d pages) other s.0 page (IsDistinct-place d pages law room distinct) p s.1)
