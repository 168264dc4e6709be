-- An insertion on its way: a page in hand, and an ordered table of all the others.
use Rattle.std.proofs.Common.{◌≡◌, ◌≢◌, ℕ, zero, suc, ◌+◌, ◌%◌, ◌<◌, ◌≤◌, ◌⊎◌, inl, inr, List, [], ◌∷◌, Bool, true}
use Rattle.std.proofs.Common.{false, cond, Option, Some, None, length, slice_get, slice_set, refl, ap, sym, subst, ◌∙◌}
use Rattle.std.proofs.Common.{arith, length-set}
use Rattle.std.specs.List.{AllByRecursion}
use Rattle.std.specs.declared.cmp.Ordering.{Ordering}
use Rattle.std.specs.declared.cmp.Ordering.TheVariants.{Less, Equal, Greater}
use Rattle.std.specs.Ordering.{is_eq, eq_by_cmp, ordering_reverse}
use Rattle.std.specs.FinMap as maps
use Rattle.std.proofs.lemmas.Bool.{cases_lt}
use Rattle.std.proofs.lemmas.Cmp.{tied_itself}
use Rattle.std.proofs.lemmas.List.{get_or-set_same, get_or-set_other, map-set}
use Rattle.std.proofs.lemmas.List.Sorted.{length_permutation}
use Rattle.std.proofs.lemmas.Option.{same_Some, slice_get_within, slice_get-get_or, get_or_from_slice_get}
use Rattle.store_model.specs.Labels.{Label, label_cmp}
use Rattle.store_model.specs.Draws.{Draw, IsLawful}
use Rattle.store_model.specs.Pages.{Page, IsPage}
use Rattle.store_model.specs.Placement.{Table, probe, place, pages_in, HoldsPage, IsOrderedTable}
use Rattle.store_model.specs.Images.{slot_bytes, slots_of}
use Rattle.store_model.specs.PageMaps.{PageMap, page_at, with_page, pages_of_map, IsPageMap, HoldsPages, IsTableOf}
use Rattle.store_model.proofs.PlacementLemmas.{probe_reaches, label_cmp_total, empty_slot, IsPermutation-place}
use Rattle.store_model.proofs.PlacementLemmasOrder.{probe_once, one_page, not_below_itself}
use Rattle.store_model.proofs.PlacementLemmasTables.{tied_label_bytes, held_page}
use Rattle.store_model.proofs.TreesLemmasBytes.{labels_same}
use Rattle.store_model.proofs.PageMapsLemmas.{len-pages_of_map, found_stands, standing_found, page_at-with_page}
use Rattle.store_model.proofs.PageMapsLemmas.{HoldsPages-lookups}
use Rattle.ordered_table.specs.InsertionWays.{SmallerFirst, Carries}
use Rattle.ordered_table.proofs.Reading.{probe_next, probe_within}
use Rattle.ordered_table.proofs.Searching.{held_table}

-- ---- a table with one slot changed

-- what stands in the slot that was changed, and in the others
pub get_set_same : (table : Table) (at : ℕ) (new : Option Page) → at < length table
    → slice_get (slice_set table at new) at ≡ Some new
get_set_same table at new within =
    slice_get-get_or (slice_set table at new) at None (omega (arith, length-set table at new))
    ∙ ap Some (get_or-set_same table at new None within)

pub get_set_other : (table : Table) (at slot : ℕ) (new what : Option Page) → slot ≢ at
    → slice_get table slot ≡ Some what → slice_get (slice_set table at new) slot ≡ Some what
get_set_other table at slot new what other there =
    let within = slice_get_within table slot what there in
    slice_get-get_or (slice_set table at new) slot None (omega (arith, length-set table at new, within))
    ∙ ap Some (get_or-set_other table at slot new None other ∙ get_or_from_slice_get table slot what None there)

pub get_set_back : (table : Table) (at slot : ℕ) (new what : Option Page) → slot ≢ at
    → slice_get (slice_set table at new) slot ≡ Some what → slice_get table slot ≡ Some what
get_set_back table at slot new what other there =
    let within : slot < length table =
    omega (arith, slice_get_within (slice_set table at new) slot what there, length-set table at new) in
    slice_get-get_or table slot None within
    ∙ ap Some (sym (get_or-set_other table at slot new None other)
    ∙ get_or_from_slice_get (slice_set table at new) slot what None there)

-- two numbers are the same or not
pub same_or_not : (i j : ℕ) → (i ≡ j) ⊎ (i ≢ j)
same_or_not i j = by_order (cases_lt i j) (cases_lt j i)
  where
    by_order : (i < j) ⊎ (j ≤ i) → (j < i) ⊎ (i ≤ j) → (i ≡ j) ⊎ (i ≢ j)
    by_order (inl lt) q = inr (λ e. omega (arith, lt, e))
    by_order (inr le) (inl lt) = inr (λ e. omega (arith, lt, e))
    by_order (inr le) (inr ge) = inl (omega arith)

-- what holds of each page in a slot holds of each page of the table
pub all_in_slots : (P : Page → Type 0) (table : Table) → ((slot : ℕ) (page : Page) → HoldsPage table slot page → P page)
    → AllByRecursion P (pages_in table)
unfolding pages_in
all_in_slots P [] f = tt
all_in_slots P (None ∷ table) f = all_in_slots P table (λ slot page held. f (suc slot) page held)
all_in_slots P (Some page ∷ table) f =
    (f zero page refl, all_in_slots P table (λ slot other held. f (suc slot) other held))

-- a smaller label is not the same
pub less_is_other : (a b : Label) → label_cmp a b ≡ Less → a ≡ b → ⊥
less_is_other a b less same = let tied : label_cmp a b ≡ Equal =
    ap (label_cmp a) (sym same) ∙ tied_itself label_cmp_total a in cc

-- one page stands in one slot of an ordered table
pub one_place : (d : Draw) (table : Table) (i j : ℕ) (page : Page) → IsLawful d → IsOrderedTable d table
    → HoldsPage table i page → HoldsPage table j page → i ≡ j
one_place d table i j page law is held_i held_j = by_order (cases_lt a.0 b.0) (cases_lt b.0 a.0)
  where
    a : (k : ℕ) × (k < d.slots) × (probe d.slots (d.start page.label) k ≡ i)
    a = probe_reaches d.slots (d.start page.label) i (law.start_in_range page.label)
        (omega (arith, slice_get_within table i (Some page) held_i, is.slots))

    b : (k : ℕ) × (k < d.slots) × (probe d.slots (d.start page.label) k ≡ j)
    b = probe_reaches d.slots (d.start page.label) j (law.start_in_range page.label)
        (omega (arith, slice_get_within table j (Some page) held_j, is.slots))

    at_a : HoldsPage table (probe d.slots (d.start page.label) a.0) page
    at_a = subst (λ (s : ℕ). HoldsPage table s page) (sym a.2) held_i

    at_b : HoldsPage table (probe d.slots (d.start page.label) b.0) page
    at_b = subst (λ (s : ℕ). HoldsPage table s page) (sym b.2) held_j

    before : (m n : ℕ) → m < n → n < d.slots → HoldsPage table (probe d.slots (d.start page.label) m) page
        → HoldsPage table (probe d.slots (d.start page.label) n) page → ⊥
    before m n lt within at_m at_n =
        let r = is.in_order page n within at_n m lt in
        not_below_itself page r.0 r.2 (one_page table (probe d.slots (d.start page.label) m) r.0 page r.1 at_m)

    by_order : (a.0 < b.0) ⊎ (b.0 ≤ a.0) → (b.0 < a.0) ⊎ (a.0 ≤ b.0) → i ≡ j
    by_order (inl lt) q = absurd (before a.0 b.0 lt b.1 at_a at_b)
    by_order (inr le) (inl lt) = absurd (before b.0 a.0 lt a.1 at_b at_a)
    by_order (inr le) (inr ge) = let same : a.0 ≡ b.0 = omega arith
        in sym a.2 ∙ ap (probe d.slots (d.start page.label)) same ∙ b.2

-- ---- a page in its place

-- the page goes into a slot that is free or holds a greater page, behind smaller pages alone
pub put_ordered : (d : Draw) (table : Table) (page : Page) (at way : ℕ) (what : Option Page) → IsLawful d
    → IsOrderedTable d table → IsPage page → at ≡ probe d.slots (d.start page.label) way → way < d.slots
    → SmallerFirst d table page way
    → slice_get table at ≡ Some what → ((q : Page) → what ≡ Some q → label_cmp page.label q.label ≡ Less)
    → IsOrderedTable d (slice_set table at (Some page))
put_ordered d table page at way what law is valid here within smaller there greater = record {
  slots = length-set table at (Some page) ∙ is.slots;
  pages = all_in_slots IsPage (slice_set table at (Some page))
      (λ slot p held. valid_there slot p held (same_or_not slot at));
  in_order = λ p i below held k before. in_order_there p i below held k before
      (same_or_not (probe d.slots (d.start p.label) i) at);
}
  where
    at_within : at < length table
    at_within = slice_get_within table at what there

    page_there : (p : Page) → HoldsPage (slice_set table at (Some page)) at p → page ≡ p
    page_there p held = same_Some page p
        (same_Some (Some page) (Some p) (sym (get_set_same table at (Some page) at_within) ∙ held))

    valid_there : (slot : ℕ) (p : Page) → HoldsPage (slice_set table at (Some page)) slot p
        → (slot ≡ at) ⊎ (slot ≢ at) → IsPage p
    valid_there slot p held (inl same) =
        subst IsPage (page_there p (subst (λ (s : ℕ). HoldsPage (slice_set table at (Some page)) s p) same held)) valid
    valid_there slot p held (inr other) =
        held_page table slot p is.pages (get_set_back table at slot (Some page) (Some p) other held)

    -- what stood before p and was smaller is still there, or is the page, which is smaller too
    still_smaller : (p q : Page) (slot : ℕ) → HoldsPage table slot q → label_cmp q.label p.label ≡ Less
        → (slot ≡ at) ⊎ (slot ≢ at) → (other : Page) × HoldsPage (slice_set table at (Some page)) slot other
        × (label_cmp other.label p.label ≡ Less)
    still_smaller p q slot held less (inl same) =
        let what_is : what ≡ Some q = same_Some what (Some q) (sym there ∙ ap (slice_get table) (sym same) ∙ held) in (
          page,
          subst (λ (s : ℕ). HoldsPage (slice_set table at (Some page)) s page) (sym same)
              (get_set_same table at (Some page) at_within),
          label_cmp_total.trans page.label q.label p.label (greater q what_is) less,
        )
    still_smaller p q slot held less (inr other) =
        (q, get_set_other table at slot (Some page) (Some q) other held, less)

    in_order_there : (p : Page) (i : ℕ) → i < d.slots
        → HoldsPage (slice_set table at (Some page)) (probe d.slots (d.start p.label) i) p → (k : ℕ) → k < i
        → (probe d.slots (d.start p.label) i ≡ at) ⊎ (probe d.slots (d.start p.label) i ≢ at)
        → (other : Page) × HoldsPage (slice_set table at (Some page)) (probe d.slots (d.start p.label) k) other
        × (label_cmp other.label p.label ≡ Less)
    in_order_there p i below held k before (inl same) =
        let page_is : page ≡ p =
        page_there p (subst (λ (s : ℕ). HoldsPage (slice_set table at (Some page)) s p) same held) in
        let here_p : at ≡ probe d.slots (d.start p.label) way =
        here ∙ ap (λ (q : Page). probe d.slots (d.start q.label) way) page_is in
        let same_way : i ≡ way = probe_once d.slots (d.start p.label) i way
        (law.start_in_range p.label) below within (same ∙ here_p) in
        let r = subst (λ (q : Page). SmallerFirst d table q way) page_is smaller k (omega (arith, before, same_way)) in
        still_smaller p r.0 (probe d.slots (d.start p.label) k)
        r.1 r.2 (same_or_not (probe d.slots (d.start p.label) k) at)
    in_order_there p i below held k before (inr other) =
        let r = is.in_order p i below
        (get_set_back table at (probe d.slots (d.start p.label) i) (Some page) (Some p) other held) k before in
        still_smaller p r.0 (probe d.slots (d.start p.label) k)
        r.1 r.2 (same_or_not (probe d.slots (d.start p.label) k) at)

-- ---- the page in hand

-- it didn't go once round: a slot is free
pub way_within : (d : Draw) (slots : List (List ℕ)) (m : PageMap) (first : Label) (look at : ℕ) (label : Label)
    (hand : List ℕ) → IsLawful d → (c : Carries d slots m first look at label hand) → c.way < d.slots
way_within d slots m first look at label hand law c = by_case (cases_lt c.way d.slots)
  where
    r : (k : ℕ) × (k < d.slots) × (probe d.slots (d.start c.carried.label) k ≡ probe d.slots (d.start first) c.free)
    r = probe_reaches d.slots (d.start c.carried.label) (probe d.slots (d.start first) c.free)
        (law.start_in_range c.carried.label) (probe_within d.slots (d.start first) c.free (law.start_in_range first))

    full : d.slots ≤ c.way → ⊥
    full le =
        let s = c.smaller r.0 (omega (arith, le, r.1)) in
        some_is_none s.0 (sym s.1 ∙ ap (slice_get c.table) r.2 ∙ c.is_free)
      where
        some_is_none : (page : Page) → Some (Some page) ≡ Some None → ⊥
        some_is_none page e = cc

    by_case : (c.way < d.slots) ⊎ (d.slots ≤ c.way) → c.way < d.slots
    by_case (inl lt) = lt
    by_case (inr le) = absurd (full le)

-- the map with the page in hand put into a free slot
pub settles : (d : Draw) (slots : List (List ℕ)) (m : PageMap) (first : Label) (look at : ℕ) (label : Label)
    (hand : List ℕ) → IsLawful d → IsPageMap m → (c : Carries d slots m first look at label hand)
    → slice_get c.table at ≡ Some None
    → HoldsPages d (slice_set slots at hand) m
settles d slots m first look at label hand law is_map c empty =
    subst (λ (ss : List (List ℕ)). HoldsPages d ss m)
    (map-set slot_bytes c.table at (Some c.carried)
    ∙ ap (λ (bytes : List ℕ). slice_set (slots_of c.table) at bytes) (sym c.hand_is)
    ∙ ap (λ (ss : List (List ℕ)). slice_set ss at hand) (sym c.slots_are))
    (HoldsPages-lookups d new m law ordered is_map (λ slot page held. there slot page held (same_or_not slot at))
    (λ page found. back page (c.rest page found)))
  where
    new : Table
    new = slice_set c.table at (Some c.carried)

    at_within : at < length c.table
    at_within = slice_get_within c.table at None empty

    none_greater : (q : Page) → None ≡ Some q → label_cmp c.carried.label q.label ≡ Less
    none_greater q e = cc

    ordered : IsOrderedTable d new
    ordered = put_ordered d c.table c.carried at c.way None law
        c.ordered c.valid c.way_is (way_within d slots m first look at label hand law c) c.smaller empty none_greater

    there : (slot : ℕ) (page : Page) → HoldsPage new slot page → (slot ≡ at) ⊎ (slot ≢ at)
        → page_at m page.label ≡ Some page
    there slot page held (inl same) =
        let page_is : c.carried ≡ page =
        same_Some c.carried page
        (same_Some (Some c.carried) (Some page)
        (sym (get_set_same c.table at (Some c.carried) at_within) ∙ ap (slice_get new) (sym same) ∙ held)) in
        subst (λ (p : Page). page_at m p.label ≡ Some p) page_is c.in_map
    there slot page held (inr other) =
        c.there slot page (get_set_back c.table at slot (Some c.carried) (Some page) other held)

    not_free : (page : Page) (slot : ℕ) → HoldsPage c.table slot page → slot ≡ at → ⊥
    not_free page slot held same = let e : ◌≡◌ {A = Option (Option Page)} (Some (Some page)) (Some None) =
        sym held ∙ ap (slice_get c.table) same ∙ empty in cc

    back : (page : Page) → (page ≡ c.carried) ⊎ ((slot : ℕ) × HoldsPage c.table slot page)
        → (slot : ℕ) × HoldsPage new slot page
    back page (inl same) = (
      at,
      get_set_same c.table at (Some c.carried) at_within
          ∙ ap (λ (p : Page). Some (Some p)) (sym same),
    )
    back page (inr stands) = (
      stands.0,
      get_set_other c.table at stands.0 (Some c.carried) (Some page)
          (λ same. not_free page stands.0 stands.1 same) stands.1,
    )

-- ---- how the page in hand comes and goes on

-- options of tables
one_what : {X : Type 0} (a b : Option X) → Some a ≡ Some b → a ≡ b
one_what a b e = same_Some a b e

some_is_none : (page : Page) → Some (Some page) ≡ Some None → ⊥
some_is_none page e = cc

-- the page that is to be inserted is in hand, at its start
pub carries_first : (d : Draw) (slots : List (List ℕ)) (m : PageMap) (page : Page) (at : ℕ) (label : Label)
    (hand : List ℕ) → IsLawful d → HoldsPages d slots m → maps.len m < d.slots
    → page_at m page.label ≡ None → IsPage page
    → at ≡ probe d.slots (d.start page.label) 0 → label ≡ page.label → hand ≡ slot_bytes (Some page)
    → Carries d slots (with_page m page) page.label 0 at label hand
carries_first d slots m page at label hand law holds room new valid here label_is hand_is = record {
  table = table;
  carried = page;
  label_is = label_is;
  hand_is = hand_is;
  valid = valid;
  in_map = page_at-with_page m page page.label
      ∙ ap (λ o. cond (is_eq o) (Some page) (page_at m page.label)) (tied_itself label_cmp_total page.label);
  ordered = is.ordered;
  slots_are = is.slots_are;
  there = λ slot p held. page_at-with_page m page p.label
      ∙ old_page p (found slot p held) (eq_by_cmp label_cmp p.label page.label) refl;
  apart = λ slot p held same. absurd (not_new p (ap (page_at m) (sym same) ∙ found slot p held));
  rest = λ p at_p. new_or_old p (eq_by_cmp label_cmp p.label page.label)
      (sym (page_at-with_page m page p.label) ∙ at_p);
  way = 0;
  way_is = here;
  smaller = λ k below. absurd (omega (arith, below));
  free = f.0;
  ahead = omega arith;
  within = f.1;
  is_free = ap (slice_get table) f.2 ∙ e.2;
}
  where
    table : Table
    table = place d (pages_of_map m)

    is : IsTableOf d slots m table
    is = held_table d slots m law holds

    found : (slot : ℕ) (p : Page) → HoldsPage table slot p → page_at m p.label ≡ Some p
    found slot p held = standing_found d slots m table slot p law is held

    not_new : (p : Page) → page_at m page.label ≡ Some p → ⊥
    not_new p at_p = cc

    old_page : (p : Page) → page_at m p.label ≡ Some p → (b : Bool) → eq_by_cmp label_cmp p.label page.label ≡ b
        → cond b (Some page) (page_at m p.label) ≡ Some p
    old_page p at_p true tie =
        absurd (not_new p
        (ap (maps.get m) (sym (tied_label_bytes p.label page.label (tie_of (label_cmp p.label page.label) tie)))
        ∙ at_p))
      where
        tie_of : (o : Ordering) → is_eq o ≡ true → o ≡ Equal
        tie_of Less e = cc
        tie_of Equal e = refl
        tie_of Greater e = cc
    old_page p at_p false tie = at_p

    new_or_old : (p : Page) → (b : Bool) → cond b (Some page) (page_at m p.label) ≡ Some p
        → (p ≡ page) ⊎ ((slot : ℕ) × HoldsPage table slot p)
    new_or_old p true at_p = inl (sym (same_Some page p at_p))
    new_or_old p false at_p = inr (found_stands d slots m table p is at_p)

    few : length (pages_in table) < length table
    few = omega (
      arith,
      is.ordered.slots,
      room,
      len-pages_of_map m,
      length_permutation (pages_of_map m) (pages_in table)
          (IsPermutation-place d (pages_of_map m) law (omega (arith, room, len-pages_of_map m))),
    )

    e : (k : ℕ) × (k < length table) × (slice_get table k ≡ Some None)
    e = empty_slot table few

    f : (i : ℕ) × (i < d.slots) × (probe d.slots (d.start page.label) i ≡ e.0)
    f = probe_reaches d.slots (d.start page.label) e.0 (law.start_in_range page.label)
        (omega (arith, e.1, is.ordered.slots))

-- it isn't at the free slot that is ahead, where its slot is taken
still_ahead : (d : Draw) (slots : List (List ℕ)) (m : PageMap) (first : Label) (look at : ℕ) (label : Label)
    (hand : List ℕ) (other : Page) → (c : Carries d slots m first look at label hand)
    → at ≡ probe d.slots (d.start first) look
    → HoldsPage c.table at other → look + 1 ≤ c.free
still_ahead d slots m first look at label hand other c here held = by_case (same_or_not look c.free)
  where
    by_case : (look ≡ c.free) ⊎ (look ≢ c.free) → look + 1 ≤ c.free
    by_case (inl same) =
        absurd (some_is_none other (sym held ∙ ap (slice_get c.table) (here ∙ ap (probe d.slots (d.start first)) same)
        ∙ c.is_free))
    by_case (inr not_same) = ahead_of (cases_lt look c.free)
      where
        ahead_of : (look < c.free) ⊎ (c.free ≤ look) → look + 1 ≤ c.free
        ahead_of (inl lt) = omega (arith, lt)
        ahead_of (inr le) = let same : look ≡ c.free = omega (arith, le, c.ahead) in absurd (not_same same)

-- it goes on over a smaller page
pub carries_on : (d : Draw) (slots : List (List ℕ)) (m : PageMap) (first : Label) (look at next : ℕ) (label : Label)
    (hand : List ℕ) (other : Page) → IsLawful d → (c : Carries d slots m first look at label hand)
    → at ≡ probe d.slots (d.start first) look
    → HoldsPage c.table at other → (label_cmp label other.label ≡ Less → ⊥) → next ≡ (at + 1) % d.slots
    → Carries d slots m first (look + 1) next label hand
carries_on d slots m first look at next label hand other law c here held not_greater is_next = record {
  table = c.table;
  carried = c.carried;
  label_is = c.label_is;
  hand_is = c.hand_is;
  valid = c.valid;
  in_map = c.in_map;
  ordered = c.ordered;
  slots_are = c.slots_are;
  there = c.there;
  apart = c.apart;
  rest = c.rest;
  way = c.way + 1;
  way_is = is_next ∙ probe_next d.slots (d.start c.carried.label) c.way at c.way_is;
  smaller = λ k below. one_more k below (cases_lt k c.way);
  free = c.free;
  ahead = still_ahead d slots m first look at label hand other c here held;
  within = c.within;
  is_free = c.is_free;
}
  where
    less : label_cmp other.label c.carried.label ≡ Less
    less = by_order (label_cmp c.carried.label other.label) refl
      where
        by_order : (o : Ordering) → label_cmp c.carried.label other.label ≡ o
            → label_cmp other.label c.carried.label ≡ Less
        by_order Less e = absurd (not_greater (ap (λ (l : Label). label_cmp l other.label) c.label_is ∙ e))
        by_order Equal e =
            absurd (c.apart at other held
            (sym (labels_same c.carried.label other.label c.valid.label
            (held_page c.table at other c.ordered.pages held).label (tied_label_bytes c.carried.label other.label e))))
        by_order Greater e = label_cmp_total.antisymm other.label c.carried.label ∙ ap ordering_reverse e

    one_more : (k : ℕ) → k < c.way + 1 → (k < c.way) ⊎ (c.way ≤ k)
        → (q : Page) × HoldsPage c.table (probe d.slots (d.start c.carried.label) k) q
        × (label_cmp q.label c.carried.label ≡ Less)
    one_more k below (inl lt) = c.smaller k lt
    one_more k below (inr le) = let same : c.way ≡ k = omega (arith, below, le)
        in (
          other,
          subst (λ (n : ℕ). HoldsPage c.table (probe d.slots (d.start c.carried.label) n) other) same
              (ap (slice_get c.table) (sym c.way_is) ∙ held),
          less,
        )

-- it takes the place of a greater page, which is then in hand
pub carries_displaced : (d : Draw) (slots : List (List ℕ)) (m : PageMap) (first : Label) (look at next : ℕ)
    (label : Label) (hand : List ℕ) (other : Page) (new_label : Label) (new_hand : List ℕ) → IsLawful d
    → (c : Carries d slots m first look at label hand)
    → at ≡ probe d.slots (d.start first) look → HoldsPage c.table at other → label_cmp label other.label ≡ Less
    → next ≡ (at + 1) % d.slots → new_label ≡ other.label → new_hand ≡ slot_bytes (Some other)
    → Carries d (slice_set slots at hand) m first (look + 1) next new_label new_hand
carries_displaced d slots m first look at next label hand other new_label new_hand law c here held greater is_next
    new_label_is new_hand_is = record {
      table = new;
      carried = other;
      label_is = new_label_is;
      hand_is = new_hand_is;
      valid = held_page c.table at other c.ordered.pages held;
      in_map = c.there at other held;
      ordered = put_ordered d c.table c.carried at c.way (Some other) law
          c.ordered c.valid c.way_is (way_within d slots m first look at label hand law c) c.smaller held
          (λ q e. subst (λ (p : Page). label_cmp c.carried.label p.label ≡ Less) (same_Some other q e) less);
      slots_are = ap (λ (ss : List (List ℕ)). slice_set ss at hand) c.slots_are
          ∙ ap (slice_set (slots_of c.table) at) c.hand_is ∙ sym (map-set slot_bytes c.table at (Some c.carried));
      there = λ slot page stands. there slot page stands (same_or_not slot at);
      apart = λ slot page stands same. apart slot page stands same (same_or_not slot at);
      rest = λ page found. rest page (c.rest page found);
      way = w.0 + 1;
      way_is = is_next ∙ probe_next d.slots (d.start other.label) w.0 at (sym w.2);
      smaller = λ k below. smaller k below (cases_lt k w.0);
      free = c.free;
      ahead = still_ahead d slots m first look at label hand other c here held;
      within = c.within;
      is_free = get_set_other c.table at (probe d.slots (d.start first) c.free) (Some c.carried) None
          (λ same. some_is_none other (sym held ∙ ap (slice_get c.table) (sym same) ∙ c.is_free)) c.is_free;
    }
  where
    new : Table
    new = slice_set c.table at (Some c.carried)

    at_within : at < length c.table
    at_within = slice_get_within c.table at (Some other) held

    put : HoldsPage new at c.carried
    put = get_set_same c.table at (Some c.carried) at_within

    less : label_cmp c.carried.label other.label ≡ Less
    less = ap (λ (l : Label). label_cmp l other.label) (sym c.label_is) ∙ greater

    is_carried : (slot : ℕ) (page : Page) → HoldsPage new slot page → slot ≡ at → c.carried ≡ page
    is_carried slot page stands same =
        same_Some c.carried page (same_Some (Some c.carried) (Some page)
        (sym put ∙ ap (slice_get new) (sym same) ∙ stands))

    there : (slot : ℕ) (page : Page) → HoldsPage new slot page → (slot ≡ at) ⊎ (slot ≢ at)
        → page_at m page.label ≡ Some page
    there slot page stands (inl same) =
        subst (λ (p : Page). page_at m p.label ≡ Some p) (is_carried slot page stands same) c.in_map
    there slot page stands (inr not_same) =
        c.there slot page (get_set_back c.table at slot (Some c.carried) (Some page) not_same stands)

    apart : (slot : ℕ) (page : Page) → HoldsPage new slot page → page.label ≡ other.label
        → (slot ≡ at) ⊎ (slot ≢ at) → ⊥
    apart slot page stands same (inl here) =
        less_is_other c.carried.label other.label less
        (ap (λ (p : Page). p.label) (is_carried slot page stands here) ∙ same)
    apart slot page stands same (inr not_here) =
        let old = get_set_back c.table at slot (Some c.carried) (Some page) not_here stands in
        let is_other : page ≡ other =
        same_Some page other (sym (c.there slot page old) ∙ ap (page_at m) same ∙ c.there at other held) in
        not_here (one_place d c.table slot at other law
        c.ordered (subst (λ (p : Page). HoldsPage c.table slot p) is_other old) held)

    rest : (page : Page) → (page ≡ c.carried) ⊎ ((slot : ℕ) × HoldsPage c.table slot page)
        → (page ≡ other) ⊎ ((slot : ℕ) × HoldsPage new slot page)
    rest page (inl same) = inr (at, put ∙ ap (λ (p : Page). Some (Some p)) (sym same))
    rest page (inr stands) = by_slot (same_or_not stands.0 at)
      where
        by_slot : (stands.0 ≡ at) ⊎ (stands.0 ≢ at) → (page ≡ other) ⊎ ((slot : ℕ) × HoldsPage new slot page)
        by_slot (inl same) =
            inl (one_page c.table at page other (subst (λ (s : ℕ). HoldsPage c.table s page) same stands.1) held)
        by_slot (inr not_same) =
            inr (stands.0, get_set_other c.table at stands.0 (Some c.carried) (Some page) not_same stands.1)

    w : (i : ℕ) × (i < d.slots) × (probe d.slots (d.start other.label) i ≡ at)
    w = probe_reaches d.slots (d.start other.label) at (law.start_in_range other.label)
        (omega (arith, at_within, c.ordered.slots))

    at_w : HoldsPage c.table (probe d.slots (d.start other.label) w.0) other
    at_w = ap (slice_get c.table) w.2 ∙ held

    smaller : (k : ℕ) → k < w.0 + 1 → (k < w.0) ⊎ (w.0 ≤ k)
        → (q : Page) × HoldsPage new (probe d.slots (d.start other.label) k) q × (label_cmp q.label other.label ≡ Less)
    smaller k below (inl lt) =
        let r = c.ordered.in_order other w.0 w.1 at_w k lt in
        let not_here : probe d.slots (d.start other.label) k ≢ at =
        λ same. omega (
          arith,
          lt,
          probe_once d.slots (d.start other.label) k w.0 (law.start_in_range other.label)
              (omega (arith, lt, w.1)) w.1 (same ∙ sym w.2),
        ) in (
          r.0,
          get_set_other c.table at (probe d.slots (d.start other.label) k) (Some c.carried)
              (Some r.0) not_here r.1,
          r.2,
        )
    smaller k below (inr le) = let same : w.0 ≡ k = omega (arith, below, le)
        in (
          c.carried,
          subst (λ (n : ℕ). HoldsPage new (probe d.slots (d.start other.label) n) c.carried) same
              (ap (slice_get new) w.2 ∙ put),
          less,
        )
