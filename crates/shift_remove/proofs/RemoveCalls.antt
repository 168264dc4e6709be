-- The calls of a removal, one after the other.
use Rattle.std.proofs.Common.{◌≡◌, ◌≢◌, ℕ, zero, suc, ◌+◌, ◌<◌, ◌≤◌, ◌⊎◌, inl, inr, List, [], ◌∷◌, Bool, true, false}
use Rattle.std.proofs.Common.{cond, Option, Some, None, length, slice_get, slice_set, refl, ap, sym, subst, ◌∙◌, arith}
use Rattle.std.proofs.Common.{length-set, replicate}
use Rattle.std.specs.Prelude.{Result, Ok, Err, OnOk}
use Rattle.std.specs.declared.cmp.Ordering.{Ordering}
use Rattle.std.specs.declared.cmp.Ordering.TheVariants.{Less, Equal, Greater}
use Rattle.std.specs.Ordering.{nat_cmp, is_eq, eq_by_cmp}
use Rattle.std.specs.Cmp.Lexicographic.{slice_cmp}
use Rattle.std.specs.FinMap as maps
use Rattle.std.proofs.lemmas.Bool.{cases_lt, false≢true}
use Rattle.std.proofs.lemmas.Cmp.{tied_itself}
use Rattle.std.proofs.lemmas.List.{map-set}
use Rattle.std.proofs.lemmas.Option.{same_Some, slice_get_within}
use Rattle.store_model.specs.Labels.{Label, label_bytes, label_cmp}
use Rattle.store_model.specs.Draws.{Draw, IsLawful}
use Rattle.store_model.specs.Pages.{Page, IsPage}
use Rattle.store_model.specs.Placement.{Table, probe, HoldsPage, IsInOrder, IsOrderedTable}
use Rattle.store_model.specs.Images.{slot_bytes, slots_of}
use Rattle.store_model.specs.PageMaps.{PageMap, page_at, without_page, IsPageMap, HoldsPages}
use Rattle.store_model.proofs.PlacementLemmas.{label_cmp_total}
use Rattle.store_model.proofs.PlacementLemmasOrder.{probe_once, one_page}
use Rattle.store_model.proofs.PlacementLemmasTables.{held_page, tied_label_bytes}
use Rattle.store_model.proofs.PageMapsLemmas.{found_stands, standing_found, page_at-without_page}
use Rattle.store_model.proofs.PageMapsLemmas.{IsPageMap-without_page, HoldsPages-lookups}
use Rattle.store_base.specs.declared.store_fault.Fault.{Fault}
use Rattle.store_base.specs.SlotsState.{SlotsState, IsObservable, AreSlotCalls, IsGet, IsSet}
use Rattle.store_base.proofs.SlotsCalls.{AreSlotCalls-none, AreSlotCalls-then, IsObservable-later}
use Rattle.ordered_table.specs.Tables.{HasInSlot, Removes}
use Rattle.ordered_table.proofs.Reading.{probe_first, probe_within, Seen, seen}
use Rattle.ordered_table.proofs.Inserting.{get_set_same, get_set_other, get_set_back, same_or_not, all_in_slots}
use Rattle.ordered_table.proofs.Inserting.{one_place}
use Rattle.ordered_table.proofs.InsertCalls.{none_told, page_told}
use Rattle.ordered_table.proofs.Overwriting.{InTable, in_table}
use Rattle.shift_remove.specs.Ways.{Passes}
use Rattle.shift_remove.proofs.Turning.{At, at_of, at_is, at_slot, passes_turned, passes_back}
use Rattle.shift_remove.proofs.Shifting.{start_of, Stands, PassesBy, Shifting, shifted, shifting_stays, shifting_moves}

-- ---- the order condition by ways

-- in a table in order, each slot on the way of a page holds a smaller one
pub way_is_smaller : (d : Draw) (table : Table) (slot other : ℕ) (page : Page) → IsLawful d → IsInOrder d table
    → slot < d.slots → other < d.slots → HoldsPage table slot page → Passes (d.start page.label) other slot
    → (q : Page) × HoldsPage table other q × (label_cmp q.label page.label ≡ Less)
way_is_smaller d table slot other page law order slot_within other_within held passes =
    let start = d.start page.label in
    let below = law.start_in_range page.label in
    let here : At d.slots start 0 start = record {
      within = omega (arith, below);
      in_table = below;
      there = inl (omega arith);
    } in
    let i = at_slot d.slots start slot below slot_within in
    let k = at_slot d.slots start other below other_within in
    let p = passes_turned d.slots start start 0 other k.0 slot i.0 below here k.1 i.1 passes in
    let r = order page i.0 i.1.within (subst (λ (s : ℕ). HoldsPage table s page)
    (at_is d.slots start i.0 slot below i.1) held) k.0 (omega (arith, p)) in
    (r.0, subst (λ (s : ℕ). HoldsPage table s r.0) (sym (at_is d.slots start k.0 other below k.1)) r.1, r.2)

-- and a table is in order where that is so
pub in_order_by_ways : (d : Draw) (table : Table) → IsLawful d
    → ((slot other : ℕ) (page : Page) → slot < d.slots → other < d.slots → HoldsPage table slot page
    → Passes (d.start page.label) other slot → (q : Page) × HoldsPage table other q
    × (label_cmp q.label page.label ≡ Less)) → IsInOrder d table
in_order_by_ways d table law smaller page i within held k before =
    let start = d.start page.label in
    let below = law.start_in_range page.label in
    let here : At d.slots start 0 start = record {
      within = omega (arith, below);
      in_table = below;
      there = inl (omega arith);
    } in
    let at_i = at_of d.slots start i below within in
    let at_k = at_of d.slots start k below (omega (arith, before, within)) in
    smaller (probe d.slots start i) (probe d.slots start k) page at_i.in_table at_k.in_table held
    (passes_back d.slots start start 0 (probe d.slots start k) k (probe d.slots start i) i below here at_k at_i
    (inl (omega arith, before)))

-- ---- the map without the page

-- The slots, but for the bytes in the hole, are those of a table with the hole, of all pages of the map.
pub record Shifts (d : Draw) (slots : List (List ℕ)) (m : PageMap) (first look hole : ℕ) : Type 0 where
  pub law : IsLawful d
  pub below : first < d.slots
  pub table : Table
  pub number : ℕ
  pub low : Label
  pub hole_is : hole ≡ probe d.slots first number
  pub slots_are : slice_set slots hole (slot_bytes None) ≡ slots_of table
  pub shifting : Shifting d first law below table look number low
  pub there : (slot : ℕ) (page : Page) → HoldsPage table slot page → page_at m page.label ≡ Some page
  pub rest : (page : Page) → page_at m page.label ≡ Some page → (slot : ℕ) × HoldsPage table slot page

-- ---- lists with an element changed

set_twice : {X : Type 0} (xs : List X) (i : ℕ) (a b : X) → slice_set (slice_set xs i a) i b ≡ slice_set xs i b
set_twice [] i a b = refl
set_twice (x ∷ xs) zero a b = refl
set_twice (x ∷ xs) (suc i) a b = ap (λ ys. x ∷ ys) (set_twice xs i a b)

get_other : {X : Type 0} (xs : List X) (i j : ℕ) (a : X) → j ≢ i → slice_get (slice_set xs i a) j ≡ slice_get xs j
get_other [] i j a other = refl
get_other (x ∷ xs) zero zero a other = absurd (other refl)
get_other (x ∷ xs) zero (suc j) a other = refl
get_other (x ∷ xs) (suc i) zero a other = refl
get_other (x ∷ xs) (suc i) (suc j) a other = get_other xs i j a (λ e. other (ap suc e))

tie_of : (o : Ordering) → is_eq o ≡ true → o ≡ Equal
tie_of Less e = cc
tie_of Equal e = refl
tie_of Greater e = cc

none_is_some : (page : Page) → Some None ≡ Some (Some page) → ⊥
none_is_some page e = cc

-- ---- the first hole

-- the page in the slot is taken out of the map, and its slot is the hole
pub shifts_first : (d : Draw) (slots : List (List ℕ)) (m : PageMap) (l : Label) (at : ℕ) → IsLawful d → at < d.slots
    → HasInSlot d slots m l at → Shifts d slots (without_page m l) at 0 at
shifts_first d slots m l at law below h = record {
  law = law;
  below = below;
  table = table;
  number = 0;
  low = p.label;
  hole_is = first_is;
  slots_are = ap (λ (ss : List (List ℕ)). slice_set ss at (slot_bytes None)) t.is.slots_are
      ∙ sym (map-set slot_bytes t.table at None);
  shifting = record {
    slots = length-set t.table at None ∙ t.is.ordered.slots;
    valid = λ slot page held. held_page t.table slot page t.is.ordered.pages (was slot page held).1;
    reached = omega arith;
    within = omega (arith, below);
    empty = ap (slice_get table) (sym first_is) ∙ get_set_same t.table at None at_within;
    order = λ u page within held w w_within other passes. order u page within held w w_within other passes;
    unlooked = λ u page within held passes. first_looked u page held (cases_lt 0 u);
    greater = λ u page within held passes. greater u page within held passes;
    round = λ u page before held turned less. omega (arith, before);
  };
  there = λ slot page held. page_at-without_page m l page.label
      ∙ there slot page (was slot page held) (eq_by_cmp label_cmp page.label l) refl;
  rest = λ page found. rest page (eq_by_cmp label_cmp page.label l) refl
      (sym (page_at-without_page m l page.label) ∙ found);
}
  where
    p : Page
    p = h.there.page

    t : InTable d slots m l at p
    t = in_table d slots m l at law below h

    table : Table
    table = slice_set t.table at None

    at_within : at < length t.table
    at_within = slice_get_within t.table at (Some p) t.held

    first_is : at ≡ probe d.slots at 0
    first_is = probe_first d.slots at below

    was : (slot : ℕ) (page : Page) → HoldsPage table slot page → (slot ≢ at) × HoldsPage t.table slot page
    was slot page held = by_slot (same_or_not slot at)
      where
        by_slot : (slot ≡ at) ⊎ (slot ≢ at) → (slot ≢ at) × HoldsPage t.table slot page
        by_slot (inl same) =
            absurd (none_is_some page (sym (get_set_same t.table at None at_within)
            ∙ ap (slice_get table) (sym same) ∙ held))
        by_slot (inr other) = (other, get_set_back t.table at slot None (Some page) other held)

    first_looked : (u : ℕ) (page : Page) → Stands d table at u page → (0 < u) ⊎ (u ≤ 0) → 0 < u
    first_looked u page held (inl lt) = lt
    first_looked u page held (inr le) = let same : u ≡ 0 = omega arith
        in absurd ((was (probe d.slots at u) page held).0 (ap (probe d.slots at) same ∙ sym first_is))

    on_way : (u : ℕ) (page : Page) → u < d.slots → Stands d table at u page → (w : ℕ) → w < d.slots
        → PassesBy d at law below page w u → (q : Page) × HoldsPage t.table (probe d.slots at w) q
        × (label_cmp q.label page.label ≡ Less)
    on_way u page within held w w_within passes =
        let at_u = at_of d.slots at u below within in
        let at_w = at_of d.slots at w below w_within in
        let s = start_of d at law below page in
        way_is_smaller d t.table (probe d.slots at u)
        (probe d.slots at w) page law t.is.ordered.in_order at_u.in_table at_w.in_table
        (was (probe d.slots at u) page held).1
        (passes_back d.slots at (d.start page.label) s.0 (probe d.slots at w) w
        (probe d.slots at u) u below s.1 at_w at_u passes)

    order : (u : ℕ) (page : Page) → u < d.slots → Stands d table at u page → (w : ℕ) → w < d.slots → w ≢ 0
        → PassesBy d at law below page w u → (q : Page) × Stands d table at w q × (label_cmp q.label page.label ≡ Less)
    order u page within held w w_within other passes =
        let r = on_way u page within held w w_within passes in
        let not_at : probe d.slots at w ≢ at =
        λ same. other (probe_once d.slots at w 0 below w_within (omega (arith, below)) (same ∙ first_is)) in
        (r.0, get_set_other t.table at (probe d.slots at w) None (Some r.0) not_at r.1, r.2)

    greater : (u : ℕ) (page : Page) → u < d.slots → Stands d table at u page → PassesBy d at law below page 0 u
        → label_cmp p.label page.label ≡ Less
    greater u page within held passes =
        let r = on_way u page within held 0 (omega (arith, below)) passes in
        let is_p : r.0 ≡ p = one_page t.table at r.0 p (ap (slice_get t.table) first_is ∙ r.1) t.held in
        subst (λ (q : Page). label_cmp q.label page.label ≡ Less) is_p r.2

    there : (slot : ℕ) (page : Page) → (slot ≢ at) × HoldsPage t.table slot page → (b : Bool)
        → eq_by_cmp label_cmp page.label l ≡ b → cond b None (page_at m page.label) ≡ Some page
    there slot page (other, held) true tie =
        let found = standing_found d slots m t.table slot page law t.is held in
        let is_p : page ≡ p = same_Some page p
        (sym found ∙ ap (maps.get m) (tied_label_bytes page.label l (tie_of (label_cmp page.label l) tie))
        ∙ h.there.in_map) in
        absurd (other (one_place d t.table slot at p law
        t.is.ordered (subst (λ (q : Page). HoldsPage t.table slot q) is_p held) t.held))
    there slot page (other, held) false tie = standing_found d slots m t.table slot page law t.is held

    rest : (page : Page) → (b : Bool) → eq_by_cmp label_cmp page.label l ≡ b
        → cond b None (page_at m page.label) ≡ Some page → (slot : ℕ) × HoldsPage table slot page
    rest page true tie found = cc
    rest page false tie found = by_slot (same_or_not stands.0 at)
      where
        stands : (slot : ℕ) × HoldsPage t.table slot page
        stands = found_stands d slots m t.table page t.is found

        by_slot : (stands.0 ≡ at) ⊎ (stands.0 ≢ at) → (slot : ℕ) × HoldsPage table slot page
        by_slot (inl same) =
            let is_p : page ≡ p = one_page t.table at page p
            (subst (λ (s : ℕ). HoldsPage t.table s page) same stands.1) t.held in
            let bytes : label_bytes page.label ≡ label_bytes l =
            ap (λ (q : Page). label_bytes q.label) is_p ∙ sym t.label_bytes_are in
            let tied : label_cmp page.label l ≡ Equal =
            ap (slice_cmp nat_cmp (label_bytes page.label)) (sym bytes) ∙ tied_itself label_cmp_total page.label in
            absurd (false≢true (sym tie ∙ ap is_eq tied))
        by_slot (inr other) = (stands.0, get_set_other t.table at stands.0 None (Some page) other stands.1)

-- ---- a slot that was looked at

-- what stands in the next slot, by its bytes
pub shift_sees : (d : Draw) (slots : List (List ℕ)) (m : PageMap) (first look hole place : ℕ) (bytes : List ℕ)
    → (s : Shifts d slots m first look hole) → look + 1 < d.slots → place ≡ probe d.slots first (look + 1)
    → slice_get slots place ≡ Some bytes → Seen s.table place bytes
shift_sees d slots m first look hole place bytes s within place_is got =
    let in_table = at_of d.slots first (look + 1) s.below within in
    let not_hole : place ≢ hole =
    λ same. omega (
      arith,
      s.shifting.reached,
      probe_once d.slots first (look + 1) s.number s.below within
          (omega (arith, s.shifting.reached, within)) (sym place_is ∙ same ∙ s.hole_is),
    ) in
    seen s.table (slice_set slots hole (slot_bytes None)) place bytes
    s.slots_are (omega (arith, in_table.in_table, place_is, s.shifting.slots))
    (get_other slots hole place (slot_bytes None) not_hole ∙ got)

-- a page that stays
pub shifts_stays : (d : Draw) (slots : List (List ℕ)) (m : PageMap) (first look hole place : ℕ) (page : Page)
    → (s : Shifts d slots m first look hole) → look + 1 < d.slots → place ≡ probe d.slots first (look + 1)
    → HoldsPage s.table place page
    → (Passes (d.start page.label) hole place → ⊥) → Shifts d slots m first (look + 1) hole
shifts_stays d slots m first look hole place page s within place_is held stays = record {
  law = s.law;
  below = s.below;
  table = s.table;
  number = s.number;
  low = s.low;
  hole_is = s.hole_is;
  slots_are = s.slots_are;
  shifting = shifting_stays d first s.law s.below s.table look s.number s.low page s.shifting within
      (ap (slice_get s.table) (sym place_is) ∙ held)
      (λ passes. stays (subst (λ (n : ℕ). Passes (d.start page.label) hole n) (sym place_is)
      (subst (λ (n : ℕ). Passes (d.start page.label) n (probe d.slots first (look + 1))) (sym s.hole_is)
      (passes_back d.slots first (d.start page.label)
      (start_of d first s.law s.below page).0 (probe d.slots first s.number)
      s.number (probe d.slots first (look + 1)) (look + 1) s.below (start_of d first s.law s.below page).1
      (at_of d.slots first s.number s.below (omega (arith, s.shifting.reached, within)))
      (at_of d.slots first (look + 1) s.below within) passes))));
  there = s.there;
  rest = s.rest;
}

-- a page that moves into the hole
pub shifts_moves : (d : Draw) (slots : List (List ℕ)) (m : PageMap) (first look hole place : ℕ) (page : Page)
    (bytes : List ℕ) → (s : Shifts d slots m first look hole) → look + 1 < d.slots
    → place ≡ probe d.slots first (look + 1) → HoldsPage s.table place page
    → bytes ≡ slot_bytes (Some page) → Passes (d.start page.label) hole place
    → Shifts d (slice_set slots hole bytes) m first (look + 1) place
shifts_moves d slots m first look hole place page bytes s within place_is held bytes_are passes = record {
  law = s.law;
  below = s.below;
  table = moved;
  number = look + 1;
  low = page.label;
  hole_is = place_is;
  slots_are = ap (λ (ss : List (List ℕ)). slice_set ss place (slot_bytes None)) filled_are
      ∙ sym (map-set slot_bytes filled place None);
  shifting = subst (λ (n : ℕ). Shifting d first s.law s.below (slice_set filled n None) (look + 1)
      (look + 1) page.label) (sym place_is)
      (subst (λ (n : ℕ). Shifting d first s.law s.below
      (slice_set (slice_set s.table n (Some page)) (probe d.slots first (look + 1)) None) (look + 1)
      (look + 1) page.label) (sym s.hole_is)
      (shifting_moves d first s.law s.below s.table look s.number s.low page s.shifting within
      (ap (slice_get s.table) (sym place_is) ∙ held)
      (passes_turned d.slots first (d.start page.label)
      (start_of d first s.law s.below page).0 (probe d.slots first s.number)
      s.number (probe d.slots first (look + 1)) (look + 1) s.below (start_of d first s.law s.below page).1
      (at_of d.slots first s.number s.below number_within) (at_of d.slots first (look + 1) s.below within)
      (subst (λ (n : ℕ). Passes (d.start page.label) n (probe d.slots first (look + 1)))
      s.hole_is (subst (λ (n : ℕ). Passes (d.start page.label) hole n) place_is passes)))));
  there = λ slot q stands. there slot q stands (same_or_not slot place) (same_or_not slot hole);
  rest = λ q found. rest q (s.rest q found);
}
  where
    number_within : s.number < d.slots
    number_within = omega (arith, s.shifting.reached, within)

    filled : Table
    filled = slice_set s.table hole (Some page)

    moved : Table
    moved = slice_set filled place None

    hole_empty : slice_get s.table hole ≡ Some None
    hole_empty = ap (slice_get s.table) s.hole_is ∙ s.shifting.empty

    hole_within : hole < length s.table
    hole_within = slice_get_within s.table hole None hole_empty

    place_within : place < length filled
    place_within = omega (arith, slice_get_within s.table place (Some page) held, length-set s.table hole (Some page))

    not_hole : hole ≢ place
    not_hole = λ same. none_is_some page (sym hole_empty ∙ ap (slice_get s.table) same ∙ held)

    filled_are : slice_set slots hole bytes ≡ slots_of filled
    filled_are = sym (set_twice slots hole (slot_bytes None) bytes)
        ∙ ap (λ (ss : List (List ℕ)). slice_set ss hole bytes) s.slots_are
        ∙ ap (slice_set (slots_of s.table) hole) bytes_are ∙ sym (map-set slot_bytes s.table hole (Some page))

    there : (slot : ℕ) (q : Page) → HoldsPage moved slot q → (slot ≡ place) ⊎ (slot ≢ place)
        → (slot ≡ hole) ⊎ (slot ≢ hole) → page_at m q.label ≡ Some q
    there slot q stands (inl same) r =
        absurd (none_is_some q (sym (get_set_same filled place None place_within)
        ∙ ap (slice_get moved) (sym same) ∙ stands))
    there slot q stands (inr other) (inl same) =
        let is_page : page ≡ q = same_Some page q
        (same_Some (Some page) (Some q) (sym (get_set_same s.table hole (Some page) hole_within)
        ∙ ap (slice_get filled) (sym same) ∙ get_set_back filled place slot None (Some q) other stands)) in
        subst (λ (x : Page). page_at m x.label ≡ Some x) is_page (s.there place page held)
    there slot q stands (inr other) (inr not_there) =
        s.there slot q (get_set_back s.table hole slot (Some page) (Some q) not_there
        (get_set_back filled place slot None (Some q) other stands))

    rest : (q : Page) → (slot : ℕ) × HoldsPage s.table slot q → (slot : ℕ) × HoldsPage moved slot q
    rest q (slot, stands) = by_slot (same_or_not slot place) (same_or_not slot hole)
      where
        by_slot : (slot ≡ place) ⊎ (slot ≢ place) → (slot ≡ hole) ⊎ (slot ≢ hole) → (n : ℕ) × HoldsPage moved n q
        by_slot (inl same) r =
            let is_page : page ≡ q = one_page s.table place page q held
            (subst (λ (n : ℕ). HoldsPage s.table n q) same stands) in (
              hole,
              subst (λ (x : Page). HoldsPage moved hole x) is_page
                  (get_set_other filled place hole None (Some page) not_hole
                  (get_set_same s.table hole (Some page) hole_within)),
            )
        by_slot (inr other) (inl same) =
            absurd (none_is_some q (sym hole_empty ∙ ap (slice_get s.table) (sym same) ∙ stands))
        by_slot (inr other) (inr not_there) = (
          slot,
          get_set_other filled place slot None (Some q) other
              (get_set_other s.table hole slot (Some page) (Some q) not_there stands),
        )

-- ---- the last hole is made empty

pub shifts_end : (d : Draw) (slots : List (List ℕ)) (m : PageMap) (first look hole : ℕ) (zeros : List ℕ) → IsPageMap m
    → (s : Shifts d slots m first look hole)
    → (look + 1 < d.slots → slice_get s.table (probe d.slots first (look + 1)) ≡ Some None)
    → zeros ≡ slot_bytes None → HoldsPages d (slice_set slots hole zeros) m
shifts_end d slots m first look hole zeros is_map s empty zeros_are =
    subst (λ (ss : List (List ℕ)). HoldsPages d ss m) (sym s.slots_are ∙ ap (slice_set slots hole) (sym zeros_are))
    (HoldsPages-lookups d s.table m s.law ordered is_map s.there s.rest)
  where
    smaller : (slot other : ℕ) (page : Page) → slot < d.slots → other < d.slots → HoldsPage s.table slot page
        → Passes (d.start page.label) other slot → (q : Page) × HoldsPage s.table other q
        × (label_cmp q.label page.label ≡ Less)
    smaller slot other page slot_within other_within held passes = by_number (same_or_not w.0 s.number)
      where
        st : (n : ℕ) × At d.slots first n (d.start page.label)
        st = start_of d first s.law s.below page

        u : (n : ℕ) × At d.slots first n slot
        u = at_slot d.slots first slot s.below slot_within

        w : (n : ℕ) × At d.slots first n other
        w = at_slot d.slots first other s.below other_within

        by : PassesBy d first s.law s.below page w.0 u.0
        by = passes_turned d.slots first (d.start page.label) st.0 other w.0 slot u.0 s.below st.1 w.1 u.1 passes

        stands : Stands d s.table first u.0 page
        stands = subst (λ (n : ℕ). HoldsPage s.table n page) (at_is d.slots first u.0 slot s.below u.1) held

        by_number : (w.0 ≡ s.number) ⊎ (w.0 ≢ s.number)
            → (q : Page) × HoldsPage s.table other q × (label_cmp q.label page.label ≡ Less)
        by_number (inl same) =
            absurd (shifted d first s.law s.below s.table look s.number s.low s.shifting empty u.0 page
            u.1.within stands (subst (λ (n : ℕ). PassesBy d first s.law s.below page n u.0) same by))
        by_number (inr not_hole) =
            let r = s.shifting.order u.0 page u.1.within stands w.0 w.1.within not_hole by in
            (r.0, subst (λ (n : ℕ). HoldsPage s.table n r.0) (sym (at_is d.slots first w.0 other s.below w.1)) r.1, r.2)

    ordered : IsOrderedTable d s.table
    ordered = record {
      slots = s.shifting.slots;
      pages = all_in_slots IsPage s.table s.shifting.valid;
      in_order = in_order_by_ways d s.table s.law smaller;
    }

-- ---- a removal on its way

-- it has looked at so many slots behind the first hole, the last one at `place`
pub record Removing (d : Draw) (old now : SlotsState) (at look place hole : ℕ) : Type 0 where
  pub calls : AreSlotCalls {T = Unit {0}} old now (Ok tt)
  pub place_is : place ≡ probe d.slots at look
  pub hole_within : hole < d.slots
  pub shifts : (m : PageMap) (l : Label) → IsObservable old → HasInSlot d old.slots m l at
      → Shifts d now.slots (without_page m l) at look hole

pub removing_starts : (d : Draw) (state : SlotsState) (at : ℕ) → IsLawful d → at < d.slots
    → Removing d state state at 0 at at
removing_starts d state at law below = record {
  calls = AreSlotCalls-none state tt;
  place_is = probe_first d.slots at below;
  hole_within = below;
  shifts = λ m l observable h. shifts_first d state.slots m l at law below h;
}

pub removing_within : (d : Draw) (old now : SlotsState) (at look place hole : ℕ) → at < d.slots
    → Removing d old now at look place hole → place < d.slots
removing_within d old now at look place hole below s =
    subst (λ (n : ℕ). n < d.slots) (sym s.place_is) (probe_within d.slots at look below)

pub removes_fault : (d : Draw) (old mid new : SlotsState) (at : ℕ) (fault : Fault)
    → AreSlotCalls {T = Unit {0}} old mid (Ok tt) → AreSlotCalls {T = Unit {0}} mid new (Err fault)
    → Removes {T = Unit {0}} d old new at (Err fault)
removes_fault d old mid new at fault before calls = record {
  calls = AreSlotCalls-then old mid new tt (Err fault) before calls;
  removed = λ m l observable h. tt;
}

pub so_far : (old now mid : SlotsState) (at : ℕ) (buffer : List ℕ) → AreSlotCalls {T = Unit {0}} old now (Ok tt)
    → IsGet {T = Unit {0}} now mid at buffer (Ok tt) → AreSlotCalls {T = Unit {0}} old mid (Ok tt)
so_far old now mid at buffer before get = AreSlotCalls-then old now mid tt (Ok tt) before get.calls

-- the next slot, as a read of it shows it
record NextSlot (d : Draw) (old now mid : SlotsState) (m : PageMap) (at look next hole : ℕ)
    (buffer : List ℕ) : Type 0 where
  shifts : Shifts d mid.slots m at look hole
  sees : Seen shifts.table next buffer

next_slot : (d : Draw) (old now mid : SlotsState) (m : PageMap) (l : Label) (at look place next hole : ℕ)
    (buffer : List ℕ) → Removing d old now at look place hole → look + 1 < d.slots → next ≡ probe d.slots at (look + 1)
    → IsGet {T = Unit {0}} now mid next buffer (Ok tt) → IsObservable old → HasInSlot d old.slots m l at
    → NextSlot d old now mid (without_page m l) at look next hole buffer
next_slot d old now mid m l at look place next hole buffer s within next_is get observable h =
    let g = get.observed (IsObservable-later old now (Ok tt) s.calls observable) in
    let shifts = subst (λ (ss : List (List ℕ)). Shifts d ss (without_page m l) at look hole) (sym g.slots)
    (s.shifts m l observable h) in
    record {
      shifts = shifts;
      sees = shift_sees d mid.slots (without_page m l) at look hole next buffer shifts within next_is
          (ap (λ (ss : List (List ℕ)). slice_get ss next) g.slots ∙ g.got);
    }

page_seen : (d : Draw) (slots : List (List ℕ)) (m : PageMap) (first look hole next : ℕ)
    (s : Shifts d slots m first look hole) (what : Option Page) (p : Page) → slice_get s.table next ≡ Some what
    → what ≡ Some p → IsPage p
page_seen d slots m first look hole next s what p there same = s.shifting.valid next p (there ∙ ap Some same)

-- an empty slot ends it
pub removes_at_free : (d : Draw) (old now mid new : SlotsState) (at look place next hole : ℕ) (buffer zeros : List ℕ)
    (order : Option Label) (result : Result (Unit {0}) Fault) → Removing d old now at look place hole
    → look + 1 < d.slots → next ≡ probe d.slots at (look + 1)
    → IsGet {T = Unit {0}} now mid next buffer (Ok tt)
    → ((page : Page) → IsPage page → buffer ≡ slot_bytes (Some page) → order ≡ Some page.label) → order ≡ None
    → zeros ≡ slot_bytes None → IsSet mid new hole zeros result → Removes d old new at result
removes_at_free d old now mid new at look place next hole buffer zeros order result s within next_is get told none
    zeros_are set = record {
      calls = AreSlotCalls-then old mid new tt result (so_far old now mid next buffer s.calls get) set.calls;
      removed = λ m l observable h. removed m l observable h result set;
    }
  where
    removed : (m : PageMap) (l : Label) → IsObservable old → HasInSlot d old.slots m l at
        → (result : Result (Unit {0}) Fault) → IsSet mid new hole zeros result
        → OnOk result (HoldsPages d new.slots (without_page m l))
    removed m l observable h (Err fault) set = tt
    removed m l observable h (Ok u) set =
        let n = next_slot d old now mid m l at look place next hole buffer s within next_is get observable h in
        let empty = none_told n.sees.what buffer order
        (λ p same. page_seen d mid.slots (without_page m l) at look hole next n.shifts n.sees.what p
        n.sees.there same) n.sees.bytes_are told none in
        subst (λ (ss : List (List ℕ)). HoldsPages d ss (without_page m l))
        (sym (set.observed (IsObservable-later old mid (Ok tt)
        (so_far old now mid next buffer s.calls get) observable)).written)
        (shifts_end d mid.slots (without_page m l) at look hole zeros
        (IsPageMap-without_page m l h.holds.pages)
        n.shifts (λ lt. ap (slice_get n.shifts.table) (sym next_is) ∙ n.sees.there ∙ ap Some empty) zeros_are)

-- and so does the last of all slots
pub removes_all : (d : Draw) (old now new : SlotsState) (at look place hole : ℕ) (zeros : List ℕ)
    (result : Result (Unit {0}) Fault) → Removing d old now at look place hole → d.slots ≤ look + 1
    → zeros ≡ slot_bytes None → IsSet now new hole zeros result → Removes d old new at result
removes_all d old now new at look place hole zeros result s all zeros_are set = record {
  calls = AreSlotCalls-then old now new tt result s.calls set.calls;
  removed = λ m l observable h. removed m l observable h result set;
}
  where
    removed : (m : PageMap) (l : Label) → IsObservable old → HasInSlot d old.slots m l at
        → (result : Result (Unit {0}) Fault) → IsSet now new hole zeros result
        → OnOk result (HoldsPages d new.slots (without_page m l))
    removed m l observable h (Err fault) set = tt
    removed m l observable h (Ok u) set =
        subst (λ (ss : List (List ℕ)). HoldsPages d ss (without_page m l))
        (sym (set.observed (IsObservable-later old now (Ok tt) s.calls observable)).written)
        (shifts_end d now.slots (without_page m l) at look hole zeros (IsPageMap-without_page m l h.holds.pages)
        (s.shifts m l observable h) (λ lt. absurd (omega (arith, lt, all))) zeros_are)

-- a page whose way doesn't pass the hole stays
pub removing_stays : (d : Draw) (old now mid : SlotsState) (at look place next hole start : ℕ) (buffer : List ℕ)
    (order : Option Label) (label : Label) → Removing d old now at look place hole → look + 1 < d.slots
    → next ≡ probe d.slots at (look + 1)
    → IsGet {T = Unit {0}} now mid next buffer (Ok tt) → (buffer ≡ slot_bytes None → order ≡ None)
    → ((page : Page) → IsPage page → buffer ≡ slot_bytes (Some page) → order ≡ Some page.label) → order ≡ Some label
    → start ≡ d.start label
    → (Passes start hole next → ⊥) → Removing d old mid at (look + 1) next hole
removing_stays d old now mid at look place next hole start buffer order label s within next_is get free told some
    start_is stays = record {
      calls = so_far old now mid next buffer s.calls get;
      place_is = next_is;
      hole_within = s.hole_within;
      shifts = λ m l observable h.
          let n = next_slot d old now mid m l at look place next hole buffer s within next_is get observable h in
          let p = page_told n.sees.what buffer order label
          (λ p same. page_seen d mid.slots (without_page m l) at look hole next n.shifts n.sees.what p
          n.sees.there same) n.sees.bytes_are free told some in
          shifts_stays d mid.slots (without_page m l) at look hole next p.0 n.shifts within next_is
          (n.sees.there ∙ ap Some p.1)
          (λ passes. stays (subst (λ (x : ℕ). Passes x hole next) (ap d.start (sym p.2) ∙ sym start_is) passes));
    }

-- and one whose way does moves there
pub removing_moves : (d : Draw) (old now mid new : SlotsState) (at look place next hole start : ℕ) (buffer : List ℕ)
    (order : Option Label) (label : Label) → Removing d old now at look place hole → look + 1 < d.slots
    → next ≡ probe d.slots at (look + 1) → next < d.slots
    → IsGet {T = Unit {0}} now mid next buffer (Ok tt) → (buffer ≡ slot_bytes None → order ≡ None)
    → ((page : Page) → IsPage page → buffer ≡ slot_bytes (Some page) → order ≡ Some page.label) → order ≡ Some label
    → start ≡ d.start label
    → Passes start hole next → IsSet {T = Unit {0}} mid new hole buffer (Ok tt)
    → Removing d old new at (look + 1) next next
removing_moves d old now mid new at look place next hole start buffer order label s within next_is next_within get free
    told some start_is passes set = record {
      calls = AreSlotCalls-then old mid new tt (Ok tt) before set.calls;
      place_is = next_is;
      hole_within = next_within;
      shifts = λ m l observable h.
          let n = next_slot d old now mid m l at look place next hole buffer s within next_is get observable h in
          let p = page_told n.sees.what buffer order label
          (λ p same. page_seen d mid.slots (without_page m l) at look hole next n.shifts n.sees.what p
          n.sees.there same) n.sees.bytes_are free told some in
          subst (λ (ss : List (List ℕ)). Shifts d ss (without_page m l) at (look + 1) next)
          (sym (set.observed (IsObservable-later old mid (Ok tt) before observable)).written)
          (shifts_moves d mid.slots (without_page m l) at look hole next p.0 buffer n.shifts within next_is
          (n.sees.there ∙ ap Some p.1) (n.sees.bytes_are ∙ ap slot_bytes p.1)
          (subst (λ (x : ℕ). Passes x hole next) (start_is ∙ ap d.start p.2) passes));
    }
  where
    before : AreSlotCalls {T = Unit {0}} old mid (Ok tt)
    before = so_far old now mid next buffer s.calls get

-- the bytes of an empty slot
pub empty_bytes : replicate 4096 0 ≡ slot_bytes None
unfolding slot_bytes
empty_bytes = refl
