-- Lemmas on free slots: the places that lead to them, and the first one of a probe sequence.
use Rattle.std.proofs.Common.{◌≡◌, ℕ, zero, suc, ◌+◌, ◌-◌, ◌<◌, ◌≤◌, List, [], ◌∷◌, ◌++◌, map, length, Bool, true}
use Rattle.std.proofs.Common.{false}
use Rattle.std.proofs.Common.{Option, Some, None, is_none, cond, get_or, nat_eq, slice_set, slice_index, replicate}
use Rattle.std.proofs.Common.{refl, sym, ap, ap₂, ◌∙◌, inl, inr, arith, length-set}
use Rattle.std.specs.Option.{option_or}
use Rattle.std.specs.List.{find}
use Rattle.std.proofs.lemmas.Bool.{cases_lt, cases_eq, ne_eqb, eqb-true, false≢true}
use Rattle.std.proofs.lemmas.List.{length-map, length-replicate, get_or-map, get_or-set_same, get_or-set_other}
use Rattle.std.proofs.lemmas.List.{same_lists, map-set}
use Rattle.std.proofs.lemmas.List.{get_or-replicate}
use Rattle.std.proofs.lemmas.List.Folds.{find-append}
use Rattle.std.proofs.lemmas.Option.{slice_get-get_or}
use Rattle.store_model.specs.Lists.{numbers_from, numbers_below}
use Rattle.store_model.specs.Pages.{Page}
use Rattle.store_model.specs.Placement.{Table, probe, holds_nothing, is_free, put_at}
use Rattle.store_model.proofs.PlacementLemmas.{length-numbers_from, get_or-numbers_from}
use Rattle.layout_scratch.proofs.FirstFree.{probes_in_parts, numbers_from-append}
use Rattle.rising_pages.specs.FreePlaces.{free_of, LeadsOn, AreFree, taken_at}

-- ---- which slots are free

pub length-free_of : (next : List ℕ) → length (free_of next) ≡ length next - 1
unfolding free_of
length-free_of next = length-map (numbers_below (length next - 1)) _ ∙ length-numbers_from 0 (length next - 1)

-- a slot is free where it leads to itself
pub get_or-free_of : (next : List ℕ) (i : ℕ) (d : Bool) → i < length next - 1
    → get_or (free_of next) i d ≡ nat_eq (slice_index next i) i
unfolding free_of
get_or-free_of next i d below =
    let number = get_or-numbers_from 0 (length next - 1) i 0 below in
    let start : 0 + i ≡ i = omega arith in
    get_or-map (λ k. nat_eq (slice_index next k) k) (numbers_below (length next - 1)) i 0 d
    (omega (arith, length-numbers_from 0 (length next - 1)))
    ∙ ap (λ k. nat_eq (slice_index next k) k) (number ∙ start)

-- the same slots are free where each leads to itself as before
pub same_free : (a b : List ℕ) → length a ≡ length b
    → ((i : ℕ) → i < length a - 1 → nat_eq (slice_index a i) i ≡ nat_eq (slice_index b i) i)
    → free_of a ≡ free_of b
same_free a b long same =
    same_lists (free_of a) (free_of b) (length-free_of a ∙ ap (λ n. n - 1) long ∙ sym (length-free_of b))
    (λ i d below.
    let low : i < length a - 1 = omega (arith, length-free_of a) in
    get_or-free_of a i d low ∙ same i low ∙ sym (get_or-free_of b i d (omega (arith, long))))

-- ---- a place that leads further

-- a place that led to a taken one leads to where that leads
pub leads_further : (next : List ℕ) (at after : ℕ) → LeadsOn next → at < length next → after ≡ slice_index next at
    → (after ≡ at → ⊥) → LeadsOn (slice_set next at (slice_index next after))
leads_further next at after leads within is moves =
    let beyond = slice_index next after in
    let new = slice_set next at beyond in
    let long : length new ≡ length next = length-set next at beyond in
    let forward = leads.forward at within in
    let after_within : after < length next = omega (arith, leads.within at within) in
    let after_forward = leads.forward after after_within in
    let beyond_within = leads.within after after_within in
    let there : slice_index new at ≡ beyond = get_or-set_same next at beyond 0 within in
    let others : (i : ℕ) → (i ≡ at → ⊥) → slice_index new i ≡ slice_index next i =
    λ i apart. get_or-set_other next at i beyond 0 apart in
    let last_apart : length next - 1 ≡ at → ⊥ = λ same. moves (omega (
      arith,
      is,
      leads.ends,
      ap (slice_index next) same,
    )) in
    let stays : (j : ℕ) → (slice_index next j ≡ j → ⊥) → slice_index new j ≡ j → ⊥ = λ j taken self.
    elim (cases_eq j at) [
      | inl same ↦ moves (omega (arith, there, ap (slice_index new) same, self, forward, after_forward, is))
      | inr apart ↦ taken (sym (others j apart) ∙ self)
    ] in
    record {
      some = omega (arith, leads.some, long);
      few = omega (arith, leads.few, long);
      ends = ap (λ n. slice_index new (n - 1)) long ∙ others (length next - 1) last_apart ∙ leads.ends
          ∙ ap (λ n. n - 1) (sym long);
      forward = λ i low. elim (cases_eq i at) [
        | inl same ↦ omega (arith, there, ap (slice_index new) same, forward, after_forward, is)
        | inr apart ↦ omega (arith, others i apart, leads.forward i (omega (arith, long)))
      ];
      within = λ i low. elim (cases_eq i at) [
        | inl same ↦ omega (arith, there, ap (slice_index new) same, beyond_within, long)
        | inr apart ↦ omega (arith, others i apart, leads.within i (omega (arith, long)), long)
      ];
      skips = λ i j low from to. stays j (elim (cases_eq i at) [
        | inl same ↦
            let to_beyond : j < beyond = omega (arith, there, ap (slice_index new) same) in
            elim (cases_lt j after) [
              | inl before ↦ leads.skips at j within (omega arith) (omega (arith, is))
              | inr behind ↦ leads.skips after j after_within behind to_beyond
            ]
        | inr apart ↦ leads.skips i j (omega (arith, long)) from (omega (arith, others i apart))
      ]);
    }

-- and the same slots are free
pub further_free : (next : List ℕ) (at after : ℕ) → LeadsOn next → at < length next → after ≡ slice_index next at
    → (after ≡ at → ⊥) → free_of (slice_set next at (slice_index next after)) ≡ free_of next
further_free next at after leads within is moves =
    let beyond = slice_index next after in
    let new = slice_set next at beyond in
    let forward = leads.forward at within in
    let after_forward = leads.forward after (omega (arith, leads.within at within)) in
    let there : slice_index new at ≡ beyond = get_or-set_same next at beyond 0 within in
    same_free new next (length-set next at beyond) (λ i low. elim (cases_eq i at) [
      | inl same ↦
          ne_eqb (slice_index new i) i
          (λ self. moves (omega (arith, there, ap (slice_index new) same, forward, after_forward, is)))
          ∙ sym (ne_eqb (slice_index next i) i (λ self. moves (omega (arith, ap (slice_index next) same, is))))
      | inr apart ↦ ap (λ n. nat_eq n i) (get_or-set_other next at i beyond 0 apart)
    ])

-- ---- a slot is taken

pub leads_taken : (next : List ℕ) (at : ℕ) → LeadsOn next → at + 1 < length next → slice_index next at ≡ at
    → LeadsOn (slice_set next at (at + 1))
leads_taken next at leads within free =
    let new = slice_set next at (at + 1) in
    let long : length new ≡ length next = length-set next at (at + 1) in
    let there : slice_index new at ≡ at + 1 = get_or-set_same next at (at + 1) 0 (omega arith) in
    let others : (i : ℕ) → (i ≡ at → ⊥) → slice_index new i ≡ slice_index next i =
    λ i apart. get_or-set_other next at i (at + 1) 0 apart in
    let stays : (j : ℕ) → (slice_index next j ≡ j → ⊥) → slice_index new j ≡ j → ⊥ = λ j taken self.
    elim (cases_eq j at) [
      | inl same ↦ taken (ap (slice_index next) same ∙ free ∙ sym same)
      | inr apart ↦ taken (sym (others j apart) ∙ self)
    ] in
    record {
      some = omega (arith, leads.some, long);
      few = omega (arith, leads.few, long);
      ends = ap (λ n. slice_index new (n - 1)) long ∙ others (length next - 1) (λ same. omega (arith, same))
          ∙ leads.ends ∙ ap (λ n. n - 1) (sym long);
      forward = λ i low. elim (cases_eq i at) [
        | inl same ↦ omega (arith, there, ap (slice_index new) same)
        | inr apart ↦ omega (arith, others i apart, leads.forward i (omega (arith, long)))
      ];
      within = λ i low. elim (cases_eq i at) [
        | inl same ↦ omega (arith, there, ap (slice_index new) same, long)
        | inr apart ↦ omega (arith, others i apart, leads.within i (omega (arith, long)), long)
      ];
      skips = λ i j low from to self. elim (cases_eq i at) [
        | inl same ↦
            let here : j ≡ at = omega (arith, there, ap (slice_index new) same) in
            absurd (omega (arith, there, ap (slice_index new) here, self))
        | inr apart ↦ stays j (leads.skips i j (omega (arith, long)) from (omega (arith, others i apart))) self
      ];
    }

pub taken_free : (next : List ℕ) (at : ℕ) → at + 1 < length next
    → free_of (slice_set next at (at + 1)) ≡ taken_at (free_of next) (Some at)
taken_free next at within =
    let new = slice_set next at (at + 1) in
    let long : length new ≡ length next = length-set next at (at + 1) in
    let there : slice_index new at ≡ at + 1 = get_or-set_same next at (at + 1) 0 (omega arith) in
    same_lists (free_of new) (slice_set (free_of next) at false)
    (length-free_of new ∙ ap (λ n. n - 1) long ∙ sym (length-free_of next) ∙ sym (length-set (free_of next) at false))
    (λ i d below.
    let low : i < length next - 1 = omega (arith, length-free_of new, long) in
    get_or-free_of new i d (omega (arith, long)) ∙ elim (cases_eq i at) [
      | inl same ↦
          ne_eqb (slice_index new i) i (λ self. omega (arith, there, ap (slice_index new) same, self))
          ∙ sym (ap (λ k. get_or (slice_set (free_of next) at false) k d) same
          ∙ get_or-set_same (free_of next) at false d (omega (arith, length-free_of next)))
      | inr apart ↦
          ap (λ n. nat_eq n i) (get_or-set_other next at i (at + 1) 0 apart) ∙ sym (get_or-free_of next i d low)
          ∙ sym (get_or-set_other (free_of next) at i false d apart)
    ])

-- ---- the first that passes a test, along a probe sequence

-- none of so many numbers passes
find_none : (test : ℕ → Bool) (first count : ℕ)
    → ((i : ℕ) → first ≤ i → i < first + count → test i ≡ false) → find test (numbers_from first count) ≡ None
unfolding numbers_from
find_none test first zero fails = refl
find_none test first (suc count) fails =
    ap (λ b. cond b (Some first) (find test (numbers_from (suc first) count))) (fails first (omega arith) (omega arith))
    ∙ find_none test (suc first) count (λ i low high. fails i (omega arith) (omega arith))

-- the first of them that passes
find_first : (test : ℕ → Bool) (first count at : ℕ) → first ≤ at → at < first + count → test at ≡ true
    → ((i : ℕ) → first ≤ i → i < at → test i ≡ false) → find test (numbers_from first count) ≡ Some at
unfolding numbers_from
find_first test first zero at low high passes before = absurd (omega arith)
find_first test first (suc count) at low high passes before = elim (cases_eq first at) [
  | inl here ↦
      ap (λ b. cond b (Some first) (find test (numbers_from (suc first) count))) (ap test here ∙ passes) ∙ ap Some here
  | inr later ↦
      ap (λ b. cond b (Some first) (find test (numbers_from (suc first) count)))
      (before first (omega arith) (omega (arith, later)))
      ∙ find_first test (suc first) count at (omega (arith, later)) (omega arith) passes
      (λ i from to. before i (omega arith) to)
]

module _ (test : ℕ → Bool) (slots start : ℕ) (below : start < slots) where
  in_parts : find test (map (probe slots start) (numbers_below slots))
      ≡ option_or (find test (numbers_from start (slots - start))) (find test (numbers_from 0 start))
  in_parts = ap (find test) (probes_in_parts slots start below)
      ∙ find-append test (numbers_from start (slots - start)) (numbers_from 0 start)

  -- from the start up to the end
  pub found_behind : (at : ℕ) → start ≤ at → at < slots → test at ≡ true
      → ((i : ℕ) → start ≤ i → i < at → test i ≡ false)
      → find test (map (probe slots start) (numbers_below slots)) ≡ Some at
  found_behind at low high passes before = in_parts ∙ ap (λ o. option_or o (find test (numbers_from 0 start)))
      (find_first test start (slots - start) at low (omega arith) passes before)

  -- or else before the start
  pub found_before : (at : ℕ) → at < slots → test at ≡ true
      → ((i : ℕ) → start ≤ i → i < slots → test i ≡ false) → ((i : ℕ) → i < at → test i ≡ false)
      → find test (map (probe slots start) (numbers_below slots)) ≡ Some at
  found_before at high passes behind before =
      let low : at < start = elim (cases_lt at start) [
        | inl low ↦ low
        | inr not_low ↦ absurd (false≢true (sym (behind at not_low high) ∙ passes))
      ] in
      in_parts
      ∙ ap₂ option_or (find_none test start (slots - start) (λ i from to. behind i from (omega arith)))
      (find_first test 0 start at (omega arith) (omega arith) passes (λ i from to. before i to))

  -- or nowhere
  pub found_nowhere : ((i : ℕ) → i < slots → test i ≡ false)
      → find test (map (probe slots start) (numbers_below slots)) ≡ None
  found_nowhere fails =
      in_parts
      ∙ ap₂ option_or (find_none test start (slots - start) (λ i from to. fails i (omega arith)))
      (find_none test 0 start (λ i from to. fails i (omega (arith, below))))

-- ---- of a table

nothing_held : (slot : Option Page) → holds_nothing (Some slot) ≡ is_none slot
nothing_held None = refl
nothing_held (Some page) = refl

-- a slot of the table is free where it leads to itself
pub free_slot : (table : Table) (next : List ℕ) → 1 ≤ length next → AreFree table (free_of next) → (i : ℕ)
    → i < length table → is_free table i ≡ nat_eq (slice_index next i) i
free_slot table next some free i below =
    let long : length table ≡ length next - 1 =
    sym (length-map table is_none) ∙ ap length (sym free) ∙ length-free_of next in
    ap holds_nothing (slice_get-get_or table i None below) ∙ nothing_held (get_or table i None)
    ∙ sym (get_or-map is_none table i None true below) ∙ ap (λ l. get_or l i true) (sym free)
    ∙ get_or-free_of next i true (omega (arith, long))

pub length-free : (table : Table) (next : List ℕ) → AreFree table (free_of next) → length table ≡ length next - 1
length-free table next free = sym (length-map table is_none) ∙ ap length (sym free) ∙ length-free_of next

-- the slot of a page that is put in is free no longer
pub put_free : (table : Table) (page : Page) (found : Option ℕ) (free : List Bool) → AreFree table free
    → AreFree (put_at table page found) (taken_at free found)
put_free table page None free are = are
put_free table page (Some at) free are =
    ap (λ l. slice_set l at false) are ∙ sym (map-set is_none table at (Some page))

-- of an empty table all slots are free
pub all_free : (slots : ℕ) → AreFree (replicate slots None) (replicate slots true)
all_free zero = refl
all_free (suc slots) = ap (λ l. true ∷ l) (all_free slots)

-- where the same slots are free, a slot leads to itself as before
pub self_before : (a b : List ℕ) (i : ℕ) → free_of a ≡ free_of b → i < length a - 1 → i < length b - 1
    → slice_index a i ≡ i → slice_index b i ≡ i
self_before a b i same low_a low_b self =
    eqb-true (slice_index b i) i
    (sym (get_or-free_of b i true low_b) ∙ ap (λ l. get_or l i true) (sym same) ∙ get_or-free_of a i true low_a
    ∙ ap (λ n. nat_eq n i) self ∙ eqb_self i)
  where
    eqb_self : (n : ℕ) → nat_eq n n ≡ true
    eqb_self n = grind arith

-- ---- the first free slot, by the places that lead to themselves

module _ (table : Table) (next : List ℕ) (start : ℕ) (some : 1 ≤ length next) (are : AreFree table (free_of next))
    (within : start + 1 < length next) where
  long : length table ≡ length next - 1
  long = length-free table next are

  -- a place that does not lead to itself is that of a slot that is not free
  not_free : (i : ℕ) → i < length table → (slice_index next i ≡ i → ⊥) → is_free table i ≡ false
  not_free i below moves = free_slot table next some are i below ∙ ne_eqb (slice_index next i) i moves

  is_self : (i : ℕ) → i < length table → slice_index next i ≡ i → is_free table i ≡ true
  is_self i below self = free_slot table next some are i below ∙ ap (λ n. nat_eq n i) self ∙ same i
    where
      same : (n : ℕ) → nat_eq n n ≡ true
      same n = grind arith

  pub first_behind : (at : ℕ) → start ≤ at → at + 1 < length next → slice_index next at ≡ at
      → ((i : ℕ) → start ≤ i → i < at → slice_index next i ≡ i → ⊥)
      → find (is_free table) (map (probe (length table) start) (numbers_below (length table))) ≡ Some at
  first_behind at low high self passed =
      found_behind (is_free table) (length table) start (omega (arith, long, within)) at low (omega (arith, long))
      (is_self at (omega (arith, long)) self)
      (λ i from to. not_free i (omega (arith, long)) (passed i from to))

  pub first_before : (at : ℕ) → at + 1 < length next → slice_index next at ≡ at
      → ((i : ℕ) → start ≤ i → i + 1 < length next → slice_index next i ≡ i → ⊥)
      → ((i : ℕ) → i < at → slice_index next i ≡ i → ⊥)
      → find (is_free table) (map (probe (length table) start) (numbers_below (length table))) ≡ Some at
  first_before at high self behind before =
      found_before (is_free table) (length table) start (omega (arith, long, within)) at (omega (arith, long))
      (is_self at (omega (arith, long)) self)
      (λ i from to. not_free i to (behind i from (omega (arith, long))))
      (λ i to. not_free i (omega (arith, long)) (before i to))

  pub first_nowhere : ((i : ℕ) → i + 1 < length next → slice_index next i ≡ i → ⊥)
      → find (is_free table) (map (probe (length table) start) (numbers_below (length table))) ≡ None
  first_nowhere moves =
      found_nowhere (is_free table) (length table) start (omega (arith, long, within))
      (λ i to. not_free i to (moves i (omega (arith, long))))

-- ---- all slots are free at first

pub one_more_number : (n : ℕ) → numbers_below n ++ n ∷ [] ≡ numbers_below (n + 1)
unfolding numbers_from
one_more_number n = let start : n ≡ 0 + n = omega arith in
    ap (λ k. numbers_below n ++ k ∷ []) start ∙ sym (numbers_from-append 0 n 1)

number_is : (n i : ℕ) → i < n → slice_index (numbers_below n) i ≡ i
number_is n i below = get_or-numbers_from 0 n i 0 below ∙ (let start : 0 + i ≡ i = omega arith in start)

pub leads_to_itself : (n : ℕ) → 1 ≤ n → n ≤ 65537 → LeadsOn (numbers_below n)
leads_to_itself n some few =
    let whole = length-numbers_from 0 n in
    record {
      some = omega (arith, whole);
      few = omega (arith, whole);
      ends = number_is n (length (numbers_below n) - 1) (omega (arith, whole));
      forward = λ i low. omega (arith, number_is n i (omega (arith, whole)));
      within = λ i low. omega (arith, number_is n i (omega (arith, whole)));
      skips = λ i j low from to self. omega (arith, number_is n i (omega (arith, whole)));
    }

pub free_at_first : (slots : ℕ) → free_of (numbers_below (slots + 1)) ≡ replicate slots true
free_at_first slots =
    let next = numbers_below (slots + 1) in
    let whole = length-numbers_from 0 (slots + 1) in
    same_lists (free_of next) (replicate slots true)
    (length-free_of next ∙ (let less : length next - 1 ≡ slots = omega (arith, whole) in less)
    ∙ sym (length-replicate slots true))
    (λ i d below.
    let low : i < slots = omega (arith, length-free_of next, whole) in
    get_or-free_of next i d (omega (arith, whole))
    ∙ ap (λ n. nat_eq n i) (number_is (slots + 1) i (omega arith)) ∙ same i ∙ sym (get_or-replicate slots i true d low))
  where
    same : (n : ℕ) → nat_eq n n ≡ true
    same n = grind arith
