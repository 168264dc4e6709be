-- The first free slot of a probe sequence, by the first place with no number behind the start, or before it.
use Rattle.std.proofs.Common.{◌≡◌, ℕ, zero, suc, ◌+◌, ◌-◌, ◌%◌, ◌<◌, List, [], ◌∷◌, ◌++◌, Bool, true, false, cond}
use Rattle.std.proofs.Common.{Option, Some, None, is_none, length, map, take, drop, get_or, refl, ap, ap₂, sym, ◌∙◌}
use Rattle.std.proofs.Common.{⊎_elim, arith}
use Rattle.std.specs.Option.{option_map, option_or}
use Rattle.std.specs.List.{find, position, position_from, AllByRecursion}
use Rattle.std.proofs.Math.Nat.{mod-eq_of_lt, add-mod_left}
use Rattle.std.proofs.lemmas.List.{get_or-take, get_or-drop, length-take-le, length-drop, map-append}
use Rattle.std.proofs.lemmas.List.Folds.{find-append}
use Rattle.std.proofs.lemmas.Iterator.Adapters.{position_from-zero}
use Rattle.std.proofs.lemmas.Option.{slice_get_cases}
use Rattle.store_model.specs.Lists.{numbers_from, numbers_below}
use Rattle.store_model.specs.Pages.{Page}
use Rattle.store_model.specs.Placement.{probe, holds_nothing, is_free}
use Rattle.layout_scratch.specs.Layouts.{table_of, IsNumber}

-- numbers one after another, in two parts
pub numbers_from-append : (first m n : ℕ) → numbers_from first (m + n) ≡ numbers_from first m ++ numbers_from (first + m) n
unfolding numbers_from
numbers_from-append first zero n = ap₂ numbers_from (omega arith) (omega arith)
numbers_from-append first (suc m) n =
    let more : suc m + n ≡ suc (m + n) = omega arith in
    let on : suc first + m ≡ first + suc m = omega arith in
    ap (numbers_from first) more ∙ ap (λ ks. first ∷ ks)
    (numbers_from-append (suc first) m n ∙ ap (λ k. numbers_from (suc first) m ++ numbers_from k n) on)

-- a function that moves each of such numbers by as much
map-numbers_from : (f : ℕ → ℕ) (a b n : ℕ) → ((i : ℕ) → i < n → f (a + i) ≡ b + i)
    → map f (numbers_from a n) ≡ numbers_from b n
unfolding numbers_from
map-numbers_from f a b zero h = refl
map-numbers_from f a b (suc n) h =
    let here : a ≡ a + 0 = omega arith in
    let there : b + 0 ≡ b = omega arith in
    let one_on : (k i : ℕ) → suc k + i ≡ k + suc i = λ k i. omega arith in
    ap₂ (λ k ks. k ∷ ks) (ap f here ∙ h 0 (omega arith) ∙ there)
    (map-numbers_from f (suc a) (suc b) n (λ i l. ap f (one_on a i) ∙ h (suc i) (omega arith) ∙ sym (one_on b i)))

-- a probe sequence goes from the start to the end, and then from 0 to the start
pub probes_in_parts : (slots start : ℕ) → start < slots
    → map (probe slots start) (numbers_below slots) ≡ numbers_from start (slots - start) ++ numbers_from 0 start
probes_in_parts slots start h =
    let whole : slots ≡ slots - start + start = omega arith in
    ap (λ n. map (probe slots start) (numbers_from 0 n)) whole
    ∙ ap (map (probe slots start)) (numbers_from-append 0 (slots - start) start)
    ∙ map-append (probe slots start) (numbers_from 0 (slots - start)) (numbers_from (0 + (slots - start)) start)
    ∙ ap₂ (λ xs ys. xs ++ ys) (map-numbers_from (probe slots start) 0 start (slots - start) up)
    (map-numbers_from (probe slots start) (0 + (slots - start)) 0 start round)
  where
    up : (i : ℕ) → i < slots - start → (start + (0 + i)) % slots ≡ start + i
    up i l = let e : start + (0 + i) ≡ start + i = omega arith in ap (λ n. n % slots) e ∙ mod-eq_of_lt (omega arith)

    round : (i : ℕ) → i < start → (start + (0 + (slots - start) + i)) % slots ≡ 0 + i
    round i l =
        let e : start + (0 + (slots - start) + i) ≡ slots + i = omega arith in
        let below : i < slots = omega arith in
        let at : i ≡ 0 + i = omega arith in
        ap (λ n. n % slots) e ∙ add-mod_left slots i ∙ mod-eq_of_lt below ∙ at

-- the first place of a list whose places are numbered from another number on
position_from-add : {X : Type 0} (test : X → Bool) (a b : ℕ) (xs : List X)
    → position_from test (a + b) xs ≡ option_map (λ i. a + i) (position_from test b xs)
position_from-add test a b [] = refl
position_from-add test a b (x ∷ xs) =
    let on : a + b + 1 ≡ a + (b + 1) = omega arith in
    let rest = ap (λ n. position_from test n xs) on ∙ position_from-add test a (b + 1) xs in
    elim (test x) as (λ t. cond t (Some (a + b)) (position_from test (a + b + 1) xs)
    ≡ option_map (λ i. a + i) (cond t (Some b) (position_from test (b + 1) xs)))
    [ true ↦ refl | false ↦ rest ]

-- a search through numbers that are tested as the places of a list are
pub find-numbers_from : {X : Type 0} (test : ℕ → Bool) (at_place : X → Bool) (a : ℕ) (xs : List X)
    → ((i : ℕ) (d : X) → i < length xs → test (a + i) ≡ at_place (get_or xs i d))
    → find test (numbers_from a (length xs)) ≡ position_from at_place a xs
unfolding numbers_from
find-numbers_from test at_place a [] h = refl
find-numbers_from test at_place a (x ∷ xs) h =
    let here : a ≡ a + 0 = omega arith in
    let on : suc a ≡ a + 1 = omega arith in
    let one_on : (i : ℕ) → suc a + i ≡ a + suc i = λ i. omega arith in
    ap₂ (λ t o. cond t (Some a) o) (ap test here ∙ h 0 x (omega arith))
    (find-numbers_from test at_place (suc a) xs (λ i d l. ap test (one_on i) ∙ h (suc i) d (omega arith))
    ∙ ap (λ n. position_from at_place n xs) on)

-- a slot is free where its place has no number
free_slot : (pages : List Page) (places : List (Option ℕ)) → AllByRecursion (IsNumber pages) places
    → (i : ℕ) (d : Option ℕ) → i < length places → is_free (table_of pages places) i ≡ is_none (get_or places i d)
free_slot pages [] all i d h = absurd (omega arith)
free_slot pages (None ∷ places) all zero d h = refl
free_slot pages (Some number ∷ places) all zero d h =
    ⊎_elim (λ found. ap (λ o. holds_nothing (Some o)) found.2) (λ past. absurd (omega (arith, all.0, past.0)))
    ((slice_get_cases pages number).1)
free_slot pages (o ∷ places) all (suc i) d h = free_slot pages places all.1 i d (omega arith)

-- the first free slot from a start on is the first behind it or, where there is none, the first before it
pub first_free_in_parts : (pages : List Page) (places : List (Option ℕ)) (start : ℕ)
    → AllByRecursion (IsNumber pages) places → start < length places
    → find (is_free (table_of pages places)) (map (probe (length places) start) (numbers_below (length places)))
    ≡ option_or (option_map (λ i. start + i) (position is_none (drop start places)))
    (position is_none (take start places))
first_free_in_parts pages places start all h =
    let free = is_free (table_of pages places) in
    let behind_is : length places - start ≡ length (drop start places) = sym (length-drop start places) in
    let before_is : start ≡ length (take start places) = sym (length-take-le start places (omega arith)) in
    let at_start : start ≡ start + 0 = omega arith in
    ap (find free) (probes_in_parts (length places) start h)
    ∙ find-append free (numbers_from start (length places - start)) (numbers_from 0 start)
    ∙ ap₂ option_or
    (ap (λ n. find free (numbers_from start n)) behind_is
    ∙ find-numbers_from free is_none start (drop start places) behind
    ∙ ap (λ n. position_from is_none n (drop start places)) at_start
    ∙ position_from-add is_none start 0 (drop start places)
    ∙ ap (option_map (λ i. start + i)) (sym (position_from-zero is_none (drop start places))))
    (ap (λ n. find free (numbers_from 0 n)) before_is ∙ find-numbers_from free is_none 0 (take start places) before
    ∙ sym (position_from-zero is_none (take start places)))
  where
    behind : (i : ℕ) (d : Option ℕ) → i < length (drop start places)
        → is_free (table_of pages places) (start + i) ≡ is_none (get_or (drop start places) i d)
    behind i d l = free_slot pages places all (start + i) d (omega (arith, length-drop start places))
        ∙ ap is_none (sym (get_or-drop start places i d))

    before : (i : ℕ) (d : Option ℕ) → i < length (take start places)
        → is_free (table_of pages places) (0 + i) ≡ is_none (get_or (take start places) i d)
    before i d l =
        let below : i < start = omega (arith, length-take-le start places (omega arith)) in
        let at : 0 + i ≡ i = omega arith in
        ap (is_free (table_of pages places)) at ∙ free_slot pages places all i d (omega arith)
        ∙ ap is_none (sym (get_or-take start places i d below))
