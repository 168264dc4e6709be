-- Lemmas on lists that are cut: runs, and cuts before elements.
use Rattle.std.proofs.Common.{◌≡◌, ℕ, zero, suc, ◌+◌, ◌*◌, ◌<◌, ◌≤◌, List, [], ◌∷◌, ◌++◌, map, length, take, drop, refl}
use Rattle.std.proofs.Common.{sym, ap, ap₂, subst, ◌∙◌, cond, arith, Bool, true, false, mul-zero, mul-suc}
use Rattle.std.proofs.Common.{mul-le-mul_left, take-add, Ordering}
use Rattle.std.specs.List.{AllByRecursion, flat_map, filter, enumerate_from}
use Rattle.std.specs.List.Sorted.{IsStrictlySortedBy}
use Rattle.std.proofs.lemmas.List.{length-take, length-drop, length-append, drop-drop, take_all}
use Rattle.std.proofs.lemmas.List.Concat.{flat_map-append}
use Rattle.store_model.specs.Lists.{numbers_from, numbers_below, run_count, run_at, runs, onto_part, cut_before}
use Rattle.store_model.proofs.ListsLemmas.{all_front, all_back, all_map, all_weaker, all_numbers_below, rising_front}
use Rattle.store_model.proofs.ListsLemmas.{rising_back}

-- joining parts that are themselves joined
pub flat_map-flat_map : {X Y Z : Type 0} (f : Y → List Z) (g : X → List Y) (xs : List X)
    → flat_map f (flat_map g xs) ≡ flat_map (λ x. flat_map f (g x)) xs
flat_map-flat_map f g [] = refl
flat_map-flat_map f g (x ∷ xs) = flat_map-append f (g x) (flat_map g xs)
    ∙ ap (λ zs. flat_map f (g x) ++ zs) (flat_map-flat_map f g xs)

-- joining what a map gives
pub flat_map-map : {X Y Z : Type 0} (f : Y → List Z) (g : X → Y) (xs : List X)
    → flat_map f (map g xs) ≡ flat_map (λ x. f (g x)) xs
flat_map-map f g [] = refl
flat_map-map f g (x ∷ xs) = ap (λ zs. f (g x) ++ zs) (flat_map-map f g xs)

-- joining by functions that answer alike
pub flat_map_same : {X Y : Type 0} (f g : X → List Y) (xs : List X) → ((x : X) → f x ≡ g x)
    → flat_map f xs ≡ flat_map g xs
flat_map_same f g [] e = refl
flat_map_same f g (x ∷ xs) e = ap₂ (λ us vs. us ++ vs) (e x) (flat_map_same f g xs e)

-- numbers in front of the parts change nothing
pub flat_map-enumerate_from : {X Y : Type 0} (f : X → List Y) (n : ℕ) (xs : List X)
    → flat_map (λ e. f e.1) (enumerate_from n xs) ≡ flat_map f xs
flat_map-enumerate_from f n [] = refl
flat_map-enumerate_from f n (x ∷ xs) = ap (λ zs. f x ++ zs) (flat_map-enumerate_from f (n + 1) xs)

-- the runs from number first on are the list from there on
runs_from : {A : Type 0} (n first count : ℕ) (xs : List A)
    → flat_map (run_at n xs) (numbers_from first count) ≡ take (n * count) (drop (n * first) xs)
unfolding numbers_from
runs_from n first zero xs = ap (λ k. take k (drop (n * first) xs)) (sym (mul-zero n))
runs_from n first (suc count) xs =
    ap (λ ys. run_at n xs first ++ ys) (runs_from n (suc first) count xs
    ∙ ap (take (n * count)) (ap (λ k. drop k xs) (mul-suc n first) ∙ sym (drop-drop n (n * first) xs)))
    ∙ sym (take-add n (n * count) (drop (n * first) xs))
    ∙ ap (λ k. take k (drop (n * first) xs)) (let e : n + n * count ≡ n * suc count = omega arith in e)

-- there are runs enough for all elements
enough_runs : (n count : ℕ) → 1 ≤ n → count ≤ n * run_count n count
enough_runs n count h = omega arith

-- the runs of a list, one after another, are the list
pub flat_map-runs : {A : Type 0} (n : ℕ) (xs : List A) → 1 ≤ n → flat_map (λ run. run) (runs n xs) ≡ xs
unfolding runs
flat_map-runs n xs h =
    flat_map-map (λ run. run) (run_at n xs) (numbers_below (run_count n (length xs)))
    ∙ runs_from n 0 (run_count n (length xs)) xs
    ∙ ap (λ k. take (n * run_count n (length xs)) (drop k xs)) (mul-zero n)
    ∙ take_all (n * run_count n (length xs)) xs (enough_runs n (length xs) h)

-- the parts of a list that is cut, one after another, are the list
flat_map-onto_part : {A : Type 0} (cuts : A → Bool) (x : A) (parts : List (List A))
    → flat_map (λ part. part) (onto_part cuts x parts) ≡ x ∷ flat_map (λ part. part) parts
unfolding onto_part
flat_map-onto_part cuts x [] = refl
flat_map-onto_part cuts x ([] ∷ parts) = refl
flat_map-onto_part cuts x ((y ∷ part) ∷ parts) =
    elim (cuts y) as (λ b. flat_map (λ part. part) (cond b ((x ∷ []) ∷ (y ∷ part) ∷ parts) ((x ∷ y ∷ part) ∷ parts))
    ≡ x ∷ y ∷ (part ++ flat_map (λ part. part) parts)) [
      | true ↦ refl
      | false ↦ refl
    ]

-- a list that is cut before some elements
pub flat_map-cut_before : {A : Type 0} (cuts : A → Bool) (xs : List A)
    → flat_map (λ part. part) (cut_before cuts xs) ≡ xs
unfolding cut_before
flat_map-cut_before cuts [] = refl
flat_map-cut_before cuts (x ∷ xs) = flat_map-onto_part cuts x (cut_before cuts xs)
    ∙ ap (λ ys. x ∷ ys) (flat_map-cut_before cuts xs)

-- what holds of each element of a list that is cut holds of each element of each part
pub all_parts : {A : Type 0} (P : A → Type 0) (parts : List (List A)) → AllByRecursion P (flat_map (λ part. part) parts)
    → AllByRecursion (AllByRecursion P) parts
all_parts P [] h = tt
all_parts P (part ∷ parts) h =
    (all_front P part (flat_map (λ p. p) parts) h, all_parts P parts (all_back P part (flat_map (λ p. p) parts) h))

-- no part is longer than all parts together
pub length_of_parts : {A : Type 0} (n : ℕ) (parts : List (List A)) → length (flat_map (λ part. part) parts) ≤ n
    → AllByRecursion (λ part. length part ≤ n) parts
length_of_parts n [] h = tt
length_of_parts n (part ∷ parts) h =
    let e = length-append part (flat_map (λ p. p) parts) in
    (omega arith, length_of_parts n parts (omega arith))

-- a filter keeps no more than there was
pub length-filter-le : {A : Type 0} (test : A → Bool) (xs : List A) → length (filter test xs) ≤ length xs
length-filter-le test [] = omega arith
length-filter-le test (x ∷ xs) =
    let rest = length-filter-le test xs in
    elim (test x) as (λ b. length (cond b (x ∷ filter test xs) (filter test xs)) ≤ suc (length xs))
    [ true ↦ omega arith | false ↦ omega arith ]

-- each part of a list that rises
pub rising_parts : {A : Type 0} (c : A → A → Ordering) (parts : List (List A))
    → IsStrictlySortedBy c (flat_map (λ part. part) parts) → AllByRecursion (IsStrictlySortedBy c) parts
rising_parts c [] h = tt
rising_parts c (part ∷ parts) h = (
  rising_front c part (flat_map (λ p. p) parts) h,
  rising_parts c parts
      (rising_back c part (flat_map (λ p. p) parts) h),
)

-- a run has an element, and no more than it may have
run_lengths_from : {A : Type 0} (n : ℕ) (xs : List A) → 1 ≤ n → (i : ℕ) → i < run_count n (length xs)
    → (1 ≤ length (run_at n xs i)) × (length (run_at n xs i) ≤ n)
run_lengths_from n xs h i l =
    let taken = length-take n (drop (n * i) xs) in
    let left = length-drop (n * i) xs in
    let within : n * suc i ≤ n * run_count n (length xs) = mul-le-mul_left n l in
    (omega arith, omega arith)

-- the same for all runs
pub lengths_of_runs : {A : Type 0} (n : ℕ) (xs : List A) → 1 ≤ n
    → AllByRecursion (λ run. (1 ≤ length run) × (length run ≤ n)) (runs n xs)
unfolding runs
lengths_of_runs n xs h = all_map (λ i. i < run_count n (length xs)) _ (run_at n xs) (λ i l. run_lengths_from n xs h i l)
    (numbers_below (run_count n (length xs)))
    (all_weaker _ _ (λ i l. omega arith) (numbers_below (run_count n (length xs)))
    (all_numbers_below 0 (run_count n (length xs))))

-- what holds of each element holds of each element of each run
pub all_runs : {A : Type 0} (P : A → Type 0) (n : ℕ) (xs : List A) → 1 ≤ n → AllByRecursion P xs
    → AllByRecursion (AllByRecursion P) (runs n xs)
all_runs P n xs h g = all_parts P (runs n xs) (subst (AllByRecursion P) (sym (flat_map-runs n xs h)) g)

-- each run of a list that rises
pub rising_runs : {A : Type 0} (c : A → A → Ordering) (n : ℕ) (xs : List A) → 1 ≤ n → IsStrictlySortedBy c xs
    → AllByRecursion (IsStrictlySortedBy c) (runs n xs)
rising_runs c n xs h g = rising_parts c (runs n xs) (subst (IsStrictlySortedBy c) (sym (flat_map-runs n xs h)) g)

-- what holds of each element of a list holds behind its numbers
pub all_enumerate_from : {A : Type 0} (P : A → Type 0) (n : ℕ) (xs : List A) → AllByRecursion P xs
    → AllByRecursion (λ e. P e.1) (enumerate_from n xs)
all_enumerate_from P n [] h = tt
all_enumerate_from P n (x ∷ xs) h = (h.0, all_enumerate_from P (n + 1) xs h.1)

-- a part is not empty, and no element of it but the first is cut from what stands before it
abbrev pub IsUncut : {A : Type 0} → (A → Bool) → List A → Type 0
IsUncut cuts [] = ⊥
IsUncut cuts (x ∷ xs) = AllByRecursion (λ y. cuts y ≡ false) xs

-- a part begins where the list is cut
abbrev pub BeginsAtCut : {A : Type 0} → (A → Bool) → List A → Type 0
BeginsAtCut cuts [] = ⊥
BeginsAtCut cuts (x ∷ xs) = cuts x ≡ true

-- each part but the first
abbrev pub AllButFirst : {A : Type 0} → (A → Type 0) → List A → Type 0
AllButFirst P [] = Unit {0}
AllButFirst P (x ∷ xs) = AllByRecursion P xs

onto_part_is_uncut : {A : Type 0} (cuts : A → Bool) (x : A) (parts : List (List A))
    → AllByRecursion (IsUncut cuts) parts → AllByRecursion (IsUncut cuts) (onto_part cuts x parts)
unfolding onto_part
onto_part_is_uncut cuts x [] h = (tt, tt)
onto_part_is_uncut cuts x ([] ∷ parts) h = absurd h.0
onto_part_is_uncut cuts x ((y ∷ part) ∷ parts) h = picked (cuts y) refl
  where
    picked : (b : Bool) → cuts y ≡ b
        → AllByRecursion (IsUncut cuts) (cond b ((x ∷ []) ∷ (y ∷ part) ∷ parts) ((x ∷ y ∷ part) ∷ parts))
    picked true e = (tt, (h.0, h.1))
    picked false e = ((e, h.0), h.1)

-- the parts of a list are not empty, and are cut nowhere within
pub cut_before_is_uncut : {A : Type 0} (cuts : A → Bool) (xs : List A)
    → AllByRecursion (IsUncut cuts) (cut_before cuts xs)
unfolding cut_before
cut_before_is_uncut cuts [] = tt
cut_before_is_uncut cuts (x ∷ xs) = onto_part_is_uncut cuts x (cut_before cuts xs) (cut_before_is_uncut cuts xs)

onto_part_begins : {A : Type 0} (cuts : A → Bool) (x : A) (parts : List (List A)) → AllByRecursion (IsUncut cuts) parts
    → AllButFirst (BeginsAtCut cuts) parts → AllButFirst (BeginsAtCut cuts) (onto_part cuts x parts)
unfolding onto_part
onto_part_begins cuts x [] u h = tt
onto_part_begins cuts x ([] ∷ parts) u h = absurd u.0
onto_part_begins cuts x ((y ∷ part) ∷ parts) u h = picked (cuts y) refl
  where
    picked : (b : Bool) → cuts y ≡ b
        → AllButFirst (BeginsAtCut cuts) (cond b ((x ∷ []) ∷ (y ∷ part) ∷ parts) ((x ∷ y ∷ part) ∷ parts))
    picked true e = (e, h)
    picked false e = h

-- each part of a list but the first begins where the list is cut
pub cut_before_begins : {A : Type 0} (cuts : A → Bool) (xs : List A)
    → AllButFirst (BeginsAtCut cuts) (cut_before cuts xs)
unfolding cut_before
cut_before_begins cuts [] = tt
cut_before_begins cuts (x ∷ xs) = onto_part_begins cuts x (cut_before cuts xs) (cut_before_is_uncut cuts xs)
    (cut_before_begins cuts xs)
