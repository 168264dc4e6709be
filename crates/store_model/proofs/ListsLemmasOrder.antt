-- Lists that rise, and lists put in order.
use Rattle.std.proofs.Common.{◌≡◌, zero, suc, ◌⊎◌, inl, inr, List, [], ◌∷◌, map, Bool, true, false, cond, refl, sym}
use Rattle.std.proofs.Common.{ap₂, subst, ◌∙◌, arith}
use Rattle.std.specs.declared.cmp.Ordering.{Ordering}
use Rattle.std.specs.declared.cmp.Ordering.TheVariants.{Less, Equal, Greater}
use Rattle.std.specs.Ordering.{is_gt, is_eq, eq_by_cmp, ordering_reverse}
use Rattle.std.specs.Cmp.{IsTotalOrder}
use Rattle.std.specs.List.{AllByRecursion, IsDistinct, Contains}
use Rattle.std.specs.List.Sorted.{IsPermutation, IsStrictlySortedBy}
use Rattle.std.proofs.lemmas.Cmp.{tied_itself}
use Rattle.std.proofs.lemmas.List.Elements.{All-from_recursion, recursion_from_All}
use Rattle.std.proofs.lemmas.List.Sorted.{All-permutation, Contains-permutation, IsPermutation-refl, IsPermutation-sym}
use Rattle.std.proofs.lemmas.List.Sorted.{IsPermutation-trans, IsPermutation-cons, IsPermutation-middle}
use Rattle.store_model.specs.Lists.{insert_in_order, in_order}
use Rattle.store_model.proofs.ListsLemmas.{all_weaker, all_from_map, rising_head, rising_tail}

-- ---- what a list holds

-- what a list holds is its first element or stands behind it
pub held_cases : {X : Type 0} (y : X) (ys : List X) (x : X) → Contains (y ∷ ys) x → (y ≡ x) ⊎ Contains ys x
held_cases y ys x (zero, l, e) = inl e
held_cases y ys x (suc k, l, e) = inr (k, omega arith, e)

-- the first element is held
pub held_first : {X : Type 0} (y : X) (ys : List X) → Contains (y ∷ ys) y
held_first y ys = (0, omega arith, refl)

-- and so is what stands behind it
pub held_later : {X : Type 0} (y : X) (ys : List X) (x : X) → Contains ys x → Contains (y ∷ ys) x
held_later y ys x (k, l, e) = (suc k, omega arith, e)

-- what holds of each element holds of what is held
pub held_all : {X : Type 0} (P : X → Type 0) (ys : List X) (x : X) → AllByRecursion P ys → Contains ys x → P x
held_all P [] x h (k, l, e) = absurd (omega arith)
held_all P (y ∷ ys) x h c = by_case (held_cases y ys x c) (held_all P ys x h.1)
  where
    by_case : (y ≡ x) ⊎ Contains ys x → (Contains ys x → P x) → P x
    by_case (inl e) later = subst P e h.0
    by_case (inr c) later = later c

-- ---- the same elements in another order

-- what holds of each element holds of each in another order
pub AllByRecursion-permutation : {X : Type 0} (P : X → Type 0) (xs ys : List X) → IsPermutation xs ys
    → AllByRecursion P xs → AllByRecursion P ys
AllByRecursion-permutation P xs ys moves all =
    recursion_from_All P ys (All-permutation P xs ys moves (All-from_recursion P xs all))

-- the first two of a list change places
pub IsPermutation-first_two : {X : Type 0} (x y : X) (xs : List X) → IsPermutation (x ∷ y ∷ xs) (y ∷ x ∷ xs)
IsPermutation-first_two x y xs = IsPermutation-middle (x ∷ []) y xs

-- the list that a test picks has the elements that both lists have
IsPermutation-picked : {X : Type 0} (b : Bool) (xs ys zs : List X) → IsPermutation xs ys → IsPermutation xs zs
    → IsPermutation xs (cond b ys zs)
IsPermutation-picked true xs ys zs p q = p
IsPermutation-picked false xs ys zs p q = q

-- what is put in its place in a list joins its elements
pub IsPermutation-insert_in_order : {X : Type 0} (cmp : X → X → Ordering) (x : X) (ys : List X)
    → IsPermutation (x ∷ ys) (insert_in_order cmp x ys)
unfolding insert_in_order
IsPermutation-insert_in_order cmp x [] = IsPermutation-refl (x ∷ [])
IsPermutation-insert_in_order cmp x (y ∷ ys) =
    IsPermutation-picked (is_gt (cmp x y)) (x ∷ y ∷ ys) (y ∷ insert_in_order cmp x ys) (x ∷ y ∷ ys)
    (IsPermutation-trans (x ∷ y ∷ ys) (y ∷ x ∷ ys) (y ∷ insert_in_order cmp x ys) (IsPermutation-first_two x y ys)
    (IsPermutation-cons y (x ∷ ys) (insert_in_order cmp x ys) (IsPermutation-insert_in_order cmp x ys)))
    (IsPermutation-refl (x ∷ y ∷ ys))

-- a list put in order has the same elements
pub IsPermutation-in_order : {X : Type 0} (cmp : X → X → Ordering) (xs : List X) → IsPermutation xs (in_order cmp xs)
unfolding in_order
IsPermutation-in_order cmp [] = IsPermutation-refl []
IsPermutation-in_order cmp (x ∷ xs) =
    IsPermutation-trans (x ∷ xs) (x ∷ in_order cmp xs) (insert_in_order cmp x (in_order cmp xs))
    (IsPermutation-cons x xs (in_order cmp xs) (IsPermutation-in_order cmp xs))
    (IsPermutation-insert_in_order cmp x (in_order cmp xs))

-- ---- lists that rise

-- lists that rise and hold the same elements are the same
pub same_rising : {X : Type 0} {c : X → X → Ordering} (o : IsTotalOrder c) (xs ys : List X) → IsStrictlySortedBy c xs
    → IsStrictlySortedBy c ys → ((z : X) → Contains xs z → Contains ys z)
    → ((z : X) → Contains ys z → Contains xs z) → xs ≡ ys
same_rising o [] [] h g to from = refl
same_rising o [] (y ∷ ys) h g to from = no_element (from y (held_first y ys))
  where
    no_element : Contains [] y → [] ≡ y ∷ ys
    no_element (k, l, e) = absurd (omega arith)
same_rising o (x ∷ xs) [] h g to from = no_element (to x (held_first x xs))
  where
    no_element : Contains [] x → x ∷ xs ≡ []
    no_element (k, l, e) = absurd (omega arith)
same_rising {X} {c} o (x ∷ xs) (y ∷ ys) h g to from =
    ap₂ (λ z zs. z ∷ zs) first (same_rising o xs ys (rising_tail c x xs h) (rising_tail c y ys g)
    (λ z held. behind x xs y ys first (rising_head c x xs h) z (to z (held_later x xs z held)) held)
    (λ z held. behind y ys x xs (sym first) (rising_head c y ys g) z (from z (held_later y ys z held)) held))
  where
    not_below_itself : (z : X) → c z z ≡ Less → ⊥
    not_below_itself z l = let tied = tied_itself o z in cc

    first_by : (y ≡ x) ⊎ Contains ys x → (x ≡ y) ⊎ Contains xs y → x ≡ y
    first_by (inl e) d = sym e
    first_by (inr a) (inl e) = e
    first_by (inr a) (inr b) =
        absurd (not_below_itself x (o.trans x y x (held_all (λ z. c x z ≡ Less) xs y (rising_head c x xs h) b)
        (held_all (λ z. c y z ≡ Less) ys x (rising_head c y ys g) a)))

    first : x ≡ y
    first = first_by (held_cases y ys x (to x (held_first x xs))) (held_cases x xs y (from y (held_first y ys)))

    behind : (a : X) (us : List X) (b : X) (vs : List X) → a ≡ b → AllByRecursion (λ z. c a z ≡ Less) us → (z : X)
        → Contains (b ∷ vs) z → Contains us z → Contains vs z
    behind a us b vs e below z held own = by_place (held_cases b vs z held)
      where
        by_place : (b ≡ z) ⊎ Contains vs z → Contains vs z
        by_place (inl f) =
            absurd (not_below_itself z
            (subst (λ w. c w z ≡ Less) (e ∙ f) (held_all (λ w. c a w ≡ Less) us z below own)))
        by_place (inr later) = later

-- ---- lists in order

-- what is greater one way is less the other way round
less_from_greater : (o : Ordering) → is_gt o ≡ true → ordering_reverse o ≡ Less
less_from_greater Less e = cc
less_from_greater Equal e = cc
less_from_greater Greater e = refl

-- what is neither greater nor equal is less
less_from_others : (o : Ordering) → is_gt o ≡ false → is_eq o ≡ false → o ≡ Less
less_from_others Less e f = refl
less_from_others Equal e f = cc
less_from_others Greater e f = cc

-- what holds of an element and of each of a list holds of each of the list with the element in its place
AllByRecursion-insert_in_order : {X : Type 0} (cmp : X → X → Ordering) (P : X → Type 0) (x : X) (ys : List X) → P x
    → AllByRecursion P ys → AllByRecursion P (insert_in_order cmp x ys)
unfolding insert_in_order
AllByRecursion-insert_in_order cmp P x [] p all = (p, tt)
AllByRecursion-insert_in_order {X} cmp P x (y ∷ ys) p all =
    picked (is_gt (cmp x y)) (AllByRecursion-insert_in_order cmp P x ys p all.1)
  where
    picked : (b : Bool) → AllByRecursion P (insert_in_order cmp x ys)
        → AllByRecursion P (cond b (y ∷ insert_in_order cmp x ys) (x ∷ y ∷ ys))
    picked true rest = (all.0, rest)
    picked false rest = (p, all)

-- what rises still rises with an element in its place that ties with none
sorted_insert_in_order : {X : Type 0} (cmp : X → X → Ordering) → IsTotalOrder cmp → (x : X) (ys : List X)
    → AllByRecursion (λ y. eq_by_cmp cmp x y ≡ false) ys → IsStrictlySortedBy cmp ys
    → IsStrictlySortedBy cmp (insert_in_order cmp x ys)
unfolding insert_in_order IsStrictlySortedBy
sorted_insert_in_order cmp o x [] apart up = (tt, tt)
sorted_insert_in_order {X} cmp o x (y ∷ ys) apart up =
    picked (is_gt (cmp x y)) refl (sorted_insert_in_order cmp o x ys apart.1 up.1)
  where
    picked : (b : Bool) → is_gt (cmp x y) ≡ b → IsStrictlySortedBy cmp (insert_in_order cmp x ys)
        → IsStrictlySortedBy cmp (cond b (y ∷ insert_in_order cmp x ys) (x ∷ y ∷ ys))
    picked true e rest = (
      AllByRecursion-insert_in_order cmp (λ z. cmp y z ≡ Less) x ys
          (o.antisymm y x ∙ less_from_greater (cmp x y) e) up.0,
      rest,
    )
    picked false e rest =
        let below : cmp x y ≡ Less = less_from_others (cmp x y) e apart.0 in
        ((below, all_weaker (λ z. cmp y z ≡ Less) (λ z. cmp x z ≡ Less) (λ z p. o.trans x y z below p) ys up.0), up)

-- elements that are distinct rise once put in order
pub sorted_in_order : {X : Type 0} (cmp : X → X → Ordering) → IsTotalOrder cmp → (xs : List X)
    → IsDistinct (eq_by_cmp cmp) xs → IsStrictlySortedBy cmp (in_order cmp xs)
unfolding in_order IsStrictlySortedBy IsDistinct
sorted_in_order cmp o [] distinct = tt
sorted_in_order cmp o (x ∷ xs) distinct =
    sorted_insert_in_order cmp o x (in_order cmp xs)
    (AllByRecursion-permutation (λ y. eq_by_cmp cmp x y ≡ false) xs (in_order cmp xs)
    (IsPermutation-in_order cmp xs) distinct.0) (sorted_in_order cmp o xs distinct.1)

-- a list that rises, with the elements of another, is the other in order
pub same_as_in_order : {X : Type 0} (cmp : X → X → Ordering) → IsTotalOrder cmp → (xs ys : List X) → IsPermutation xs ys
    → IsDistinct (eq_by_cmp cmp) xs → IsStrictlySortedBy cmp ys → ys ≡ in_order cmp xs
same_as_in_order cmp o xs ys moves distinct up =
    let across = IsPermutation-trans ys xs (in_order cmp xs) (IsPermutation-sym xs ys moves)
    (IsPermutation-in_order cmp xs) in
    same_rising o ys (in_order cmp xs) up (sorted_in_order cmp o xs distinct)
    (λ z held. Contains-permutation ys (in_order cmp xs) z across held)
    (λ z held. Contains-permutation (in_order cmp xs) ys z (IsPermutation-sym ys (in_order cmp xs) across) held)

-- what a map makes differ differs
pub distinct_from_map : {X K : Type 0} (cmp : K → K → Ordering) (f : X → K) (xs : List X)
    → IsDistinct (eq_by_cmp cmp) (map f xs) → IsDistinct (eq_by_cmp (λ a b. cmp (f a) (f b))) xs
unfolding IsDistinct
distinct_from_map cmp f [] distinct = tt
distinct_from_map cmp f (x ∷ xs) distinct =
    (all_from_map (λ k. eq_by_cmp cmp (f x) k ≡ false) f xs distinct.0, distinct_from_map cmp f xs distinct.1)
