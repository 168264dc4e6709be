-- What lists hold that are made of others, and what follows where they rise.
use Rattle.std.proofs.Common.{◌≡◌, ℕ, suc, ◌+◌, ◌<◌, ◌≤◌, List, [], ◌∷◌, ◌++◌, map, length, Bool, true, false, cond}
use Rattle.std.proofs.Common.{◌⊎◌, inl, inr, Ordering, Less, Equal, refl, sym, ap, subst, ◌∙◌, arith}
use Rattle.std.specs.Cmp.{IsTotalOrder}
use Rattle.std.specs.List.{AllByRecursion, Contains, filter, flat_map}
use Rattle.std.specs.List.Sorted.{IsStrictlySortedBy}
use Rattle.std.proofs.lemmas.Bool.{false≢true}
use Rattle.std.proofs.lemmas.Cmp.{tied_itself, tied_back}
use Rattle.std.proofs.lemmas.List.Elements.{recursion_from_All, All-contains_itself, Contains-append_left}
use Rattle.std.proofs.lemmas.List.Elements.{Contains-append_right, Contains-append_cases}
use Rattle.store_model.specs.Lists.{numbers_from}
use Rattle.store_model.proofs.ListsLemmas.{all_weaker, length-numbers_from, all_numbers_below, rising_head, rising_tail}
use Rattle.store_model.proofs.ListsLemmasOrder.{held_cases, held_first, held_later, held_all}
use Rattle.store_model.proofs.PlacementLemmas.{get_or-numbers_from}

-- ---- what is held

-- the empty list holds nothing
pub held_none : {X : Type 0} (x : X) → Contains [] x → ⊥
held_none x (k, l, e) = omega arith

-- a list that is not empty holds something
pub some_held : {X : Type 0} (xs : List X) → 1 ≤ length xs → (x : X) × Contains xs x
some_held [] h = absurd (omega arith)
some_held (x ∷ xs) h = (x, held_first x xs)

-- what holds of each that is held, by recursion
pub all_held : {X : Type 0} (P : X → Type 0) (xs : List X) → ((x : X) → Contains xs x → P x) → AllByRecursion P xs
all_held P xs h = all_weaker (Contains xs) P h xs (recursion_from_All (Contains xs) xs (All-contains_itself xs))

-- what a map makes
pub map_held : {X Y : Type 0} (f : X → Y) (xs : List X) (x : X) → Contains xs x → Contains (map f xs) (f x)
map_held f [] x h = absurd (held_none x h)
map_held {X} {Y} f (y ∷ xs) x h = by_place (held_cases y xs x h) (map_held f xs x)
  where
    by_place : (y ≡ x) ⊎ Contains xs x → (Contains xs x → Contains (map f xs) (f x)) → Contains (f y ∷ map f xs) (f x)
    by_place (inl e) later = subst (λ z. Contains (f y ∷ map f xs) (f z)) e (held_first (f y) (map f xs))
    by_place (inr g) later = held_later (f y) (map f xs) (f x) (later g)

-- what it is made of
pub held_map : {X Y : Type 0} (f : X → Y) (xs : List X) (y : Y) → Contains (map f xs) y
    → (x : X) × Contains xs x × (f x ≡ y)
held_map f [] y h = absurd (held_none y h)
held_map {X} {Y} f (x ∷ xs) y h = by_place (held_cases (f x) (map f xs) y h) (held_map f xs y)
  where
    by_place : (f x ≡ y) ⊎ Contains (map f xs) y → (Contains (map f xs) y → (z : X) × Contains xs z × (f z ≡ y))
        → (z : X) × Contains (x ∷ xs) z × (f z ≡ y)
    by_place (inl e) later = (x, held_first x xs, e)
    by_place (inr g) later = let z = later g in (z.0, held_later x xs z.0 z.1, z.2)

-- what parts hold is held by them joined
pub flat_map_held : {X Y : Type 0} (f : X → List Y) (xs : List X) (x : X) (y : Y) → Contains xs x → Contains (f x) y
    → Contains (flat_map f xs) y
flat_map_held f [] x y h g = absurd (held_none x h)
flat_map_held {X} {Y} f (z ∷ xs) x y h g = by_place (held_cases z xs x h) (λ later. flat_map_held f xs x y later g)
  where
    by_place : (z ≡ x) ⊎ Contains xs x → (Contains xs x → Contains (flat_map f xs) y)
        → Contains (f z ++ flat_map f xs) y
    by_place (inl e) later = Contains-append_left (f z) (flat_map f xs) y (subst (λ w. Contains (f w) y) (sym e) g)
    by_place (inr there) later = Contains-append_right (f z) (flat_map f xs) y (later there)

-- and the other way round
pub held_flat_map : {X Y : Type 0} (f : X → List Y) (xs : List X) (y : Y) → Contains (flat_map f xs) y
    → (x : X) × Contains xs x × Contains (f x) y
held_flat_map f [] y h = absurd (held_none y h)
held_flat_map {X} {Y} f (x ∷ xs) y h = by_place (Contains-append_cases (f x) (flat_map f xs) y h) (held_flat_map f xs y)
  where
    by_place : Contains (f x) y ⊎ Contains (flat_map f xs) y
        → (Contains (flat_map f xs) y → (z : X) × Contains xs z × Contains (f z) y)
        → (z : X) × Contains (x ∷ xs) z × Contains (f z) y
    by_place (inl g) later = (x, held_first x xs, g)
    by_place (inr g) later = let z = later g in (z.0, held_later x xs z.0 z.1, z.2)

-- a filter keeps what passes its test
pub filter_held : {X : Type 0} (test : X → Bool) (xs : List X) (x : X) → Contains xs x → test x ≡ true
    → Contains (filter test xs) x
filter_held test [] x h e = absurd (held_none x h)
filter_held {X} test (y ∷ xs) x h e = by_place (held_cases y xs x h) (λ later. filter_held test xs x later e)
  where
    kept : (b : Bool) → Contains (filter test xs) x → Contains (cond b (y ∷ filter test xs) (filter test xs)) x
    kept true g = held_later y (filter test xs) x g
    kept false g = g

    first : (b : Bool) → test y ≡ b → y ≡ x → Contains (cond b (y ∷ filter test xs) (filter test xs)) x
    first true f same = subst (Contains (y ∷ filter test xs)) same (held_first y (filter test xs))
    first false f same = absurd (false≢true (sym f ∙ ap test same ∙ e))

    by_place : (y ≡ x) ⊎ Contains xs x → (Contains xs x → Contains (filter test xs) x)
        → Contains (cond (test y) (y ∷ filter test xs) (filter test xs)) x
    by_place (inl same) later = first (test y) refl same
    by_place (inr there) later = kept (test y) (later there)

-- and nothing else
pub held_filter : {X : Type 0} (test : X → Bool) (xs : List X) (x : X) → Contains (filter test xs) x
    → Contains xs x × (test x ≡ true)
held_filter test [] x h = absurd (held_none x h)
held_filter {X} test (y ∷ xs) x h = by_test (test y) refl h (held_filter test xs x)
  where
    later : (Contains (filter test xs) x → Contains xs x × (test x ≡ true)) → Contains (filter test xs) x
        → Contains (y ∷ xs) x × (test x ≡ true)
    later rest g = let r = rest g in (held_later y xs x r.0, r.1)

    first : test y ≡ true → (y ≡ x) ⊎ Contains (filter test xs) x
        → (Contains (filter test xs) x → Contains xs x × (test x ≡ true)) → Contains (y ∷ xs) x × (test x ≡ true)
    first e (inl same) rest = (subst (Contains (y ∷ xs)) same (held_first y xs), ap test (sym same) ∙ e)
    first e (inr g) rest = later rest g

    by_test : (b : Bool) → test y ≡ b → Contains (cond b (y ∷ filter test xs) (filter test xs)) x
        → (Contains (filter test xs) x → Contains xs x × (test x ≡ true)) → Contains (y ∷ xs) x × (test x ≡ true)
    by_test true e g rest = first e (held_cases y (filter test xs) x g) rest
    by_test false e g rest = later rest g

-- the numbers below a count
pub number_held : (count i : ℕ) → i < count → Contains (numbers_from 0 count) i
number_held count i l = (i, omega (arith, length-numbers_from 0 count), get_or-numbers_from 0 count i i l ∙ omega arith)

pub held_number : (count i : ℕ) → Contains (numbers_from 0 count) i → i < count
held_number count i h = let below = held_all (λ n. n < 0 + count) (numbers_from 0 count) i (all_numbers_below 0 count) h
    in omega arith

-- ---- lists that rise

-- of a list that rises, what stands in a part is below what stands behind the part
pub rising_across : {X : Type 0} (c : X → X → Ordering) (xs ys : List X) (a b : X) → IsStrictlySortedBy c (xs ++ ys)
    → Contains xs a → Contains ys b → c a b ≡ Less
rising_across c [] ys a b up h g = absurd (held_none a h)
rising_across {X} c (x ∷ xs) ys a b up h g =
    by_place (held_cases x xs a h) (λ later. rising_across c xs ys a b (rising_tail c x (xs ++ ys) up) later g)
  where
    by_place : (x ≡ a) ⊎ Contains xs a → (Contains xs a → c a b ≡ Less) → c a b ≡ Less
    by_place (inl e) later = subst (λ z. c z b ≡ Less) e
        (held_all (λ z. c x z ≡ Less) (xs ++ ys) b (rising_head c x (xs ++ ys) up) (Contains-append_right xs ys b g))
    by_place (inr there) later = later there

-- nothing is below itself
pub not_below_itself : {X : Type 0} {c : X → X → Ordering} (o : IsTotalOrder c) (x : X) → c x x ≡ Less → ⊥
not_below_itself o x l = let tied = tied_itself o x in cc

-- two elements that tie are one
pub one_of_rising : {X : Type 0} {c : X → X → Ordering} (o : IsTotalOrder c) (xs : List X) (a b : X)
    → IsStrictlySortedBy c xs → Contains xs a → Contains xs b → c a b ≡ Equal → a ≡ b
one_of_rising o [] a b up h g tie = absurd (held_none a h)
one_of_rising {X} {c} o (x ∷ xs) a b up h g tie =
    by_places (held_cases x xs a h) (held_cases x xs b g)
    (λ h' g'. one_of_rising o xs a b (rising_tail c x xs up) h' g' tie)
  where
    below : (y : X) → Contains xs y → c x y ≡ Less
    below y held = held_all (λ z. c x z ≡ Less) xs y (rising_head c x xs up) held

    by_places : (x ≡ a) ⊎ Contains xs a → (x ≡ b) ⊎ Contains xs b → (Contains xs a → Contains xs b → a ≡ b) → a ≡ b
    by_places (inl e) (inl f) later = sym e ∙ f
    by_places (inl e) (inr g') later = absurd (let less = subst (λ z. c z b ≡ Less) e (below b g') in cc)
    by_places (inr h') (inl f) later =
        absurd (let less = subst (λ z. c z a ≡ Less) f (below a h') in let back = tied_back o a b tie in cc)
    by_places (inr h') (inr g') later = later h' g'

-- ---- counting

-- a list without one of its elements
record IsWithout {X : Type 0} (x : X) (ys : List X) : Type 0 where
  rest : List X
  shorter : length ys ≡ suc (length rest)
  keeps : (z : X) → Contains ys z → (z ≡ x → ⊥) → Contains rest z

without : {X : Type 0} (x : X) (ys : List X) → Contains ys x → IsWithout x ys
without x [] h = absurd (held_none x h)
without {X} x (y ∷ ys) h = by_place (held_cases y ys x h) (without x ys)
  where
    first : y ≡ x → (z : X) → (y ≡ z) ⊎ Contains ys z → (z ≡ x → ⊥) → Contains ys z
    first e z (inl same) other = absurd (other (sym same ∙ e))
    first e z (inr g) other = g

    later : (w : IsWithout x ys) (z : X) → (y ≡ z) ⊎ Contains ys z → (z ≡ x → ⊥) → Contains (y ∷ w.rest) z
    later w z (inl same) other = subst (Contains (y ∷ w.rest)) same (held_first y w.rest)
    later w z (inr g) other = held_later y w.rest z (w.keeps z g other)

    by_place : (y ≡ x) ⊎ Contains ys x → (Contains ys x → IsWithout x ys) → IsWithout x (y ∷ ys)
    by_place (inl e) behind = record {
      rest = ys;
      shorter = refl;
      keeps = λ z g other. first e z (held_cases y ys z g) other;
    }
    by_place (inr g) behind = let w = behind g in record {
      rest = y ∷ w.rest;
      shorter = ap suc w.shorter;
      keeps = λ z held other. later w z (held_cases y ys z held) other;
    }

-- a list that rises is no longer than one that holds all of it
pub no_longer : {X : Type 0} {c : X → X → Ordering} (o : IsTotalOrder c) (xs ys : List X) → IsStrictlySortedBy c xs
    → ((z : X) → Contains xs z → Contains ys z) → length xs ≤ length ys
no_longer o [] ys up held = omega arith
no_longer {X} {c} o (x ∷ xs) ys up held =
    let w = without x ys (held x (held_first x xs)) in
    let other : (z : X) → Contains xs z → z ≡ x → ⊥ =
    λ z g e. not_below_itself o z
    (subst (λ y. c y z ≡ Less) (sym e) (held_all (λ y. c x y ≡ Less) xs z (rising_head c x xs up) g)) in
    let rest = no_longer o xs w.rest (rising_tail c x xs up)
    (λ z g. w.keeps z (held z (held_later x xs z g)) (other z g)) in
    let count = w.shorter in
    omega arith
