-- Lemmas on lists: how they compare, and when a list rises.
use Rattle.std.proofs.Common.{◌≡◌, ℕ, zero, suc, ◌+◌, ◌/◌, ◌%◌, ◌<◌, ◌≤◌, List, [], map, ◌∷◌, ◌++◌, length, replicate}
use Rattle.std.proofs.Common.{refl, sym, ap, ◌∙◌, cond, arith, ap₂, Bool, true, false, ◌&&◌, IsTrue, Ordering, Less}
use Rattle.std.proofs.Common.{Equal, Greater, nat_cmp}
use Rattle.std.specs.Ordering.{ordering_then, is_lt, is_gt}
use Rattle.std.specs.List.{AllByRecursion, list_all, flat_map, filter, enumerate_from}
use Rattle.std.specs.List.Sorted.{IsStrictlySortedBy}
use Rattle.std.specs.FinMap.{is_sorted}
use Rattle.std.specs.FinMap.Entries.{below_all}
use Rattle.std.proofs.lemmas.List.{length-map}
use Rattle.store_model.specs.Lists.{IsBytes, insert_in_order, in_order, numbers_from, numbers_below, run_count, run_at}
use Rattle.store_model.specs.Lists.{runs}
use Rattle.std.specs.Cmp.Lexicographic.{slice_cmp}
use Rattle.std.specs.Int.{w32, to_be_bytes}
use Rattle.std.proofs.lemmas.Bool.Decides.{nat_tests}
use Rattle.std.proofs.lemmas.Cmp.{ranked, by_ranked}

-- comparing by three orders in turn
pub then_assoc : (a b c : Ordering) → ordering_then (ordering_then a b) c ≡ ordering_then a (ordering_then b c)
then_assoc Less b c = refl
then_assoc Equal b c = refl
then_assoc Greater b c = refl

-- comparing by `Equal` last changes nothing
pub then-Equal : (a : Ordering) → ordering_then a Equal ≡ a
then-Equal Less = refl
then-Equal Equal = refl
then-Equal Greater = refl

-- fronts of one length are compared first, and then what is behind them
pub slice_cmp-append : {A : Type 0} (R : A → A → Ordering) (xs ys us vs : List A) → length xs ≡ length ys
    → slice_cmp R (xs ++ us) (ys ++ vs) ≡ ordering_then (slice_cmp R xs ys) (slice_cmp R us vs)
slice_cmp-append R [] [] us vs e = refl
slice_cmp-append R [] (y ∷ ys) us vs e = absurd (omega arith)
slice_cmp-append R (x ∷ xs) [] us vs e = absurd (omega arith)
slice_cmp-append R (x ∷ xs) (y ∷ ys) us vs e =
    ap (ordering_then (R x y)) (slice_cmp-append R xs ys us vs (omega arith))
    ∙ sym (then_assoc (R x y) (slice_cmp R xs ys) (slice_cmp R us vs))

-- how numbers compare
pub nat_cmp-lt : (m n : ℕ) → m < n → nat_cmp m n ≡ Less
nat_cmp-lt m n h = grind (arith, nat_tests)

-- a number above the other
pub nat_cmp-gt : (m n : ℕ) → n < m → nat_cmp m n ≡ Greater
nat_cmp-gt m n h = grind (arith, nat_tests)

-- a number compared with itself
pub nat_cmp-eq : (n : ℕ) → nat_cmp n n ≡ Equal
nat_cmp-eq n = grind (arith, nat_tests)

-- a number is compared by all but its last byte, and then by that
nat_cmp_by_last_byte : (m n : ℕ) → nat_cmp m n
    ≡ ordering_then (nat_cmp (m / 256) (n / 256)) (nat_cmp (m % 256) (n % 256))
nat_cmp_by_last_byte m n =
    by_ranked (m / 256 < n / 256) (m / 256 ≡ n / 256) (n / 256 < m / 256) (nat_cmp (m / 256) (n / 256))
    (ranked (m / 256) (n / 256) _ refl)
    (λ e h. nat_cmp-lt m n (omega arith) ∙ ap (λ o. ordering_then o (nat_cmp (m % 256) (n % 256))) (sym e))
    (λ e h. by_ranked (m % 256 < n % 256) (m % 256 ≡ n % 256) (n % 256 < m % 256) (nat_cmp (m % 256) (n % 256))
    (ranked (m % 256) (n % 256) _ refl)
    (λ f g. nat_cmp-lt m n (omega arith) ∙ ap₂ ordering_then (sym e) (sym f))
    (λ f g. (let s : m ≡ n = omega arith in ap (nat_cmp m) (sym s) ∙ nat_cmp-eq m) ∙ ap₂ ordering_then (sym e) (sym f))
    (λ f g. nat_cmp-gt m n (omega arith) ∙ ap₂ ordering_then (sym e) (sym f)))
    (λ e h. nat_cmp-gt m n (omega arith) ∙ ap (λ o. ordering_then o (nat_cmp (m % 256) (n % 256))) (sym e))

-- the four bytes of a number, the highest first, are in the order of numbers
pub be_bytes_order : (m n : ℕ) → m < 4294967296 → n < 4294967296
    → slice_cmp nat_cmp (to_be_bytes w32 m) (to_be_bytes w32 n) ≡ nat_cmp m n
be_bytes_order m n hm hn =
    let m₁ : m / 256 / 256 ≡ m / 65536 = omega arith in
    let n₁ : n / 256 / 256 ≡ n / 65536 = omega arith in
    let m₂ : m / 65536 / 256 ≡ m / 16777216 % 256 = omega arith in
    let n₂ : n / 65536 / 256 ≡ n / 16777216 % 256 = omega arith in
    let two = nat_cmp_by_last_byte (m / 256) (n / 256)
    ∙ ap₂ (λ a b. ordering_then (nat_cmp a b) (nat_cmp (m / 256 % 256) (n / 256 % 256))) m₁ n₁ in
    let three = nat_cmp_by_last_byte (m / 65536) (n / 65536)
    ∙ ap₂ (λ a b. ordering_then (nat_cmp a b) (nat_cmp (m / 65536 % 256) (n / 65536 % 256))) m₂ n₂ in
    let rest : nat_cmp m n
    ≡ ordering_then (ordering_then (ordering_then (nat_cmp (m / 16777216 % 256) (n / 16777216 % 256))
    (nat_cmp (m / 65536 % 256) (n / 65536 % 256))) (nat_cmp (m / 256 % 256) (n / 256 % 256)))
    (nat_cmp (m % 256) (n % 256)) =
    nat_cmp_by_last_byte m n ∙ ap (λ o. ordering_then o (nat_cmp (m % 256) (n % 256)))
    (two ∙ ap (λ o. ordering_then o (nat_cmp (m / 256 % 256) (n / 256 % 256))) three) in
    sym (rest ∙ simp (then_assoc, then-Equal))

-- what is compared second matters only where the first is `Equal`
pub then_same : (o a b : Ordering) → (o ≡ Equal → a ≡ b) → ordering_then o a ≡ ordering_then o b
then_same Less a b same = refl
then_same Equal a b same = same refl
then_same Greater a b same = refl

-- the parts of a test that holds
pub first_true : (a b : Bool) → IsTrue (a && b) → IsTrue a
first_true true b h = refl
first_true false b h = h

-- the second part of a test that holds
pub second_true : (a b : Bool) → IsTrue (a && b) → IsTrue b
second_true true b h = h
second_true false b h = cc

-- what follows from a fact for each element
pub all_weaker : {X : Type 0} (P Q : X → Type 0) → ((x : X) → P x → Q x) → (xs : List X)
    → AllByRecursion P xs → AllByRecursion Q xs
all_weaker P Q f [] h = tt
all_weaker P Q f (x ∷ xs) h = (f x h.0, all_weaker P Q f xs h.1)

-- what a test of each element says
pub all_from_test : {X : Type 0} (test : X → Bool) (P : X → Type 0) → ((x : X) → IsTrue (test x) → P x) → (xs : List X)
    → IsTrue (list_all test xs) → AllByRecursion P xs
all_from_test test P f [] h = tt
all_from_test test P f (x ∷ xs) h =
    (f x (first_true (test x) _ h), all_from_test test P f xs (second_true (test x) _ h))

-- what holds of everything
pub all_none : {X : Type 0} (P : X → Type 0) → ((x : X) → P x) → (xs : List X) → AllByRecursion P xs
all_none P f [] = tt
all_none P f (x ∷ xs) = (f x, all_none P f xs)

-- what follows from two facts for each element
pub all_with : {X : Type 0} (P Q R : X → Type 0) → ((x : X) → P x → Q x → R x) → (xs : List X) → AllByRecursion P xs
    → AllByRecursion Q xs → AllByRecursion R xs
all_with P Q R f [] h g = tt
all_with P Q R f (x ∷ xs) h g = (f x h.0 g.0, all_with P Q R f xs h.1 g.1)

-- each element of two lists in a row
pub all_append : {X : Type 0} (P : X → Type 0) → (xs ys : List X) → AllByRecursion P xs → AllByRecursion P ys
    → AllByRecursion P (xs ++ ys)
all_append P [] ys h g = g
all_append P (x ∷ xs) ys h g = (h.0, all_append P xs ys h.1 g)

-- each element of the first of two lists in a row
pub all_front : {X : Type 0} (P : X → Type 0) → (xs ys : List X) → AllByRecursion P (xs ++ ys) → AllByRecursion P xs
all_front P [] ys h = tt
all_front P (x ∷ xs) ys h = (h.0, all_front P xs ys h.1)

-- each element of the second
pub all_back : {X : Type 0} (P : X → Type 0) → (xs ys : List X) → AllByRecursion P (xs ++ ys) → AllByRecursion P ys
all_back P [] ys h = h
all_back P (x ∷ xs) ys h = all_back P xs ys h.1

-- each element that a map gives
pub all_map : {X Y : Type 0} (P : X → Type 0) (Q : Y → Type 0) (f : X → Y) → ((x : X) → P x → Q (f x)) → (xs : List X)
    → AllByRecursion P xs → AllByRecursion Q (map f xs)
all_map P Q f g [] h = tt
all_map P Q f g (x ∷ xs) h = (g x h.0, all_map P Q f g xs h.1)

-- each element that a map of lists gives, joined
pub all_flat_map : {X Y : Type 0} (P : X → Type 0) (Q : Y → Type 0) (f : X → List Y)
    → ((x : X) → P x → AllByRecursion Q (f x)) → (xs : List X) → AllByRecursion P xs → AllByRecursion Q (flat_map f xs)
all_flat_map P Q f g [] h = tt
all_flat_map P Q f g (x ∷ xs) h = all_append Q (f x) (flat_map f xs) (g x h.0) (all_flat_map P Q f g xs h.1)

-- each element of xs is below each of ys
abbrev pub IsBelow : {K : Type 0} → (K → K → Ordering) → List K → List K → Type 0
IsBelow c xs ys = AllByRecursion (λ x. AllByRecursion (λ y. c x y ≡ Less) ys) xs

-- a list below two others is below them in a row
below_append : {K : Type 0} (c : K → K → Ordering) (xs ys zs : List K) → IsBelow c xs ys → IsBelow c xs zs
    → IsBelow c xs (ys ++ zs)
below_append c xs ys zs h g = all_with _ _ _ (λ x p q. all_append (λ y. c x y ≡ Less) ys zs p q) xs h g

-- a list below each part is below all parts joined
below_flat_map : {X K : Type 0} (c : K → K → Ordering) (f : X → List K) (ks : List K) (xs : List X)
    → AllByRecursion (λ x. IsBelow c ks (f x)) xs → IsBelow c ks (flat_map f xs)
below_flat_map c f ks [] h = all_none _ (λ k. tt) ks
below_flat_map c f ks (x ∷ xs) h = below_append c ks (f x) (flat_map f xs) h.0 (below_flat_map c f ks xs h.1)

-- lists that rise
pub rising_cons : {K : Type 0} (c : K → K → Ordering) (x : K) (xs : List K) → AllByRecursion (λ y. c x y ≡ Less) xs
    → IsStrictlySortedBy c xs → IsStrictlySortedBy c (x ∷ xs)
unfolding IsStrictlySortedBy
rising_cons c x xs h g = (h, g)

-- one element
pub rising_one : {K : Type 0} (c : K → K → Ordering) (x : K) → IsStrictlySortedBy c (x ∷ [])
unfolding IsStrictlySortedBy
rising_one c x = (tt, tt)

-- two lists in a row, the first below the second
pub rising_append : {K : Type 0} (c : K → K → Ordering) (xs ys : List K) → IsStrictlySortedBy c xs
    → IsStrictlySortedBy c ys → IsBelow c xs ys → IsStrictlySortedBy c (xs ++ ys)
unfolding IsStrictlySortedBy
rising_append c [] ys h g b = g
rising_append c (x ∷ xs) ys h g b = (all_append _ xs ys h.0 b.0, rising_append c xs ys h.1 g b.1)

-- where each part rises, and a part that stands below another has its elements below the other's
pub rising_flat_map : {X K : Type 0} (d : X → X → Ordering) (c : K → K → Ordering) (f : X → List K) (P : X → Type 0)
    → ((x : X) → P x → IsStrictlySortedBy c (f x))
    → ((x y : X) → P x → P y → d x y ≡ Less → IsBelow c (f x) (f y))
    → (xs : List X) → AllByRecursion P xs → IsStrictlySortedBy d xs → IsStrictlySortedBy c (flat_map f xs)
unfolding IsStrictlySortedBy
rising_flat_map d c f P own across [] h s = tt
rising_flat_map d c f P own across (x ∷ xs) h s =
    rising_append c (f x) (flat_map f xs) (own x h.0) (rising_flat_map d c f P own across xs h.1 s.1)
    (below_flat_map c f (f x) xs (all_with P (λ y. d x y ≡ Less) (λ y. IsBelow c (f x) (f y))
    (λ y p q. across x y h.0 p q) xs h.1 s.0))

-- a map that keeps the order
pub rising_map : {X K : Type 0} (d : X → X → Ordering) (c : K → K → Ordering) (f : X → K) (P : X → Type 0)
    → ((x y : X) → P x → P y → d x y ≡ Less → c (f x) (f y) ≡ Less)
    → (xs : List X) → AllByRecursion P xs → IsStrictlySortedBy d xs → IsStrictlySortedBy c (map f xs)
unfolding IsStrictlySortedBy
rising_map d c f P keeps [] h s = tt
rising_map d c f P keeps (x ∷ xs) h s = (
  all_map (λ y. P y × (d x y ≡ Less)) (λ k. c (f x) k ≡ Less) f (λ y q. keeps x y h.0 q.0 q.1) xs
      (all_with P _ _ (λ y p q. (p, q)) xs h.1 s.0),
  rising_map d c f P keeps xs h.1 s.1,
)

-- the answer `Less`, from its test
less_from_is_lt : (o : Ordering) → IsTrue (is_lt o) → o ≡ Less
less_from_is_lt Less h = refl
less_from_is_lt Equal h = cc
less_from_is_lt Greater h = cc

-- a test of two parts that hold
both_true : (a b : Bool) → IsTrue a → IsTrue b → IsTrue (a && b)
both_true true b p q = q
both_true false b p q = p

-- what the test of finite maps says of the keys behind one
all_from_below_all : {K X : Type 0} (c : K → K → Ordering) (k : K) (es : List (K × X)) → IsTrue (below_all c k es)
    → AllByRecursion (λ e. c k e.0 ≡ Less) es
all_from_below_all c k [] h = tt
all_from_below_all c k (e ∷ es) h =
    (less_from_is_lt _ (first_true _ _ h), all_from_below_all c k es (second_true _ _ h))

-- the other way round
below_all_from_all : {K X : Type 0} (c : K → K → Ordering) (k : K) (es : List (K × X))
    → AllByRecursion (λ e. c k e.0 ≡ Less) es → IsTrue (below_all c k es)
below_all_from_all c k [] h = refl
below_all_from_all c k (e ∷ es) h = both_true _ _ (ap is_lt h.0) (below_all_from_all c k es h.1)

-- entries rise by key where they are those of a finite map, and the other way round
pub rising_from_is_sorted : {K X : Type 0} (c : K → K → Ordering) (es : List (K × X)) → IsTrue (is_sorted c es)
    → IsStrictlySortedBy (λ a b. c a.0 b.0) es
unfolding IsStrictlySortedBy
rising_from_is_sorted c [] h = tt
rising_from_is_sorted c (e ∷ es) h =
    (all_from_below_all c e.0 es (first_true _ _ h), rising_from_is_sorted c es (second_true _ _ h))

-- the other way round
pub is_sorted_from_rising : {K X : Type 0} (c : K → K → Ordering) (es : List (K × X))
    → IsStrictlySortedBy (λ a b. c a.0 b.0) es → IsTrue (is_sorted c es)
unfolding IsStrictlySortedBy
is_sorted_from_rising c [] h = refl
is_sorted_from_rising c (e ∷ es) h = both_true _ _ (below_all_from_all c e.0 es h.0) (is_sorted_from_rising c es h.1)

-- each element of a list with its number: the numbers rise, and lie in a range
pub numbers_in_range : {X : Type 0} (n : ℕ) (xs : List X)
    → AllByRecursion (λ e. (n ≤ e.0) × (e.0 < n + length xs)) (enumerate_from n xs)
numbers_in_range n [] = tt
numbers_in_range n (x ∷ xs) = (
  (omega arith, omega arith),
  all_weaker _ _ (λ e h. (omega arith, omega arith)) (enumerate_from (n + 1) xs)
      (numbers_in_range (n + 1) xs),
)

-- the numbers rise
pub numbers_rise : {X : Type 0} (n : ℕ) (xs : List X)
    → IsStrictlySortedBy (λ a b. nat_cmp a.0 b.0) (enumerate_from n xs)
unfolding IsStrictlySortedBy
numbers_rise n [] = tt
numbers_rise n (x ∷ xs) = (
  all_weaker _ _ (λ e h. nat_cmp-lt n e.0 (omega arith)) (enumerate_from (n + 1) xs)
      (numbers_in_range (n + 1) xs),
  numbers_rise (n + 1) xs,
)

-- a number that compares below the other is below it
pub less_from_nat_cmp : (m n : ℕ) → nat_cmp m n ≡ Less → m < n
less_from_nat_cmp m n e = ranked m n Less (sym e)

-- numbers from one on
pub length-numbers_from : (first count : ℕ) → length (numbers_from first count) ≡ count
unfolding numbers_from
length-numbers_from first zero = refl
length-numbers_from first (suc count) = ap suc (length-numbers_from (suc first) count)

-- how many runs there are
pub length-runs : {A : Type 0} (n : ℕ) (xs : List A) → length (runs n xs) ≡ run_count n (length xs)
unfolding runs
length-runs n xs = length-map (numbers_below (run_count n (length xs))) (run_at n xs)
    ∙ length-numbers_from 0 (run_count n (length xs))

-- each element that a filter keeps
pub all_filter : {X : Type 0} (P : X → Type 0) (test : X → Bool) (xs : List X) → AllByRecursion P xs
    → AllByRecursion P (filter test xs)
all_filter P test [] h = tt
all_filter P test (x ∷ xs) h =
    let rest = all_filter P test xs h.1 in
    elim (test x) as (λ b. AllByRecursion P (cond b (x ∷ filter test xs) (filter test xs)))
    [ true ↦ (h.0, rest) | false ↦ rest ]

-- each element, from each that a map gives
pub all_from_map : {X Y : Type 0} (Q : Y → Type 0) (f : X → Y) (xs : List X) → AllByRecursion Q (map f xs)
    → AllByRecursion (λ x. Q (f x)) xs
all_from_map Q f [] h = tt
all_from_map Q f (x ∷ xs) h = (h.0, all_from_map Q f xs h.1)

-- elements rise by what a map gives of them
pub rising_from_map : {X K : Type 0} (c : K → K → Ordering) (f : X → K) (xs : List X) → IsStrictlySortedBy c (map f xs)
    → IsStrictlySortedBy (λ a b. c (f a) (f b)) xs
unfolding IsStrictlySortedBy
rising_from_map c f [] h = tt
rising_from_map c f (x ∷ xs) h = (all_from_map _ f xs h.0, rising_from_map c f xs h.1)

-- and what the map gives rises
pub rising_to_map : {X K : Type 0} (c : K → K → Ordering) (f : X → K) (xs : List X)
    → IsStrictlySortedBy (λ a b. c (f a) (f b)) xs → IsStrictlySortedBy c (map f xs)
rising_to_map c f xs h = rising_map (λ a b. c (f a) (f b)) c f (λ x. Unit {0}) (λ a b u v l. l) xs
    (all_none _ (λ x. tt) xs) h

-- no element
pub rising_nil : {K : Type 0} (c : K → K → Ordering) → IsStrictlySortedBy c []
unfolding IsStrictlySortedBy
rising_nil c = tt

-- the first element is below the others
pub rising_head : {K : Type 0} (c : K → K → Ordering) (x : K) (xs : List K) → IsStrictlySortedBy c (x ∷ xs)
    → AllByRecursion (λ y. c x y ≡ Less) xs
unfolding IsStrictlySortedBy
rising_head c x xs h = h.0

-- the others rise too
pub rising_tail : {K : Type 0} (c : K → K → Ordering) (x : K) (xs : List K) → IsStrictlySortedBy c (x ∷ xs)
    → IsStrictlySortedBy c xs
unfolding IsStrictlySortedBy
rising_tail c x xs h = h.1

-- numbers from one on are no smaller
pub all_numbers_from : (first count : ℕ) → AllByRecursion (λ n. first ≤ n) (numbers_from first count)
unfolding numbers_from
all_numbers_from first zero = tt
all_numbers_from first (suc count) = (
  omega arith,
  all_weaker _ _ (λ n h. omega arith) (numbers_from (suc first) count)
      (all_numbers_from (suc first) count),
)

-- and lie below its sum with their count
pub all_numbers_below : (first count : ℕ) → AllByRecursion (λ n. n < first + count) (numbers_from first count)
unfolding numbers_from
all_numbers_below first zero = tt
all_numbers_below first (suc count) = (
  omega arith,
  all_weaker _ _ (λ n h. omega arith) (numbers_from (suc first) count)
      (all_numbers_below (suc first) count),
)

-- they rise
pub rising_numbers_from : (first count : ℕ) → IsStrictlySortedBy nat_cmp (numbers_from first count)
unfolding IsStrictlySortedBy numbers_from
rising_numbers_from first zero = tt
rising_numbers_from first (suc count) = (
  all_weaker _ _ (λ n h. nat_cmp-lt first n h) (numbers_from (suc first) count)
      (all_numbers_from (suc first) count),
  rising_numbers_from (suc first) count,
)

-- each element is a byte, by place and by recursion
pub bytes_from_all : (xs : List ℕ) → AllByRecursion (λ x. x < 256) xs → IsBytes xs
bytes_from_all [] h i = omega arith
bytes_from_all (x ∷ xs) h zero = h.0
bytes_from_all (x ∷ xs) h (suc i) = bytes_from_all xs h.1 i

-- the other way round
pub all_from_bytes : (xs : List ℕ) → IsBytes xs → AllByRecursion (λ x. x < 256) xs
all_from_bytes [] h = tt
all_from_bytes (x ∷ xs) h = (h 0, all_from_bytes xs (λ i. h (suc i)))

-- each of n copies
pub all_replicate : {X : Type 0} (P : X → Type 0) (n : ℕ) (x : X) → P x → AllByRecursion P (replicate n x)
all_replicate P zero x h = tt
all_replicate P (suc n) x h = (h, all_replicate P n x h)

-- the four bytes of a number are bytes
pub be_bytes_are_bytes : (n : ℕ) → AllByRecursion (λ x. x < 256) (to_be_bytes w32 n)
be_bytes_are_bytes n = (omega arith, (omega arith, (omega arith, (omega arith, tt))))

-- the first of two lists in a row that rise
pub rising_front : {K : Type 0} (c : K → K → Ordering) (xs ys : List K) → IsStrictlySortedBy c (xs ++ ys)
    → IsStrictlySortedBy c xs
unfolding IsStrictlySortedBy
rising_front c [] ys h = tt
rising_front c (x ∷ xs) ys h = (all_front _ xs ys h.0, rising_front c xs ys h.1)

-- and the second
pub rising_back : {K : Type 0} (c : K → K → Ordering) (xs ys : List K) → IsStrictlySortedBy c (xs ++ ys)
    → IsStrictlySortedBy c ys
unfolding IsStrictlySortedBy
rising_back c [] ys h = h
rising_back c (x ∷ xs) ys h = rising_back c xs ys h.1

-- what rises stays as it is when it is put in order
insert_below_all : {K : Type 0} (c : K → K → Ordering) (x : K) (xs : List K) → AllByRecursion (λ y. c x y ≡ Less) xs
    → insert_in_order c x xs ≡ x ∷ xs
unfolding insert_in_order
insert_below_all c x [] h = refl
insert_below_all c x (y ∷ ys) h = ap (λ o. cond (is_gt o) (y ∷ insert_in_order c x ys) (x ∷ y ∷ ys)) h.0

-- a list that rises is in order
pub in_order_of_rising : {K : Type 0} (c : K → K → Ordering) (xs : List K)
    → IsStrictlySortedBy c xs → in_order c xs ≡ xs
unfolding in_order IsStrictlySortedBy
in_order_of_rising c [] h = refl
in_order_of_rising c (x ∷ xs) h = ap (insert_in_order c x) (in_order_of_rising c xs h.1) ∙ insert_below_all c x xs h.0
