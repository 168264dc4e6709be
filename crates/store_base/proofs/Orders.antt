-- Byte strings one behind the other and numbers of four bytes: when they are equal, and their order.
use Rattle.std.proofs.Common.{◌≡◌, ◌⊎◌, ℕ, ◌+◌, ◌^◌, ◌<◌, ◌≤◌, Bool, true, false, ◌&&◌, List, [], ◌∷◌, ◌++◌, length}
use Rattle.std.proofs.Common.{take, drop, slice_index, nat_eq, refl, ap, sym, ◌∙◌, inl, inr, arith, rules}
use Rattle.std.proofs.Common.{length-append}
use Rattle.std.specs.Int.{w32, to_be_bytes}
use Rattle.std.specs.Cmp.Lexicographic.{pointwise, unequal, bytes_decides}
use Rattle.std.proofs.lemmas.List.{take_at, drop_at, drop_all, length-take, get_or-take, get_or-drop, get_or_past}
use Rattle.std.proofs.lemmas.Bool.{cases_lt, eq-eqb, eqb-true}
use borrow.Rule.Slice.PartMut.{put_mid}
use Rattle.store_model.specs.Lists.{IsBytes}
use Rattle.store_model.proofs.TreesLemmasBytes.{four_bytes_same}

-- a part of a string of bytes is bytes
pub IsBytes-drop : (n : ℕ) (xs : List ℕ) → IsBytes xs → IsBytes (drop n xs)
IsBytes-drop n xs bytes = λ i. omega (arith, get_or-drop n xs i 0, bytes (n + i))

pub IsBytes-take : (n : ℕ) (xs : List ℕ) → IsBytes xs → IsBytes (take n xs)
IsBytes-take n xs bytes = λ i. within i (cases_lt i n)
  where
    within : (i : ℕ) → (i < n) ⊎ (n ≤ i) → slice_index (take n xs) i < 256
    within i (inl below) = omega (arith, get_or-take n xs i 0 below, bytes i)
    within i (inr past) = omega (arith, get_or_past (take n xs) i 0 (omega (arith, length-take n xs)))

-- a write over the last elements
pub put_mid-last : (front rest last : List ℕ) (n k : ℕ) → length front ≡ n → length rest ≤ k
    → put_mid n k (front ++ rest) last ≡ front ++ last
put_mid-last front rest last n k front_is rest_is =
    rw (take_at front rest n front_is, drop_at front rest n front_is, drop_all k rest rest_is) (search rules)

-- what a slice of n elements holds past the first n
pub drop-take : (n : ℕ) (xs : List ℕ) → drop n (take n xs) ≡ []
drop-take n xs = drop_all n (take n xs) (omega (arith, length-take n xs))

-- strings whose ends are as long are equal exactly where their fronts and their ends are
pub pointwise-append : (xs ys us vs : List ℕ) → length us ≡ length vs
    → pointwise nat_eq (xs ++ us) (ys ++ vs) ≡ (pointwise nat_eq xs ys && pointwise nat_eq us vs)
pointwise-append [] [] us vs long = refl
pointwise-append [] (y ∷ ys) us vs long =
    unequal nat_eq us (y ∷ (ys ++ vs)) (λ same. omega (arith, same, long, length-append ys vs))
pointwise-append (x ∷ xs) [] us vs long =
    unequal nat_eq (x ∷ (xs ++ us)) vs (λ same. omega (arith, same, long, length-append xs us))
pointwise-append (x ∷ xs) (y ∷ ys) us vs long = ap (λ b. nat_eq x y && b) (pointwise-append xs ys us vs long)
    ∙ and_and (nat_eq x y) (pointwise nat_eq xs ys) (pointwise nat_eq us vs)
  where
    and_and : (a b c : Bool) → (a && (b && c)) ≡ ((a && b) && c)
    and_and true b c = refl
    and_and false b c = refl

-- two tests that pass in the same cases
same_tests : (p q : Bool) → (p ≡ true → q ≡ true) → (q ≡ true → p ≡ true) → p ≡ q
same_tests true q there back = sym (there refl)
same_tests false true there back = back refl
same_tests false false there back = refl

-- numbers of four bytes are equal where their bytes are
pub pointwise-to_be_bytes : (m n : ℕ) → m < 2 ^ 32 → n < 2 ^ 32
    → pointwise nat_eq (to_be_bytes w32 m) (to_be_bytes w32 n) ≡ nat_eq m n
pointwise-to_be_bytes m n m_fits n_fits =
    same_tests (pointwise nat_eq (to_be_bytes w32 m) (to_be_bytes w32 n)) (nat_eq m n)
    (λ same. eq-eqb m n (four_bytes_same m n m_fits n_fits
    ((bytes_decides (to_be_bytes w32 m) (to_be_bytes w32 n)).0 same)))
    (λ same. (bytes_decides (to_be_bytes w32 m) (to_be_bytes w32 n)).1 (ap (to_be_bytes w32) (eqb-true m n same)))
