-- How strings of bytes are ordered, by the numbers that some of their bytes spell and by what is behind these.
use Rattle.std.proofs.Common.{◌≡◌, ℕ, zero, suc, ◌+◌, ◌*◌, ◌^◌, ◌<◌, ◌≤◌, min, List, [], ◌∷◌, length, take, drop, refl}
use Rattle.std.proofs.Common.{ap, ap₂, sym, ◌∙◌, arith, nat_cmp, true, false, Ordering, Less, Equal, Greater, rules}
use Rattle.std.specs.Ordering.{ordering_then, is_ne}
use Rattle.std.specs.Cmp.Lexicographic.{slice_cmp}
use Rattle.std.proofs.Math.Nat.{mul_comm}
use Rattle.std.proofs.lemmas.Nat.{mul-add-lt}
use Rattle.std.proofs.lemmas.List.{take-append-drop, length-take, length-drop, drop-drop}
use Rattle.std.proofs.lemmas.Bool.Decides.{nat_tests}
use Rattle.std.proofs.lemmas.Cmp.{ranked, by_ranked}
use Rattle.byteorder.specs.Endian.{big_from, big_number}
use Rattle.byteorder.specs.Numbers.{big_from-cons, big_from-lt}
use Rattle.store_model.specs.Lists.{IsBytes}
use Rattle.store_model.proofs.ListsLemmas.{slice_cmp-append, nat_cmp-lt, nat_cmp-gt, nat_cmp-eq}
use Rattle.store_base.proofs.Orders.{IsBytes-drop}

-- numbers of two digits are ordered by the first, and then by the second
digits_order : (w x y r s : ℕ) → r < w → s < w
    → nat_cmp (x * w + r) (y * w + s) ≡ ordering_then (nat_cmp x y) (nat_cmp r s)
digits_order w x y r s r_fits s_fits =
    by_ranked (x < y) (x ≡ y) (y < x) (nat_cmp x y) (ranked x y _ refl)
    (λ e h. nat_cmp-lt (x * w + r) (y * w + s) (omega (arith, mul-add-lt x w r y h r_fits, mul_comm w y))
    ∙ ap (λ o. ordering_then o (nat_cmp r s)) (sym e))
    (λ e h. by_ranked (r < s) (r ≡ s) (s < r) (nat_cmp r s) (ranked r s _ refl)
    (λ f g. nat_cmp-lt (x * w + r) (y * w + s) (omega (arith, ap (λ d. d * w) h, g))
    ∙ ap₂ ordering_then (sym e) (sym f))
    (λ f g. ap₂ (λ d t. nat_cmp (x * w + r) (d * w + t)) (sym h) (sym g) ∙ nat_cmp-eq (x * w + r)
    ∙ ap₂ ordering_then (sym e) (sym f))
    (λ f g. nat_cmp-gt (x * w + r) (y * w + s) (omega (arith, ap (λ d. d * w) h, g))
    ∙ ap₂ ordering_then (sym e) (sym f)))
    (λ e h. nat_cmp-gt (x * w + r) (y * w + s) (omega (arith, mul-add-lt y w s x h s_fits, mul_comm w x))
    ∙ ap (λ o. ordering_then o (nat_cmp r s)) (sym e))

-- as many bytes are ordered as the numbers that they spell, the highest first
number_order : (n : ℕ) (xs ys : List ℕ) → IsBytes xs → IsBytes ys → n ≤ length xs → n ≤ length ys
    → nat_cmp (big_from 0 n xs) (big_from 0 n ys) ≡ slice_cmp nat_cmp (take n xs) (take n ys)
number_order zero xs ys xs_bytes ys_bytes xs_long ys_long = refl
number_order (suc n) [] ys xs_bytes ys_bytes xs_long ys_long = absurd (omega (arith, xs_long))
number_order (suc n) (x ∷ xs) [] xs_bytes ys_bytes xs_long ys_long = absurd (omega (arith, ys_long))
number_order (suc n) (x ∷ xs) (y ∷ ys) xs_bytes ys_bytes xs_long ys_long =
    rw (big_from-cons 0 n x xs, big_from-cons 0 n y ys)
    (digits_order (256 ^ n) x y (big_from 0 n xs) (big_from 0 n ys) (big_from-lt 0 n xs (λ k. xs_bytes (suc k)))
    (big_from-lt 0 n ys (λ k. ys_bytes (suc k)))
    ∙ ap (ordering_then (nat_cmp x y))
    (number_order n xs ys (λ k. xs_bytes (suc k)) (λ k. ys_bytes (suc k)) (omega (arith, xs_long))
    (omega (arith, ys_long))))

-- the first bytes of two strings are compared first, and then what is behind them
front_order : (n : ℕ) (xs ys : List ℕ) → n ≤ length xs → n ≤ length ys
    → slice_cmp nat_cmp xs ys ≡ ordering_then (slice_cmp nat_cmp (take n xs) (take n ys))
    (slice_cmp nat_cmp (drop n xs) (drop n ys))
front_order n xs ys xs_long ys_long =
    ap₂ (slice_cmp nat_cmp) (sym (take-append-drop n xs)) (sym (take-append-drop n ys))
    ∙ slice_cmp-append nat_cmp (take n xs) (take n ys) (drop n xs) (drop n ys)
    (omega (arith, length-take n xs, length-take n ys, xs_long, ys_long))

-- what strings hold from a place on is ordered by the next bytes, and then by what is behind these
rest_order : (n at : ℕ) (xs ys : List ℕ) → at + n ≤ length xs → at + n ≤ length ys
    → slice_cmp nat_cmp (drop at xs) (drop at ys)
    ≡ ordering_then (slice_cmp nat_cmp (take n (drop at xs)) (take n (drop at ys)))
    (slice_cmp nat_cmp (drop (at + n) xs) (drop (at + n) ys))
rest_order n at xs ys xs_long ys_long =
    front_order n (drop at xs) (drop at ys) (omega (arith, length-drop at xs, xs_long))
    (omega (arith, length-drop at ys, ys_long))
    ∙ ap (ordering_then _) (ap₂ (slice_cmp nat_cmp) (drop-drop n at xs) (drop-drop n at ys))

-- the next eight bytes are ordered as the numbers that they spell
word_order : (at : ℕ) (xs ys : List ℕ) → IsBytes xs → IsBytes ys → at + 8 ≤ length xs → at + 8 ≤ length ys
    → slice_cmp nat_cmp (drop at xs) (drop at ys)
    ≡ ordering_then (nat_cmp (big_number 8 (drop at xs)) (big_number 8 (drop at ys)))
    (slice_cmp nat_cmp (drop (at + 8) xs) (drop (at + 8) ys))
word_order at xs ys xs_bytes ys_bytes xs_long ys_long =
    rest_order 8 at xs ys xs_long ys_long
    ∙ ap (λ o. ordering_then o (slice_cmp nat_cmp (drop (at + 8) xs) (drop (at + 8) ys)))
    (sym (number_order 8 (drop at xs) (drop at ys) (IsBytes-drop at xs xs_bytes) (IsBytes-drop at ys ys_bytes)
    (omega (arith, length-drop at xs, xs_long)) (omega (arith, length-drop at ys, ys_long))))

-- two numbers compare as those below them
suc_order : (m n : ℕ) → nat_cmp m n ≡ nat_cmp (suc m) (suc n)
suc_order m n = grind (arith, nat_tests)

-- behind the shorter string the lengths decide
pub end_order : (at : ℕ) (xs ys : List ℕ) → at ≡ min (length xs) (length ys)
    → slice_cmp nat_cmp (drop at xs) (drop at ys) ≡ nat_cmp (length xs) (length ys)
end_order zero [] [] is = refl
end_order zero [] (y ∷ ys) is = sym (nat_cmp-lt 0 (suc (length ys)) (omega arith))
end_order zero (x ∷ xs) [] is = sym (nat_cmp-gt (suc (length xs)) 0 (omega arith))
end_order zero (x ∷ xs) (y ∷ ys) is = absurd (omega (arith, is))
end_order (suc at) [] ys is = absurd (omega (arith, is))
end_order (suc at) (x ∷ xs) [] is = absurd (omega (arith, is))
end_order (suc at) (x ∷ xs) (y ∷ ys) is = end_order at xs ys (omega (arith, is)) ∙ suc_order (length xs) (length ys)

-- an order that is none of equals decides, and any other leaves it to the next
then_decided : (first next : Ordering) → is_ne first ≡ true → ordering_then first next ≡ first
then_decided Less next unequal = refl
then_decided Equal next unequal = search rules
then_decided Greater next unequal = refl

then_next : (first next : Ordering) → is_ne first ≡ false → ordering_then first next ≡ next
then_next Less next equal = search rules
then_next Equal next equal = refl
then_next Greater next equal = search rules

-- so words that differ decide, and equal ones are passed
pub word_decides : (at : ℕ) (xs ys : List ℕ) (x y : ℕ) (order : Ordering) → IsBytes xs → IsBytes ys
    → at + 8 ≤ length xs → at + 8 ≤ length ys
    → x ≡ big_number 8 (drop at xs) → y ≡ big_number 8 (drop at ys) → order ≡ nat_cmp x y → is_ne order ≡ true
    → slice_cmp nat_cmp (drop at xs) (drop at ys) ≡ order
word_decides at xs ys x y order xs_bytes ys_bytes xs_long ys_long x_is y_is order_is unequal =
    word_order at xs ys xs_bytes ys_bytes xs_long ys_long
    ∙ ap (λ o. ordering_then o (slice_cmp nat_cmp (drop (at + 8) xs) (drop (at + 8) ys)))
    (sym (order_is ∙ ap₂ nat_cmp x_is y_is))
    ∙ then_decided order (slice_cmp nat_cmp (drop (at + 8) xs) (drop (at + 8) ys)) unequal

pub word_passed : (at : ℕ) (xs ys : List ℕ) (x y : ℕ) (order : Ordering) → IsBytes xs → IsBytes ys
    → at + 8 ≤ length xs → at + 8 ≤ length ys
    → x ≡ big_number 8 (drop at xs) → y ≡ big_number 8 (drop at ys) → order ≡ nat_cmp x y → is_ne order ≡ false
    → slice_cmp nat_cmp (drop at xs) (drop at ys) ≡ slice_cmp nat_cmp (drop (at + 8) xs) (drop (at + 8) ys)
word_passed at xs ys x y order xs_bytes ys_bytes xs_long ys_long x_is y_is order_is equal =
    word_order at xs ys xs_bytes ys_bytes xs_long ys_long
    ∙ ap (λ o. ordering_then o (slice_cmp nat_cmp (drop (at + 8) xs) (drop (at + 8) ys)))
    (sym (order_is ∙ ap₂ nat_cmp x_is y_is))
    ∙ then_next order (slice_cmp nat_cmp (drop (at + 8) xs) (drop (at + 8) ys)) equal
