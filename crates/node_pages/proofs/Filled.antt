-- Writes over zeros: what is written stands there, and zeros behind it.
use Rattle.std.proofs.Common.{◌≡◌, ℕ, ◌+◌, ◌-◌, ◌≤◌, List, [], ◌++◌, length, drop, sym, ap, ◌∙◌, arith, append_assoc}
use Rattle.std.proofs.Common.{length-append}
use Rattle.std.proofs.lemmas.List.{take_at, drop_at, drop_all, append-nil, length-replicate, length-drop}
use Rattle.std.proofs.lemmas.List.{drop-replicate, replicate-append-replicate}
use borrow.Rule.Slice.PartMut.{put_mid}
use Rattle.store_model.specs.Lists.{zeros, zero_filled}

pub length-zeros : (n : ℕ) → length (zeros n) ≡ n
length-zeros n = length-replicate {A = ℕ} n 0

-- two zero-filled parts
pub zero_filled-append : (n : ℕ) (xs ys : List ℕ) → zero_filled n (xs ++ ys) ≡ xs ++ zero_filled (n - length xs) ys
unfolding zero_filled
zero_filled-append n xs ys =
    let left : n - length (xs ++ ys) ≡ n - length xs - length ys = omega (arith, length-append xs ys) in
    ap (λ m. (xs ++ ys) ++ zeros m) left ∙ append_assoc xs ys (zeros (n - length xs - length ys))

-- zeros behind zeros
pub zeros-zeros : (m n k : ℕ) → m + n ≡ k → zeros m ++ zeros n ≡ zeros k
zeros-zeros m n k sum = replicate-append-replicate m n 0 ∙ ap zeros sum

-- what is zero-filled, zero-filled further
pub zero_filled-zero_filled : (n m : ℕ) (xs : List ℕ) → length xs ≤ n → n ≤ m
    → zero_filled m (zero_filled n xs) ≡ zero_filled m xs
unfolding zero_filled
zero_filled-zero_filled n m xs fits more =
    let fill = n - length xs in
    let long : m - length (xs ++ zeros fill) ≡ m - n =
    omega (arith, length-append xs (zeros fill), length-zeros fill) in
    ap (λ k. (xs ++ zeros fill) ++ zeros k) long ∙ append_assoc xs (zeros fill) (zeros (m - n))
    ∙ ap (λ (ys : List ℕ). xs ++ ys) (zeros-zeros fill (m - n) (m - length xs) (omega arith))

pub length-zero_filled : (n : ℕ) (xs : List ℕ) → length xs ≤ n → length (zero_filled n xs) ≡ n
unfolding zero_filled
length-zero_filled n xs h = omega (arith, length-append xs (zeros (n - length xs)), length-zeros (n - length xs))

-- a write over the front of zeros
pub written_front : (area front : List ℕ) (n : ℕ) → area ≡ zeros (length area) → length front ≡ n
    → front ++ drop n area ≡ zero_filled (length area) front
unfolding zero_filled
written_front area front n blank long =
    ap (λ (xs : List ℕ). front ++ xs) (ap (drop n) blank ∙ drop-replicate n (length area) 0
    ∙ ap (λ k. zeros (length area - k)) (sym long))

-- a write of k elements behind a front
pub written_behind : (area front ys : List ℕ) (n k : ℕ) → area ≡ zeros (length area) → length front ≡ n → length ys ≡ k
    → put_mid n k (front ++ drop n area) ys ≡ zero_filled (length area) (front ++ ys)
written_behind area front ys n k blank front_long long =
    let rest = drop n area in
    let rest_long : length rest ≡ length area - length front = omega (arith, length-drop n area) in
    let rest_blank : rest ≡ zeros (length rest) = ap (drop n) blank ∙ drop-replicate n (length area) 0
    ∙ ap zeros (sym (length-drop n area)) in
    let before = take_at front rest n front_long in
    let behind : drop k (drop n (front ++ rest)) ≡ drop k rest = ap (drop k) (drop_at front rest n front_long) in
    let back : ys ++ drop k (drop n (front ++ rest)) ≡ zero_filled (length area - length front) ys =
    ap (λ (xs : List ℕ). ys ++ xs) behind ∙ written_front rest ys k rest_blank long
    ∙ ap (λ m. zero_filled m ys) rest_long in
    ap (λ (xs : List ℕ). xs ++ (ys ++ drop k (drop n (front ++ rest)))) before ∙ ap (λ (xs : List ℕ). front ++ xs) back
    ∙ sym (zero_filled-append (length area) front ys)

-- a part up to the end, once it was written, stands behind what is in front of it
pub put_mid_to_end : (front rest ys : List ℕ) (n k : ℕ) → length front ≡ n → length rest ≤ k
    → put_mid n k (front ++ rest) ys ≡ front ++ ys
put_mid_to_end front rest ys n k long all =
    let nothing : drop k (drop n (front ++ rest)) ≡ [] =
    ap (drop k) (drop_at front rest n long) ∙ drop_all k rest all in
    ap (λ (xs : List ℕ). xs ++ (ys ++ drop k (drop n (front ++ rest)))) (take_at front rest n long)
    ∙ ap (λ (xs : List ℕ). front ++ xs) (ap (λ (xs : List ℕ). ys ++ xs) nothing ∙ append-nil ys)
