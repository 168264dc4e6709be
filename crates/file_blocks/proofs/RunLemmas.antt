-- Lemmas on the blocks of bytes that are written over or cut short.
use Rattle.std.proofs.Common.{◌≡◌, ℕ, ◌+◌, ◌-◌, ◌*◌, ◌/◌, ◌%◌, ◌≤◌, max, List, [], ◌++◌, length, take, drop, refl, sym}
use Rattle.std.proofs.Common.{ap, ap₂, ◌∙◌, arith, append_assoc, Bool, true, false, nat_le, leb-true, leb-false}
use Rattle.std.proofs.lemmas.List.{append-nil, drop_all, length-append, length-take, length-drop, take_all, take_at}
use Rattle.std.proofs.lemmas.List.{take-take, take-append-le, drop_at, drop-drop, drop-append-le, drop-take}
use Rattle.std.proofs.lemmas.List.{take-append-drop}
use Rattle.std.proofs.Math.Seq.{take-append-add}
use Rattle.store_model.specs.Lists.{overwrite, run_at}
use Rattle.store_model.specs.Pairs.{file_block}

-- ---- bytes before and behind what is written

-- before it nothing changes
pub take-overwrite : (y : List ℕ) (at : ℕ) (piece : List ℕ) (k : ℕ) → at ≤ length y → k ≤ at
    → take k (overwrite y at piece) ≡ take k y
take-overwrite y at piece k h l =
    ap (take k) (append_assoc (take at y) piece (drop (at + length piece) y))
    ∙ take-append-le k (take at y) (piece ++ drop (at + length piece) y) (let e = length-take at y in omega arith)
    ∙ take-take k at y l

-- behind it nothing changes
drop-overwrite_more : (y : List ℕ) (at : ℕ) (piece : List ℕ) (m : ℕ) → at ≤ length y
    → drop (at + length piece + m) (overwrite y at piece) ≡ drop (at + length piece + m) y
drop-overwrite_more y at piece m h =
    sym (drop-drop m (at + length piece) (overwrite y at piece))
    ∙ ap (drop m) (drop_at (take at y ++ piece) (drop (at + length piece) y) (at + length piece)
    (let e = length-append (take at y) piece in let f = length-take at y in omega arith))
    ∙ drop-drop m (at + length piece) y

pub drop-overwrite : (y : List ℕ) (at : ℕ) (piece : List ℕ) (k : ℕ) → at ≤ length y → at + length piece ≤ k
    → drop k (overwrite y at piece) ≡ drop k y
drop-overwrite y at piece k h l =
    let m : ℕ = k - (at + length piece) in
    let e : k ≡ at + length piece + m = omega arith in
    ap (λ n. drop n (overwrite y at piece)) e ∙ drop-overwrite_more y at piece m h ∙ ap (λ n. drop n y) (sym e)

-- the length of what is written over
pub length-overwrite : (y : List ℕ) (at : ℕ) (piece : List ℕ) → at ≤ length y
    → length (overwrite y at piece) ≡ max (length y) (at + length piece)
length-overwrite y at piece h = simp (length-append, length-take, length-drop) (omega arith)

-- nothing written
pub overwrite-nothing : (y : List ℕ) (at : ℕ) → overwrite y at [] ≡ y
overwrite-nothing y at = ap₂ (λ u n. u ++ drop n y) (append-nil (take at y)) (let e : at + 0 ≡ at = omega arith in e)
    ∙ take-append-drop at y

-- all written over
pub overwrite-whole : (y : List ℕ) (piece : List ℕ) → length y ≤ length piece → overwrite y 0 piece ≡ piece
overwrite-whole y piece h = ap (λ v. piece ++ v) (drop_all (0 + length piece) y (omega arith)) ∙ append-nil piece

-- two pieces, one behind the other
pub overwrite-overwrite : (y : List ℕ) (at : ℕ) (a b : List ℕ) → at ≤ length y
    → overwrite (overwrite y at a) (at + length a) b ≡ overwrite y at (a ++ b)
overwrite-overwrite y at a b h =
    let front : take (at + length a) (overwrite y at a) ≡ take at y ++ a =
    take_at (take at y ++ a) (drop (at + length a) y) (at + length a)
    (let e = length-append (take at y) a in let f = length-take at y in omega arith) in
    let back : drop (at + length a + length b) (overwrite y at a) ≡ drop (at + length (a ++ b)) y =
    drop-overwrite_more y at a (length b) h
    ∙ ap (λ n. drop n y) (let e = length-append a b
    in let f : at + length a + length b ≡ at + length (a ++ b) = omega arith in f) in
    ap₂ (λ u v. (u ++ b) ++ v) front back ∙ ap (λ u. u ++ drop (at + length (a ++ b)) y) (append_assoc (take at y) a b)

-- ---- the block that is written over, and the others

-- a block from what stands up to its end
run_of_front : (y : List ℕ) (i : ℕ) → run_at file_block y i
    ≡ drop (file_block * i) (take (file_block * i + file_block) y)
run_of_front y i = sym (drop-take (file_block * i) file_block y)

pub run_at-below : (y : List ℕ) (at : ℕ) (piece : List ℕ) (i : ℕ) → at ≤ length y → file_block * i + file_block ≤ at
    → run_at file_block (overwrite y at piece) i ≡ run_at file_block y i
run_at-below y at piece i h l = run_of_front (overwrite y at piece) i
    ∙ ap (drop (file_block * i)) (take-overwrite y at piece (file_block * i + file_block) h l) ∙ sym (run_of_front y i)

pub run_at-above : (y : List ℕ) (at : ℕ) (piece : List ℕ) (i : ℕ) → at ≤ length y → at + length piece ≤ file_block * i
    → run_at file_block (overwrite y at piece) i ≡ run_at file_block y i
run_at-above y at piece i h l = ap (take file_block) (drop-overwrite y at piece (file_block * i) h l)

-- what is left from a place on, written over behind it
drop-overwrite_within : (y : List ℕ) (start skip : ℕ) (piece : List ℕ) → start + skip ≤ length y
    → drop start (overwrite y (start + skip) piece) ≡ overwrite (drop start y) skip piece
drop-overwrite_within y start skip piece h =
    drop-append-le start (take (start + skip) y ++ piece) (drop (start + skip + length piece) y)
    (let e = length-take (start + skip) y in let f = length-append (take (start + skip) y) piece in omega arith)
    ∙ ap (λ u. u ++ drop (start + skip + length piece) y)
    (drop-append-le start (take (start + skip) y) piece (let e = length-take (start + skip) y in omega arith))
    ∙ ap₂ (λ u v. (u ++ piece) ++ v) (drop-take start skip y)
    (ap (λ n. drop n y) (let e : start + skip + length piece ≡ start + (skip + length piece) = omega arith in e)
    ∙ sym (drop-drop (skip + length piece) start y))

-- a front, written over within it
take-overwrite_within : (w : List ℕ) (skip : ℕ) (piece : List ℕ) (n : ℕ) → skip ≤ length w → skip + length piece ≤ n
    → take n (overwrite w skip piece) ≡ overwrite (take n w) skip piece
take-overwrite_within w skip piece n h l =
    let m : ℕ = n - (skip + length piece) in
    let e : n ≡ skip + length piece + m = omega arith in
    let long : length (take skip w ++ piece) ≡ skip + length piece =
    length-append (take skip w) piece
    ∙ (let f = length-take skip w in let g : length (take skip w) + length piece ≡ skip + length piece = omega arith
    in g) in
    ap (λ k. take k (overwrite w skip piece)) (e ∙ ap (λ k. k + m) (sym long))
    ∙ take-append-add (take skip w ++ piece) (drop (skip + length piece) w) m
    ∙ ap₂ (λ u v. (u ++ piece) ++ v) (sym (take-take skip n w (omega arith)))
    (sym (drop-take (skip + length piece) m w) ∙ ap (λ k. drop (skip + length piece) (take k w)) (sym e))

pub run_at-within : (y : List ℕ) (at : ℕ) (piece : List ℕ) → at ≤ length y → at % file_block + length piece ≤ file_block
    → run_at file_block (overwrite y at piece) (at / file_block)
    ≡ overwrite (run_at file_block y (at / file_block)) (at % file_block) piece
run_at-within y at piece h l =
    let e : at ≡ file_block * (at / file_block) + at % file_block = omega arith in
    ap (λ n. take file_block (drop (file_block * (at / file_block)) (overwrite y n piece))) e
    ∙ ap (take file_block) (drop-overwrite_within y (file_block * (at / file_block))
    (at % file_block) piece (omega arith))
    ∙ take-overwrite_within (drop (file_block * (at / file_block)) y) (at % file_block) piece file_block
    (let f = length-drop (file_block * (at / file_block)) y in omega arith) l

-- ---- bytes that are cut short

-- a block of a front
pub run_at-take : (y : List ℕ) (n i : ℕ) → file_block * i ≤ n
    → run_at file_block (take n y) i ≡ take (n - file_block * i) (run_at file_block y i)
run_at-take y n i h =
    let m : ℕ = n - file_block * i in
    let e : n ≡ file_block * i + m = omega arith in
    ap (λ k. take file_block (drop (file_block * i) (take k y))) e
    ∙ ap (take file_block) (drop-take (file_block * i) m y) ∙ swapped (nat_le m file_block) refl
  where
    swapped : (b : Bool) → nat_le (n - file_block * i) file_block ≡ b
        → take file_block (take (n - file_block * i) (drop (file_block * i) y))
        ≡ take (n - file_block * i) (take file_block (drop (file_block * i) y))
    swapped true e =
        let l = leb-true (n - file_block * i) file_block e in
        take_all file_block (take (n - file_block * i) (drop (file_block * i) y))
        (let f = length-take (n - file_block * i) (drop (file_block * i) y) in omega arith)
        ∙ sym (take-take (n - file_block * i) file_block (drop (file_block * i) y) l)
    swapped false e =
        let l = leb-false (n - file_block * i) file_block e in
        take-take file_block (n - file_block * i) (drop (file_block * i) y) (omega arith)
        ∙ sym (take_all (n - file_block * i) (take file_block (drop (file_block * i) y))
        (let f = length-take file_block (drop (file_block * i) y) in omega arith))
