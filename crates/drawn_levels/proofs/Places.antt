-- What stands at a place of a list that got one more, or another one.
use Rattle.std.proofs.Common.{◌≡◌, ℕ, zero, suc, ◌-◌, ◌<◌, List, [], ◌∷◌, ◌++◌, length, slice_get, slice_set, Some}
use Rattle.std.proofs.Common.{refl, ap, ◌∙◌, arith}
use Rattle.std.proofs.lemmas.List.{length-append, length-set}

-- with more behind, what stood at a place stands there
pub got_before : {X : Type 0} (xs ys : List X) (i : ℕ) (x : X) → slice_get xs i ≡ Some x
    → slice_get (xs ++ ys) i ≡ Some x
got_before [] ys i x none = absurd (cc none)
got_before (y ∷ xs) ys zero x is = is
got_before (y ∷ xs) ys (suc i) x is = got_before xs ys i x is

-- what was added last stands last
pub got_behind : {X : Type 0} (xs : List X) (x : X) → slice_get (xs ++ x ∷ []) (length xs) ≡ Some x
got_behind [] x = refl
got_behind (y ∷ xs) x = got_behind xs x

pub got_last : {X : Type 0} (xs : List X) (x : X)
    → slice_get (xs ++ x ∷ []) (length (xs ++ x ∷ []) - 1) ≡ Some x
got_last xs x =
    let more = length-append xs (x ∷ []) in
    let e : length (xs ++ x ∷ []) - 1 ≡ length xs = omega (arith, more) in
    ap (slice_get (xs ++ x ∷ [])) e ∙ got_behind xs x

-- what is put at a place stands there
got_put : {X : Type 0} (xs : List X) (i : ℕ) (x : X) → i < length xs → slice_get (slice_set xs i x) i ≡ Some x
got_put [] i x within = absurd (omega (arith, within))
got_put (y ∷ xs) zero x within = refl
got_put (y ∷ xs) (suc i) x within = got_put xs i x (omega (arith, within))

pub got_last_put : {X : Type 0} (xs : List X) (i : ℕ) (x : X) → i < length xs → i ≡ length xs - 1
    → slice_get (slice_set xs i x) (length (slice_set xs i x) - 1) ≡ Some x
got_last_put xs i x within last =
    let same = length-set xs i x in
    let e : length (slice_set xs i x) - 1 ≡ i = omega (arith, same, last) in
    ap (slice_get (slice_set xs i x)) e ∙ got_put xs i x within
