-- The first number of a list that passes a test.
use Rattle.std.proofs.Common.{◌≡◌, ℕ, zero, suc, ◌<◌, ◌≤◌, List, [], ◌∷◌, length, drop, get_or, Some, None}
use Rattle.std.proofs.Common.{Bool, true, false, cond, refl, sym, ap, subst, ◌∙◌, arith}
use Rattle.std.specs.List.{find, Contains, AllByRecursion}

passes_by : (p : ℕ → Bool) (y : ℕ) (xs : List ℕ) (x : ℕ) (b : Bool) → (find p xs ≡ Some x → p x ≡ true) → p y ≡ b
    → cond b (Some y) (find p xs) ≡ Some x → p x ≡ true
passes_by p y xs x true later passes is = let same : x ≡ y = cc is in ap p same ∙ passes
passes_by p y xs x false later fails is = later is

-- what is found passes
pub found_passes : (p : ℕ → Bool) (xs : List ℕ) (x : ℕ) → find p xs ≡ Some x → p x ≡ true
found_passes p [] x found = absurd (cc found)
found_passes p (y ∷ xs) x found = passes_by p y xs x (p y) (found_passes p xs x) refl found

behind : (y x : ℕ) (xs : List ℕ) → Contains xs x → Contains (y ∷ xs) x
behind y x xs (k, within, is) = (suc k, omega (arith, within), is)

stands_by : (p : ℕ → Bool) (y : ℕ) (xs : List ℕ) (x : ℕ) (b : Bool) → (find p xs ≡ Some x → Contains xs x)
    → cond b (Some y) (find p xs) ≡ Some x → Contains (y ∷ xs) x
stands_by p y xs x true later is = (0, omega arith, (let same : y ≡ x = cc is in same))
stands_by p y xs x false later is = behind y x xs (later is)

-- and stands in the list
pub found_stands : (p : ℕ → Bool) (xs : List ℕ) (x : ℕ) → find p xs ≡ Some x → Contains xs x
found_stands p [] x found = absurd (cc found)
found_stands p (y ∷ xs) x found = stands_by p y xs x (p y) (found_stands p xs x) found

-- the numbers of a list are no lower than this
abbrev pub NoneBelow : ℕ → List ℕ → Type 0
NoneBelow x xs = AllByRecursion (λ y. x ≤ y) xs

-- and each is no lower than those before it
abbrev pub Rises : List ℕ → Type 0
Rises [] = Unit {0}
Rises (x ∷ xs) = NoneBelow x xs × Rises xs

pub each_stands : (P : ℕ → Type 0) (xs : List ℕ) (y : ℕ) → AllByRecursion P xs → Contains xs y → P y
each_stands P [] y all (k, within, is) = absurd (omega (arith, within))
each_stands P (x ∷ xs) y all (zero, within, is) = subst P is all.0
each_stands P (x ∷ xs) y all (suc k, within, is) = each_stands P xs y all.1 (k, omega (arith, within), is)

least_by : (p : ℕ → Bool) (z : ℕ) (xs : List ℕ) (x y : ℕ) (b : Bool) → z ≤ y → (find p xs ≡ Some x → x ≤ y)
    → cond b (Some z) (find p xs) ≡ Some x → x ≤ y
least_by p z xs x y true low later is = let same : z ≡ x = cc is in omega (arith, same, low)
least_by p z xs x y false low later is = later is

-- in a list that rises none that passes is below the one that is found
pub first_is_least : (p : ℕ → Bool) (xs : List ℕ) (x y : ℕ) → Rises xs → find p xs ≡ Some x → Contains xs y
    → p y ≡ true → x ≤ y
first_is_least p [] x y rises found held passes = absurd (cc found)
first_is_least p (z ∷ xs) x y rises found (zero, within, is) passes =
    let first : find p (z ∷ xs) ≡ Some z = ap (λ b. cond b (Some z) (find p xs)) (ap p is ∙ passes) in
    let same : z ≡ x = cc (first, found) in
    omega (arith, same, is)
first_is_least p (z ∷ xs) x y rises found (suc k, within, is) passes =
    let held : Contains xs y = (k, omega (arith, within), is) in
    least_by p z xs x y (p z) (each_stands (λ n. z ≤ n) xs y rises.0 held)
    (λ later. first_is_least p xs x y rises.1 later held passes) found

none_by : (p : ℕ → Bool) (z : ℕ) (xs : List ℕ) (b : Bool) → (find p xs ≡ None → ⊥)
    → cond b (Some z) (find p xs) ≡ None → ⊥
none_by p z xs true later is = cc is
none_by p z xs false later is = later is

-- where none is found, none passes
pub none_passes : (p : ℕ → Bool) (xs : List ℕ) (y : ℕ) → find p xs ≡ None → Contains xs y → p y ≡ true → ⊥
none_passes p [] y none (k, within, is) passes = omega (arith, within)
none_passes p (z ∷ xs) y none (zero, within, is) passes =
    let first : find p (z ∷ xs) ≡ Some z = ap (λ b. cond b (Some z) (find p xs)) (ap p is ∙ passes) in
    cc (first, none)
none_passes p (z ∷ xs) y none (suc k, within, is) passes =
    none_by p z xs (p z) (λ later. none_passes p xs y later (k, omega (arith, within), is) passes) none

-- the search goes on behind one that doesn't pass
pub find_further : (p : ℕ → Bool) (xs : List ℕ) (i : ℕ) → i < length xs → p (get_or xs i 0) ≡ false
    → find p (drop (suc i) xs) ≡ find p (drop i xs)
find_further p [] i within fails = absurd (omega (arith, within))
find_further p (x ∷ xs) zero within fails = sym (ap (λ b. cond b (Some x) (find p xs)) fails)
find_further p (x ∷ xs) (suc i) within fails = find_further p xs i (omega (arith, within)) fails
