-- Words on lists that the other definitions share.
use Rattle.std.specs.Prelude.{ℕ, zero, suc, ◌+◌, ◌-◌, ◌*◌, ◌/◌, ◌<◌, List, [], ◌∷◌, ◌++◌, map, length, take, drop}
use Rattle.std.specs.Prelude.{replicate, slice_index, Bool, nat_eq, cond}
use Rattle.std.specs.declared.cmp.Ordering.{Ordering}
use Rattle.std.specs.Ordering.{is_gt}
use Rattle.std.specs.Cmp.Lexicographic.{pointwise}

-- each element is a byte
abbrev pub IsBytes : List ℕ → Type 0
IsBytes xs = (i : ℕ) → slice_index xs i < 256

-- whether two byte strings are equal
abbrev pub same_bytes : List ℕ → List ℕ → Bool
same_bytes xs ys = pointwise nat_eq xs ys

-- n zeros
abbrev pub zeros : ℕ → List ℕ
zeros n = replicate n 0

-- the bytes, zero-filled to n
unfoldable pub zero_filled : ℕ → List ℕ → List ℕ
zero_filled n xs = xs ++ zeros (n - length xs)

-- the bytes with these written from a place on, over what is there and past the end
abbrev pub overwrite : List ℕ → ℕ → List ℕ → List ℕ
overwrite old at bytes = take at old ++ bytes ++ drop (at + length bytes) old

-- `count` numbers, from `first` on
unfoldable pub numbers_from : ℕ → ℕ → List ℕ
numbers_from first zero = []
numbers_from first (suc count) = first ∷ numbers_from (suc first) count

-- the numbers below n, in order
abbrev pub numbers_below : ℕ → List ℕ
numbers_below n = numbers_from 0 n

-- how many runs of n elements hold count elements, the last run holding the rest
abbrev pub run_count : ℕ → ℕ → ℕ
run_count n count = (count + (n - 1)) / n

-- run i of n elements
abbrev pub run_at : {A : Type 0} → ℕ → List A → ℕ → List A
run_at n xs i = take n (drop (n * i) xs)

-- the list cut into runs of n elements, the last run holding the rest
unfoldable pub runs : {A : Type 0} → ℕ → List A → List (List A)
runs n xs = map (run_at n xs) (numbers_below (run_count n (length xs)))

-- x in front of what cutting the rest gave: in the rest's first part, unless that is cut from x
unfoldable pub onto_part : {A : Type 0} → (A → Bool) → A → List (List A) → List (List A)
onto_part cuts x [] = (x ∷ []) ∷ []
onto_part cuts x ([] ∷ parts) = (x ∷ []) ∷ parts
onto_part cuts x ((y ∷ part) ∷ parts) = cond (cuts y) ((x ∷ []) ∷ (y ∷ part) ∷ parts) ((x ∷ y ∷ part) ∷ parts)

-- the list cut before each element that passes the test; no part is empty
unfoldable pub cut_before : {A : Type 0} → (A → Bool) → List A → List (List A)
cut_before cuts [] = []
cut_before cuts (x ∷ xs) = onto_part cuts x (cut_before cuts xs)

-- x in its place in a list that rises
unfoldable pub insert_in_order : {A : Type 0} → (A → A → Ordering) → A → List A → List A
insert_in_order cmp x [] = x ∷ []
insert_in_order cmp x (y ∷ ys) = cond (is_gt (cmp x y)) (y ∷ insert_in_order cmp x ys) (x ∷ y ∷ ys)

-- the elements in rising order
unfoldable pub in_order : {A : Type 0} → (A → A → Ordering) → List A → List A
in_order cmp [] = []
in_order cmp (x ∷ xs) = insert_in_order cmp x (in_order cmp xs)
