-- Lemmas on how many slots differ between two tables.
use Rattle.std.proofs.Common.{◌≡◌, ◌≢◌, ℕ, zero, suc, ◌+◌, List, [], ◌∷◌, ◌++◌, Bool, true, false, cond, not, refl, ap}
use Rattle.std.proofs.Common.{◌∙◌, arith, ⊎_elim}
use Rattle.std.specs.List.{sum_by}
use Rattle.std.specs.Cmp.Lexicographic.{bytes_decides}
use Rattle.std.proofs.lemmas.Bool.{cases_Bool}
use Rattle.std.proofs.lemmas.List.Sums.{sum_by-append}
use Rattle.store_model.specs.Lists.{numbers_from, same_bytes}
use Rattle.store_model.specs.Placement.{Table}
use Rattle.staged_tree.specs.TableChanges.{bytes_of, differing}

numbers_from-last : (first n : ℕ) → numbers_from first (suc n) ≡ numbers_from first n ++ (first + n) ∷ []
unfolding numbers_from
numbers_from-last first zero = ap (λ (k : ℕ). k ∷ []) (omega arith)
numbers_from-last first (suc n) =
    let same : suc first + n ≡ first + suc n = omega arith in
    ap (λ (ks : List ℕ). first ∷ ks) (numbers_from-last (suc first) n
    ∙ ap (λ k. numbers_from (suc first) n ++ k ∷ []) same)

-- whether a slot has other bytes in the one table than in the other
abbrev differs : Table → Table → ℕ → Bool
differs old new i = not (same_bytes (bytes_of old i) (bytes_of new i))

-- one slot more
differing-more : (old new : Table) (n : ℕ)
    → differing old new (suc n) ≡ differing old new n + cond (differs old new n) 1 0
differing-more old new n =
    let count : ℕ → ℕ = λ i. cond (differs old new i) 1 0 in
    let here : 0 + n ≡ n = omega arith in
    ap (sum_by count) (numbers_from-last 0 n) ∙ sum_by-append count (numbers_from 0 n) ((0 + n) ∷ [])
    ∙ ap (λ k. differing old new n + sum_by count (k ∷ [])) here
    ∙ ap (λ k. differing old new n + k) (one count n)
  where
    one : (count : ℕ → ℕ) (n : ℕ) → sum_by count (n ∷ []) ≡ count n
    one count n = omega arith

-- past a slot with the same bytes
pub differing-same : (old new : Table) (n : ℕ) → bytes_of old n ≡ bytes_of new n
    → differing old new (n + 1) ≡ differing old new n
differing-same old new n same =
    let more : n + 1 ≡ suc n = omega arith in
    let test : same_bytes (bytes_of old n) (bytes_of new n) ≡ true =
    (bytes_decides (bytes_of old n) (bytes_of new n)).1 same in
    ap (differing old new) more ∙ differing-more old new n
    ∙ ap (λ (b : Bool). differing old new n + cond (not b) 1 0) test ∙ omega arith

-- past one with other bytes
pub differing-other : (old new : Table) (n : ℕ) → bytes_of old n ≢ bytes_of new n
    → differing old new (n + 1) ≡ differing old new n + 1
differing-other old new n other =
    let more : n + 1 ≡ suc n = omega arith in
    let test : same_bytes (bytes_of old n) (bytes_of new n) ≡ false =
    ⊎_elim (λ yes. absurd (other ((bytes_decides (bytes_of old n) (bytes_of new n)).0 yes))) (λ no. no)
    (cases_Bool (same_bytes (bytes_of old n) (bytes_of new n))) in
    ap (differing old new) more ∙ differing-more old new n
    ∙ ap (λ (b : Bool). differing old new n + cond (not b) 1 0) test

-- before the first slot
pub differing-none : (old new : Table) → differing old new 0 ≡ 0
unfolding numbers_from
differing-none old new = refl

-- a table differs from itself in no slot
pub differing-itself : (table : Table) (n : ℕ) → differing table table n ≡ 0
differing-itself table zero = differing-none table table
differing-itself table (suc n) =
    let more : suc n ≡ n + 1 = omega arith in
    ap (differing table table) more ∙ differing-same table table n refl ∙ differing-itself table n
