-- Texts of numbered parts, one behind the other.
use Rattle.std.proofs.Common.{◌≡◌, ℕ, zero, suc, ◌+◌, ◌-◌, ◌≤◌, List, ◌∷◌, ◌++◌, ap, ◌∙◌, arith}
use Rattle.std.specs.List.{flat_map}
use Rattle.std.proofs.lemmas.List.{append-nil}
use Rattle.std.proofs.lemmas.List.Concat.{flat_map-append}
use Rattle.store_model.specs.Lists.{numbers_from, numbers_below}

-- numbers from one on, and those that go on behind them
numbers_split : (first a b : ℕ) → numbers_from first (a + b) ≡ numbers_from first a ++ numbers_from (first + a) b
unfolding numbers_from
numbers_split first zero b =
    let count : 0 + b ≡ b = omega arith in
    let next : first ≡ first + 0 = omega arith in
    ap (numbers_from first) count ∙ ap (λ (k : ℕ). numbers_from k b) next
numbers_split first (suc a) b =
    let count : suc a + b ≡ suc (a + b) = omega arith in
    let next : suc first + a ≡ first + suc a = omega arith in
    ap (numbers_from first) count ∙ ap (λ (ns : List ℕ). first ∷ ns)
    (numbers_split (suc first) a b ∙ ap (λ (k : ℕ). numbers_from (suc first) a ++ numbers_from k b) next)

-- one part more
pub parts_more : (part : ℕ → List ℕ) (n : ℕ)
    → flat_map part (numbers_below (n + 1)) ≡ flat_map part (numbers_below n) ++ part n
unfolding numbers_from
parts_more part n =
    let same : 0 + n ≡ n = omega arith in
    ap (flat_map part) (numbers_split 0 n 1) ∙ flat_map-append part (numbers_below n) (numbers_from (0 + n) 1)
    ∙ ap (λ (ys : List ℕ). flat_map part (numbers_below n) ++ ys) (append-nil (part (0 + n)) ∙ ap part same)

-- what stands behind the first parts
abbrev pub parts_left : (ℕ → List ℕ) → ℕ → ℕ → List ℕ
parts_left part n total = flat_map part (numbers_from (0 + (n + 1)) (total - (n + 1)))

-- the first parts, one more, and those left
pub parts_front : (part : ℕ → List ℕ) (n total : ℕ) → n + 1 ≤ total
    → flat_map part (numbers_below total) ≡ (flat_map part (numbers_below n) ++ part n) ++ parts_left part n total
parts_front part n total fits =
    let all : total ≡ (n + 1) + (total - (n + 1)) = omega arith in
    ap (λ (k : ℕ). flat_map part (numbers_below k)) all ∙ ap (flat_map part) (numbers_split 0 (n + 1) (total - (n + 1)))
    ∙ flat_map-append part (numbers_below (n + 1)) (numbers_from (0 + (n + 1)) (total - (n + 1)))
    ∙ ap (λ (ys : List ℕ). ys ++ parts_left part n total) (parts_more part n)

-- a text that goes on behind one that is known
pub grown : (before text whole more : List ℕ) → before ≡ whole → text ≡ before ++ more → text ≡ whole ++ more
grown before text whole more known grows = grows ∙ ap (λ (xs : List ℕ). xs ++ more) known
