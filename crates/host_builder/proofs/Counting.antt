-- Counts that rise.
use Rattle.std.proofs.Common.{◌≡◌, ℕ, zero, suc, ◌+◌, ◌-◌, ◌^◌, ◌==◌, min, Bool, true, false, if◌then◌else◌, refl}
use Rattle.std.proofs.Common.{sym, ap}
use Rattle.std.proofs.Common.{◌∙◌, arith}
use Rattle.store_base.specs.Counts.{raised, raised_by}
use Rattle.host_builder.specs.Builders.{risen}

risen_some : (count a : ℕ) → risen count (suc a) ≡ raised_by count (suc a)
risen_some count a =
    let some : (suc a == 0) ≡ false = grind arith in
    ap (λ (b : Bool). if b then count else raised_by count (suc a)) some

raised_more : (count a b : ℕ) → raised_by (raised_by count a) b ≡ raised_by count (a + b)
raised_more count a b = omega arith

-- and so often more
pub risen_more : (count a b : ℕ) → risen (risen count a) b ≡ risen count (a + b)
risen_more count zero b = ap (risen count) (omega arith)
risen_more count (suc a) zero = ap (risen count) (omega arith)
risen_more count (suc a) (suc b) =
    let sum : suc (a + suc b) ≡ suc a + suc b = omega arith in
    risen_some (risen count (suc a)) b ∙ ap (λ (n : ℕ). raised_by n (suc b)) (risen_some count a)
    ∙ raised_more count (suc a) (suc b) ∙ ap (raised_by count) (sym sum) ∙ sym (risen_some count (a + suc b))
    ∙ ap (risen count) sum

pub risen_one : (count a : ℕ) → raised (risen count a) ≡ risen count (a + 1)
risen_one count a = risen_more count a 1

-- once more, by a count that stays at the last value of a u64
pub risen_up_to : (count a : ℕ) → raised (risen count a) ≡ risen count (min (a + 1) (2 ^ 64 - 1))
risen_up_to count zero = refl
risen_up_to count (suc a) =
    let b = min (suc a) (2 ^ 64 - 2) in
    let is : suc b ≡ min (suc a + 1) (2 ^ 64 - 1) = omega arith in
    let same : raised (raised_by count (suc a)) ≡ raised_by count (suc b) = omega arith in
    ap raised (risen_some count a) ∙ same ∙ sym (risen_some count b) ∙ ap (risen count) is
