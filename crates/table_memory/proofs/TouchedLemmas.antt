-- Lemmas on numbers that entries of a map are found by.
use Rattle.std.proofs.Common.{◌≡◌, ℕ, Bool, true, false, refl, arith}
use Rattle.std.specs.BTreeMap.{is_at}
use Rattle.std.specs.Ordering.{nat_cmp}

pub at_itself : (n : ℕ) → is_at (nat_cmp n) n ≡ true
at_itself n = grind arith

pub at_other : (n m : ℕ) (b : Bool) → is_at (nat_cmp n) m ≡ b → (m ≡ n → ⊥) → b ≡ false
at_other n m true is other = absurd (other (grind (arith, is)))
at_other n m false is other = refl
