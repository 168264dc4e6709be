use Rattle.std.proofs.Common.{◌≡◌, ℕ, ◌+◌, sym, not, ◌==◌, true, false, ap, ◌∙◌, arith}
use Rattle.std.proofs.lemmas.List.Sums.{count_by_more_no, count_by_more_yes}
use Rattle.std.proofs.lemmas.Bool.Decides.{nat_tests}
use Rattle.slot_map.proofs.picture.used_count.Goals as goal
use Rattle.slot_map.proofs.picture.used_count.Goals.{then-char-ne46, else-char-ne46}

other : (x y : ℕ) → (x ≡ y → ⊥) → not (x == y) ≡ true
other x y differ = grind (arith, nat_tests)

same : (x y : ℕ) → x ≡ y → not (x == y) ≡ false
same x y is = grind (arith, nat_tests)

pub loop-char-preserved : goal.loop-char-preserved
loop-char-preserved c =
    let counts = λ (x : ℕ). not (x == 46) in
    elim c.if-char-ne46.branch [
      | then-char-ne46 w ↦ record {
        counted = w.used-is ∙ ap (λ (n : ℕ). n + 1) c.loop-char.invariant.counted
            ∙ sym (count_by_more_yes counts c.args.chars.now c.loop-char.char-index 0
            c.loop-char-test.true (other _ _ w.if-char-ne46.true));
        within = omega arith;
      }
      | else-char-ne46 w ↦ record {
        counted = w.used-is ∙ c.loop-char.invariant.counted
            ∙ sym (count_by_more_no counts c.args.chars.now c.loop-char.char-index 0
            c.loop-char-test.true (same _ _ w.if-char-ne46.false));
        within = omega arith;
      }
    ]
