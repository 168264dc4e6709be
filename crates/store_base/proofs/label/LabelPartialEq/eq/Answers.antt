use Rattle.std.proofs.Common.{rules, refl}
use Rattle.std.proofs.lemmas.Bool.{eq-eqb, ne_eqb}
use Rattle.store_base.proofs.LabelBytes.{label_eq-parts}
use Rattle.store_base.proofs.label.LabelPartialEq.eq.Goals as goal
use Rattle.store_base.proofs.label.LabelPartialEq.eq.Goals.{then-self-other, else-self-other}

pub returns-then-self-other-2-clause-value : goal.returns-then-self-other-2-clause-value
returns-then-self-other-2-clause-value c =
    rw (← c.self.view_is, ← c.other.view_is, label_eq-parts _ _ c.self.invariant c.other.invariant)
    (elim c.if-self-other.branch [
      | then-self-other w ↦ let a = w.if-self-other.true in let b = w.value-is
          in let d = c.if-self-other-2.true in search rules
      | else-self-other w ↦ search rules
    ])

pub returns-else-self-other-2-clause-value : goal.returns-else-self-other-2-clause-value
returns-else-self-other-2-clause-value c =
    rw (← c.self.view_is, ← c.other.view_is, label_eq-parts _ _ c.self.invariant c.other.invariant)
    (elim c.if-self-other.branch [
      | then-self-other w
          ↦ rw (eq-eqb _ _ w.if-self-other.true, ← w.value-is, c.if-self-other-2.false) refl
      | else-self-other w
          ↦ rw (w.value-is, ne_eqb _ _ w.if-self-other.false) refl
    ])
