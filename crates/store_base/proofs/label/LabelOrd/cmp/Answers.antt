use Rattle.std.proofs.Common.{refl}
use Rattle.store_base.proofs.LabelBytes.{label_cmp-parts}
use Rattle.store_base.proofs.label.LabelOrd.cmp.Goals as goal

pub returns-clause-value : goal.returns-clause-value
returns-clause-value c =
    rw (
      ← c.self.view_is,
      ← c.other.view_is,
      label_cmp-parts _ _ c.self.invariant c.other.invariant,
      c.then-2.ensures,
      c.then.ensures,
      c.cmp.ensures,
      c.cmp-2.ensures.value,
      c.cmp-3.ensures,
    ) refl
