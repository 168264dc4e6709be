use Rattle.std.proofs.Common.{rules, lit≤, drop, ◌∷◌, refl}
use Rattle.store_model.specs.Labels.{label_bytes}
use Rattle.store_model.specs.Lists.{zeros}
use Rattle.store_base.proofs.Orders.{drop-take, put_mid-last}
use Rattle.store_base.proofs.LabelBytes.{lead_of-no_key}
use Rattle.store_base.proofs.label.Label.to_bytes.Goals as goal
use Rattle.store_base.proofs.label.Label.to_bytes.Goals.{in-Key, in_default}

pub returns-clause-value : goal.returns-clause-value
unfolding label_bytes
returns-clause-value c = rw (← c.self.view_is) (elim c.match-self.branch [
  | in-Key w ↦
      let written = put_mid-last (c.self.inside.level ∷ 1 ∷ w.in-Key.key) (zeros 4) c.write_u32.new.buf 126 4
      (search rules) (lit≤ tt) in
      rw (
        w.bytes-is,
        w.copy_from_slice.ensures.after,
        w.as_bytes.ensures.value,
        written,
        w.in-Key.is,
        c.write_u32.ensures,
        drop-take 4 (drop 126 c.match-self.bytes),
      ) refl
  | in_default w ↦
      let written = put_mid-last (c.self.inside.level ∷ 0 ∷ zeros 124)
      (zeros 4) c.write_u32.new.buf 126 4 refl (lit≤ tt) in
      rw (
        w.bytes-is,
        written,
        lead_of-no_key c.self.inside.lead w.in_default.not-Key,
        c.write_u32.ensures,
        drop-take 4
            (drop 126 c.match-self.bytes),
      ) refl
])
