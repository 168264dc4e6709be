use Rattle.std.proofs.Common.{sym, ◌∙◌, arith, subst, ℕ, ◌≡◌, take, drop, length, ◌-◌, nat_eq, true}
use Rattle.std.specs.Cmp.Lexicographic.{pointwise}
use Rattle.store_model.specs.Lists.{zeros}
use Rattle.store_base.proofs.LabelBytes.{lead_bytes-zeros}
use Rattle.store_base.proofs.label.Lead.from_bytes.Goals as goal

pub returns-in-0-clause-found : goal.returns-in-0-clause-found
returns-in-0-clause-found c = (
  tt,
  lead_bytes-zeros c.args.bytes.now c.requires c.in-0.is
      (let rest : length c.args.bytes.now - 1 ≡ 124 = omega (arith, c.requires) in
      subst (λ (n : ℕ). pointwise nat_eq (take n (drop 1 c.args.bytes.now)) (zeros 124) ≡ true) rest
      (sym c.eq.ensures ∙ c.if-eq.true)),
)
