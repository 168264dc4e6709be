use Rattle.std.proofs.Common.{sym, subst, ◌∙◌, arith}
use Rattle.store_model.specs.Pairs.{IsPairs}
use Rattle.ordered_pairs.proofs.ValidLemmas.{IsPairs-without}
use Rattle.ordered_pairs.proofs.map.MapPairsOrderedPairs.take.Goals as goal

-- a valid list without a pair of its is valid
pub invariant_of-self : goal.invariant_of-self
invariant_of-self c =
    let taken = rw c.deref.ensures.value at c.in-Ok.ensures.taken in
    record {
      valid = subst IsPairs (taken ∙ sym c.remove-value.ensures.items)
          (IsPairs-without c.args.key.now c.args.self.now.pairs.items c.args.self.now.valid);
      few = omega (arith, c.remove-value.ensures.len, c.args.self.now.few);
    }
