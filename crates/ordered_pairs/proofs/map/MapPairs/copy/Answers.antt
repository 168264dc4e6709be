use Rattle.std.proofs.Common.{◌≤◌, length, sym, subst, ◌∙◌, arith}
use Rattle.std.proofs.lemmas.List.{take_all}
use Rattle.std.proofs.lemmas.Grind.{common_steps}
use Rattle.store_model.specs.Pairs.{IsPairs}
use Rattle.ordered_pairs.specs.PairsState.{most_pairs}
use Rattle.ordered_pairs.proofs.map.MapPairs.copy.Goals as goal

pub loop-key-preserved : goal.loop-key-preserved
loop-key-preserved c = grind (arith, common_steps, c.in_ok-push.ensures.items, c.in_ok-clone.ensures.cases)

-- all pairs are copied
pub invariant_of-result : goal.invariant_of-result
invariant_of-result c =
    let copied = c.loop-key.invariant ∙ take_all c.loop-key.key-index c.deref-key-items.result.now c.loop-key-test.false
    ∙ c.deref-key-items.ensures.value in
    record {
      valid = subst IsPairs (sym copied) c.args.self.now.valid;
      few = subst (λ s. length s ≤ most_pairs) (sym copied) c.args.self.now.few;
    }
