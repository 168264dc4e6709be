use Rattle.std.proofs.Common.{◌+◌, ◌-◌, ◌∷◌, [], map, ℕ, List, refl, sym, subst, ◌∙◌}
use Rattle.std.proofs.lemmas.Result.{err_from_is_err_and}
use Rattle.store_model.specs.Lists.{numbers_from}
use Rattle.store_model.specs.Paths.{key}
use Rattle.image_create.specs.Counts.{AddsKeys, Exceeds}
use Rattle.image_create.specs.FoundKeys.{block_keys}
use Rattle.image_create.proofs.KeyLemmas.{adds_join, adds_none, blocks_at, blocks_more, blocks_none, counts_err}
use Rattle.image_create.proofs.KeyLemmas.{exceeds_within}
use Rattle.image_create.proofs.keys.KeyCounter.push_blocks.Goals as goal

pub loop-number-init : goal.loop-number-init
loop-number-init c =
    let path = c.args.path.now in
    record {
      levels = refl;
      counted = subst (AddsKeys c.args.self.now c.args.self.now) (sym (blocks_none path)) (adds_none c.args.self.now);
    }

pub returns-in_err-push-clause-counts : goal.returns-in_err-push-clause-counts
returns-in_err-push-clause-counts c =
    let p = err_from_is_err_and c.from_residual.result c.from_residual.ensures.1 in
    let path = c.args.path.now in
    let number = c.loop-number.number in
    let count = c.args.count in
    counts_err c.args.self.now c.push.new.self (block_keys path count) c.from_residual.result _ p.1
    (exceeds_within c.args.self.now c.loop-number.self (block_keys path number) (key path (number + 1) ∷ [])
    (map (key path) (numbers_from (number + 2) (count - number - 1))) (block_keys path count)
    (blocks_at path number count c.loop-number-test.true) c.loop-number.invariant.counted
    (subst (λ (k : List ℕ). Exceeds c.loop-number.self (k ∷ [])) c.key.ensures.value c.in_err-push.ensures.counts))

pub loop-number-preserved : goal.loop-number-preserved
loop-number-preserved c =
    let path = c.args.path.now in
    let number = c.loop-number.number in
    record {
      levels = c.in_ok-push.ensures.levels ∙ c.loop-number.invariant.levels;
      counted = subst (AddsKeys c.args.self.now c.push.new.self) (sym (blocks_more path number))
          (adds_join c.args.self.now c.loop-number.self c.push.new.self (block_keys path number)
          (key path (number + 1) ∷ []) c.loop-number.invariant.counted
          (subst (λ (k : List ℕ). AddsKeys c.loop-number.self c.push.new.self (k ∷ [])) c.key.ensures.value
          c.in_ok-push.ensures.counts));
    }
