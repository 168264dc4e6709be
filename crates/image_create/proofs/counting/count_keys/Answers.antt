use Rattle.std.proofs.Common.{◌+◌, take, drop, refl, sym, subst, ◌∙◌}
use Rattle.std.proofs.lemmas.Result.{err_from_is_err_and}
use Rattle.image_create.specs.Counts.{AddsKeys}
use Rattle.image_create.specs.FoundKeys.{found_keys, keys_found}
use Rattle.image_create.proofs.KeyLemmas.{adds_join, adds_none, counts_err, exceeds_within}
use Rattle.image_create.proofs.FoundLemmas.{found_at, found_more, has_keys_at}
use Rattle.image_create.proofs.counting.count_keys.Goals as goal

pub loop-entry-init : goal.loop-entry-init
unfolding keys_found
loop-entry-init c = record { levels = refl; counted = λ have. adds_none c.args.keys.now }

pub returns-in_err-push_found-clause-counts : goal.returns-in_err-push_found-clause-counts
returns-in_err-push_found-clause-counts c = λ have.
    let p = err_from_is_err_and c.from_residual.result c.from_residual.ensures.1 in
    let found = c.args.found.now in
    let version = c.args.version in
    let at = c.loop-entry.entry-index in
    let entry = c.entry-item.result in
    counts_err c.args.keys.now c.push_found.new.self (keys_found version found) c.from_residual.result _ p.1
    (exceeds_within c.args.keys.now c.loop-entry.keys (keys_found version (take at found)) (found_keys version entry)
    (keys_found version (drop (at + 1) found)) (keys_found version found)
    (found_at version found at entry c.loop-entry-test.true c.entry-item.is) (c.loop-entry.invariant.counted have)
    (c.in_err-push_found.ensures.counts (has_keys_at found at entry have c.loop-entry-test.true c.entry-item.is)))

pub loop-entry-preserved : goal.loop-entry-preserved
loop-entry-preserved c =
    let found = c.args.found.now in
    let version = c.args.version in
    let at = c.loop-entry.entry-index in
    let entry = c.entry-item.result in
    record {
      levels = c.in_ok-push_found.ensures.levels ∙ c.loop-entry.invariant.levels;
      counted = λ have. subst (AddsKeys c.args.keys.now c.push_found.new.self)
          (sym (found_more version found at entry c.loop-entry-test.true c.entry-item.is))
          (adds_join c.args.keys.now c.loop-entry.keys c.push_found.new.self (keys_found version (take at found))
          (found_keys version entry) (c.loop-entry.invariant.counted have)
          (c.in_ok-push_found.ensures.counts (has_keys_at found at entry have c.loop-entry-test.true c.entry-item.is)));
    }
