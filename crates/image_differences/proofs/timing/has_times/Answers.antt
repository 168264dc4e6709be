use Rattle.std.proofs.Common.{◌+◌, [], ◌∷◌, length, inl, inr, refl, sym, ap, ◌∙◌, arith}
use Rattle.std.proofs.lemmas.List.{length-append}
use Rattle.std.proofs.lemmas.Result.{err_from_is_err_and}
use Rattle.store_model.specs.Trees.{empty_tree}
use Rattle.dump_streams.specs.Dumps.{after_step, dump}
use Rattle.image_differences.proofs.TimeSteps.{dump_none, sets_more}
use Rattle.image_differences.proofs.timing.has_times.Goals as goal

pub loop-init : goal.loop-init
loop-init g c = (λ start kept. kept, λ came. (empty_tree, came, refl, ap length dump_none))

pub returns-in_err-next-clause-failed : goal.returns-in_err-next-clause-failed
returns-in_err-next-clause-failed g c came =
    let was = c.loop.invariant.1 came in
    let fault = err_from_is_err_and c.from_residual.result c.from_residual.ensures.1 in
    rw (fault.1, fault.2) (record { tree = was.0; why = inl (c.in_err-next.ensures.next.failed was.0 was.1) })

pub returns-then-not-branch-clause-tells : goal.returns-then-not-branch-clause-tells
returns-then-not-branch-clause-tells g c came =
    let was = c.loop.invariant.1 came in
    let next = rw c.if-not-branch.true at c.in_ok-next.ensures.next in
    (was.0, next.whole was.0 was.1, was.2)

pub returns-then-sets_time-clause-tells : goal.returns-then-sets_time-clause-tells
returns-then-sets_time-clause-tells g c came =
    let was = c.loop.invariant.1 came in
    let next = rw c.if-not-branch.false at c.in_ok-next.ensures.next in
    let step = c.next.new.into in (
      after_step was.0 step,
      next.came was.0 was.1,
      sets_more was.0 step _ (next.extends was.0 was.1).dump_is was.2
          (sym c.sets_time.ensures ∙ c.if-sets_time.true),
    )

pub loop-preserved : goal.loop-preserved
loop-preserved g c = (
  λ start kept. c.next.ensures.keeps start (c.loop.invariant.0 start kept),
  λ came.
      let was = c.loop.invariant.1 came in
      let next = rw c.if-not-branch.false at c.in_ok-next.ensures.next in
      let step = c.next.new.into in
      let grown = (next.extends was.0 was.1).dump_is in (
        after_step was.0 step,
        next.came was.0 was.1,
        sets_more was.0 step _ grown was.2 (sym c.sets_time.ensures ∙ c.if-sets_time.false),
        ap length grown ∙ length-append (dump was.0) (step ∷ []) ∙ ap (λ n. n + 1) was.3,
      ),
)

pub returns-clause-failed : goal.returns-clause-failed
returns-clause-failed g c came =
    let was = c.loop.invariant.1 came in
    let count = was.3 in
    let test = c.loop-test.false in
    record {
      tree = was.0;
      why = inr (record { came_is = was.1; fault_is = refl; many = omega (arith, count, test) });
    }
