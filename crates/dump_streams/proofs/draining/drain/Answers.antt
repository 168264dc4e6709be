use Rattle.std.proofs.Common.{◌+◌, List, [], ◌∷◌, length, inl, inr, refl, sym, ap, subst, ◌∙◌, arith}
use Rattle.std.proofs.lemmas.List.{length-append}
use Rattle.store_model.specs.Trees.{empty_tree}
use Rattle.dump_streams.specs.Dumps.{DumpStep, after_step}
use Rattle.dump_streams.proofs.ListingSteps.{dump_none}
use Rattle.dump_streams.specs.declared.draining.DrainFault.TheVariants as drains
use Rattle.dump_streams.proofs.DrainSteps.{err_told}
use Rattle.dump_streams.proofs.draining.drain.Goals as goal

pub loop-init : goal.loop-init
loop-init g c = (
  λ start kept. kept,
  λ came took. (
    empty_tree,
    came,
    subst (λ (steps : List DumpStep). g.T.Taker.took c.args.taker.now c.args.taker.now steps)
        (sym dump_none) took,
    ap length dump_none,
  ),
)

pub returns-in_err-next-clause-drains : goal.returns-in_err-next-clause-drains
returns-in_err-next-clause-drains g c came took =
    let was = c.loop.invariant.1 came took in
    err_told c.from_residual.result (drains.Stream c.in_err-next.field-0.0) _ _ c.from_residual.ensures.1 (record {
      tree = was.0;
      why = inl (c.in_err-next.ensures.next.failed was.0 was.1);
      took_is = was.2;
    })

pub returns-in_err-take-clause-drains : goal.returns-in_err-take-clause-drains
returns-in_err-take-clause-drains g c came took =
    let was = c.loop.invariant.1 came took in
    let next = rw c.if-not-branch.false at c.in_ok-next.ensures.next in
    err_told c.from_residual-in_err-take.result (drains.Taker c.in_err-take.field-0.0) _ _
    c.from_residual-in_err-take.ensures.1 (record {
      tree = was.0;
      step = c.next.new.into;
      came_is = next.came was.0 was.1;
      extends = next.extends was.0 was.1;
      before = c.loop.taker;
      took_is = was.2;
      broke_is = c.in_err-take.ensures.broken;
    })

pub loop-preserved : goal.loop-preserved
loop-preserved g c = (
  λ start kept. c.next.ensures.keeps start (c.loop.invariant.0 start kept),
  λ came took.
      let was = c.loop.invariant.1 came took in
      let step = c.next.new.into in
      let next = rw c.if-not-branch.false at c.in_ok-next.ensures.next in
      let extends = next.extends was.0 was.1 in (
        after_step was.0 step,
        next.came was.0 was.1,
        subst (λ (steps : List DumpStep). g.T.Taker.took c.args.taker.now c.take.new.self steps)
            (sym extends.dump_is) (c.in_ok-take.ensures.taken c.args.taker.now _ was.2),
        ap length extends.dump_is ∙ length-append _ (step ∷ []) ∙ ap (λ n. n + 1) was.3,
      ),
)

pub returns-clause-drains : goal.returns-clause-drains
returns-clause-drains g c came took =
    let was = c.loop.invariant.1 came took in
    let count = was.3 in
    let test = c.loop-test.false in
    record {
      tree = was.0;
      why = inr (record { came_is = was.1; fault_is = refl; many = omega (arith, count, test) });
      took_is = was.2;
    }
