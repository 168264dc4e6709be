use Rattle.std.proofs.Common.{arith, Bool, subst}
use Rattle.std.specs.Bool.{OnFalse}
use Rattle.dump_diff.specs.Ahead.{AreMerged}
use Rattle.std.proofs.lemmas.Result.{IfOk-at_ok}
use Rattle.store_model.specs.Trees.{empty_tree}
use Rattle.store_model.proofs.TreesLemmasFits.{IsTree-empty}
use Rattle.dump_diff.specs.Causes.{IsCause}
use Rattle.dump_diff.proofs.Causing.{cause_of, err_so, too_long}
use Rattle.dump_diff.proofs.Merging.{on_ok_like, nothing_merged}
use Rattle.dump_diff.proofs.comparing.merge_all.Goals as goal

pub loop-init : goal.loop-init
loop-init g c = (
  c.new-4.ensures.on,
  λ start kept. c.fetch.ensures.keeps start kept,
  λ start kept. c.fetch-2.ensures.keeps start kept,
  λ came came'.
      record {
        one = empty_tree;
        other = empty_tree;
        between = record {
          first = IfOk-at_ok _ c.in_ok-map_err.was
              (on_ok_like _ c.fetch.result c.map_err.result c.map_err.ensures.variant
              (c.fetch.ensures.ahead empty_tree IsTree-empty came));
          second = IfOk-at_ok _ c.in_ok-map_err-2.was
              (on_ok_like _ c.fetch-2.result c.map_err-2.result c.map_err-2.ensures.variant
              (c.fetch-2.ensures.ahead empty_tree IsTree-empty came'));
          merged = nothing_merged (record {
            first = c.fetch.new.self;
            second = c.fetch-2.new.self;
            found = c.new-3.result;
            kept = c.new-4.result;
          })
              c.args.keeps c.new-3.ensures.marks c.new-3.ensures.attributes c.new-4.ensures;
        };
        many = omega arith;
      },
)

pub returns-in_err-step-clause-failed : goal.returns-in_err-step-clause-failed
returns-in_err-step-clause-failed g c came came' =
    let first = c.step.new.first in
    let second = c.step.new.second in
    err_so c.from_residual-in_err-step.result c.in_err-step.field-0.0
    (IsCause (g.A.DumpStream.came first) (g.A.DumpStream.whole first) (g.A.DumpStream.fails first)
    (g.B.DumpStream.came second) (g.B.DumpStream.whole second) (g.B.DumpStream.fails second))
    c.from_residual-in_err-step.ensures.1
    (cause_of (g.A.DumpStream.came first) (g.A.DumpStream.whole first) (g.B.DumpStream.came second)
    (g.B.DumpStream.whole second) (g.A.DumpStream.fails first) (g.B.DumpStream.fails second)
    c.in_err-step.field-0.0 (c.in_err-step.ensures.failed c.loop.counter (c.loop.invariant.3 came came')))

pub returns-clause-failed : goal.returns-clause-failed
returns-clause-failed g c came came' =
    too_long c.loop.merge c.loop.counter (c.loop.invariant.3 came came')
    (let test = c.loop-test.false in omega (arith, test))

pub returns-then-not-branch-clause-merged : goal.returns-then-not-branch-clause-merged
returns-then-not-branch-clause-merged g c came came' =
    subst (λ (b : Bool). OnFalse b (AreMerged (g.A.DumpStream.whole c.step.new.first)
    (g.B.DumpStream.whole c.step.new.second) c.step.new.self)) c.if-not-branch.true
    (c.in_ok-step.ensures.whole c.loop.counter (c.loop.invariant.3 came came'))
