use Rattle.std.proofs.Common.{arith}
use Rattle.std.proofs.lemmas.Result.{err_from_is_err_and}
use Rattle.skip_levels.proofs.DescentSteps.{way_starts, way_fails, way_goes_on, way_ends}
use Rattle.skip_levels.proofs.walk.descend.Goals as goal

pub loop-level-init : goal.loop-level-init
loop-level-init g c = record {
  below = omega arith;
  above = omega arith;
  descends = way_starts;
  follows = g.met.P.Pages.follows_refl c.args.pages.now;
}

pub returns-in_err-search_group-clause-call : goal.returns-in_err-search_group-clause-call
returns-in_err-search_group-clause-call g c =
    let p = err_from_is_err_and c.from_residual.result c.from_residual.ensures.1 in
    rw (p.1, p.2) (way_fails c.loop-level.invariant.descends c.loop-level.invariant.below (omega arith)
    c.in_err-search_group.ensures.call)

pub loop-level-preserved : goal.loop-level-preserved
loop-level-preserved g c = record {
  below = omega (arith, c.loop-level.invariant.below);
  above = omega arith;
  descends = way_goes_on c.loop-level.invariant.descends c.loop-level.invariant.below (omega arith)
      c.in_ok-search_group.ensures.call;
  follows = g.met.P.Pages.follows_trans _ _ _ c.loop-level.invariant.follows c.search_group.ensures.follows;
}

pub returns-clause-call : goal.returns-clause-call
returns-clause-call g c = way_ends (omega arith) c.loop-level.invariant.descends

-- what each call keeps of the state below
pub returns-in_err-search_group-clause-follows : goal.returns-in_err-search_group-clause-follows
returns-in_err-search_group-clause-follows g c =
    g.met.P.Pages.follows_trans _ _ _ c.loop-level.invariant.follows c.in_err-search_group.ensures.follows

pub returns-clause-follows : goal.returns-clause-follows
returns-clause-follows g c = c.loop-level.invariant.follows
