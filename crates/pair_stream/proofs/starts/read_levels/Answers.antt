use Rattle.std.proofs.Common.{◌∙◌, refl, arith}
use Rattle.std.proofs.Math.ListN.{length-set}
use Rattle.std.proofs.lemmas.Result.{err_from_is_err_and}
use Rattle.pair_stream.proofs.StartLevels.{lowers_start, lower_fails, lower_read, levels_read}
use Rattle.pair_stream.proofs.starts.read_levels.Goals as goal

pub loop-level-init : goal.loop-level-init
loop-level-init g c = record {
  within = omega arith;
  long = refl;
  lowers = lowers_start _ _ _ _;
  follows = g.met.P.Pages.follows_refl c.args.pages.now;
}

pub returns-in_err-count-clause-call : goal.returns-in_err-count-clause-call
returns-in_err-count-clause-call g c =
    let p = err_from_is_err_and c.from_residual.result c.from_residual.ensures.1 in
    rw (p.1, p.2) (lower_fails c.loop-level.invariant.lowers (omega (arith, c.loop-level-test.true))
    (omega (arith, c.loop-level-test.true, c.loop-level.invariant.within)) c.in_err-count.ensures.call)

pub loop-level-preserved : goal.loop-level-preserved
loop-level-preserved g c = record {
  within = omega (arith, c.loop-level.invariant.within);
  long = length-set _ _ _ ∙ c.loop-level.invariant.long;
  lowers = lower_read c.loop-level.invariant.lowers (omega (arith, c.loop-level-test.true))
      (omega (arith, c.loop-level-test.true, c.loop-level.invariant.within)) c.in_ok-count.ensures.call c.from.result
      c.from.ensures (omega (arith, c.requires, c.loop-level.invariant.long));
  follows = g.met.P.Pages.follows_trans _ _ _ c.loop-level.invariant.follows c.in_ok-count.ensures.follows;
}

pub returns-clause-call : goal.returns-clause-call
returns-clause-call g c = levels_read c.loop-level.invariant.lowers (omega arith)
