use Rattle.std.proofs.Common.{sym, subst, arith}
use Rattle.store_model.specs.Pairs.{IsPairs}
use Rattle.layout_scratch.proofs.WholeCut.{length-sorted}
use Rattle.layout_scratch.proofs.from_pairs.build_by.Goals as goal

pub lay_out-requires-clause-rising : goal.lay_out-requires-clause-rising
lay_out-requires-clause-rising g c = subst IsPairs (sym c.in_ok-sorted.ensures.pairs) c.in_ok-sorted.ensures.valid

pub lay_out-requires-clause-few : goal.lay_out-requires-clause-few
lay_out-requires-clause-few g c =
    omega (arith, length-sorted c.in_ok-sorted.sorted.items c.args.pairs.now c.in_ok-sorted.ensures.pairs)
