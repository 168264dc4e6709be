use Rattle.std.proofs.Common.{sym, subst, arith}
use Rattle.store_model.specs.Pairs.{IsPairs}
use Rattle.layout_scratch.proofs.WholeCut.{length-ranked}
use Rattle.layout_scratch.proofs.from_pairs.build_drawn_by.Goals as goal

pub lay_out-requires-clause-rising : goal.lay_out-requires-clause-rising
lay_out-requires-clause-rising g c = subst IsPairs (sym c.in_ok-ranked.ensures.pairs) c.requires.rising

pub lay_out-requires-clause-few : goal.lay_out-requires-clause-few
lay_out-requires-clause-few g c =
    omega (arith, length-ranked c.in_ok-ranked.ranked.items c.args.pairs.now c.in_ok-ranked.ensures.pairs)
