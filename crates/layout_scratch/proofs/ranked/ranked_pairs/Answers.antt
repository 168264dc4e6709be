use Rattle.std.proofs.Common.{◌≡◌, ◌<◌, length, get_or, ap, ◌∙◌, arith}
use Rattle.layout_scratch.proofs.SortedPairs.{rank_none, rank_more, rank_all}
use Rattle.layout_scratch.proofs.ranked.ranked_pairs.Goals as goal

pub loop-pair-init : goal.loop-pair-init
loop-pair-init g c = rank_none (g.W.Draw.drawn c.args.draw.now)
    c.args.pairs.now c.in_ok-ranked.ranked.items c.in_ok-ranked.ensures.items

pub loop-pair-preserved : goal.loop-pair-preserved
loop-pair-preserved g c =
    let pairs = c.args.pairs.now in
    let i = c.loop-pair.pair-index in
    let p = c.pair-item.result in
    let below : i < length pairs = omega (arith, c.loop-pair-test.true, ap length c.as_slice-pair-items.ensures.value)
    in
    let here : p ≡ get_or pairs i p = c.pair-item.is ∙ ap (λ xs. get_or xs i p) c.as_slice-pair-items.ensures.value in
    rank_more (g.W.Draw.drawn c.args.draw.now) pairs i c.loop-pair.ranked.items c.push.new.self.items _
    c.loop-pair.invariant c.in_ok-push.ensures.items below here c.level_at-level.ensures c.reveal.ensures

pub returns-clause-pairs : goal.returns-clause-pairs
returns-clause-pairs g c =
    (rank_all (g.W.Draw.drawn c.args.draw.now)
    c.args.pairs.now c.loop-pair.pair-index c.loop-pair.ranked.items c.loop-pair.invariant
    (omega (arith, c.loop-pair-test.false, ap length c.as_slice-pair-items.ensures.value))).pairs_are

pub returns-clause-levels : goal.returns-clause-levels
returns-clause-levels g c = c.loop-pair.invariant.levels

pub returns-clause-valid : goal.returns-clause-valid
returns-clause-valid g c =
    (rank_all (g.W.Draw.drawn c.args.draw.now)
    c.args.pairs.now c.loop-pair.pair-index c.loop-pair.ranked.items c.loop-pair.invariant
    (omega (arith, c.loop-pair-test.false, ap length c.as_slice-pair-items.ensures.value))).valid
