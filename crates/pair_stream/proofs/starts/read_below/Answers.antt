use Rattle.std.proofs.Common.{◌∙◌, arith}
use Rattle.skip_groups.proofs.Looks.{looked_none, looked_some}
use Rattle.pair_stream.proofs.StartGroups.{told_pages, told_cells, walk_ends, walk_stops, walk_goes_on}
use Rattle.pair_stream.proofs.starts.read_below.Goals as goal

pub returns-in_default-clause-call : goal.returns-in_default-clause-call
returns-in_default-clause-call g c =
    walk_ends c.loop-index.invariant.walks (omega arith) c.saturating_mul-first.result
    (told_pages _ c.from-room.result _ _ (c.from-room.ensures ∙ c.room.ensures) c.saturating_mul-first.ensures)
    (looked_none c.label_in_group.ensures c.look.follows.holds-at-none.0 c.in_ok-found.was c.in_default.is)

pub returns-then-count-room-clause-call : goal.returns-then-count-room-clause-call
returns-then-count-room-clause-call g c =
    walk_stops c.loop-index.invariant.walks (omega arith)
    (looked_some c.label_in_group.ensures c.look.follows.holds-at-none.0 c.in_ok-found.was c.in-Some.is)
    c.count_below-count.ensures c.lead_past-next.ensures c.saturating_add.result
    (told_cells _ c.from-room.result _ c.saturating_mul-first.result _ _ (c.from-room.ensures ∙ c.room.ensures)
    c.saturating_mul-first.ensures c.saturating_add.ensures)
    (omega (arith, c.if-count-room.true, c.from-room.ensures, c.room.ensures))

pub loop-index-preserved : goal.loop-index-preserved
loop-index-preserved g c = record {
  walks = walk_goes_on c.loop-index.invariant.walks (omega arith)
      (looked_some c.label_in_group.ensures c.look.follows.holds-at-none.0 c.in_ok-found.was c.in-Some.is)
      c.count_below-count.ensures c.lead_past-next.ensures
      (omega (arith, c.if-count-room.false, c.from-room.ensures, c.room.ensures));
  follows = g.met.P.Pages.follows_trans _ _ _ c.loop-index.invariant.follows c.look.follows.holds-at-none.1;
}
