use Rattle.std.proofs.Common.{refl, arith}
use Rattle.std.proofs.lemmas.Result.{err_from_is_err_and}
use Rattle.skip_levels.proofs.ChangeSteps.{take_not_set, take_not_joined, room_to_take, take_starts}
use Rattle.skip_levels.proofs.ChangeSteps.{room_to_join_low, room_to_join_own, take_goes_on, take_ends}
use Rattle.skip_levels.proofs.pair_changes.take_from.Goals as goal

pub returns-in_err-next-clause-call : goal.returns-in_err-next-clause-call
returns-in_err-next-clause-call g c =
    let p = err_from_is_err_and c.from_residual.result c.from_residual.ensures.1 in
    rw (p.1, p.2) (take_not_set c.in_err-next.ensures.call)

pub returns-in_err-next-2-clause-call : goal.returns-in_err-next-2-clause-call
returns-in_err-next-2-clause-call g c =
    let p = err_from_is_err_and c.from_residual-in_err-next-2.result c.from_residual-in_err-next-2.ensures.1 in
    rw (p.1, p.2) (take_not_joined c.loop-level.invariant.down (omega arith) (omega arith)
    c.in_err-next-2.ensures.call)

pub set_cells-requires-clause-room : goal.set_cells-requires-clause-room
set_cells-requires-clause-room g c = room_to_take (g.P.Pages.state c.args.pages.now) _ _ _ c.requires

pub loop-level-init : goal.loop-level-init
loop-level-init g c = record {
  below = omega arith;
  down = take_starts refl c.in_ok-next.ensures.call;
  follows = c.in_ok-next.ensures.follows;
}

pub join_groups-requires-clause-room : goal.join_groups-requires-clause-room
join_groups-requires-clause-room g c =
    room_to_join_low c.loop-level.invariant.down (omega arith) (omega arith) c.requires

pub join_groups-requires-clause-own_room : goal.join_groups-requires-clause-own_room
join_groups-requires-clause-own_room g c =
    room_to_join_own c.loop-level.invariant.down (omega arith) (omega arith) c.requires

pub loop-level-preserved : goal.loop-level-preserved
loop-level-preserved g c = record {
  below = omega (arith, c.loop-level.invariant.below);
  down = take_goes_on c.loop-level.invariant.down (omega arith) (omega arith) c.in_ok-next-2.ensures.call;
  follows = g.met.P.Pages.follows_trans _ _ _ c.loop-level.invariant.follows c.in_ok-next-2.ensures.follows;
}

pub returns-clause-call : goal.returns-clause-call
returns-clause-call g c = take_ends c.loop-level.invariant.down (omega arith)

-- what each call keeps of the state below
pub returns-in_err-next-clause-follows : goal.returns-in_err-next-clause-follows
returns-in_err-next-clause-follows g c = c.in_err-next.ensures.follows

pub returns-in_err-next-2-clause-follows : goal.returns-in_err-next-2-clause-follows
returns-in_err-next-2-clause-follows g c =
    g.met.P.Pages.follows_trans _ _ _ c.loop-level.invariant.follows c.in_err-next-2.ensures.follows

pub returns-clause-follows : goal.returns-clause-follows
returns-clause-follows g c = c.loop-level.invariant.follows
