use Rattle.std.proofs.Common.{◌∷◌, [], ap, arith}
use Rattle.std.proofs.lemmas.Result.{err_from_is_err_and}
use Rattle.skip_levels.proofs.ChangeSteps.{put_lacks_cell, put_not_set, room_for_first, put_starts}
use Rattle.skip_levels.proofs.ChangeSteps.{put_lacks_memory, room_for_next, put_not_split, put_goes_on, put_ends}
use Rattle.skip_levels.proofs.pair_changes.put_from.Goals as goal

pub returns-in_err-cell_on-clause-call : goal.returns-in_err-cell_on-clause-call
returns-in_err-cell_on-clause-call g c =
    let p = err_from_is_err_and c.from_residual.result c.from_residual.ensures.1 in
    rw (p.1, p.2) put_lacks_cell

pub set_cells-requires-clause-room : goal.set_cells-requires-clause-room
set_cells-requires-clause-room g c =
    room_for_first (g.P.Pages.state c.args.pages.now) _ _ _ _
    c.reveal_pair.ensures.key c.reveal_pair.ensures.value c.requires

pub returns-in_err-next-clause-call : goal.returns-in_err-next-clause-call
returns-in_err-next-clause-call g c =
    let p = err_from_is_err_and c.from_residual-in_err-next.result c.from_residual-in_err-next.ensures.1 in
    rw (p.1, p.2) (put_not_set c.reveal_pair.ensures.key c.reveal_pair.ensures.value c.in_err-next.ensures.call)

pub loop-level-init : goal.loop-level-init
loop-level-init g c = record {
  below = omega arith;
  down = put_starts c.reveal_pair.ensures.key c.reveal_pair.ensures.value
      (ap (λ x. x ∷ []) c.in_ok-cell_on.ensures) c.in_ok-next.ensures.call;
  follows = c.in_ok-next.ensures.follows;
}

pub returns-in_err-own-clause-call : goal.returns-in_err-own-clause-call
returns-in_err-own-clause-call g c =
    let p = err_from_is_err_and c.from_residual-in_err-own.result c.from_residual-in_err-own.ensures.1 in
    rw (p.1, p.2) (put_lacks_memory c.loop-level.invariant.down c.loop-level.invariant.below)

pub split_group-requires : goal.split_group-requires
split_group-requires g c = record {
  room = room_for_next c.loop-level.invariant.down (omega arith) (omega arith)
      c.reveal_pair.ensures.key c.reveal_pair.ensures.value c.requires;
}

pub returns-in_err-next-2-clause-call : goal.returns-in_err-next-2-clause-call
returns-in_err-next-2-clause-call g c =
    let p = err_from_is_err_and c.from_residual-in_err-next-2.result c.from_residual-in_err-next-2.ensures.1 in
    rw (p.1, p.2) (put_not_split c.loop-level.invariant.down (omega arith) (omega arith)
    c.reveal_pair.ensures.key c.reveal_pair.ensures.value c.in_err-next-2.ensures.call)

pub loop-level-preserved : goal.loop-level-preserved
loop-level-preserved g c = record {
  below = omega (arith, c.loop-level.invariant.below);
  down = put_goes_on c.loop-level.invariant.down (omega arith) (omega arith)
      c.reveal_pair.ensures.key c.reveal_pair.ensures.value
      (ap (λ x. x ∷ []) c.in_ok-own.ensures) c.in_ok-next-2.ensures.call;
  follows = g.met.P.Pages.follows_trans _ _ _ c.loop-level.invariant.follows c.in_ok-next-2.ensures.follows;
}

pub returns-clause-call : goal.returns-clause-call
returns-clause-call g c = put_ends c.loop-level.invariant.down (omega arith)

-- what each call keeps of the state below
pub returns-in_err-cell_on-clause-follows : goal.returns-in_err-cell_on-clause-follows
returns-in_err-cell_on-clause-follows g c = g.met.P.Pages.follows_refl c.args.pages.now

pub returns-in_err-next-clause-follows : goal.returns-in_err-next-clause-follows
returns-in_err-next-clause-follows g c = c.in_err-next.ensures.follows

pub returns-in_err-own-clause-follows : goal.returns-in_err-own-clause-follows
returns-in_err-own-clause-follows g c = c.loop-level.invariant.follows

pub returns-in_err-next-2-clause-follows : goal.returns-in_err-next-2-clause-follows
returns-in_err-next-2-clause-follows g c =
    g.met.P.Pages.follows_trans _ _ _ c.loop-level.invariant.follows c.in_err-next-2.ensures.follows

pub returns-clause-follows : goal.returns-clause-follows
returns-clause-follows g c = c.loop-level.invariant.follows
