use Rattle.std.proofs.Common.{[], ◌∷◌, refl, ap}
use Rattle.std.proofs.lemmas.Result.{err_from_is_err_and}
use Rattle.skip_levels.proofs.ChangeSteps.{put_not_set, room_for_first, put_starts, put_ends}
use Rattle.skip_levels.proofs.pair_changes.put_lowest.Goals as goal

pub set_cells-requires-clause-room : goal.set_cells-requires-clause-room
set_cells-requires-clause-room g c =
    room_for_first (g.P.Pages.state c.args.pages.now) _ _ _ _
    c.reveal_pair.ensures.key c.reveal_pair.ensures.value c.requires

pub returns-in_err-set_cells-clause-call : goal.returns-in_err-set_cells-clause-call
returns-in_err-set_cells-clause-call g c =
    let p = err_from_is_err_and c.from_residual.result c.from_residual.ensures.1 in
    rw (p.1, p.2) (put_not_set c.reveal_pair.ensures.key c.reveal_pair.ensures.value c.in_err-set_cells.ensures.call)

pub returns-clause-call : goal.returns-clause-call
returns-clause-call g c =
    put_ends (put_starts c.reveal_pair.ensures.key c.reveal_pair.ensures.value
    (ap (λ x. x ∷ []) c.with_value.ensures.value) c.in_ok-set_cells.ensures.call) refl
