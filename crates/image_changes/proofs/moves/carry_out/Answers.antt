use Rattle.std.proofs.Common.{Result, Ok, Err, refl, sym, ap, subst, ◌∙◌}
use Rattle.std.proofs.lemmas.Result.{err_from_is_err_and}
use Rattle.store_model.specs.Paths.{Path}
use Rattle.image_check.specs.declared.fault.ApplyFault.{ApplyFault}
use Rattle.staged_tree.specs.declared.group.GroupAnswer.{GroupAnswer}
use Rattle.staged_tree.specs.Listed.{ListedState, HasGiven, AreListed}
use Rattle.store_core.specs.Streams.{AppliesStream}
use Rattle.tree_changes.specs.Moves.{IsMoved, IsUnmoved}
use Rattle.image_changes.specs.declared.outcome.Outcome.{Outcome}
use Rattle.image_changes.specs.Outcomes.{outcome_of}
use Rattle.image_changes.specs.Words.{Changes}
use Rattle.image_changes.proofs.PathWords.{Never}
use Rattle.image_changes.proofs.MoveWords.{move_fails, move_answered}
use Rattle.image_changes.proofs.moves.carry_out.Goals as goal

pub returns-in_err-answer : goal.returns-in_err-answer
returns-in_err-answer g c forced tree valid changes =
    let from = c.args.from.now in
    let to = c.args.to.now in
    let listed = c.apply_stream.new.stream in
    let fault = err_from_is_err_and c.from_residual.result c.from_residual.ensures.1 in
    subst (λ (r : Result Outcome ApplyFault). Changes g.D.Disk.state (IsMoved forced from to) (IsUnmoved forced from to)
    c.args.store.now c.apply_stream.new.self r) (sym (fault.1 ∙ ap (λ (f : ApplyFault). Err f) fault.2))
    (move_fails g.D.Disk.state c.args.store.now c.apply_stream.new.self forced from to listed tree valid
    (c.in_err-answer.ensures.keeps c.new-stream.result refl
    ∙ ap (λ (s : ListedState). s.changes) c.new-stream.ensures ∙ changes)
    c.in_err-answer.field-0.0 c.in_err-answer.ensures.call)

pub returns : goal.returns
returns g c forced tree valid changes =
    let from = c.args.from.now in
    let to = c.args.to.now in
    let listed = c.apply_stream.new.stream in
    subst (λ (o : Outcome). Changes g.D.Disk.state (IsMoved forced from to) (IsUnmoved forced from to)
    c.args.store.now c.apply_stream.new.self (Ok o))
    (sym (c.outcome_of.ensures ∙ ap (λ (x : Path). outcome_of x c.in-Ok.answer) c.told_place.ensures))
    (move_answered g.D.Disk.state c.args.store.now c.apply_stream.new.self forced from to listed tree valid
    (c.in_ok-answer.ensures.keeps c.new-stream.result refl
    ∙ ap (λ (s : ListedState). s.changes) c.new-stream.ensures ∙ changes)
    c.in-Ok.answer
    (subst (λ (r : Result GroupAnswer (Unit {0})). AppliesStream (HasGiven listed) (AreListed listed) Never
    g.D.Disk.state c.args.store.now c.apply_stream.new.self (Ok r)) c.in-Ok.is c.in_ok-answer.ensures.call))
