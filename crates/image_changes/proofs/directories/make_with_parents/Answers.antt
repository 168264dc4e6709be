use Rattle.std.specs.List.{AllByRecursion}
use Rattle.std.proofs.Common.{IsTrue, Result, Ok, Err, Vec, Global, refl, sym, ap, subst, ◌∙◌}
use Rattle.std.proofs.lemmas.Result.{err_from_is_err_and}
use Rattle.store_model.specs.Paths.{Path, is_path}
use Rattle.image_check.specs.declared.fault.ApplyFault.{ApplyFault}
use Rattle.staged_tree.specs.declared.group.GroupAnswer.{GroupAnswer}
use Rattle.store_core.specs.Streams.{AppliesStream}
use Rattle.tree_changes.specs.Folders.{AreMadeWithParents, IsInTheWay}
use Rattle.image_changes.specs.declared.outcome.Outcome.{Outcome}
use Rattle.image_changes.specs.Outcomes.{outcome_of}
use Rattle.image_changes.specs.Ways.{HasPassedTo, ArePassed}
use Rattle.image_changes.specs.Words.{Changes}
use Rattle.image_changes.proofs.PathWords.{Never}
use Rattle.image_changes.proofs.ParentWords.{parents_fail, parents_answered}
use Rattle.image_changes.proofs.directories.make_with_parents.Goals as goal

pub returns-in_err-answer : goal.returns-in_err-answer
returns-in_err-answer g c =
    let paths = c.args.paths.items in
    let begun = c.new-changes.result in
    let stream = c.apply_stream.new.stream in
    let stays = c.in_err-answer.ensures.keeps begun refl in
    let fault = err_from_is_err_and c.from_residual.result c.from_residual.ensures.1 in
    subst (λ (r : Result Outcome ApplyFault). Changes g.D.Disk.state (AreMadeWithParents paths) (IsInTheWay paths)
    c.args.store.now c.apply_stream.new.self r) (sym (fault.1 ∙ ap (λ (f : ApplyFault). Err f) fault.2))
    (parents_fail g.D.Disk.state c.args.store.now c.apply_stream.new.self paths stream
    c.params-params.ensures.fitting.tree
    (subst (λ xs. AllByRecursion (λ q. IsTrue (is_path q)) xs) c.deref.ensures.value c.reveal.ensures)
    (ap (λ (v : Vec Path Global). v.items) (stays ∙ c.new-changes.ensures.paths))
    c.in_err-answer.field-0.0 c.in_err-answer.ensures.call)

pub returns : goal.returns
returns g c =
    let paths = c.args.paths.items in
    let begun = c.new-changes.result in
    let stream = c.apply_stream.new.stream in
    let stays = c.in_ok-answer.ensures.keeps begun refl in
    subst (λ (o : Outcome). Changes g.D.Disk.state (AreMadeWithParents paths) (IsInTheWay paths)
    c.args.store.now c.apply_stream.new.self (Ok o))
    (sym (c.outcome_of.ensures ∙ ap (λ (x : Path). outcome_of x c.in-Ok.answer) c.last.ensures))
    (parents_answered g.D.Disk.state c.args.store.now c.apply_stream.new.self paths stream
    c.params-params.ensures.fitting.tree
    (subst (λ xs. AllByRecursion (λ q. IsTrue (is_path q)) xs) c.deref.ensures.value c.reveal.ensures)
    (ap (λ (v : Vec Path Global). v.items) (stays ∙ c.new-changes.ensures.paths))
    c.in-Ok.answer
    (subst (λ (r : Result GroupAnswer (Unit {0})). AppliesStream (HasPassedTo stream)
    (ArePassed stream) Never g.D.Disk.state
    c.args.store.now c.apply_stream.new.self (Ok r)) c.in-Ok.is c.in_ok-answer.ensures.call))
