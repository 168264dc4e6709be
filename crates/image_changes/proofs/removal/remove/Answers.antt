use Rattle.std.proofs.Common.{◌≡◌, List, Bool, Result, Ok, Err, Vec, Global, refl, sym, ap, subst, ◌∙◌}
use Rattle.std.proofs.lemmas.Result.{err_from_is_err_and}
use Rattle.store_model.specs.Paths.{Path}
use Rattle.image_check.specs.declared.fault.ApplyFault.{ApplyFault}
use Rattle.staged_tree.specs.declared.group.GroupAnswer.{GroupAnswer}
use Rattle.store_core.specs.Streams.{AppliesStream}
use Rattle.tree_changes.specs.Removals.{AreInOrder, IsRemoved, IsUnremoved}
use Rattle.image_changes.specs.declared.outcome.Outcome.{Outcome}
use Rattle.image_changes.specs.declared.path_changes.PathChanges.{PathChanges}
use Rattle.image_changes.specs.Outcomes.{outcome_of}
use Rattle.image_changes.specs.PathChanges.{HasGiven, AreAll, KeepsPaths}
use Rattle.image_changes.specs.Removals.{kind_of, when_of, HaveSame}
use Rattle.image_changes.specs.Words.{Changes}
use Rattle.image_changes.proofs.PathWords.{Never, remove_fails, remove_answered}
use Rattle.image_changes.proofs.removal.remove.Goals as goal

module _ (paths sorted : List Path) (recursive forced : Bool) (begun stream : PathChanges)
    (items : begun.paths.items ≡ sorted) (kind : begun.kind ≡ kind_of recursive) (when : begun.when ≡ when_of forced)
    (order : AreInOrder recursive sorted) (named : HaveSame paths sorted)
    (keeps : (start : PathChanges) → KeepsPaths start begun → KeepsPaths start stream) where
  kept : KeepsPaths begun stream
  kept = keeps begun (record { paths = refl; kind = refl; when = refl })

  items_are : stream.paths.items ≡ sorted
  items_are = ap (λ (v : Vec Path Global). v.items) kept.paths ∙ items

  order_there : AreInOrder recursive stream.paths.items
  order_there = subst (λ xs. AreInOrder recursive xs) (sym items_are) order

  named_there : HaveSame paths stream.paths.items
  named_there = subst (λ xs. HaveSame paths xs) (sym items_are) named

  kind_there : stream.kind ≡ kind_of recursive
  kind_there = kept.kind ∙ kind

  when_there : stream.when ≡ when_of forced
  when_there = kept.when ∙ when

pub returns-in_err-answer : goal.returns-in_err-answer
returns-in_err-answer g c =
    let removal = c.args.removal in
    let paths = c.args.paths.items in
    let sorted = c.in_order-paths.result.items in
    let begun = c.new-changes.result in
    let stream = c.apply_stream.new.stream in
    let items = ap (λ (v : Vec Path Global). v.items) c.new-changes.ensures.paths in
    let kind = c.new-changes.ensures.kind ∙ c.kind_of.ensures in
    let when = c.new-changes.ensures.when ∙ c.when_of.ensures in
    let order = c.in_order-paths.ensures.order in
    let named = c.in_order-paths.ensures.named in
    let keeps = c.in_err-answer.ensures.keeps in
    let fault = err_from_is_err_and c.from_residual.result c.from_residual.ensures.1 in
    subst (λ (r : Result Outcome ApplyFault). Changes g.D.Disk.state
    (IsRemoved removal.recursive removal.forced paths) (IsUnremoved removal.recursive removal.forced paths)
    c.args.store.now c.apply_stream.new.self r) (sym (fault.1 ∙ ap (λ (f : ApplyFault). Err f) fault.2))
    (remove_fails g.D.Disk.state c.args.store.now c.apply_stream.new.self removal.recursive removal.forced paths stream
    c.params-params.ensures.fitting.tree
    (order_there paths sorted removal.recursive removal.forced begun stream items kind when order named keeps)
    (named_there paths sorted removal.recursive removal.forced begun stream items kind when order named keeps)
    (kind_there paths sorted removal.recursive removal.forced begun stream items kind when order named keeps)
    (when_there paths sorted removal.recursive removal.forced begun stream items kind when order named keeps)
    c.in_err-answer.field-0.0 c.in_err-answer.ensures.call)

pub returns : goal.returns
returns g c =
    let removal = c.args.removal in
    let paths = c.args.paths.items in
    let sorted = c.in_order-paths.result.items in
    let begun = c.new-changes.result in
    let stream = c.apply_stream.new.stream in
    let items = ap (λ (v : Vec Path Global). v.items) c.new-changes.ensures.paths in
    let kind = c.new-changes.ensures.kind ∙ c.kind_of.ensures in
    let when = c.new-changes.ensures.when ∙ c.when_of.ensures in
    let order = c.in_order-paths.ensures.order in
    let named = c.in_order-paths.ensures.named in
    let keeps = c.in_ok-answer.ensures.keeps in
    subst (λ (o : Outcome). Changes g.D.Disk.state
    (IsRemoved removal.recursive removal.forced paths) (IsUnremoved removal.recursive removal.forced paths)
    c.args.store.now c.apply_stream.new.self (Ok o))
    (sym (c.outcome_of.ensures ∙ ap (λ (x : Path). outcome_of x c.in-Ok.answer) c.last.ensures))
    (remove_answered g.D.Disk.state c.args.store.now c.apply_stream.new.self removal.recursive removal.forced paths
    stream
    c.params-params.ensures.fitting.tree
    (order_there paths sorted removal.recursive removal.forced begun stream items kind when order named keeps)
    (named_there paths sorted removal.recursive removal.forced begun stream items kind when order named keeps)
    (kind_there paths sorted removal.recursive removal.forced begun stream items kind when order named keeps)
    (when_there paths sorted removal.recursive removal.forced begun stream items kind when order named keeps)
    c.in-Ok.answer
    (subst (λ (r : Result GroupAnswer (Unit {0})). AppliesStream (HasGiven stream) (AreAll stream) Never g.D.Disk.state
    c.args.store.now c.apply_stream.new.self (Ok r)) c.in-Ok.is c.in_ok-answer.ensures.call))
