use Rattle.std.proofs.Common.{◌≡◌, Ok, Err, refl, sym, subst}
use Rattle.seeded_draw.specs.declared.any.AnyDraw.{AnyDraw}
use Rattle.page_store.specs.StagedState.{StagedState}
use Rattle.image_check.specs.declared.fault.ApplyFault.{ApplyFault}
use Rattle.staged_tree.specs.declared.group.GroupAnswer.{GroupAnswer}
use Rattle.staged_tree.specs.declared.group.GroupAnswer.TheVariants as answers
use Rattle.staged_tree.specs.Steps.{settle_cause, EndsStep}
use Rattle.staged_tree.proofs.StagedSteps.{settled_fitting}
use Rattle.staged_tree.proofs.group.end_group.Goals as goal

pub settle_list-requires-clause-whole : goal.settle_list-requires-clause-whole
settle_list-requires-clause-whole g c = c.requires.list.1.1.1.over.whole

pub settle_list-requires-clause-staged : goal.settle_list-requires-clause-staged
settle_list-requires-clause-staged g c = let some = c.requires.list
    in (some.0, (some.1.0, (some.1.1.0, (some.1.1.1.over.staged, some.1.1.1.over.draw))))

pub returns-in-Ok-clause-call : goal.returns-in-Ok-clause-call
returns-in-Ok-clause-call g c t next p list =
    let state = g.D.Disk.state in
    let pages = c.args.pairs.now.pages in
    let is = c.in-Ok.ensures.call in
    subst (λ (s : StagedState g.row.D.Denot AnyDraw). EndsStep state t next
    (λ answer. answer ≡ answers.Done) p pages s (Ok answers.Done)) (sym is.new_is)
    (settled_fitting state t next p pages is.settled (Ok tt) g.met.D.Disk.sound list.over.staged c.requires.runs
    is.settles (λ answer. answer ≡ answers.Done) answers.Done refl list.fitting)

pub returns-in-Err-clause-call : goal.returns-in-Err-clause-call
returns-in-Err-clause-call g c t next p list =
    let state = g.D.Disk.state in
    let pages = c.args.pairs.now.pages in
    let is = c.in-Err.ensures.call in
    subst (λ (f : ApplyFault). EndsStep {A = GroupAnswer} state t next
    (λ answer. answer ≡ answers.Done) p pages c.settle_list.new.pairs.pages (Err f)) (sym c.cause_of.ensures)
    (subst (λ (s : StagedState g.row.D.Denot AnyDraw).
    EndsStep {A = GroupAnswer} state t next (λ answer. answer ≡ answers.Done) p pages s
    (Err (settle_cause c.in-Err.fault))) (sym is.new_is)
    (settled_fitting state t next p pages is.settled (Err c.in-Err.fault) g.met.D.Disk.sound list.over.staged
    c.requires.runs is.settles (λ answer. answer ≡ answers.Done) answers.Done refl list.fitting))
