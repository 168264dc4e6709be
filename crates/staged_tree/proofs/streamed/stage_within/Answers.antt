use Rattle.std.proofs.Common.{◌≡◌, false, subst, ◌∙◌, arith}
use Rattle.std.specs.FinMap as maps
use Rattle.disk_model.specs.DiskState.{IsObservable}
use Rattle.script_lines.specs.Parsing.{command_of}
use Rattle.staged_tree.specs.StagedTree.{TreeList}
use Rattle.staged_tree.proofs.StreamSteps.{within_failed, within_staged}
use Rattle.staged_tree.proofs.streamed.stage_within.Goals as goal

pub returns-then-used-gt-MOST_STAGED-clause-call : goal.returns-then-used-gt-MOST_STAGED-clause-call
returns-then-used-gt-MOST_STAGED-clause-call g c t now list =
    within_failed g.D.Disk.state t now c.args.params.now (command_of c.args.command.now) c.args.pairs.now
    c.stage_roomy.new.pairs c.in_ok-answer.answer (c.in_ok-answer.ensures.call t now list.over)

pub returns-clause-call : goal.returns-clause-call
returns-clause-call g c t now list =
    let state = g.D.Disk.state in
    let is = c.in_ok-answer.ensures in
    let test = c.if-used-gt-MOST_STAGED.false in
    let few = subst (λ (v : TreeList g.row.D.Denot). IsObservable (state v.pages.disk) → v.pages.is_spent ≡ false
    → c.used.result ≡ maps.len v.pages.map) c.pairs.view_is c.used.ensures in
    within_staged state t now c.args.params.now (command_of c.args.command.now) c.args.pairs.now
    c.stage_roomy.new.pairs c.in_ok-answer.answer (is.call t now list.over) c.used.result
    (λ observable. few observable (is.follows.0.runs ∙ c.requires.runs)) (omega (arith, test))
