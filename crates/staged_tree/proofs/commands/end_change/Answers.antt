use Rattle.std.proofs.Common.{Result, Ok, Err, sym, subst}
use Rattle.seeded_draw.specs.declared.any.AnyDraw.{AnyDraw}
use Rattle.script_lines.specs.declared.reply.Reply.{Reply}
use Rattle.script_lines.specs.declared.reply.Reply.TheVariants as replies
use Rattle.page_store.specs.StagedState.{StagedState}
use Rattle.image_check.specs.declared.fault.ApplyFault.{ApplyFault}
use Rattle.tree_commands.specs.Counted.{counted_step}
use Rattle.staged_tree.specs.Steps.{settled_reply, EndsCommand}
use Rattle.staged_tree.proofs.StagedSteps.{settled}
use Rattle.staged_tree.proofs.commands.end_change.Goals as goal

pub returns-in-Ok-clause-call : goal.returns-in-Ok-clause-call
returns-in-Ok-clause-call g c t next p staged =
    let state = g.D.Disk.state in
    let pages = c.args.pairs.now.pages in
    let is = c.in-Ok.ensures.call in
    subst (λ (s : StagedState g.row.D.Denot AnyDraw). EndsCommand state t (counted_step t next p) p pages s
    (Ok replies.Ok)) (sym is.new_is)
    (settled state t next p pages is.settled (Ok tt) g.met.D.Disk.sound staged c.requires.runs is.settles)

pub returns-in-Err-clause-call : goal.returns-in-Err-clause-call
returns-in-Err-clause-call g c t next p staged =
    let state = g.D.Disk.state in
    let pages = c.args.pairs.now.pages in
    let is = c.in-Err.ensures.call in
    let fault = c.in-Err.fault in
    subst (λ (r : Result Reply ApplyFault). EndsCommand state t (counted_step t next p) p
    pages c.settle_list.new.pairs.pages r) (sym c.answer_to.ensures)
    (subst (λ (s : StagedState g.row.D.Denot AnyDraw). EndsCommand state t (counted_step t next p) p pages s
    (settled_reply (Err fault))) (sym is.new_is)
    (settled state t next p pages is.settled (Err fault) g.met.D.Disk.sound staged c.requires.runs is.settles))
