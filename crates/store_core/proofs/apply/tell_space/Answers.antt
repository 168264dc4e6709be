use Rattle.std.proofs.Common.{ap, ap₂, sym, ◌∙◌}
use Rattle.store_model.specs.Commands.Reply.{PagesUsed}
use Rattle.store_model.specs.Steps.{Step}
use Rattle.tree_commands.proofs.StepLemmas.{space_step}
use Rattle.staged_tree.proofs.TreePages.{tree_holds, held_count}
use Rattle.store_core.proofs.apply.tell_space.Goals as goal

pub returns : goal.returns
returns g c observable t fit at =
    let p = c.args.params.now in
    let staged = c.args.staged.now in
    let count = c.used.ensures observable c.requires.runs
    ∙ held_count t p staged.map (tree_holds t p staged.map fit (at.held observable c.requires.runs).map_is) in
    ap₂ PagesUsed count c.slots.ensures.value ∙ sym (ap (λ (s : Step). s.reply) (space_step t p))
