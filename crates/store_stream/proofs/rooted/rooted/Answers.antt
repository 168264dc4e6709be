use Rattle.std.proofs.Common.{sym, ◌∙◌}
use Rattle.store_stream.proofs.RootedSteps.{rooted_so}
use Rattle.store_stream.proofs.rooted.rooted.Goals as goal

pub returns : goal.returns
returns c =
    rooted_so c.args.path.now c.args.top.now c.root.result c.root.ensures c.is_inside.ensures.valid.0
    (sym c.is_inside.ensures.value ∙ c.if-not-is_inside.false) c.replant.result c.replant.ensures.value
    c.replant.ensures.none
