use Rattle.std.proofs.Common.{ap, length, drop, ◌∙◌}
use Rattle.store_model.specs.Paths.{Path}
use Rattle.entry_lines.proofs.ShownLines.{never_long, moved_is}
use Rattle.entry_lines.proofs.line.told_path.Goals as goal

pub unreachable-requires : goal.unreachable-requires
unreachable-requires c =
    never_long c.args.path.now c.base_of-base.result c.root.result c.root.ensures c.base_of-base.ensures.valid
    c.replant.result c.in-None.is c.replant.ensures.none

pub returns : goal.returns
returns c =
    moved_is c.args.path.now c.base_of-base.result c.root.result c.root.ensures c.replant.result c.in-Some.told
    c.in-Some.is c.replant.ensures.value
    ∙ ap (λ (q : Path). drop (length q) c.args.path.now) c.base_of-base.ensures.value
