use Rattle.std.proofs.Common.{ap, sym, ◌∙◌}
use Rattle.store_model.specs.Lists.{zeros}
use Rattle.node_pages.proofs.PageBytes.{begun_is}
use Rattle.node_pages.proofs.page.begin.Goals as goal

pub returns-clause-value : goal.returns-clause-value
returns-clause-value c =
    begun_is c.args.label.now c.args.slot.now c.copy_from_slice.new.self c.to_bytes.ensures.valid (c.requires
    ∙ ap zeros (sym c.told-slot)) c.told-slot (c.copy_from_slice.ensures.after ∙ c.to_bytes.ensures.value)
