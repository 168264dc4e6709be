use Rattle.std.proofs.Common.{sym, ◌∙◌}
use Rattle.scrub_free.proofs.Blocks.{clean_block, unclean_free, free_block}
use Rattle.scrub_free.proofs.view.scrub_bytes.Goals as goal

pub returns-then-not-is_unclean-clause-scrubbed : goal.returns-then-not-is_unclean-clause-scrubbed
returns-then-not-is_unclean-clause-scrubbed c =
    sym (clean_block c.args.slot.now (sym c.is_unclean.ensures ∙ c.if-not-is_unclean.true))

pub returns-clause-scrubbed : goal.returns-clause-scrubbed
returns-clause-scrubbed c =
    sym (free_block c.args.slot.now
    (unclean_free c.args.slot.now (sym c.is_unclean.ensures ∙ c.if-not-is_unclean.false)))
