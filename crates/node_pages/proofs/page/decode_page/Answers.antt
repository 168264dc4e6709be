use Rattle.std.proofs.Common.{◌≡◌, Some, ap, ◌∙◌}
use Rattle.store_model.specs.Labels.{Label}
use Rattle.node_pages.specs.PageSlots.{page_in}
use Rattle.node_pages.proofs.PageBytes.{shown}
use Rattle.node_pages.proofs.page.decode_page.Goals as goal

pub returns-in_err-label-clause-only : goal.returns-in_err-label-clause-only
returns-in_err-label-clause-only c page is spells =
    let found = c.in_err-label.ensures.only page is spells in
    absurd cc

pub invariant_of-result : goal.invariant_of-result
invariant_of-result c = c.in_ok-label.ensures.found

pub returns-clause-found : goal.returns-clause-found
returns-clause-found c = let holds = c.in_ok-label.ensures.found in (holds.page, holds.bytes)

pub returns-clause-only : goal.returns-clause-only
returns-clause-only c page is spells =
    let found = c.in_ok-label.ensures.only page is spells in
    let label_is : c.in_ok-label.label ≡ page.label = cc in
    ap Some (ap (λ (l : Label). page_in l c.args.slot.now) label_is ∙ (shown page c.args.slot.now is spells).read)
