use Rattle.std.proofs.Common.{◌+◌, ◌-◌, Some, List, refl, sym, ap, ap₂, subst, ◌∙◌, arith}
use Rattle.store_model.specs.Labels.{Label}
use Rattle.store_model.specs.Pages.{Cell, Page, IsPage}
use Rattle.store_base.specs.Leads.{model_lead}
use Rattle.node_pages.proofs.Runs.{run_within, page_at}
use Rattle.node_pages.proofs.PackedLists.{part_is, run_page}
use Rattle.node_pages.proofs.cells.Cells.page.Goals as goal

pub of_run-requires-clause-packed : goal.of_run-requires-clause-packed
of_run-requires-clause-packed c =
    let list = c.args.self.now in
    let is = subst (λ cells. IsPage (record { label = c.label-label.result; cells = cells }))
    (sym c.run-done.ensures.cells)
    (run_page list c.label-label.result (model_lead c.args.lead.now)
    (c.args.first + c.args.index) c.args.index c.reveal.ensures.valid c.requires.rising c.label-label.ensures.valid
    c.label-label.ensures.value c.requires.within) in
    let part = part_is c.label-label.result c.run-done.result.0 c.run-done.result.1
    (c.run-done.result.1 - c.run-done.result.0) list.cells c.bytes_between.result.now is
    c.run-done.ensures.order c.run-done.ensures.within c.bytes_between.ensures refl
    (omega (arith, c.run-done.ensures.within, c.reveal.ensures.valid.few)) in
    part.0

pub of_run-requires-clause-page : goal.of_run-requires-clause-page
of_run-requires-clause-page c =
    let list = c.args.self.now in
    let is = subst (λ cells. IsPage (record { label = c.label-label.result; cells = cells }))
    (sym c.run-done.ensures.cells)
    (run_page list c.label-label.result (model_lead c.args.lead.now)
    (c.args.first + c.args.index) c.args.index c.reveal.ensures.valid c.requires.rising c.label-label.ensures.valid
    c.label-label.ensures.value c.requires.within) in
    let part = part_is c.label-label.result c.run-done.result.0 c.run-done.result.1
    (c.run-done.result.1 - c.run-done.result.0) list.cells c.bytes_between.result.now is
    c.run-done.ensures.order c.run-done.ensures.within c.bytes_between.ensures refl
    (omega (arith, c.run-done.ensures.within, c.reveal.ensures.valid.few)) in
    subst (λ cells. IsPage (record { label = c.label-label.result; cells = cells })) (sym part.1) is

pub returns : goal.returns
returns c =
    let list = c.args.self.now in
    let is = subst (λ cells. IsPage (record { label = c.label-label.result; cells = cells }))
    (sym c.run-done.ensures.cells)
    (run_page list c.label-label.result (model_lead c.args.lead.now)
    (c.args.first + c.args.index) c.args.index c.reveal.ensures.valid c.requires.rising c.label-label.ensures.valid
    c.label-label.ensures.value c.requires.within) in
    let part = part_is c.label-label.result c.run-done.result.0 c.run-done.result.1
    (c.run-done.result.1 - c.run-done.result.0) list.cells c.bytes_between.result.now is
    c.run-done.ensures.order c.run-done.ensures.within c.bytes_between.ensures refl
    (omega (arith, c.run-done.ensures.within, c.reveal.ensures.valid.few)) in
    let page : Label → List Cell → Page = λ label cells. record { label = label; cells = cells } in
    page_at list.level (model_lead c.args.lead.now)
    c.args.first c.args.index list.cells (run_within list.level c.args.index list.cells c.requires.within)
    ∙ ap Some (ap₂ page (sym c.label-label.ensures.value) (sym (part.1 ∙ c.run-done.ensures.cells))
    ∙ sym c.of_run.ensures)
