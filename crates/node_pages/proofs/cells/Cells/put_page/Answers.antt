use Rattle.std.proofs.Common.{◌+◌, ◌-◌, List, refl, sym, ap₂, subst, ◌∙◌, arith}
use Rattle.store_model.specs.Labels.{Label}
use Rattle.store_model.specs.Pages.{Cell, Page, IsPage}
use Rattle.store_base.specs.Leads.{model_lead}
use Rattle.node_pages.specs.PagesState.{IsPagePut}
use Rattle.node_pages.proofs.PackedLists.{part_is, run_page}
use Rattle.node_pages.proofs.cells.Cells.put_page.Goals as goal

pub put_run-requires-clause-packed : goal.put_run-requires-clause-packed
put_run-requires-clause-packed g c =
    let list = c.args.self.now in
    let is = subst (λ cells. IsPage (record { label = c.label.result; cells = cells })) (sym c.run-done.ensures.cells)
    (run_page list c.label.result (model_lead c.args.lead.now)
    (c.args.first + c.args.index) c.args.index c.reveal.ensures.valid c.requires.rising c.label.ensures.valid
    c.label.ensures.value c.requires.within) in
    let part = part_is c.label.result c.run-done.result.0 c.run-done.result.1
    (c.run-done.result.1 - c.run-done.result.0) list.cells c.bytes_between.result.now is
    c.run-done.ensures.order c.run-done.ensures.within c.bytes_between.ensures refl
    (omega (arith, c.run-done.ensures.within, c.reveal.ensures.valid.few)) in
    part.0

pub put_run-requires-clause-page : goal.put_run-requires-clause-page
put_run-requires-clause-page g c =
    let list = c.args.self.now in
    let is = subst (λ cells. IsPage (record { label = c.label.result; cells = cells })) (sym c.run-done.ensures.cells)
    (run_page list c.label.result (model_lead c.args.lead.now)
    (c.args.first + c.args.index) c.args.index c.reveal.ensures.valid c.requires.rising c.label.ensures.valid
    c.label.ensures.value c.requires.within) in
    let part = part_is c.label.result c.run-done.result.0 c.run-done.result.1
    (c.run-done.result.1 - c.run-done.result.0) list.cells c.bytes_between.result.now is
    c.run-done.ensures.order c.run-done.ensures.within c.bytes_between.ensures refl
    (omega (arith, c.run-done.ensures.within, c.reveal.ensures.valid.few)) in
    subst (λ cells. IsPage (record { label = c.label.result; cells = cells })) (sym part.1) is

pub returns-clause-call : goal.returns-clause-call
returns-clause-call g c =
    let list = c.args.self.now in
    let is = subst (λ cells. IsPage (record { label = c.label.result; cells = cells })) (sym c.run-done.ensures.cells)
    (run_page list c.label.result (model_lead c.args.lead.now)
    (c.args.first + c.args.index) c.args.index c.reveal.ensures.valid c.requires.rising c.label.ensures.valid
    c.label.ensures.value c.requires.within) in
    let part = part_is c.label.result c.run-done.result.0 c.run-done.result.1
    (c.run-done.result.1 - c.run-done.result.0) list.cells c.bytes_between.result.now is
    c.run-done.ensures.order c.run-done.ensures.within c.bytes_between.ensures refl
    (omega (arith, c.run-done.ensures.within, c.reveal.ensures.valid.few)) in
    let page : Label → List Cell → Page = λ label cells. record { label = label; cells = cells } in
    subst (λ (p : Page). IsPagePut (g.P.Pages.state c.args.pages.now)
    (g.P.Pages.state c.put_run.new.self) p c.put_run.result)
    (ap₂ page c.label.ensures.value (part.1 ∙ c.run-done.ensures.cells)) c.put_run.ensures.call
