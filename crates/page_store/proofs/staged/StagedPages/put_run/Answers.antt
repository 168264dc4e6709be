use Rattle.std.proofs.Common.{Some, sym, subst}
use Rattle.std.proofs.lemmas.Result.{err_from_is_err_and}
use Rattle.store_model.specs.Pages.{Page}
use Rattle.store_model.specs.PageMaps.{IsPageMap}
use Rattle.store_model.proofs.PageMapsLemmas.{IsPageMap-with_page}
use Rattle.node_pages.specs.PageSlots.{cells_in}
use Rattle.gate_journal.specs.ViewState.{KeepsView-refl}
use Rattle.table_memory.specs.Staging.{with_change}
use Rattle.page_store.specs.StagedState.{staged_state}
use Rattle.page_store.proofs.StagedCalls.{put_refused, view_follows}
use Rattle.page_store.proofs.staged.StagedPages.put_run.Goals as goal

pub stage-requires-clause-fits : goal.stage-requires-clause-fits
stage-requires-clause-fits g c = λ m is.
    subst (λ (page : Page). IsPageMap (with_change m c.args.label.now (Some page))) (sym c.in_ok-kept.ensures)
    (IsPageMap-with_page m (record {
      label = c.args.label.now;
      cells = cells_in c.args.label.now.level c.args.count c.args.run.now;
    }) is
    c.requires.page)

pub returns-in_err-kept-clause-call : goal.returns-in_err-kept-clause-call
returns-in_err-kept-clause-call g c =
    let s = c.self.inside in
    let now = staged_state g.D.Disk.state s.lookup.overlay.params s.lookup.finder.draw s.lookup.overlay.disk
    s.changes.pages.entries s.lookup.memo s.lookups s.is_spent in
    let p = err_from_is_err_and c.from_residual.result c.from_residual.ensures.1 in
    rw (p.1, p.2) (put_refused g.D.Disk.state now c.args.self.now (record {
      label = c.args.label.now;
      cells = cells_in c.args.label.now.level c.args.count c.args.run.now;
    }) c.self.view_is)

pub returns-in_err-kept-clause-follows : goal.returns-in_err-kept-clause-follows
returns-in_err-kept-clause-follows g c =
    let s = c.self.inside in
    view_follows g.D.Disk.state s.lookup.finder.draw s.lookup.overlay.params s.lookup.overlay.params
    s.lookup.overlay.disk s.lookup.overlay.disk s.changes.pages.entries s.changes.pages.entries s.lookup.memo
    s.lookup.memo s.lookups s.lookups s.is_spent _
    c.self.view_is (KeepsView-refl s.lookup.overlay.params (g.D.Disk.state s.lookup.overlay.disk)
    (g.met.D.Disk.sound s.lookup.overlay.disk))
