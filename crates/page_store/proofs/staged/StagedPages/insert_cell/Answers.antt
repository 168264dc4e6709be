use Rattle.gate_journal.specs.ViewState.{KeepsView-refl}
use Rattle.page_store.proofs.CellCalls.{cell_staged, cell_done}
use Rattle.page_store.proofs.StagedCalls.{view_follows}
use Rattle.page_store.proofs.staged.StagedPages.insert_cell.Goals as goal

pub invariant_of-self-2 : goal.invariant_of-self-2
invariant_of-self-2 g c =
    let s = c.self.inside in
    let next = c.insert_cell.new.self.pages.entries in
    cell_staged g.D.Disk.state s.lookup.finder.draw (g.W.Draw.drawn s.lookup.finder.draw)
    s.lookup.overlay.params s.lookup.overlay.disk s.lookup.overlay.touched.entries s.changes.pages.entries next
    s.used s.settled s.lookups s.is_spent c.self.invariant s.lookup.memo s.lookup.remembered c.args.label.now
    c.args.at c.args.cell.now c.in_ok-insert_cell.ensures.ok

pub returns-clause-call : goal.returns-clause-call
returns-clause-call g c =
    let s = c.self.inside in
    let next = c.insert_cell.new.self.pages.entries in
    cell_done g.D.Disk.state s.lookup.finder.draw (g.W.Draw.drawn s.lookup.finder.draw)
    s.lookup.overlay.params s.lookup.overlay.disk s.lookup.overlay.touched.entries s.changes.pages.entries next
    s.used s.settled s.lookups s.is_spent c.self.invariant s.lookup.memo s.lookup.remembered c.args.label.now
    c.args.at c.args.cell.now c.in_ok-insert_cell.ensures.ok c.args.self.now c.self.view_is

pub returns-in_err-insert_cell-clause-follows : goal.returns-in_err-insert_cell-clause-follows
returns-in_err-insert_cell-clause-follows g c =
    let s = c.self.inside in
    let next = c.insert_cell.new.self.pages.entries in
    view_follows g.D.Disk.state s.lookup.finder.draw s.lookup.overlay.params s.lookup.overlay.params
    s.lookup.overlay.disk s.lookup.overlay.disk s.changes.pages.entries next
    s.lookup.memo s.lookup.memo s.lookups s.lookups s.is_spent _
    c.self.view_is (KeepsView-refl s.lookup.overlay.params (g.D.Disk.state s.lookup.overlay.disk)
    (g.met.D.Disk.sound s.lookup.overlay.disk))
