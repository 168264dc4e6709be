use Rattle.std.proofs.Common.{subst, Option, Err, refl, sym, ◌∙◌, arith}
use Rattle.std.proofs.lemmas.Result.{err_from_is_err_and}
use Rattle.store_base.proofs.SlotsCalls.{AreSlotCalls-fault}
use Rattle.store_model.specs.Pages.{Page}
use Rattle.node_pages.specs.PagesState.{IsPageGet, looked_at}
use Rattle.page_store.specs.StagedState.{staged_state, pages_state, Follows}
use Rattle.table_memory.specs.Memos.{Remembered, IsKnown}
use Rattle.page_store.proofs.StagedCalls.{read_staged, failed_well, looked_known, looked_answered, page_looked}
use Rattle.page_store.proofs.staged.StagedPages.look.Goals as goal

pub invariant_of-self : goal.invariant_of-self
invariant_of-self g c =
    let s = c.self.inside in
    let slots = c.learn.new.self.overlay in
    rw c.learn.ensures.draw (read_staged g.D.Disk.state s.lookup.finder.draw (g.W.Draw.drawn s.lookup.finder.draw)
    s.lookup.overlay.params slots.params s.lookup.overlay.disk slots.disk s.lookup.overlay.touched.entries
    slots.touched.entries s.changes.pages.entries s.lookup.memo c.learn.new.self.memo s.used s.settled s.lookups
    s.is_spent c.self.invariant c.learn.ensures.follows c.learn.ensures.call.reads _
    c.self.view_is s.changes.pages.entries refl)

pub invariant_of-self-2 : goal.invariant_of-self-2
invariant_of-self-2 g c =
    let s = c.self.inside in
    let slots = c.learn.new.self.overlay in
    rw c.learn.ensures.draw (read_staged g.D.Disk.state s.lookup.finder.draw (g.W.Draw.drawn s.lookup.finder.draw)
    s.lookup.overlay.params slots.params s.lookup.overlay.disk slots.disk s.lookup.overlay.touched.entries
    slots.touched.entries s.changes.pages.entries s.lookup.memo c.learn.new.self.memo s.used s.settled s.lookups
    s.is_spent c.self.invariant c.learn.ensures.follows c.learn.ensures.call.reads _
    c.self.view_is s.changes.pages.entries refl)

pub returns-in_err-learn : goal.returns-in_err-learn
returns-in_err-learn g c =
    let s = c.self.inside in
    let slots = c.learn.new.self.overlay in
    let n = c.saturating_add-self-inside.result in
    let fault = c.in_err-learn.field-0.0 in
    let calls = AreSlotCalls-fault {U = Option Page} _ _ fault c.in_err-learn.ensures.call.calls in
    let looked = page_looked g.D.Disk.state s.lookup.finder.draw (g.W.Draw.drawn s.lookup.finder.draw)
    s.lookup.overlay.params slots.params s.lookup.overlay.disk slots.disk s.lookup.overlay.touched.entries
    slots.touched.entries s.changes.pages.entries s.lookup.memo c.learn.new.self.memo s.used s.settled s.lookups
    s.is_spent c.self.invariant c.learn.ensures.follows c.learn.ensures.call.reads _
    c.self.view_is c.args.label.now n (Err fault) (omega arith)
    (omega arith) c.saturating_add-self-inside.ensures
    (λ known. absurd (failed_well fault tt (c.in_err-learn.ensures.known known))) tt calls.faults (λ told. tt) in
    let p = err_from_is_err_and c.from_residual.result c.from_residual.ensures.1 in
    let new = staged_state g.D.Disk.state slots.params s.lookup.finder.draw slots.disk s.changes.pages.entries
    c.learn.new.self.memo n s.is_spent in
    let at_last : IsPageGet (pages_state g.D.Disk.state c.args.self.now)
    (pages_state g.D.Disk.state new) c.args.label.now (looked_at c.from_residual.result)
    × Follows g.D.Disk.state c.args.self.now new = rw (p.1, p.2) looked in
    let seen = λ (w : g.row.W.Denot). staged_state g.D.Disk.state slots.params w
    slots.disk s.changes.pages.entries c.learn.new.self.memo n s.is_spent in
    let now = subst (λ (w : g.row.W.Denot). IsPageGet (pages_state g.D.Disk.state c.args.self.now)
    (pages_state g.D.Disk.state (seen w)) c.args.label.now (looked_at c.from_residual.result)
    × Follows g.D.Disk.state c.args.self.now (seen w)) (sym c.learn.ensures.draw) at_last in
    ((refl, λ _. tt, now), record { after_borrow = tt })

pub returns : goal.returns
returns g c =
    let s = c.self.inside in
    let slots = c.learn.new.self.overlay in
    let heard = λ (known : IsKnown s.changes.pages.entries s.lookup.memo c.args.label.now).
    let still = subst (λ (memo : Remembered). IsKnown s.changes.pages.entries memo c.args.label.now)
    (sym (c.learn.ensures.kept known)) known in
    looked_answered c.shown.result (c.shown.ensures.known.1 still) in
    let faults = c.in_ok-learn.ensures.call.calls.faults
    ∙ sym (c.shown.ensures.faults (g.D.Disk.state s.lookup.overlay.disk).faults) in
    let looked = page_looked g.D.Disk.state s.lookup.finder.draw (g.W.Draw.drawn s.lookup.finder.draw)
    s.lookup.overlay.params slots.params s.lookup.overlay.disk slots.disk s.lookup.overlay.touched.entries
    slots.touched.entries s.changes.pages.entries s.lookup.memo c.learn.new.self.memo s.used s.settled s.lookups
    s.is_spent c.self.invariant c.learn.ensures.follows c.learn.ensures.call.reads _
    c.self.view_is c.args.label.now c.saturating_add-self-inside.result (looked_at c.shown.result) (omega arith)
    (omega arith) c.saturating_add-self-inside.ensures heard
    (looked_known c.shown.result (IsKnown s.changes.pages.entries c.learn.new.self.memo c.args.label.now)
    c.shown.ensures.known) faults (rw c.learn.ensures.draw at c.shown.ensures.found) in
    let seen = λ (w : g.row.W.Denot). staged_state g.D.Disk.state slots.params w
    slots.disk s.changes.pages.entries c.learn.new.self.memo c.saturating_add-self-inside.result s.is_spent in
    let now = subst (λ (w : g.row.W.Denot). IsPageGet (pages_state g.D.Disk.state c.args.self.now)
    (pages_state g.D.Disk.state (seen w)) c.args.label.now (looked_at c.shown.result)
    × Follows g.D.Disk.state c.args.self.now (seen w)) (sym c.learn.ensures.draw) looked in
    ((refl, λ _. tt, now), record { after_borrow = tt })
