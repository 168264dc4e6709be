use Rattle.std.proofs.Common.{min, Bool, Result, Err, refl, sym, ap, subst, ◌∙◌, arith}
use Rattle.std.proofs.lemmas.Result.{err_from_is_err_and}
use Rattle.store_base.specs.declared.store_fault.Fault.{Fault}
use Rattle.store_base.specs.declared.store_fault.Fault.TheVariants as causes
use Rattle.store_base.proofs.SlotsCalls.{AreSlotCalls-fault}
use Rattle.node_pages.specs.PagesState.{most_pages}
use Rattle.table_memory.specs.Staging.{used_after}
use Rattle.page_store.specs.StagedState.{staged_state, pages_state}
use Rattle.page_store.specs.Stagings.{Stages}
use Rattle.page_store.proofs.StagedCalls.{read_staged, stage_failed, stage_staged, stage_done, view_follows}
use Rattle.page_store.proofs.staged.Staged.stage.Goals as goal

pub invariant_of-self : goal.invariant_of-self
invariant_of-self g c =
    let s = c.self.inside in
    let slots = c.has_page.new.self.overlay in
    rw c.has_page.ensures.draw (read_staged g.D.Disk.state s.lookup.finder.draw (g.W.Draw.drawn s.lookup.finder.draw)
    s.lookup.overlay.params slots.params s.lookup.overlay.disk slots.disk s.lookup.overlay.touched.entries
    slots.touched.entries s.changes.pages.entries s.lookup.memo c.has_page.new.self.memo s.used s.settled s.lookups
    s.is_spent c.self.invariant c.has_page.ensures.follows c.has_page.ensures.call.reads _
    c.self.view_is s.changes.pages.entries refl)

pub returns-in_err-is_there-clause-call : goal.returns-in_err-is_there-clause-call
returns-in_err-is_there-clause-call g c =
    let s = c.self.inside in
    let slots = c.has_page.new.self.overlay in
    let fault = c.in_err-is_there.field-0.0 in
    let calls = AreSlotCalls-fault {U = Unit {0}} _ _ fault c.in_err-is_there.ensures.call.calls in
    let p = err_from_is_err_and c.from_residual.result c.from_residual.ensures.1 in
    rw (p.1, p.2, c.has_page.ensures.draw)
    (stage_failed g.D.Disk.state s.lookup.finder.draw (g.W.Draw.drawn s.lookup.finder.draw)
    s.lookup.overlay.params slots.params s.lookup.overlay.disk slots.disk s.lookup.overlay.touched.entries
    slots.touched.entries s.changes.pages.entries s.lookup.memo c.has_page.new.self.memo s.used s.settled s.lookups
    s.is_spent c.self.invariant c.has_page.ensures.follows c.has_page.ensures.call.reads _
    c.self.view_is c.args.label c.args.change fault s.changes.pages.entries refl calls.faults)

pub invariant_of-self-in_err-keep : goal.invariant_of-self-in_err-keep
invariant_of-self-in_err-keep g c =
    let s = c.self.inside in
    let slots = c.has_page.new.self.overlay in
    rw c.has_page.ensures.draw (read_staged g.D.Disk.state s.lookup.finder.draw (g.W.Draw.drawn s.lookup.finder.draw)
    s.lookup.overlay.params slots.params s.lookup.overlay.disk slots.disk s.lookup.overlay.touched.entries
    slots.touched.entries s.changes.pages.entries s.lookup.memo c.has_page.new.self.memo s.used s.settled s.lookups
    s.is_spent c.self.invariant c.has_page.ensures.follows c.has_page.ensures.call.reads _
    c.self.view_is c.keep.new.self.pages.entries c.in_err-keep.ensures.err)

pub returns-in_err-keep-clause-call : goal.returns-in_err-keep-clause-call
returns-in_err-keep-clause-call g c =
    let s = c.self.inside in
    let slots = c.has_page.new.self.overlay in
    let next = c.keep.new.self.pages.entries in
    let new = pages_state g.D.Disk.state (staged_state g.D.Disk.state slots.params s.lookup.finder.draw slots.disk next
    c.has_page.new.self.memo s.lookups s.is_spent) in
    let failed = err_from_is_err_and c.from_residual-in_err-keep.result c.from_residual-in_err-keep.ensures.1 in
    rw c.has_page.ensures.draw
    (subst (λ (r : Result (Unit {0}) Fault). Stages (pages_state g.D.Disk.state c.args.self.now) new
    c.args.label c.args.change r) (sym (failed.1 ∙ ap Err failed.2))
    (stage_failed g.D.Disk.state s.lookup.finder.draw (g.W.Draw.drawn s.lookup.finder.draw)
    s.lookup.overlay.params slots.params s.lookup.overlay.disk slots.disk s.lookup.overlay.touched.entries
    slots.touched.entries s.changes.pages.entries s.lookup.memo c.has_page.new.self.memo s.used s.settled s.lookups
    s.is_spent c.self.invariant c.has_page.ensures.follows c.has_page.ensures.call.reads _
    c.self.view_is c.args.label c.args.change causes.NoMemory next
    c.in_err-keep.ensures.err c.in_ok-is_there.ensures.call.calls.faults))

pub invariant_of-self-2 : goal.invariant_of-self-2
invariant_of-self-2 g c =
    let s = c.self.inside in
    let slots = c.has_page.new.self.overlay in
    let count = c.count_after-used.ensures
    ∙ ap (λ (b : Bool). min most_pages (used_after s.used c.in_ok-is_there.is_there b)) c.is_some.ensures in
    rw c.has_page.ensures.draw (stage_staged g.D.Disk.state s.lookup.finder.draw (g.W.Draw.drawn s.lookup.finder.draw)
    s.lookup.overlay.params slots.params s.lookup.overlay.disk slots.disk s.lookup.overlay.touched.entries
    slots.touched.entries s.changes.pages.entries s.lookup.memo c.has_page.new.self.memo s.used s.settled s.lookups
    s.is_spent c.self.invariant c.has_page.ensures.follows c.has_page.ensures.call.reads _
    c.self.view_is c.args.label c.args.change c.in_ok-is_there.is_there c.keep.new.self.pages.entries
    c.count_after-used.result c.in_ok-is_there.ensures.call c.in_ok-keep.ensures.ok c.requires.fits
    (omega arith) c.requires.few count)

pub returns-clause-call : goal.returns-clause-call
returns-clause-call g c =
    let s = c.self.inside in
    let slots = c.has_page.new.self.overlay in
    let count = c.count_after-used.ensures
    ∙ ap (λ (b : Bool). min most_pages (used_after s.used c.in_ok-is_there.is_there b)) c.is_some.ensures in
    rw c.has_page.ensures.draw (stage_done g.D.Disk.state s.lookup.finder.draw (g.W.Draw.drawn s.lookup.finder.draw)
    s.lookup.overlay.params slots.params s.lookup.overlay.disk slots.disk s.lookup.overlay.touched.entries
    slots.touched.entries s.changes.pages.entries s.lookup.memo c.has_page.new.self.memo s.used s.settled s.lookups
    s.is_spent c.self.invariant c.has_page.ensures.follows c.has_page.ensures.call.reads _
    c.self.view_is c.args.label c.args.change c.in_ok-is_there.is_there c.keep.new.self.pages.entries
    c.count_after-used.result c.in_ok-is_there.ensures.call c.in_ok-keep.ensures.ok c.requires.fits
    (omega arith) c.requires.few count)

pub returns-in_err-is_there-clause-follows : goal.returns-in_err-is_there-clause-follows
returns-in_err-is_there-clause-follows g c =
    let s = c.self.inside in
    let slots = c.has_page.new.self.overlay in
    rw c.has_page.ensures.draw (view_follows g.D.Disk.state s.lookup.finder.draw s.lookup.overlay.params slots.params
    s.lookup.overlay.disk slots.disk s.changes.pages.entries s.changes.pages.entries s.lookup.memo
    c.has_page.new.self.memo s.lookups s.lookups s.is_spent _ c.self.view_is c.has_page.ensures.follows)

pub returns-in_err-keep-clause-follows : goal.returns-in_err-keep-clause-follows
returns-in_err-keep-clause-follows g c =
    let s = c.self.inside in
    let slots = c.has_page.new.self.overlay in
    rw c.has_page.ensures.draw (view_follows g.D.Disk.state s.lookup.finder.draw s.lookup.overlay.params slots.params
    s.lookup.overlay.disk slots.disk s.changes.pages.entries c.keep.new.self.pages.entries s.lookup.memo
    c.has_page.new.self.memo s.lookups s.lookups s.is_spent _ c.self.view_is c.has_page.ensures.follows)

pub returns-clause-follows : goal.returns-clause-follows
returns-clause-follows g c =
    let s = c.self.inside in
    let slots = c.has_page.new.self.overlay in
    rw c.has_page.ensures.draw (view_follows g.D.Disk.state s.lookup.finder.draw s.lookup.overlay.params slots.params
    s.lookup.overlay.disk slots.disk s.changes.pages.entries c.keep.new.self.pages.entries s.lookup.memo
    c.has_page.new.self.memo s.lookups s.lookups s.is_spent _ c.self.view_is c.has_page.ensures.follows)
