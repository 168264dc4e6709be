use Rattle.std.proofs.Common.{Result, Err, refl, sym, ap, subst, ◌∙◌, arith}
use Rattle.std.proofs.lemmas.Result.{err_from_is_err_and}
use Rattle.gate_journal.specs.ViewState.{KeepsView-refl}
use Rattle.page_store.specs.declared.fault.SettleFault.{SettleFault}
use Rattle.page_store.specs.declared.fault.SettleFault.TheVariants as causes
use Rattle.store_model.specs.Parameters.{Parameters}
use Rattle.table_memory.specs.SlotCaches.{IsSlotCacheOf}
use Rattle.page_store.specs.Preparing.{FindsSlots}
use Rattle.page_store.specs.Settling.{SettlesBy}
use Rattle.page_store.specs.StagedState.{StagedState, staged_state}
use Rattle.page_store.proofs.IndexLemmas.{index_forgotten}
use Rattle.page_store.proofs.SettleLemmas.{read_since, runs, refused, not_found, read_staged, read_memo, durable_mid}
use Rattle.page_store.proofs.SettleLemmas.{empty_mid, failed, failed_staged, done, done_staged, done_memo}
use Rattle.page_store.proofs.staged.Staged.settle_by.Goals as goal

pub returns-then-self-slots : goal.returns-then-self-slots
returns-then-self-slots g c =
    let s = c.self.inside in
    let state = g.D.Disk.state in
    let at = read_since state g.W.Draw.drawn s.lookup.finder.draw s.lookup.overlay.disk s.lookup.overlay.disk
    g.met.D.Disk.sound s.lookup.overlay.sized c.self.invariant c.self.view_is c.requires.runs
    (KeepsView-refl s.lookup.overlay.params (state s.lookup.overlay.disk)
    (g.met.D.Disk.sound s.lookup.overlay.disk)) in
    let fault = causes.Full s.used c.slots-slots.result in
    let full = refused at c.args.kind s.lookup.memo fault refl (λ observable. record {
      need_is = (c.self.invariant.counted observable (runs at)).used_is;
      slots_are = c.slots-slots.ensures.value ∙ sym c.self.invariant.drawn;
      more = c.if-self-slots.true;
    }) in
    record {
      call = subst (λ (x : StagedState g.row.D.Denot g.row.W.Denot).
          SettlesBy {T = Unit {0}} c.args.kind state g.W.Draw.drawn c.args.self.now x (Err fault)) c.self.view_is full;
    }

pub invariant_of-self : goal.invariant_of-self
invariant_of-self g c =
    let s = c.self.inside in
    let mid = c.find_slots-found.new.overlay in
    let at = read_since g.D.Disk.state g.W.Draw.drawn s.lookup.finder.draw s.lookup.overlay.disk mid.disk
    g.met.D.Disk.sound s.lookup.overlay.sized c.self.invariant c.self.view_is c.requires.runs
    c.find_slots-found.ensures.follows in
    rw c.find_slots-found.ensures.draw (read_staged at c.empty.new.map.entries c.empty.ensures)

pub invariant_of-self-inside : goal.invariant_of-self-inside
invariant_of-self-inside g c =
    let s = c.self.inside in
    let mid = c.find_slots-found.new.overlay in
    let at = read_since g.D.Disk.state g.W.Draw.drawn s.lookup.finder.draw s.lookup.overlay.disk mid.disk
    g.met.D.Disk.sound s.lookup.overlay.sized c.self.invariant c.self.view_is c.requires.runs
    c.find_slots-found.ensures.follows in
    record {
      drawn = rw c.find_slots-found.ensures.draw
          (ap (λ (p : Parameters). p.slots) c.find_slots-found.ensures.follows.params ∙ s.lookup.drawn);
      remembered = rw c.find_slots-found.ensures.draw
          (read_memo at c.empty.new.map.entries c.empty.ensures s.lookup.memo s.lookup.remembered);
      indexed = index_forgotten _ _ c.forget.new.index c.forget.ensures;
    }

pub returns-in_err-changed : goal.returns-in_err-changed
returns-in_err-changed g c =
    let s = c.self.inside in
    let mid = c.find_slots-found.new.overlay in
    let at = read_since g.D.Disk.state g.W.Draw.drawn s.lookup.finder.draw s.lookup.overlay.disk mid.disk
    g.met.D.Disk.sound s.lookup.overlay.sized c.self.invariant c.self.view_is c.requires.runs
    c.find_slots-found.ensures.follows in
    let finds =
    subst (FindsSlots (g.W.Draw.drawn s.lookup.finder.draw)
    s.lookup.overlay.params s.lookup.overlay.touched.entries s.changes.pages.entries
    (g.D.Disk.state s.lookup.overlay.disk) (g.D.Disk.state mid.disk))
    c.in_err-changed.was c.find_slots-found.ensures.call in
    let fails = err_from_is_err_and c.from_residual.result c.from_residual.ensures.1 in
    let new = staged_state g.D.Disk.state mid.params s.lookup.finder.draw mid.disk s.changes.pages.entries s.lookup.memo
    s.lookups s.is_spent in
    record {
      call = rw c.find_slots-found.ensures.draw
          (subst (λ (r : Result (Unit {0}) SettleFault).
          SettlesBy c.args.kind g.D.Disk.state g.W.Draw.drawn c.args.self.now new r) (sym (fails.1 ∙ ap Err fails.2))
          (not_found at c.args.kind s.lookup.memo c.in_err-changed.field-0.0
          (omega (arith, c.if-self-slots.false, c.slots-slots.ensures.value)) finds.faults));
    }

pub commit_slots-requires-clause-size : goal.commit_slots-requires-clause-size
commit_slots-requires-clause-size g c = c.find_slots-found.ensures.follows.size ∙ c.self.inside.lookup.overlay.sized

pub commit_slots-requires-clause-changes : goal.commit_slots-requires-clause-changes
commit_slots-requires-clause-changes g c =
    let s = c.self.inside in
    let mid = c.find_slots-found.new.overlay in
    let finds =
    subst (FindsSlots (g.W.Draw.drawn s.lookup.finder.draw)
    s.lookup.overlay.params s.lookup.overlay.touched.entries s.changes.pages.entries
    (g.D.Disk.state s.lookup.overlay.disk) (g.D.Disk.state mid.disk))
    c.in_ok-changed.was c.find_slots-found.ensures.call in
    finds.rise

pub commit_slots-requires-clause-durable : goal.commit_slots-requires-clause-durable
commit_slots-requires-clause-durable g c =
    let s = c.self.inside in
    let mid = c.find_slots-found.new.overlay in
    let at = read_since g.D.Disk.state g.W.Draw.drawn s.lookup.finder.draw s.lookup.overlay.disk mid.disk
    g.met.D.Disk.sound s.lookup.overlay.sized c.self.invariant c.self.view_is c.requires.runs
    c.find_slots-found.ensures.follows in
    durable_mid at

pub commit_slots-requires-clause-empty : goal.commit_slots-requires-clause-empty
commit_slots-requires-clause-empty g c =
    let s = c.self.inside in
    let mid = c.find_slots-found.new.overlay in
    let at = read_since g.D.Disk.state g.W.Draw.drawn s.lookup.finder.draw s.lookup.overlay.disk mid.disk
    g.met.D.Disk.sound s.lookup.overlay.sized c.self.invariant c.self.view_is c.requires.runs
    c.find_slots-found.ensures.follows in
    empty_mid at

pub invariant_of-self-in-Ok : goal.invariant_of-self-in-Ok
invariant_of-self-in-Ok g c =
    let s = c.self.inside in
    let mid = c.find_slots-found.new.overlay in
    let at = read_since g.D.Disk.state g.W.Draw.drawn s.lookup.finder.draw s.lookup.overlay.disk mid.disk
    g.met.D.Disk.sound s.lookup.overlay.sized c.self.invariant c.self.view_is c.requires.runs
    c.find_slots-found.ensures.follows in
    rw c.find_slots-found.ensures.draw
    (done_staged at c.args.kind (omega (arith, c.if-self-slots.false, c.slots-slots.ensures.value))
    (g.met.W.Draw.lawful s.lookup.finder.draw)
    c.in_ok-changed.changed c.in_ok-changed.was c.find_slots-found.ensures.call c.commit_slots.new.disk
    c.in-Ok.field-0 c.in-Ok.ensures.call c.params-overlay.result c.params-overlay.ensures c.empty.new.map.entries
    c.hand_to.new.self.pages.entries c.empty.ensures c.hand_to.ensures.emptied)

pub invariant_of-self-inside-in-Ok : goal.invariant_of-self-inside-in-Ok
invariant_of-self-inside-in-Ok g c =
    let s = c.self.inside in
    let mid = c.find_slots-found.new.overlay in
    let at = read_since g.D.Disk.state g.W.Draw.drawn s.lookup.finder.draw s.lookup.overlay.disk mid.disk
    g.met.D.Disk.sound s.lookup.overlay.sized c.self.invariant c.self.view_is c.requires.runs
    c.find_slots-found.ensures.follows in
    record {
      drawn = rw c.find_slots-found.ensures.draw (ap (λ (p : Parameters). p.slots) c.params-overlay.ensures
          ∙ s.lookup.drawn);
      remembered = rw c.find_slots-found.ensures.draw
          (done_memo at c.args.kind (omega (arith, c.if-self-slots.false, c.slots-slots.ensures.value))
          (g.met.W.Draw.lawful s.lookup.finder.draw)
          c.in_ok-changed.changed c.in_ok-changed.was c.find_slots-found.ensures.call c.commit_slots.new.disk
          c.in-Ok.field-0 c.in-Ok.ensures.call c.params-overlay.result c.params-overlay.ensures c.empty.new.map.entries
          c.empty.ensures s.lookup.memo c.hand_to.new.memo s.lookup.remembered c.hand_to.ensures.renews);
      indexed = index_forgotten _ _ c.forget.new.index c.forget.ensures;
    }

pub returns-in-Ok : goal.returns-in-Ok
returns-in-Ok g c =
    let s = c.self.inside in
    let mid = c.find_slots-found.new.overlay in
    let at = read_since g.D.Disk.state g.W.Draw.drawn s.lookup.finder.draw s.lookup.overlay.disk mid.disk
    g.met.D.Disk.sound s.lookup.overlay.sized c.self.invariant c.self.view_is c.requires.runs
    c.find_slots-found.ensures.follows in
    record {
      call = rw c.find_slots-found.ensures.draw
          (done at c.args.kind (omega (arith, c.if-self-slots.false, c.slots-slots.ensures.value))
          (g.met.W.Draw.lawful s.lookup.finder.draw)
          c.in_ok-changed.changed c.in_ok-changed.was c.find_slots-found.ensures.call c.commit_slots.new.disk
          c.in-Ok.field-0 c.in-Ok.ensures.call c.params-overlay.result c.params-overlay.ensures c.hand_to.new.memo
          c.hand_to.new.self.pages.entries c.hand_to.ensures.emptied);
    }

pub invariant_of-self-in-Err : goal.invariant_of-self-in-Err
invariant_of-self-in-Err g c =
    let s = c.self.inside in
    let mid = c.find_slots-found.new.overlay in
    let at = read_since g.D.Disk.state g.W.Draw.drawn s.lookup.finder.draw s.lookup.overlay.disk mid.disk
    g.met.D.Disk.sound s.lookup.overlay.sized c.self.invariant c.self.view_is c.requires.runs
    c.find_slots-found.ensures.follows in
    rw c.find_slots-found.ensures.draw
    (failed_staged at c.args.kind (omega (arith, c.if-self-slots.false, c.slots-slots.ensures.value))
    (g.met.W.Draw.lawful s.lookup.finder.draw)
    c.in_ok-changed.changed c.in_ok-changed.was c.find_slots-found.ensures.call c.commit_slots.new.disk
    c.empty.new.map.entries)

pub returns-in-Err : goal.returns-in-Err
returns-in-Err g c =
    let s = c.self.inside in
    let mid = c.find_slots-found.new.overlay in
    let at = read_since g.D.Disk.state g.W.Draw.drawn s.lookup.finder.draw s.lookup.overlay.disk mid.disk
    g.met.D.Disk.sound s.lookup.overlay.sized c.self.invariant c.self.view_is c.requires.runs
    c.find_slots-found.ensures.follows in
    record {
      call = rw c.find_slots-found.ensures.draw
          (failed at c.args.kind (omega (arith, c.if-self-slots.false, c.slots-slots.ensures.value))
          (g.met.W.Draw.lawful s.lookup.finder.draw)
          c.in_ok-changed.changed c.in_ok-changed.was c.find_slots-found.ensures.call c.commit_slots.new.disk
          c.clear.new.self c.in-Err.field-0 c.in-Err.ensures.call);
    }

pub commit_slots-requires-clause-cached : goal.commit_slots-requires-clause-cached
commit_slots-requires-clause-cached g c =
    let mid = c.find_slots-found.new.overlay in
    subst (λ (p : Parameters). IsSlotCacheOf p.slots (g.D.Disk.state mid.disk) mid.cache)
    c.find_slots-found.ensures.follows.params mid.cached

pub invariant_of-overlay-in-Ok-clause-cached : goal.invariant_of-overlay-in-Ok-clause-cached
invariant_of-overlay-in-Ok-clause-cached g c =
    let slots = c.commit_slots.new in
    subst (λ (p : Parameters). IsSlotCacheOf p.slots (g.D.Disk.state slots.disk) slots.cache)
    (sym c.params-overlay.ensures) c.commit_slots.ensures.call.cached

pub invariant_of-overlay-in-Err-clause-cached : goal.invariant_of-overlay-in-Err-clause-cached
invariant_of-overlay-in-Err-clause-cached g c =
    let slots = c.commit_slots.new in
    subst (λ (p : Parameters). IsSlotCacheOf p.slots (g.D.Disk.state slots.disk) slots.cache)
    (sym c.find_slots-found.ensures.follows.params) c.commit_slots.ensures.call.cached
