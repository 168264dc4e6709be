use Rattle.std.proofs.Common.{ℕ, List, Ok, Err, sym, subst}
use Rattle.std.proofs.lemmas.Result.{err_from_is_err_and}
use Rattle.gate_journal.specs.ViewState.{KeepsView-refl}
use Rattle.ordered_table.specs.Tables.{TellsOrder}
use Rattle.table_memory.specs.SlotCaches.{IsSlotCacheOf, TellsOfSlot}
use Rattle.page_store.specs.declared.label_order.LabelOrder.{LabelOrder}
use Rattle.page_store.proofs.OverlayLemmas.{orders_touched, orders_below, orders_failed, view_read}
use Rattle.page_store.proofs.overlay.OverlayOrderSlots.order.Goals as goal

pub returns-in-Some-clause-call : goal.returns-in-Some-clause-call
returns-in-Some-clause-call g c =
    let o = c.args.self.now in
    orders_touched o.params.slots o.touched.entries (g.D.Disk.state o.disk)
    c.args.at c.in-Some.slot.now c.args.wanted.now c.order_of.result c.requires (sym c.in-Some.ensures.value)
    (subst (λ (bytes : List ℕ). TellsOrder bytes c.args.wanted.now c.order_of.result)
    c.get-in-Some.ensures c.order_of.ensures)

pub returns-clause-call : goal.returns-clause-call
returns-clause-call g c =
    let o = c.args.self.now in
    let old = g.D.Disk.state o.disk in
    let new = g.D.Disk.state c.tell_slot.new.disk in
    let told =
    subst (λ (n : ℕ). TellsOfSlot n c.args.at old new
    c.tell_slot.new.cache (λ slot (told : LabelOrder). TellsOrder slot c.args.wanted.now told.order)
    (Ok c.in_ok-order.field-0)) c.slots-slots.ensures.value c.in_ok-order.ensures.call in
    orders_below o.params.slots o.touched.entries old new
    c.tell_slot.new.cache c.args.at c.args.wanted.now c.in_ok-order.field-0 c.requires
    (sym c.in_default.ensures.value) told

pub tell_slot-requires-clause-cached : goal.tell_slot-requires-clause-cached
tell_slot-requires-clause-cached g c =
    subst (λ (n : ℕ). IsSlotCacheOf n (g.D.Disk.state c.args.self.now.disk) c.args.self.now.cache)
    (sym c.slots-slots.ensures.value) c.args.self.now.cached

pub invariant_of-self-2-clause-cached : goal.invariant_of-self-2-clause-cached
invariant_of-self-2-clause-cached g c =
    subst (λ (n : ℕ). IsSlotCacheOf n (g.D.Disk.state c.tell_slot.new.disk) c.tell_slot.new.cache)
    c.slots-slots.ensures.value c.tell_slot.ensures.call.cached

pub returns-in_err-order-clause-call : goal.returns-in_err-order-clause-call
returns-in_err-order-clause-call g c =
    let o = c.args.self.now in
    let old = g.D.Disk.state o.disk in
    let new = g.D.Disk.state c.tell_slot.new.disk in
    let fault = c.in_err-order.field-0.0 in
    let told =
    subst (λ (n : ℕ). TellsOfSlot n c.args.at old new
    c.tell_slot.new.cache (λ slot (told : LabelOrder). TellsOrder slot c.args.wanted.now told.order) (Err fault))
    c.slots-slots.ensures.value c.in_err-order.ensures.call in
    let p = err_from_is_err_and c.from_residual.result c.from_residual.ensures.1 in
    rw (p.1, p.2) (orders_failed o.params.slots o.touched.entries old new
    c.tell_slot.new.cache c.args.at c.args.wanted.now
    (λ slot (told : LabelOrder). TellsOrder slot c.args.wanted.now told.order) fault told)

pub returns-in_err-order-clause-follows : goal.returns-in_err-order-clause-follows
returns-in_err-order-clause-follows g c =
    view_read c.args.self.now.params (g.D.Disk.state c.args.self.now.disk)
    (g.D.Disk.state c.tell_slot.new.disk) c.tell_slot.result c.tell_slot.ensures.call.calls
    c.tell_slot.ensures.call.reads

pub returns-clause-follows : goal.returns-clause-follows
returns-clause-follows g c = view_read c.args.self.now.params (g.D.Disk.state c.args.self.now.disk)
    (g.D.Disk.state c.tell_slot.new.disk) c.tell_slot.result c.tell_slot.ensures.call.calls
    c.tell_slot.ensures.call.reads

pub returns-in-Some-clause-follows : goal.returns-in-Some-clause-follows
returns-in-Some-clause-follows g c = KeepsView-refl c.args.self.now.params (g.D.Disk.state c.args.self.now.disk)
    (g.met.D.Disk.sound c.args.self.now.disk)
