use Rattle.std.proofs.Common.{◌≡◌, ℕ, ◌+◌, List, Option, Some, Ok, Err, map, refl, sym, ap, subst, ◌∙◌, arith}
use Rattle.std.proofs.lemmas.Result.{err_from_is_err_and}
use Rattle.gate_journal.specs.ViewState.{KeepsView-refl}
use Rattle.store_model.specs.Lists.{numbers_below}
use Rattle.table_memory.specs.SlotCaches.{IsSlotCacheOf, ReadsSlot}
use Rattle.table_memory.specs.OverlayState.{bytes_or, slot_over}
use Rattle.gate_journal.specs.Phases.{table_slot}
use Rattle.page_store.proofs.OverlayLemmas.{get_number, get_failed, view_read}
use Rattle.page_store.proofs.overlay.OverlayReadSlots.get.Goals as goal

pub returns-in-Some-clause-call : goal.returns-in-Some-clause-call
returns-in-Some-clause-call g c =
    let slots = c.args.self.now.params.slots in
    let touched = c.args.self.now.touched.entries in
    let image = (g.D.Disk.state c.args.self.now.disk).bytes in
    let here : 0 + c.args.at ≡ c.args.at = omega arith in
    record {
      calls = record { count = refl; observable = refl; takes_none = refl; faults = refl; cause = tt };
      observed = λ observable. record {
        got =
            get_number (slot_over slots touched image) 0 slots c.args.at c.requires
            ∙ ap (λ (n : ℕ). Some (slot_over slots touched image n)) here
            ∙ ap (λ (o : Option (List ℕ)). Some (bytes_or o (table_slot slots image c.args.at)))
            (sym c.in-Some.ensures.value) ∙ ap Some (sym c.get-in-Some.ensures)
            ∙ ap Some (sym c.copy_from_slice.ensures.after);
        slots = refl;
      };
    }

pub returns-clause-call : goal.returns-clause-call
returns-clause-call g c =
    let slots = c.args.self.now.params.slots in
    let touched = c.args.self.now.touched.entries in
    let old = g.D.Disk.state c.args.self.now.disk in
    let new = g.D.Disk.state c.read_slot.new.disk in
    let buffer = c.read_slot.new.into in
    let here : 0 + c.args.at ≡ c.args.at = omega arith in
    let read = subst (λ (n : ℕ). ReadsSlot n c.args.at old new c.read_slot.new.cache buffer {T = Unit {0}} (Ok tt))
    c.slots-slots.ensures.value c.in_ok-read_slot.ensures.call in
    record {
      calls = record {
        count = refl;
        observable = read.calls.observable;
        takes_none = refl;
        faults = read.calls.faults;
        cause = tt;
      };
      observed = λ observable. record {
        got =
            get_number (slot_over slots touched old.bytes) 0 slots c.args.at c.requires
            ∙ ap (λ (n : ℕ). Some (slot_over slots touched old.bytes n)) here
            ∙ ap (λ (o : Option (List ℕ)). Some (bytes_or o (table_slot slots old.bytes c.args.at)))
            (sym c.in_default.ensures.value) ∙ ap Some (sym (read.slot observable));
        slots = ap (λ (l : List ℕ). map (slot_over slots touched l) (numbers_below slots))
            (read.reads observable).bytes;
      };
    }

pub read_slot-requires-clause-cached : goal.read_slot-requires-clause-cached
read_slot-requires-clause-cached g c =
    subst (λ (n : ℕ). IsSlotCacheOf n (g.D.Disk.state c.args.self.now.disk) c.args.self.now.cache)
    (sym c.slots-slots.ensures.value) c.args.self.now.cached

pub invariant_of-self-clause-cached : goal.invariant_of-self-clause-cached
invariant_of-self-clause-cached g c =
    subst (λ (n : ℕ). IsSlotCacheOf n (g.D.Disk.state c.read_slot.new.disk) c.read_slot.new.cache)
    c.slots-slots.ensures.value c.read_slot.ensures.call.cached

pub returns-in_err-read_slot-clause-call : goal.returns-in_err-read_slot-clause-call
returns-in_err-read_slot-clause-call g c =
    let o = c.args.self.now in
    let old = g.D.Disk.state o.disk in
    let new = g.D.Disk.state c.read_slot.new.disk in
    let fault = c.in_err-read_slot.field-0.0 in
    let read = subst (λ (n : ℕ). ReadsSlot n c.args.at old new c.read_slot.new.cache c.read_slot.new.into {T = Unit {0}}
    (Err fault)) c.slots-slots.ensures.value c.in_err-read_slot.ensures.call in
    let p = err_from_is_err_and c.from_residual.result c.from_residual.ensures.1 in
    rw (p.1, p.2) (get_failed o.params.slots o.touched.entries old new
    c.read_slot.new.cache c.args.at c.read_slot.new.into fault read)

pub returns-in_err-read_slot-clause-follows : goal.returns-in_err-read_slot-clause-follows
returns-in_err-read_slot-clause-follows g c =
    view_read c.args.self.now.params (g.D.Disk.state c.args.self.now.disk)
    (g.D.Disk.state c.read_slot.new.disk) c.read_slot.result c.read_slot.ensures.call.calls
    c.read_slot.ensures.call.reads

pub returns-clause-follows : goal.returns-clause-follows
returns-clause-follows g c = view_read c.args.self.now.params (g.D.Disk.state c.args.self.now.disk)
    (g.D.Disk.state c.read_slot.new.disk) c.read_slot.result c.read_slot.ensures.call.calls
    c.read_slot.ensures.call.reads

pub returns-in-Some-clause-follows : goal.returns-in-Some-clause-follows
returns-in-Some-clause-follows g c = KeepsView-refl c.args.self.now.params (g.D.Disk.state c.args.self.now.disk)
    (g.met.D.Disk.sound c.args.self.now.disk)
