use Rattle.std.proofs.Common.{◌≡◌, ◌<◌, ℕ, List, Some, sym, ap, subst, ◌∙◌}
use Rattle.store_model.specs.Parameters.{image_len}
use Rattle.table_memory.specs.SlotCaches.{IsSlotCacheOf}
use Rattle.table_memory.specs.OverlayState.{touched_at}
use Rattle.table_memory.specs.Comparing.{FindsChanges}
use Rattle.page_store.proofs.FindLemmas.{slots_found}
use Rattle.page_store.proofs.prepare.find_slots.Goals as goal

pub returns-clause-call : goal.returns-clause-call
returns-clause-call g c =
    let state = g.D.Disk.state in
    let before = c.args.overlay.now in
    let after = c.lay_changes.new.slots in
    slots_found (g.W.Draw.drawn c.args.finder.now.draw)
    before.params after.params before.touched.entries after.touched.entries c.args.changes.now.pages.entries
    (state before.disk) (state after.disk) (state c.find_changes.new.disk) c.in_ok-lay_changes.field-0 c.requires
    c.in_ok-lay_changes.ensures.call c.in_ok-lay_changes.ensures.follows c.find_changes.new.cache c.find_changes.result
    (subst (λ (n : ℕ). FindsChanges n after.touched.entries (state after.disk)
    (state c.find_changes.new.disk) c.find_changes.new.cache c.find_changes.result) c.slots.ensures.value
    c.find_changes.ensures.call)

pub find_changes-requires-clause-cached : goal.find_changes-requires-clause-cached
find_changes-requires-clause-cached g c =
    let after = c.lay_changes.new.slots in
    subst (λ (n : ℕ). IsSlotCacheOf n (g.D.Disk.state after.disk) after.cache) (sym c.slots.ensures.value) after.cached

pub invariant_of-overlay-clause-cached : goal.invariant_of-overlay-clause-cached
invariant_of-overlay-clause-cached g c =
    subst (λ (n : ℕ). IsSlotCacheOf n (g.D.Disk.state c.find_changes.new.disk) c.find_changes.new.cache)
    c.slots.ensures.value c.find_changes.ensures.call.cached

pub invariant_of-overlay-clause-within : goal.invariant_of-overlay-clause-within
invariant_of-overlay-clause-within g c i slot is =
    c.lay_changes.new.slots.within i slot (c.find_changes.ensures.left i slot is)

pub invariant_of-overlay-clause-filled : goal.invariant_of-overlay-clause-filled
invariant_of-overlay-clause-filled g c i slot is =
    c.lay_changes.new.slots.filled i slot (c.find_changes.ensures.left i slot is)

pub find_changes-requires-clause-size : goal.find_changes-requires-clause-size
find_changes-requires-clause-size g c = c.lay_changes.new.slots.sized ∙ ap image_len (sym c.slots.ensures.value)

pub find_changes-requires-clause-within : goal.find_changes-requires-clause-within
find_changes-requires-clause-within g c =
    let after = c.lay_changes.new.slots in
    subst (λ (n : ℕ). (i : ℕ) (slot : List ℕ) → touched_at after.touched.entries i ≡ Some slot → i < n)
    (sym c.slots.ensures.value) after.within

pub find_changes-requires-clause-filled : goal.find_changes-requires-clause-filled
find_changes-requires-clause-filled g c = c.lay_changes.new.slots.filled
