use Rattle.std.proofs.Common.{ℕ, List, Ok, Err, sym, ap, subst, ◌∙◌}
use Rattle.std.proofs.lemmas.Result.{err_from_is_err_and}
use Rattle.table_memory.proofs.MapLemmas.{none_left}
use Rattle.table_memory.proofs.ScanLemmas.{IsScanning, IsSameAs, scanning_begins, next_below, scanning_passes}
use Rattle.table_memory.proofs.ScanLemmas.{scanning_finds, left_over, left_after, found_all, none_reserved, none_found}
use Rattle.table_memory.specs.SlotCaches.{TellsOfSlot}
use Rattle.table_memory.specs.OverlayState.{touched_at}
use Rattle.table_memory.specs.Comparing.{FindsChanges}
use Rattle.table_memory.proofs.differing.find_changes.Goals as goal

pub loop-at-init : goal.loop-at-init
loop-at-init g c =
    let written = c.args.written.now.entries in
    let disk = g.D.Disk.state c.args.disk.now in
    let begun = scanning_begins c.args.slots written disk (g.met.D.Disk.sound c.args.disk.now) c.len.ensures.ordered in
    record {
      scanning = subst (λ (items : List (ℕ × List ℕ)). IsScanning c.args.slots written disk disk items written)
          (sym c.in_ok-changed.ensures.items) begun;
      cached = c.requires.cached;
    }

pub tell_slot-requires-clause-below : goal.tell_slot-requires-clause-below
tell_slot-requires-clause-below g c =
    let old = g.D.Disk.state c.args.disk.now in
    let now = g.D.Disk.state c.loop-at.disk in
    next_below c.args.slots c.args.written.now.entries c.requires.within c.requires.filled old now now
    c.loop-at.changed.items c.loop-at.written.entries c.pop_first.new.self.entries _ _
    c.in-Some.ensures.removal c.loop-at.invariant.scanning

pub loop-at-preserved : goal.loop-at-preserved
loop-at-preserved g c =
    let old = g.D.Disk.state c.args.disk.now in
    let now = g.D.Disk.state c.loop-at.disk in
    let new = g.D.Disk.state c.tell_slot.new.disk in
    let told =
    subst (λ (bytes : List ℕ). TellsOfSlot c.args.slots c.in-Some.at now new c.tell_slot.new.cache (IsSameAs bytes)
    (Ok c.in_ok-is_same.is_same)) c.get.ensures c.in_ok-is_same.ensures.call in
    record {
      scanning = scanning_passes c.args.slots c.args.written.now.entries c.requires.within c.requires.filled old now new
          c.loop-at.changed.items c.loop-at.written.entries c.pop_first.new.self.entries _ _
          c.in-Some.ensures.removal c.loop-at.invariant.scanning c.tell_slot.new.cache c.in_ok-is_same.is_same told
          c.if-not-is_same.false;
      cached = c.in_ok-is_same.ensures.call.cached;
    }

pub loop-at-preserved-in-Continue-branch-3 : goal.loop-at-preserved-in-Continue-branch-3
loop-at-preserved-in-Continue-branch-3 g c =
    let old = g.D.Disk.state c.args.disk.now in
    let now = g.D.Disk.state c.loop-at.disk in
    let new = g.D.Disk.state c.tell_slot.new.disk in
    let told =
    subst (λ (bytes : List ℕ). TellsOfSlot c.args.slots c.in-Some.at now new c.tell_slot.new.cache (IsSameAs bytes)
    (Ok c.in_ok-is_same.is_same)) c.get.ensures c.in_ok-is_same.ensures.call in
    let found = scanning_finds c.args.slots c.args.written.now.entries c.requires.within c.requires.filled old now new
    c.loop-at.changed.items c.loop-at.written.entries c.pop_first.new.self.entries _ _
    c.in-Some.ensures.removal c.loop-at.invariant.scanning c.tell_slot.new.cache c.in_ok-is_same.is_same told
    c.if-not-is_same.true in
    record {
      scanning = subst (λ (items : List (ℕ × List ℕ)).
          IsScanning c.args.slots c.args.written.now.entries old new items c.pop_first.new.self.entries)
          (sym c.in_ok-push.ensures.items) found;
      cached = c.in_ok-is_same.ensures.call.cached;
    }

pub returns-clause-call : goal.returns-clause-call
returns-clause-call g c =
    let old = g.D.Disk.state c.args.disk.now in
    let now = g.D.Disk.state c.loop-at.disk in
    found_all c.args.slots c.args.written.now.entries old now c.loop-at.cache _ c.loop-at.invariant.cached
    (subst (λ (es : List (ℕ × List ℕ)). IsScanning c.args.slots c.args.written.now.entries old now
    c.loop-at.changed.items es) (none_left c.loop-at.written.entries c.in_default.ensures.variant.1)
    c.loop-at.invariant.scanning)

pub returns-in_err-changed-clause-call : goal.returns-in_err-changed-clause-call
returns-in_err-changed-clause-call g c =
    let old = g.D.Disk.state c.args.disk.now in
    let none = none_reserved c.args.slots c.args.written.now.entries old
    c.args.cache.now (g.met.D.Disk.sound c.args.disk.now) c.requires.cached in
    let fails = err_from_is_err_and c.from_residual.result c.from_residual.ensures.1 in
    subst (FindsChanges c.args.slots c.args.written.now.entries old old c.args.cache.now)
    (sym (fails.1 ∙ ap Err fails.2)) none

pub returns-in_err-push-clause-call : goal.returns-in_err-push-clause-call
returns-in_err-push-clause-call g c =
    let old = g.D.Disk.state c.args.disk.now in
    let now = g.D.Disk.state c.loop-at.disk in
    let new = g.D.Disk.state c.tell_slot.new.disk in
    let none = none_found c.args.slots c.args.written.now.entries old now new _ _ _
    c.get.result.now c.tell_slot.new.cache c.in_ok-is_same.is_same c.loop-at.invariant.scanning
    c.in_ok-is_same.ensures.call in
    let fails = err_from_is_err_and c.from_residual-in_err-push.result c.from_residual-in_err-push.ensures.1 in
    subst (FindsChanges c.args.slots c.args.written.now.entries old new c.tell_slot.new.cache)
    (sym (fails.1 ∙ ap Err fails.2)) none

pub returns-clause-left : goal.returns-clause-left
returns-clause-left g c i slot is =
    left_over c.args.slots c.args.written.now.entries _ _ _ c.loop-at.written.entries c.loop-at.invariant.scanning i
    slot (ap (λ (es : List (ℕ × List ℕ)). touched_at es i) (sym c.in_default.ensures.unchanged) ∙ is)

pub returns-in_err-is_same-clause-left : goal.returns-in_err-is_same-clause-left
returns-in_err-is_same-clause-left g c =
    let old = g.D.Disk.state c.args.disk.now in
    let now = g.D.Disk.state c.loop-at.disk in
    left_after c.args.slots c.args.written.now.entries c.requires.within c.requires.filled old now now
    c.loop-at.changed.items c.loop-at.written.entries c.pop_first.new.self.entries _ _
    c.in-Some.ensures.removal c.loop-at.invariant.scanning

pub returns-in_err-push-clause-left : goal.returns-in_err-push-clause-left
returns-in_err-push-clause-left g c =
    let old = g.D.Disk.state c.args.disk.now in
    let now = g.D.Disk.state c.loop-at.disk in
    left_after c.args.slots c.args.written.now.entries c.requires.within c.requires.filled old now now
    c.loop-at.changed.items c.loop-at.written.entries c.pop_first.new.self.entries _ _
    c.in-Some.ensures.removal c.loop-at.invariant.scanning
