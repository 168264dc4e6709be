use Rattle.std.proofs.Common.{ap, ℕ, ◌+◌, ◌≡◌, ◌*◌, ◌<◌, ◌∙◌, arith, rules}
use Rattle.gate_journal.specs.Passes.{version_writes, slot_writes, OutsideWrite, OutsideSlots, OutsidePass}
use Rattle.gate_journal.specs.Passes.{HasPassedFirst, HasPassed}
use Rattle.gate_journal.proofs.Faults.{IsCall-fault, on_ok_fault, writes_within}
use Rattle.gate_journal.proofs.Calls.{IsCall-then, Makes-short, Makes-then, Makes-as, Makes-sync, durable-sync}
use Rattle.gate_journal.proofs.Calls.{observable_after}
use Rattle.gate_journal.specs.Changes.{Changes}
use Rattle.gate_journal.specs.declared.commit.Kind.TheVariants.{Slots}
use Rattle.gate_journal.proofs.Loops.{pass_step, passed_slots, comes_short, comes_to, comes_to_version}
use Rattle.gate_journal.proofs.commit.write_slots.Goals as goal

pub loop-k-preserved : goal.loop-k-preserved
loop-k-preserved g c = record {
  calls = search rules;
  comes = λ observable.
      let changes : Changes = g.S.SlotChanges.changes c.args.changes.now in
      let observable_mid = observable_after _ _ _ c.loop-k.invariant.calls observable in
      let below : c.loop-k.k < changes.count = omega (arith, c.loop-k-test.true, c.count-k-end.ensures) in
      pass_step c.args.slots changes c.requires.changes c.args.pass _ _ _ c.loop-k.k below
      (g.met.D.Disk.sound c.loop-k.disk observable_mid) (c.loop-k.invariant.comes observable)
      (c.in_ok-write_change.ensures.reaches observable_mid) (c.in_ok-write_change.ensures.makes observable_mid);
}

pub returns-in_err-write_change-clause-reaches : goal.returns-in_err-write_change-clause-reaches
returns-in_err-write_change-clause-reaches g c observable =
    let changes : Changes = g.S.SlotChanges.changes c.args.changes.now in
    let observable_mid = observable_after _ _ _ c.loop-k.invariant.calls observable in
    let below : c.loop-k.k < changes.count = omega (arith, c.loop-k-test.true, c.count-k-end.ensures) in
    let old = g.D.Disk.state c.args.disk.now in
    comes_short (OutsideSlots c.args.pass c.args.slots changes)
    (OutsideWrite c.args.pass c.args.slots (changes.slot c.loop-k.k))
    (OutsidePass c.args.kind c.args.pass c.args.slots changes)
    (HasPassedFirst c.args.pass c.args.slots changes c.loop-k.k old.bytes)
    (HasPassed c.args.kind c.args.pass c.args.slots changes old.bytes)
    (slot_writes c.args.pass * c.loop-k.k) old _ _
    c.from_residual.result c.from_residual.ensures.0 (g.met.D.Disk.sound c.loop-k.disk observable_mid)
    (λ place outside. outside.0)
    (λ place outside. outside c.loop-k.k below)
    (c.loop-k.invariant.comes observable) (c.write_change.ensures.reaches observable_mid).keeps

pub returns-in-Slots-clause-reaches : goal.returns-in-Slots-clause-reaches
returns-in-Slots-clause-reaches g c observable =
    let changes : Changes = g.S.SlotChanges.changes c.args.changes.now in
    let old = g.D.Disk.state c.args.disk.now in
    let observable_mid = observable_after _ _ _ c.loop-k.invariant.calls observable in
    let end : c.loop-k.k ≡ changes.count =
    omega (arith, c.count-k-end.ensures, c.loop-k.auto.k-end, c.loop-k-test.false) in
    let comes = rw end at (c.loop-k.invariant.comes observable) in
    rw c.in-Slots.is
    (comes_to (OutsideSlots c.args.pass c.args.slots changes) (OutsidePass Slots c.args.pass c.args.slots changes)
    (HasPassedFirst c.args.pass c.args.slots changes changes.count old.bytes)
    (HasPassed Slots c.args.pass c.args.slots changes old.bytes)
    (slot_writes c.args.pass * changes.count) _ _ _ c.sync.result observable_mid
    (g.met.D.Disk.sound c.loop-k.disk observable_mid) (λ place outside. outside.0)
    (passed_slots c.args.slots changes c.requires.changes c.args.pass old.bytes) comes c.sync.ensures)

pub returns-in-Upgrade-clause-reaches : goal.returns-in-Upgrade-clause-reaches
returns-in-Upgrade-clause-reaches g c observable =
    let changes : Changes = g.S.SlotChanges.changes c.args.changes.now in
    let observable_mid = observable_after _ _ _ c.loop-k.invariant.calls observable in
    let sound = g.met.D.Disk.sound c.loop-k.disk observable_mid in
    let end : c.loop-k.k ≡ changes.count =
    omega (arith, c.count-k-end.ensures, c.loop-k.auto.k-end, c.loop-k-test.false) in
    let comes = rw end at (c.loop-k.invariant.comes observable) in
    rw c.in-Upgrade.is
    (comes_to_version c.args.slots changes c.requires.changes c.args.pass (slot_writes c.args.pass * changes.count) _ _
    _ c.write_version.result sound (sound.size ∙ c.loop-k.invariant.calls.size ∙ c.requires.size) comes
    (c.write_version.ensures.reaches observable_mid))

pub returns-in_err-write_change-clause-call : goal.returns-in_err-write_change-clause-call
returns-in_err-write_change-clause-call g c =
    IsCall-fault _ _ _ c.from_residual.result c.from_residual.ensures.0
    (IsCall-then _ _ _ _ _ c.loop-k.invariant.calls c.in_err-write_change.ensures.call)

pub returns-in_err-write_change-clause-durable : goal.returns-in_err-write_change-clause-durable
returns-in_err-write_change-clause-durable g c observable =
    on_ok_fault c.from_residual.result _ c.from_residual.ensures.0

pub returns-in_err-write_change-clause-makes : goal.returns-in_err-write_change-clause-makes
returns-in_err-write_change-clause-makes g c observable =
    let old = g.D.Disk.state c.args.disk.now in
    let changes : Changes = g.S.SlotChanges.changes c.args.changes.now in
    let each = slot_writes c.args.pass in
    let more = version_writes c.args.kind in
    let below : c.loop-k.k < changes.count = omega (arith, c.loop-k-test.true, c.count-k-end.ensures) in
    let observable_mid = observable_after _ _ _ c.loop-k.invariant.calls observable in
    Makes-short old _ c.write_change.result c.from_residual.result (each * c.loop-k.k + each) 0
    (each * changes.count + more) 1
    c.from_residual.ensures.0 (writes_within c.args.pass c.loop-k.k changes.count more below) (omega arith)
    (Makes-then old _ _ c.write_change.result (each * c.loop-k.k) 0 each 0 (c.loop-k.invariant.comes observable).made
    (c.write_change.ensures.makes observable_mid))

pub returns-in_err-write_change-clause-wrote : goal.returns-in_err-write_change-clause-wrote
returns-in_err-write_change-clause-wrote g c observable some =
    let observable_mid = observable_after _ _ _ c.loop-k.invariant.calls observable in
    omega (arith, c.loop-k.invariant.calls.writes, c.write_change.ensures.wrote observable_mid)

pub returns-in-Slots-clause-call : goal.returns-in-Slots-clause-call
returns-in-Slots-clause-call g c = IsCall-then _ _ _ _ _ c.loop-k.invariant.calls c.sync.ensures.call

pub returns-in-Slots-clause-durable : goal.returns-in-Slots-clause-durable
returns-in-Slots-clause-durable g c observable =
    durable-sync _ _ _ (observable_after _ _ _ c.loop-k.invariant.calls observable) c.sync.ensures

pub returns-in-Upgrade-clause-call : goal.returns-in-Upgrade-clause-call
returns-in-Upgrade-clause-call g c = IsCall-then _ _ _ _ _ c.loop-k.invariant.calls c.write_version.ensures.call

pub returns-in-Upgrade-clause-durable : goal.returns-in-Upgrade-clause-durable
returns-in-Upgrade-clause-durable g c observable =
    c.write_version.ensures.durable (observable_after _ _ _ c.loop-k.invariant.calls observable)

pub returns-in-Upgrade-clause-wrote : goal.returns-in-Upgrade-clause-wrote
returns-in-Upgrade-clause-wrote g c observable some =
    let observable_mid = observable_after _ _ _ c.loop-k.invariant.calls observable in
    omega (arith, c.loop-k.invariant.calls.writes, c.write_version.ensures.wrote observable_mid)

pub returns-in-Slots-clause-makes : goal.returns-in-Slots-clause-makes
returns-in-Slots-clause-makes g c observable =
    let old = g.D.Disk.state c.args.disk.now in
    let changes : Changes = g.S.SlotChanges.changes c.args.changes.now in
    let each = slot_writes c.args.pass in
    let end : c.loop-k.k ≡ changes.count =
    omega (arith, c.count-k-end.ensures, c.loop-k.auto.k-end, c.loop-k-test.false) in
    let observable_mid = observable_after _ _ _ c.loop-k.invariant.calls observable in
    rw c.in-Slots.is
    (Makes-as old _ c.sync.result (each * c.loop-k.k + 0) 1 (each * changes.count + 0) 1
    (ap (λ (k : ℕ). each * k + 0) end) (omega arith)
    (Makes-then old _ _ c.sync.result (each * c.loop-k.k) 0 0 1 (c.loop-k.invariant.comes observable).made
    (Makes-sync _ _ c.sync.result observable_mid c.sync.ensures)))

pub returns-in-Upgrade-clause-makes : goal.returns-in-Upgrade-clause-makes
returns-in-Upgrade-clause-makes g c observable =
    let old = g.D.Disk.state c.args.disk.now in
    let changes : Changes = g.S.SlotChanges.changes c.args.changes.now in
    let each = slot_writes c.args.pass in
    let end : c.loop-k.k ≡ changes.count =
    omega (arith, c.count-k-end.ensures, c.loop-k.auto.k-end, c.loop-k-test.false) in
    let observable_mid = observable_after _ _ _ c.loop-k.invariant.calls observable in
    rw c.in-Upgrade.is
    (Makes-as old _ c.write_version.result (each * c.loop-k.k + 1) 1 (each * changes.count + 1) 1
    (ap (λ (k : ℕ). each * k + 1) end) (omega arith)
    (Makes-then old _ _ c.write_version.result (each * c.loop-k.k) 0 1 1 (c.loop-k.invariant.comes observable).made
    (c.write_version.ensures.makes observable_mid)))
