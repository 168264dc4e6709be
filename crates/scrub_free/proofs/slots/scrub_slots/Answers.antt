use Rattle.std.proofs.Common.{◌≡◌, ◌+◌, ◌≤◌, refl, sym, ap, arith, rules}
use Rattle.gate_journal.specs.Phases.{table_slot}
use Rattle.gate_journal.proofs.Places.{Keeps-refl}
use Rattle.gate_journal.proofs.Calls.{observable_after, Reaches-fault, Made-none, Made-as, Makes-then, Makes-as}
use Rattle.gate_journal.proofs.Calls.{Makes-short, Makes-sync}
use Rattle.gate_journal.proofs.Loops.{comes_to}
use Rattle.scrub_free.specs.FreeSlots.{OutsideFree, AreScrubbed, block_writes, scrub_writes}
use Rattle.scrub_free.proofs.Blocks.{clean_block}
use Rattle.scrub_free.proofs.Counting.{scrub_writes-clean, scrub_writes-part}
use Rattle.scrub_free.proofs.Stages.{writes_so_far, slot_keeps, slot_step}
use Rattle.scrub_free.proofs.slots.scrub_slots.Goals as goal

pub loop-slot-init : goal.loop-slot-init
loop-slot-init g c = record {
  calls = search rules;
  comes = λ observable.
      let slots = c.args.slots in
      let old = g.D.Disk.state c.args.disk.now in
      record {
        keeps = Keeps-refl (OutsideFree slots old.bytes) old (g.met.D.Disk.sound c.args.disk.now observable);
        done = record {
          scrubbed = λ i low. sym (clean_block (table_slot slots old.bytes i) (c.requires.clean observable i low));
          others = λ i low below. refl;
        };
        made = Made-as old old 0 0 (scrub_writes (table_slot slots old.bytes) c.args.clean) 0
            (sym (scrub_writes-clean (table_slot slots old.bytes) c.args.clean (c.requires.clean observable))) refl
            (Made-none old);
      };
}

pub loop-slot-preserved : goal.loop-slot-preserved
loop-slot-preserved g c = record {
  calls = search rules;
  comes = λ observable.
      let observable_mid = observable_after _ _ _ c.loop-slot.invariant.calls observable in
      slot_step c.args.slots c.loop-slot.slot (g.D.Disk.state c.args.disk.now) (g.D.Disk.state c.loop-slot.disk)
      (g.D.Disk.state c.scrub_slot.new.disk) c.loop-slot-test.true
      (g.met.D.Disk.sound c.loop-slot.disk observable_mid) (c.loop-slot.invariant.comes observable)
      (c.in_ok-scrub_slot.ensures.reaches observable_mid) (c.in_ok-scrub_slot.ensures.makes observable_mid);
}

pub returns-in_err-scrub_slot-clause-reaches : goal.returns-in_err-scrub_slot-clause-reaches
returns-in_err-scrub_slot-clause-reaches g c observable =
    let slots = c.args.slots in
    let old = g.D.Disk.state c.args.disk.now in
    let mid = g.D.Disk.state c.loop-slot.disk in
    let new = g.D.Disk.state c.scrub_slot.new.disk in
    let observable_mid = observable_after _ _ _ c.loop-slot.invariant.calls observable in
    Reaches-fault (OutsideFree slots old.bytes) (AreScrubbed slots slots old.bytes) old new
    c.from_residual.result c.from_residual.ensures.0
    (slot_keeps slots c.loop-slot.slot old mid new
    c.loop-slot-test.true (g.met.D.Disk.sound c.loop-slot.disk observable_mid)
    (c.loop-slot.invariant.comes observable) (c.scrub_slot.ensures.reaches observable_mid).keeps)

pub returns-in_err-scrub_slot-clause-makes : goal.returns-in_err-scrub_slot-clause-makes
returns-in_err-scrub_slot-clause-makes g c observable =
    let slots = c.args.slots in
    let slot = c.loop-slot.slot in
    let old = g.D.Disk.state c.args.disk.now in
    let mid = g.D.Disk.state c.loop-slot.disk in
    let new = g.D.Disk.state c.scrub_slot.new.disk in
    let observable_mid = observable_after _ _ _ c.loop-slot.invariant.calls observable in
    let comes = c.loop-slot.invariant.comes observable in
    let so_far = scrub_writes (table_slot slots old.bytes) slot in
    let more = block_writes (table_slot slots mid.bytes slot) in
    let count = writes_so_far slots slot old mid new
    c.loop-slot-test.true (g.met.D.Disk.sound c.loop-slot.disk observable_mid) comes in
    let next : slot + 1 ≤ slots = omega (arith, c.loop-slot-test.true) in
    Makes-short old new c.scrub_slot.result _ (so_far + more) (0 + 0)
    (scrub_writes (table_slot slots old.bytes) slots) 1
    c.from_residual.ensures.0
    (omega (arith, count, scrub_writes-part (table_slot slots old.bytes) (slot + 1) slots next)) (omega arith)
    (Makes-then old mid new c.scrub_slot.result so_far 0 more 0 comes.made (c.scrub_slot.ensures.makes observable_mid))

pub returns-clause-reaches : goal.returns-clause-reaches
returns-clause-reaches g c observable =
    let slots = c.args.slots in
    let old = g.D.Disk.state c.args.disk.now in
    let observable_mid = observable_after _ _ _ c.loop-slot.invariant.calls observable in
    let end : c.loop-slot.slot ≡ slots =
    omega (arith, c.loop-slot-test.false, c.loop-slot.auto.slot-end, c.requires.within) in
    let comes = rw end at (c.loop-slot.invariant.comes observable) in
    comes_to (OutsideFree slots old.bytes) (OutsideFree slots old.bytes) (AreScrubbed slots slots old.bytes)
    (AreScrubbed slots slots old.bytes) (scrub_writes (table_slot slots old.bytes) slots) old _ _
    c.sync.result observable_mid
    (g.met.D.Disk.sound c.loop-slot.disk observable_mid) (λ place spared. spared)
    (λ image scrubbed. scrubbed) comes c.sync.ensures

pub returns-clause-makes : goal.returns-clause-makes
returns-clause-makes g c observable =
    let slots = c.args.slots in
    let old = g.D.Disk.state c.args.disk.now in
    let mid = g.D.Disk.state c.loop-slot.disk in
    let new = g.D.Disk.state c.sync.new.self in
    let observable_mid = observable_after _ _ _ c.loop-slot.invariant.calls observable in
    let end : c.loop-slot.slot ≡ slots =
    omega (arith, c.loop-slot-test.false, c.loop-slot.auto.slot-end, c.requires.within) in
    let so_far = scrub_writes (table_slot slots old.bytes) c.loop-slot.slot in
    Makes-as old new c.sync.result (so_far + 0) (0 + 1) (scrub_writes (table_slot slots old.bytes) slots) 1
    (omega (arith, ap (scrub_writes (table_slot slots old.bytes)) end)) (omega arith)
    (Makes-then old mid new c.sync.result so_far 0 0 1
    (c.loop-slot.invariant.comes observable).made (Makes-sync mid new c.sync.result observable_mid c.sync.ensures))
