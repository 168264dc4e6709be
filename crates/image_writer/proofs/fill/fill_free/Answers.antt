use Rattle.std.proofs.Common.{rules}
use Rattle.gate_journal.proofs.Calls.{observable_after}
use Rattle.image_writer.proofs.Fills.{free_more, free_short}
use Rattle.image_writer.proofs.fill.fill_free.Goals as goal

pub returns-in_err-fill_slot-clause-reaches : goal.returns-in_err-fill_slot-clause-reaches
returns-in_err-fill_slot-clause-reaches g c observable =
    let observable_mid = observable_after _ _ _ c.loop-slot.invariant.calls observable in
    free_short c.args.slots c.args.free.now c.loop-slot.slot c.is_free.result (g.D.Disk.state c.args.disk.now)
    (g.D.Disk.state c.loop-slot.disk) (g.D.Disk.state c.fill_slot.new.disk) c.fill_slot.result c.from_residual.result
    c.from_residual.ensures.0 (g.met.D.Disk.sound c.loop-slot.disk observable_mid) c.is_free.ensures
    (c.loop-slot.invariant.comes observable) (c.fill_slot.ensures.reaches observable_mid)

pub loop-slot-preserved : goal.loop-slot-preserved
loop-slot-preserved g c =
    record {
      calls = search rules;
      comes = λ observable.
          let observable_mid = observable_after _ _ _ c.loop-slot.invariant.calls observable in
          free_more c.args.slots c.args.free.now c.loop-slot.slot c.is_free.result (g.D.Disk.state c.args.disk.now)
          (g.D.Disk.state c.loop-slot.disk) (g.D.Disk.state c.fill_slot.new.disk)
          (g.met.D.Disk.sound c.loop-slot.disk observable_mid) c.requires.slots c.is_free.ensures
          (c.loop-slot.invariant.comes observable) (c.in_ok-fill_slot.ensures.reaches observable_mid)
          (c.in_ok-fill_slot.ensures.made observable_mid);
    }
