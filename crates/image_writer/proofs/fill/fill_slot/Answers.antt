use Rattle.std.proofs.Common.{◌≡◌, true, sym, subst}
use Rattle.store_model.specs.Lists.{zeros}
use Rattle.disk_model.specs.DiskCalls.{IsWrite}
use Rattle.gate_journal.specs.Places.{Reaches}
use Rattle.image_writer.specs.Filling.{OutsideSlot, IsFilled}
use Rattle.image_writer.proofs.Fills.{slot_filled}
use Rattle.image_writer.proofs.fill.fill_slot.Goals as goal

pub returns-clause-reaches : goal.returns-clause-reaches
returns-clause-reaches g c observable =
    let old = g.D.Disk.state c.args.disk.now in
    let new = g.D.Disk.state c.write_at.new.self in
    let slots = c.args.slots in
    let slot = c.args.slot in
    let is : true ≡ c.args.free = sym c.if-not-free.false in
    subst (λ b. Reaches (OutsideSlot slots slot b) (IsFilled slots slot b) old new c.write_at.result) is
    (slot_filled slots slot old new c.write_at.result observable (g.met.D.Disk.sound c.args.disk.now observable)
    c.requires.below c.requires.size
    (subst (λ at. IsWrite old new at (zeros 4096) c.write_at.result) c.table_at.ensures.value c.write_at.ensures))
