use Rattle.std.proofs.Common.{◌∙◌, arith}
use Rattle.recovered_store.proofs.Blocks.{image_fits}
use Rattle.recovered_store.proofs.Filling.{fills_more}
use Rattle.recovered_store.proofs.disk.SlotsDisk.fill.Goals as goal

pub loop-done-preserved : goal.loop-done-preserved
loop-done-preserved g c = (
  fills_more (g.S.ReadSlots.state c.args.self.now.slots) (g.S.ReadSlots.state c.loop-done.self.slots)
      (g.S.ReadSlots.state c.read_some.new.self.slots) c.args.self.now.params c.loop-done.self.params
      c.read_some.new.self.params c.args.at c.loop-done.done c.in_ok-done.field-0 c.loop-done.into
      c.read_some.new.into c.loop-done.invariant.0 c.loop-done-test.true c.in_ok-done.ensures.reads
      c.read_some.ensures.params c.read_some.auto.into c.in_ok-done.ensures.part.1
      c.in_ok-done.ensures.bytes,
  c.read_some.ensures.refused ∙ c.loop-done.invariant.1,
  c.read_some.ensures.syncs ∙ c.loop-done.invariant.2,
  g.met.S.ReadSlots.follows_trans c.args.self.now.slots c.loop-done.self.slots c.read_some.new.self.slots
      c.loop-done.invariant.3 c.read_some.ensures.follows,
)

pub returns-in_err-done-clause-follows : goal.returns-in_err-done-clause-follows
returns-in_err-done-clause-follows g c =
    g.met.S.ReadSlots.follows_trans c.args.self.now.slots c.loop-done.self.slots c.read_some.new.self.slots
    c.loop-done.invariant.3 c.read_some.ensures.follows

pub returns-clause-follows : goal.returns-clause-follows
returns-clause-follows g c = c.loop-done.invariant.3

pub overflow_add-at : goal.overflow_add-at
overflow_add-at g c =
    omega (
      arith,
      c.requires,
      c.loop-done.auto.into,
      c.loop-done-test.true,
      image_fits c.args.self.now.params.slots c.args.self.now.in_range.slots_in_range,
    )
