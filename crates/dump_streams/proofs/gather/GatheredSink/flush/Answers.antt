use Rattle.std.proofs.Common.{sym, ◌∙◌, arith}
use Rattle.dump_streams.proofs.GatherSteps.{came_flushed, stands_there}
use Rattle.dump_streams.proofs.gather.GatheredSink.flush.Goals as goal

pub invariant_of-self-2 : goal.invariant_of-self-2
invariant_of-self-2 g c =
    let sink_of = g.W.Sink.state in
    let inside = c.self.inside in
    let was = c.self.invariant in (
      omega (arith, c.clear.ensures.len),
      omega (arith, c.clear.ensures.capacity, was.1),
      rw c.of.ensures (stands_there sink_of c.put.new.self c.clear.new.self.items inside.is_broken),
      rw c.of.ensures (came_flushed sink_of inside.first.value inside.before.value inside.sink c.put.new.self
          inside.held.items _ inside.is_broken inside.faults c.put.result was.2 was.3 c.if-self.false c.put.ensures
          (sym c.is_err.ensures.value ∙ c.if-is_err.false)),
    )
