use Rattle.std.proofs.Common.{◌++◌, subst}
use Rattle.script_lines.specs.SinkState.{IsObservable}
use Rattle.dump_streams.specs.Gathered.{Gathered, IsFrontOf, GrewFrom}
use Rattle.dump_streams.proofs.GatherSteps.{front_put, grew_from}
use Rattle.dump_streams.proofs.gather.GatheredSink.into_sink.Goals as goal

pub returns-clause-front : goal.returns-clause-front
returns-clause-front g c =
    let sink_of = g.W.Sink.state in
    let sink = c.self.inside.sink in
    subst (λ (v : Gathered g.row.W.Denot). IsObservable (sink_of sink)
    → IsFrontOf (sink_of sink).written ((sink_of v.before).written ++ v.held)) c.self.view_is
    (front_put sink_of sink c.self.inside.before.value c.self.inside.held.items
    c.self.inside.is_broken c.self.invariant.2)

pub returns-clause-grew : goal.returns-clause-grew
returns-clause-grew g c =
    let sink_of = g.W.Sink.state in
    let inside = c.self.inside in
    subst (λ (v : Gathered g.row.W.Denot). GrewFrom sink_of v.first inside.sink v.faults) c.self.view_is
    (grew_from sink_of inside.first.value inside.before.value inside.sink inside.held.items inside.is_broken
    inside.faults c.self.invariant.2 c.self.invariant.3)
