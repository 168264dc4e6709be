use Rattle.std.proofs.Common.{◌≡◌, Result, IfOk, ap, subst, ◌∙◌}
use Rattle.script_lines.specs.SinkState.{SinkState}
use Rattle.dump_views.specs.declared.content.Standing.{Standing}
use Rattle.dump_streams.specs.declared.taker.TakerFault.{TakerFault}
use Rattle.entry_lines.specs.Listers.{PutsText, last_text}
use Rattle.entry_lines.proofs.ListerSteps.{listed}
use Rattle.entry_lines.proofs.writing.write_entries.Goals as goal

pub returns-in-Ok-clause-lists : goal.returns-in-Ok-clause-lists
returns-in-Ok-clause-lists g c came =
    let st = g.W.Sink.state in
    let first = c.new-lister.result in
    let lister = c.drain.new.taker in
    let whole = c.in_default.ensures.drains came c.new-lister.ensures.none in
    let took = whole.took_is in
    let rest = subst (λ (r : Result Standing TakerFault). PutsText (st lister.sink) (st c.finish-sink.result.0)
    (last_text lister.form lister.top lister.last) r) c.in-Ok.is c.finish-sink.ensures.puts in
    let sink_is : st first.sink ≡ st c.args.sink = ap st c.new-lister.ensures.sink in
    let standing_is : c.in-Ok.standing ≡ lister.standing =
    subst (λ (r : Result Standing TakerFault). IfOk r (λ s. s ≡ lister.standing)) c.in-Ok.is
    c.finish-sink.ensures.standing in
    record {
      tree = whole.tree;
      whole_is = whole.whole_is;
      observable = rest.observable ∙ took.observable ∙ ap (λ (s : SinkState). s.is_observable) sink_is;
      faults = rest.faults ∙ took.faults ∙ ap (λ (s : SinkState). s.faults) sink_is;
      listed = λ tree. listed st first lister (st c.finish-sink.result.0) whole.tree c.in-Ok.standing c.args.form
          c.args.top.now (st c.args.sink) c.finish-sink.result.1 c.in-Ok.is took c.finish-sink.ensures.puts
          standing_is c.new-lister.ensures.form c.new-lister.ensures.top c.new-lister.ensures.last
          c.new-lister.ensures.standing sink_is tree;
    }
