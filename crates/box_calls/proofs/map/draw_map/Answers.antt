use Rattle.std.proofs.Common.{ap, subst, sym, ◌∙◌}
use Rattle.dump_streams.specs.Gathered.{gathered_state}
use Rattle.box_calls.specs.Endings.{Ends, ended_status}
use Rattle.box_calls.proofs.Flushing.{mapped_flushed}
use Rattle.box_calls.proofs.map.draw_map.Goals as goal

pub returns-clause-maps : goal.returns-clause-maps
returns-clause-maps g c =
    let say = g.E.Sink.state in
    record {
      written = c.write_map-written.result;
      flushed = c.flush-flushed.result;
      between = gathered_state g.W.Sink.state c.write_map-written.new.sink;
      reads = c.write_map-written.ensures.disk;
      shows = c.write_map-written.ensures.sink;
      put = c.flush-flushed.ensures.put;
      ends = subst (λ done. Ends done c.ended-status.result (say c.args.say) (say c.ended-status.new.sink))
          c.mapped.ensures c.ended-status.ensures;
    }

pub returns-clause-flushed : goal.returns-clause-flushed
returns-clause-flushed g c done =
    mapped_flushed c.write_map-written.result c.flush-flushed.result
    (ap ended_status (sym c.mapped.ensures) ∙ sym c.ended-status.ensures.status_is ∙ done)
    c.flush-flushed.ensures.flushed
