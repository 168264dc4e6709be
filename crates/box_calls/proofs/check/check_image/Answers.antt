use Rattle.std.proofs.Common.{ap, subst, sym, ◌∙◌}
use Rattle.script_lines.specs.SinkState.{IsPut}
use Rattle.dump_streams.specs.Gathered.{gathered_state}
use Rattle.box_calls.specs.Checks as model
use Rattle.box_calls.specs.Endings.{Ends, ended_status}
use Rattle.box_calls.proofs.Flushing.{printed_flushed}
use Rattle.box_calls.proofs.check.check_image.Goals as goal

pub returns-clause-checks : goal.returns-clause-checks
returns-clause-checks g c =
    let say = g.E.Sink.state in
    let out = gathered_state g.W.Sink.state in
    let put = c.put-put in
    let flushed = c.flush-flushed.result in
    record {
      found = c.sum_up-disk.result.1;
      sums = c.sum_up-disk.ensures;
      put = put.result;
      between = out put.new.self;
      flushed = flushed;
      puts = subst (λ text. IsPut (out c.args.out) (out put.new.self) text put.result)
          (c.as_slice.ensures ∙ c.check_text.ensures) put.ensures.put;
      flushes = c.flush-flushed.ensures.put;
      ends = subst (λ done. Ends done c.ended-status.result (say c.args.say) (say c.ended-status.new.sink))
          (c.printed-done.ensures ∙ ap (λ found. model.printed found put.result flushed) c.check_found.ensures)
          c.ended-status.ensures;
    }

pub returns-clause-flushed : goal.returns-clause-flushed
returns-clause-flushed g c done =
    printed_flushed c.check_found.result c.put-put.result c.flush-flushed.result
    (ap ended_status (sym c.printed-done.ensures) ∙ sym c.ended-status.ensures.status_is ∙ done)
    c.flush-flushed.ensures.flushed
