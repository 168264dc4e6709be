use Rattle.std.proofs.Common.{false, subst, ◌∙◌}
use Rattle.script_lines.specs.SinkState.{IsPut}
use Rattle.dump_streams.specs.Gathered.{gathered_state}
use Rattle.box_calls.specs.Makings.{EndsMade}
use Rattle.box_calls.proofs.Storing.{plan_flushed}
use Rattle.box_calls.proofs.show.print_plan.Goals as goal

pub returns-clause-prints : goal.returns-clause-prints
returns-clause-prints g c =
    let say = g.E.Sink.state in
    let out = gathered_state g.W.Sink.state in
    let put = c.put-put in
    record {
      put = put.result;
      between = out put.new.self;
      flushed = c.flush-flushed.result;
      puts = subst (λ text. IsPut (out c.args.out) (out put.new.self) text put.result)
          (c.as_slice.ensures ∙ c.info_text.ensures) put.ensures.put;
      flushes = c.flush-flushed.ensures.put;
      ends = subst (λ done. EndsMade false done c.args.left_out c.end_part-status.result (say c.args.say)
          (say c.end_part-status.new.sink)) c.printed-done.ensures c.end_part-status.ensures;
    }

pub returns-clause-flushed : goal.returns-clause-flushed
returns-clause-flushed g c told =
    let say = g.E.Sink.state in
    plan_flushed c.put-put.result c.flush-flushed.result c.args.left_out c.end_part-status.result (say c.args.say)
    (say c.end_part-status.new.sink)
    (subst (λ done. EndsMade false done c.args.left_out c.end_part-status.result (say c.args.say)
    (say c.end_part-status.new.sink)) c.printed-done.ensures c.end_part-status.ensures) told
    c.flush-flushed.ensures.flushed
