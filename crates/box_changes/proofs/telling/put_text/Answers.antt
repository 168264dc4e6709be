use Rattle.std.proofs.Common.{subst}
use Rattle.dump_streams.specs.Gathered.{gathered_state}
use Rattle.box_calls.specs.Endings.{Ends}
use Rattle.box_changes.proofs.telling.put_text.Goals as goal

pub returns-clause-puts : goal.returns-clause-puts
returns-clause-puts g c =
    let say = g.E.Sink.state in
    record {
      put = c.put-put.result;
      between = gathered_state g.W.Sink.state c.put-put.new.self;
      flushed = c.flush-flushed.result;
      puts = c.put-put.ensures.put;
      flushes = c.flush-flushed.ensures.put;
      ends = subst (λ done. Ends done c.ended.result (say c.args.say.now) (say c.ended.new.sink)) c.printed.ensures
          c.ended.ensures;
    }
