use Rattle.dump_streams.specs.Gathered.{gathered_state}
use Rattle.box_calls.proofs.pack.break_off.Goals as goal

pub returns : goal.returns
returns g c = record {
  put = c.put.result;
  flushed = c.flush.result;
  last = record {
    between = gathered_state g.W.Sink.state c.put.new.self;
    puts = c.put.ensures.put;
    flushes = c.flush.ensures.put;
  };
}
