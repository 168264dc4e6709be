use Rattle.dump_streams.proofs.WrittenDumps.{dump_written}
use Rattle.dump_streams.proofs.writing.write_dump.Goals as goal

pub returns-clause-written : goal.returns-clause-written
returns-clause-written g c came =
    dump_written g.S.DumpStream.came g.S.DumpStream.whole g.S.DumpStream.fails g.W.Sink.state c.args.stream.now
    c.drain-drained.new.stream c.args.sink c.new-taker.result c.drain-drained.new.taker c.into_sink.result
    c.drain-drained.result came c.new-taker.ensures.sink c.new-taker.ensures.none c.into_sink.ensures
    c.drain-drained.ensures.drains
