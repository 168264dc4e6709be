use Rattle.std.proofs.Common.{arith}
use Rattle.host_builder.proofs.ViewedStream.{long_view}
use Rattle.host_builder.proofs.viewed.HostViewStream.next_step.Goals as goal

pub returns-clause-next : goal.returns-clause-next
returns-clause-next g c = record {
  came = λ t came. tt;
  extends = λ t came. tt;
  whole = λ t came. tt;
  failed = λ t came. long_view g.S.DumpStream.came g.S.DumpStream.whole g.S.DumpStream.fails c.loop.self t
      c.loop.counter (c.loop.invariant.1 t came) (let test = c.loop-test.false in omega (arith, test));
}
