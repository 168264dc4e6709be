use Rattle.std.proofs.Common.{[]}
use Rattle.dump_streams.proofs.DumpFronts.{empty_under}
use Rattle.tree_writer.proofs.NextPairs.{told_nothing}
use Rattle.tree_writer.proofs.writer.TreeWriter.begin.Goals as goal

pub returns : goal.returns
returns g c = record {
  under = empty_under c.args.params.now;
  holds = record {
    came = [];
    told_are = told_nothing c.args.params.now;
    counts = c.in_ok-begin.ensures.writing.kept_is;
  };
  has = c.in_ok-begin.ensures;
}
