use Rattle.staged_tree.specs.StagedTree.{FollowsList}
use Rattle.staged_tree.proofs.StreamSteps.{HasStreamed}
use Rattle.staged_tree.proofs.streamed.carry_out_stream.Given as goal

abbrev pub invariant-loop-index : goal.invariant-loop-index
invariant-loop-index g l = record {
  follows : FollowsList g.D.Disk.state l.fn.pairs l.pairs;
  keeps : (start : g.row.S.Denot) → g.S.ChangeStream.keeps start l.fn.stream → g.S.ChangeStream.keeps start l.stream;
  has : HasStreamed g.D.Disk.state (g.S.ChangeStream.came l.stream) l.params l.index l.fn.pairs l.pairs;
}
