use Rattle.std.proofs.Common.{◌≡◌, map, drop}
use Rattle.store_model.specs.Trees.{Tree}
use Rattle.script_lines.specs.Sessions.{change_of}
use Rattle.staged_tree.specs.StagedTree.{IsListFor, FollowsList}
use Rattle.staged_tree.proofs.GroupSteps.{HasStaged}
use Rattle.staged_tree.proofs.group.stage_all.Given as goal

abbrev pub invariant-loop-index : goal.invariant-loop-index
invariant-loop-index g l = record {
  follows : FollowsList g.D.Disk.state l.fn.pairs l.pairs;
  faults : (g.D.Disk.state l.pairs.pages.disk).faults ≡ (g.D.Disk.state l.fn.pairs.pages.disk).faults;
  staged : (t : Tree) → IsListFor g.D.Disk.state t t l.params l.fn.pairs
      → HasStaged g.D.Disk.state t l.params (map change_of l.changes)
      l.index (map change_of (drop l.index l.changes)) l.fn.pairs l.pairs;
}
