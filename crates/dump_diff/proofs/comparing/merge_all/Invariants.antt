use Rattle.std.proofs.Common.{◌≡◌}
use Rattle.dump_diff.specs.Ahead.{IsBetweenSome}
use Rattle.store_model.specs.Trees.{empty_tree}
use Rattle.dump_diff.proofs.comparing.merge_all.Given as goal

-- where nothing had come of the streams, some trees have the dumps that came of them
abbrev pub invariant-loop : goal.invariant-loop
invariant-loop g l =
    (l.merge.kept.is_on ≡ l.fn.keeps)
    × ((start : g.row.A.Denot) → g.A.DumpStream.keeps start l.fn.first → g.A.DumpStream.keeps start l.first)
    × ((start : g.row.B.Denot) → g.B.DumpStream.keeps start l.fn.second → g.B.DumpStream.keeps start l.second)
    × (g.A.DumpStream.came l.fn.first empty_tree → g.B.DumpStream.came l.fn.second empty_tree
    → IsBetweenSome (g.A.DumpStream.came l.first) (g.A.DumpStream.whole l.first) (g.B.DumpStream.came l.second)
    (g.B.DumpStream.whole l.second) l.merge l.counter)
