use Rattle.std.proofs.Common.{◌≡◌, [], length}
use Rattle.store_model.specs.Trees.{Tree, empty_tree}
use Rattle.dump_streams.specs.Dumps.{dump}
use Rattle.dump_streams.proofs.draining.drain.Given as goal

-- the steps that came were taken, and were counted
abbrev pub invariant-loop : goal.invariant-loop
invariant-loop g l =
    ((start : g.row.S.Denot) → g.S.DumpStream.keeps start l.fn.stream → g.S.DumpStream.keeps start l.stream)
    × (g.S.DumpStream.came l.fn.stream empty_tree → g.T.Taker.took l.fn.taker l.fn.taker []
    → (t : Tree) × g.S.DumpStream.came l.stream t × g.T.Taker.took l.fn.taker l.taker (dump t)
    × (length (dump t) ≡ l.counter))
