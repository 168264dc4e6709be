use Rattle.std.proofs.Common.{◌≡◌, false, length}
use Rattle.store_model.specs.Trees.{Tree, empty_tree}
use Rattle.dump_streams.specs.Dumps.{dump}
use Rattle.image_differences.specs.Timing.{has_time}
use Rattle.image_differences.proofs.timing.has_times.Given as goal

-- no step that came sets a time, and they were counted
abbrev pub invariant-loop : goal.invariant-loop
invariant-loop g l =
    ((start : g.row.S.Denot) → g.S.DumpStream.keeps start l.fn.stream → g.S.DumpStream.keeps start l.stream)
    × (g.S.DumpStream.came l.fn.stream empty_tree
    → (t : Tree) × g.S.DumpStream.came l.stream t × (has_time t ≡ false) × (length (dump t) ≡ l.counter))
