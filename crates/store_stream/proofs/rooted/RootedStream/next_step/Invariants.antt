use Rattle.store_model.specs.Trees.{Tree}
use Rattle.store_stream.specs.declared.rooted.RootedStream.{RootedStream}
use Rattle.store_stream.specs.Rooted.{IsBelow, KeepsBelow}
use Rattle.store_stream.proofs.rooted.RootedStream.next_step.Given as goal

-- what lies below the path stays as it is while steps are passed over
abbrev pub invariant-loop : goal.invariant-loop
invariant-loop g l =
    ((start : RootedStream g.row.S.Denot) → KeepsBelow g.S.DumpStream.keeps start l.fn.self
    → KeepsBelow g.S.DumpStream.keeps start l.self)
    × ((t : Tree) → IsBelow g.S.DumpStream.came l.fn.self t → IsBelow g.S.DumpStream.came l.self t)
