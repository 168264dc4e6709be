use Rattle.store_model.specs.Trees.{Tree}
use Rattle.host_builder.specs.declared.viewed.HostViewStream.{HostViewStream}
use Rattle.host_builder.specs.Viewed.{ViewBy, CameOfView, KeepsView}
use Rattle.host_builder.proofs.viewed.HostViewStream.next_step.Given as goal

-- what came stays while steps are judged that give none, and these are counted
abbrev pub invariant-loop : goal.invariant-loop
invariant-loop g l =
    ((start : HostViewStream g.row.S.Denot) → KeepsView g.S.DumpStream.keeps start l.fn.self
    → KeepsView g.S.DumpStream.keeps start l.self)
    × ((t : Tree) → CameOfView g.S.DumpStream.came g.S.DumpStream.whole l.fn.self t
    → ViewBy g.S.DumpStream.came g.S.DumpStream.whole l.self t l.counter)
