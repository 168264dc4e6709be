use Rattle.std.proofs.Common.{take, Ok}
use Rattle.host_builder.specs.Takes.{TakesBack}
use Rattle.host_builder.specs.Turns.{link_paths}
use Rattle.host_builder.proofs.taker.take_links_back.Given as goal

-- those of the first ones went
abbrev pub invariant-loop-one : goal.invariant-loop-one
invariant-loop-one g l = TakesBack (g.B.Builder.state l.fn.builder) (g.B.Builder.state l.builder)
    (link_paths (take l.one-index l.later)) (Ok tt)
