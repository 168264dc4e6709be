use Rattle.std.proofs.Common.{take, Ok}
use Rattle.host_builder.specs.Takes.{CarriesLater}
use Rattle.host_builder.specs.Turns.{link_steps}
use Rattle.host_builder.proofs.taker.make_links.Given as goal

-- those of the first ones were made
abbrev pub invariant-loop-one : goal.invariant-loop-one
invariant-loop-one g l = CarriesLater (g.B.Builder.state l.fn.builder) (g.B.Builder.state l.builder)
    (link_steps (take l.one-index l.later)) (Ok tt)
