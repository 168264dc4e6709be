use Rattle.std.proofs.Common.{take, Ok}
use Rattle.host_builder.specs.Takes.{CarriesLater}
use Rattle.host_builder.specs.Turns.{time_steps}
use Rattle.host_builder.proofs.taker.set_times.Given as goal

-- those of the first ones were made
abbrev pub invariant-loop-one : goal.invariant-loop-one
invariant-loop-one g l = CarriesLater (g.B.Builder.state l.fn.builder) (g.B.Builder.state l.builder)
    (time_steps (take l.one-index l.later)) (Ok tt)
