use Rattle.host_builder.proofs.TakenAway.{TakesPart}
use Rattle.host_builder.proofs.undoing.take_away.Given as goal

-- what is left is accounted for, where nothing stays
abbrev pub invariant-loop-one : goal.invariant-loop-one
invariant-loop-one g l = TakesPart (g.B.Builder.state l.fn.builder) (g.B.Builder.state l.builder) l.fn.stands.items
    l.stands.items l.stays

abbrev pub decreases-loop-one : goal.decreases-loop-one
decreases-loop-one g l = goal.left-loop-one g l
