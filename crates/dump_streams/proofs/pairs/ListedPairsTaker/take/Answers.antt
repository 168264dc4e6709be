use Rattle.dump_streams.proofs.pairs.ListedPairsTaker.take.Goals as goal

pub returns-in-Ok-clause-taken : goal.returns-in-Ok-clause-taken
returns-in-Ok-clause-taken c first steps took = c.in-Ok.ensures.took first steps took
