use Rattle.dump_streams.specs.Taking.{HasGiven}
use Rattle.dump_streams.proofs.AfterLemmas.{after_none}
use Rattle.dump_streams.proofs.steps.PairSteps.new.Goals as goal

pub returns-clause-given : goal.returns-clause-given
unfolding HasGiven
returns-clause-given c p version = c.new-2.ensures.read p version

pub returns-clause-taken : goal.returns-clause-taken
unfolding HasGiven
returns-clause-taken c u p version under = record {
  under = under;
  given = c.new-2.ensures.read p version;
  after = after_none c.new.result u p under.is_tree c.new.ensures;
}
