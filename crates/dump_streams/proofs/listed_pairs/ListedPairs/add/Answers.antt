use Rattle.dump_streams.specs.Dumps.{after_step}
use Rattle.dump_streams.proofs.TakenPairs.{took_more}
use Rattle.dump_streams.proofs.listed_pairs.ListedPairs.add.Goals as goal

pub returns-clause-took : goal.returns-clause-took
returns-clause-took c first steps took =
    let step = c.args.step.now in
    took_more first c.args.self.now c.let_go.new.self steps step
    (λ t p held under goes. c.let_go.ensures.held (after_step t step) p
    (c.in_ok-push_pairs.ensures.taken.taken t p held under goes)) took
