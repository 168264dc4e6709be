use Rattle.std.proofs.Common.{refl}
use Rattle.script_runs.proofs.GenerationTurns.{generated_more}
use Rattle.script_runs.proofs.generated.GeneratedWork.answered.Goals as goal

pub returns-clause-turn : goal.returns-clause-turn
returns-clause-turn c =
    λ start first done asked due replies. generated_more due c.args.reply.now replies refl refl
    c.with_reply-self.ensures
