use Rattle.std.proofs.Common.{Ok, refl, ap, arith}
use Rattle.script_runs.proofs.GenerationTurns.{generated_asks}
use Rattle.script_runs.proofs.generated.GeneratedWork.next.Goals as goal

pub returns-clause-turn : goal.returns-clause-turn
returns-clause-turn c =
    λ start first done kept. generated_asks kept (omega (arith, c.if-self-eq0.false))
    (c.next.ensures.state first.generator done kept.state_is) refl
    (ap Ok (c.next.ensures.command first.generator done kept.state_is))
