use Rattle.std.proofs.Common.{List, ℕ, subst}
use Rattle.store_model.specs.Parameters.{Parameters}
use Rattle.store_model.specs.Trees.{Tree}
use Rattle.script_lines.specs.Memory.{source_state, sink_state}
use Rattle.image_subcommands.specs.Outside.{outside_of}
use Rattle.image_subcommands.specs.Statuses.{Subcommand as words}
use Rattle.script_runs.specs.ScriptCall.{AnswersScript}
use Rattle.script_runs.specs.SessionRuns.{session_texts}
use Rattle.store_claims.specs.Machines.{meaning}
use Rattle.store_claims.proofs.OneWord.{asks_session}
use Rattle.store_claims.proofs.TreeLemmas.{same_trees}
use Rattle.store_claims.proofs.hold.hold.Goals as goal

pub returns : goal.returns
returns c =
    subst (λ (trees : Tree → List ℕ → Parameters → ℕ → Tree).
    AnswersScript words.Session session_texts trees meaning source_state sink_state
    (outside_of c.args.disk c.args.source c.args.sink) c.top.result)
    (same_trees c.every_history_is_serial.ensures.law) (c.top.ensures.performs _ (c.in_ok-words.ensures _ asks_session))
