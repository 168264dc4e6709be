use Rattle.tree_pairs.proofs.CallLemmas.{step_where_it_fits, step_where_refused}
use Rattle.tree_pairs.proofs.laws.calls_are_steps_but_for_full.Goals as goal

pub returns : goal.returns
returns c = record { fits = step_where_it_fits; refused = step_where_refused }
