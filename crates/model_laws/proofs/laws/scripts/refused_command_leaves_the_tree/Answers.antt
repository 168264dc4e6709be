use Rattle.store_model.proofs.ScriptsLemmas.{refused_step_keeps, refused_answer_keeps}
use Rattle.model_laws.proofs.laws.scripts.refused_command_leaves_the_tree.Goals as goal

pub returns-clause-command : goal.returns-clause-command
returns-clause-command c = refused_step_keeps

pub returns-clause-line : goal.returns-clause-line
returns-clause-line c = refused_answer_keeps
