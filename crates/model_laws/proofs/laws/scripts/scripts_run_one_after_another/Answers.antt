use Rattle.store_model.specs.Steps.{step}
use Rattle.store_model.proofs.ScriptsLemmas.{replies-append, tree_after-append, replies_by-append, tree_by-append}
use Rattle.model_laws.proofs.laws.scripts.scripts_run_one_after_another.Goals as goal

pub returns-clause-replies : goal.returns-clause-replies
returns-clause-replies c = replies-append

pub returns-clause-tree : goal.returns-clause-tree
returns-clause-tree c = tree_after-append

pub returns-clause-replies_to_commands : goal.returns-clause-replies_to_commands
returns-clause-replies_to_commands c t first second p = replies_by-append (λ u command. step u command p) t first second

pub returns-clause-tree_after_commands : goal.returns-clause-tree_after_commands
returns-clause-tree_after_commands c t first second p = tree_by-append (λ u command. step u command p) t first second
