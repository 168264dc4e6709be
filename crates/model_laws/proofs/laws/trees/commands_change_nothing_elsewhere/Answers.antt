use Rattle.model_laws.proofs.WithinLemmas.{node_at-step_elsewhere, attributes_at-step_elsewhere}
use Rattle.model_laws.proofs.WithinLemmas.{node_at-lines_elsewhere, attributes_at-lines_elsewhere}
use Rattle.model_laws.proofs.laws.trees.commands_change_nothing_elsewhere.Goals as goal

pub returns-clause-command : goal.returns-clause-command
returns-clause-command c = node_at-step_elsewhere

pub returns-clause-command_attributes : goal.returns-clause-command_attributes
returns-clause-command_attributes c = attributes_at-step_elsewhere

pub returns-clause-lines : goal.returns-clause-lines
returns-clause-lines c = node_at-lines_elsewhere

pub returns-clause-lines_attributes : goal.returns-clause-lines_attributes
returns-clause-lines_attributes c = attributes_at-lines_elsewhere
