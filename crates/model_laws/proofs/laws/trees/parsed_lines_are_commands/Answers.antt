use Rattle.store_model.proofs.GrammarLemmas.{IsCommand-parse}
use Rattle.model_laws.proofs.laws.trees.parsed_lines_are_commands.Goals as goal

pub returns : goal.returns
returns c = IsCommand-parse
