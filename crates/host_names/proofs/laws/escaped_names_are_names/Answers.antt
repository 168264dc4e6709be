use Rattle.host_names.proofs.Spellings.{escaped_is_name}
use Rattle.host_names.proofs.laws.escaped_names_are_names.Goals as goal

pub returns : goal.returns
returns c = escaped_is_name
