use Rattle.host_names.proofs.Spellings.{same_spelling}
use Rattle.host_names.proofs.laws.names_have_their_own_spelling.Goals as goal

pub returns : goal.returns
returns c = same_spelling
