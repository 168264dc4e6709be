use Rattle.host_names.proofs.Spellings.{path_of_one}
use Rattle.host_names.proofs.laws.short_spellings_are_paths.Goals as goal

pub returns : goal.returns
returns c = path_of_one
