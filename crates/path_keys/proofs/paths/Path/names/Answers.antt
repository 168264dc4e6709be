use Rattle.path_keys.proofs.NameBytes.{field_of_view, names_shown}
use Rattle.path_keys.proofs.paths.Path.names.Goals as goal

pub returns-clause-value : goal.returns-clause-value
returns-clause-value c = names_shown _ _ _ (field_of_view _ _ _ c.self.invariant c.self.view_is)
