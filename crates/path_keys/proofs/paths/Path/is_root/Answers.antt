use Rattle.path_keys.proofs.NameBytes.{field_of_view, root_test}
use Rattle.path_keys.proofs.paths.Path.is_root.Goals as goal

pub returns-clause-value : goal.returns-clause-value
returns-clause-value c = root_test _ _ _ (field_of_view _ _ _ c.self.invariant c.self.view_is)
