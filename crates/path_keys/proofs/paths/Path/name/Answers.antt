use Rattle.path_keys.proofs.NameBytes.{field_of_view}
use Rattle.path_keys.proofs.PathBytes.{name_read}
use Rattle.path_keys.proofs.paths.Path.name.Goals as goal

pub returns : goal.returns
returns c = name_read _ _ _ _ (field_of_view _ _ _ c.self.invariant c.self.view_is)
    c.requires c.name_start.ensures.value
