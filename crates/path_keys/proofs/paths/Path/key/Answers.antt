use Rattle.std.proofs.Common.{◌∙◌}
use Rattle.path_keys.proofs.NameBytes.{key_of_path, field_of_view}
use Rattle.path_keys.proofs.paths.Path.key.Goals as goal

pub returns-clause-value : goal.returns-clause-value
returns-clause-value c = c.key_of_field.ensures.value
    ∙ key_of_path _ _ c.args.block c.args.self.now (field_of_view _ _ _ c.self.invariant c.self.view_is)
