use Rattle.std.proofs.Common.{◌∙◌}
use Rattle.path_keys.proofs.NameBytes.{key_written}
use Rattle.path_keys.proofs.paths.key_of_field.Goals as goal

pub returns-clause-value : goal.returns-clause-value
returns-clause-value c = c.new.ensures.value
    ∙ key_written c.copy_from_slice.new.self c.args.field.now c.write_u32.new.buf c.args.block
    c.copy_from_slice.ensures.after c.told-field c.write_u32.ensures
