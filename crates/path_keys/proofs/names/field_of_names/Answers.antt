use Rattle.path_keys.proofs.NameBytes.{field_written}
use Rattle.path_keys.proofs.names.field_of_names.Goals as goal

pub returns : goal.returns
returns c = field_written c.args.separator c.args.text.now c.copy_from_slice.new.self c.put_zeros.new.bytes c.requires
    c.copy_from_slice.ensures.after c.put_zeros.ensures
