use Rattle.std.proofs.Common.{◌∙◌, ◌+◌, ◌-◌, [], length, sym, arith, append-nil}
use Rattle.store_model.specs.Paths as model
use Rattle.path_keys.proofs.NameBytes.{field_of_view, written_behind, bytes_of_field}
use Rattle.path_keys.proofs.paths.Path.field_behind.Goals as goal

pub returns : goal.returns
returns c =
    let held = field_of_view _ _ _ c.self.invariant c.self.view_is in
    written_behind (model.name_bytes c.args.self.now) c.args.behind.now [] c.self.inside.bytes
    c.copy_from_slice.new.self c.self.inside.len (c.self.inside.len + length c.args.behind.now - c.self.inside.len)
    (bytes_of_field _ _ _ held ∙ sym (append-nil _)) c.copy_from_slice.ensures.after held.len_is (omega arith)
    c.requires
    ∙ append-nil _
