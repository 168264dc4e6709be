use Rattle.std.proofs.Common.{sym, ◌∙◌}
use Rattle.store_model.specs.Paths as model
use Rattle.path_keys.proofs.NameBytes.{field_of_view, is_field_of_shown, shown_by_field}
use Rattle.path_keys.proofs.PathBytes.{parent_field}
use Rattle.path_keys.proofs.paths.Path.parent.Goals as goal

pub invariant_of-result : goal.invariant_of-result
invariant_of-result c =
    is_field_of_shown _ _ (model.parent c.args.self.now)
    (parent_field c.self.inside.bytes c.self.inside.len c.args.self.now c.name_start-len.result
    c.copy_from_slice.new.self
    (field_of_view _ _ _ c.self.invariant c.self.view_is) (sym c.is_root.ensures.value ∙ c.if-is_root.false)
    c.name_start-len.ensures.value c.copy_from_slice.ensures.after)

pub returns-clause-value : goal.returns-clause-value
returns-clause-value c =
    shown_by_field _ _ (model.parent c.args.self.now)
    (parent_field c.self.inside.bytes c.self.inside.len c.args.self.now c.name_start-len.result
    c.copy_from_slice.new.self
    (field_of_view _ _ _ c.self.invariant c.self.view_is) (sym c.is_root.ensures.value ∙ c.if-is_root.false)
    c.name_start-len.ensures.value c.copy_from_slice.ensures.after)

pub returns-clause-valid : goal.returns-clause-valid
returns-clause-valid c =
    (is_field_of_shown _ _ (model.parent c.args.self.now)
    (parent_field c.self.inside.bytes c.self.inside.len c.args.self.now c.name_start-len.result
    c.copy_from_slice.new.self
    (field_of_view _ _ _ c.self.invariant c.self.view_is) (sym c.is_root.ensures.value ∙ c.if-is_root.false)
    c.name_start-len.ensures.value c.copy_from_slice.ensures.after)).path
