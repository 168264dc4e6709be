use Rattle.std.proofs.Common.{◌+◌, length, ◌∙◌, sym, arith}
use Rattle.path_keys.specs.Reading.{parts_of}
use Rattle.path_keys.proofs.NameBytes.{is_field-split, is_field_of_shown, shown_by_field}
use Rattle.path_keys.proofs.paths.Path.of_names.Goals as goal

pub invariant_of-result : goal.invariant_of-result
invariant_of-result c =
    is_field_of_shown c.field_of_names.result (length c.args.text.now + 1) (parts_of c.args.separator c.args.text.now)
    (is_field-split c.field_of_names.result c.args.separator c.args.text.now c.field_of_names.ensures
    (sym c.are_names.ensures ∙ c.if-not-are_names.false) (omega arith))

pub returns : goal.returns
returns c = (
  sym c.are_names.ensures ∙ c.if-not-are_names.false,
  omega arith,
  shown_by_field c.field_of_names.result (length c.args.text.now + 1) (parts_of c.args.separator c.args.text.now)
      (is_field-split c.field_of_names.result c.args.separator c.args.text.now c.field_of_names.ensures
      (sym c.are_names.ensures ∙ c.if-not-are_names.false) (omega arith)),
)
