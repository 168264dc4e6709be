use Rattle.std.proofs.Common.{sym, ◌∙◌, arith}
use Rattle.std.proofs.lemmas.Bool.{and_from, le-leb}
use Rattle.path_keys.proofs.AttributeBytes.{name_held, held_as_shown}
use Rattle.path_keys.proofs.attributes.AttrName.parse.Goals as goal

pub invariant_of-result : goal.invariant_of-result
invariant_of-result c =
    held_as_shown _ _ c.args.text.now
    (name_held c.args.text.now c.copy_from_slice.new.self
    (and_from _ _ (sym c.is_name.ensures ∙ c.if-not-is_name.false) (le-leb _ 32 (omega arith)))
    c.copy_from_slice.ensures.after)
