use Rattle.std.proofs.Common.{◌∙◌}
use Rattle.script_lines.proofs.FieldLemmas.{narrowed, no_number}
use Rattle.script_lines.proofs.fields.parse_number.Goals as goal

pub returns-in_err-number : goal.returns-in_err-number
returns-in_err-number c = rw c.from_residual.ensures (no_number c.args.text.now c.in_err-number.ensures)

pub returns : goal.returns
returns c =
    c.ok.ensures.value
    ∙ narrowed c.args.text.now c.in_ok-number.number c.try_from.result c.in_ok-number.ensures c.try_from.ensures
