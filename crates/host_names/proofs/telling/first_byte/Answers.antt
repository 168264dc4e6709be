use Rattle.std.proofs.Common.{◌∷◌, ◌+◌, ◌*◌, drop, sym, ap₂, ◌∙◌, arith}
use Rattle.host_names.specs.Reading.{unescaped}
use Rattle.host_names.proofs.Spellings.{step_digits, step_plain, step_short}
use Rattle.host_names.proofs.telling.first_byte.Goals as goal
use Rattle.host_names.proofs.telling.first_byte.Goals.{else-text-ge3-via-then-text-ge3+else-text-eq37}
use Rattle.host_names.proofs.telling.first_byte.Goals.{else-text-ge3-via-else-text-ge3}

pub returns-then-text-eq37-clause-step : goal.returns-then-text-eq37-clause-step
returns-then-text-eq37-clause-step c =
    step_digits c.args.text.now (omega arith) c.if-text-eq37.true
    ∙ ap₂ (λ v w. (16 * v + w) ∷ unescaped (drop 3 c.args.text.now)) (sym c.digit_value.ensures.value)
    (sym c.digit_value-then-text-eq37.ensures.value)

pub returns-else-text-ge3-clause-step : goal.returns-else-text-ge3-clause-step
returns-else-text-ge3-clause-step c =
    elim c.else-text-ge3.branch [
      | else-text-ge3-via-then-text-ge3+else-text-eq37 w ↦ step_plain c.args.text.now c.requires w.if-text-eq37.false
      | else-text-ge3-via-else-text-ge3 w ↦ step_short c.args.text.now c.requires (omega arith)
    ]
