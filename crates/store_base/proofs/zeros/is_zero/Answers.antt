use Rattle.std.proofs.Common.{sym, ◌∙◌}
use Rattle.std.specs.Cmp.Lexicographic.{bytes_decides}
use Rattle.store_model.specs.Lists.{zeros}
use Rattle.store_model.specs.Images.{slot_bytes}
use Rattle.store_base.proofs.zeros.is_zero.Goals as goal

pub returns : goal.returns
unfolding slot_bytes
returns c =
    let tells = bytes_decides c.args.slot.now (zeros 4096) in
    (λ same. tells.0 (sym c.eq.ensures ∙ same), λ zero. c.eq.ensures ∙ tells.1 zero)
