use Rattle.std.proofs.Common.{◌≡◌, length, take, sym, ◌∙◌}
use Rattle.std.proofs.lemmas.Bool.Decides.{Decides-eqb}
use Rattle.std.proofs.lemmas.List.{take-replicate}
use Rattle.std.proofs.lemmas.Slice.Eq.{slice_eq-Decides}
use Rattle.store_model.specs.Lists.{zeros}
use Rattle.store_base.proofs.zeros.are_zero.Goals as goal

pub returns : goal.returns
returns c =
    let bytes = c.args.bytes.now in
    let front : take (length bytes) (zeros 4096) ≡ zeros (length bytes) =
    take-replicate (length bytes) 4096 0 c.requires in
    let tells = slice_eq-Decides Decides-eqb _ _ _ c.eq.ensures in
    (λ same. tells.0 same ∙ front, λ zero. tells.1 (zero ∙ sym front))
