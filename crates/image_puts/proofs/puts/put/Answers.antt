use Rattle.std.proofs.Common.{sym, subst}
use Rattle.image_puts.proofs.StepRounds.{keeps_itself}
use Rattle.image_puts.proofs.puts.put.Goals as goal

pub returns-clause-keeps : goal.returns-clause-keeps
returns-clause-keeps g c start kept =
    let begun = c.new-changes.result in
    let stays = c.carry_out-result.ensures.keeps begun (keeps_itself g.S.DumpStream.keeps begun) in
    subst (λ x. g.S.DumpStream.keeps start x) (sym c.into_source.ensures)
    (stays.source start (subst (λ x. g.S.DumpStream.keeps start x) (sym c.new-changes.ensures.source) kept))
