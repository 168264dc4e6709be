use Rattle.std.proofs.Common.{Result, sym, subst}
use Rattle.store_base.specs.declared.store_fault.Fault.{Fault}
use Rattle.image_check.specs.declared.verdict.Verdict.{Verdict}
use Rattle.image_check.specs.ImageCalls.{ChecksImage}
use Rattle.image_check.proofs.ImageVerdicts.{checks_image}
use Rattle.image_check.proofs.image.check.Goals as goal

pub returns : goal.returns
returns g c =
    let old = g.D.Disk.state c.args.disk in
    let new = g.D.Disk.state c.find_image-disk.result.0 in
    subst (λ (r : Result Verdict Fault). ChecksImage old new r) (sym c.verdict_of.ensures)
    (checks_image old new c.find_image-disk.result.1 c.find_image-disk.ensures)
