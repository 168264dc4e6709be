use Rattle.std.proofs.Common.{Result, subst}
use Rattle.std.specs.Prelude.{OnOk}
use Rattle.image_create.specs.Creates.{MakesImage}
use Rattle.image_create.specs.declared.fault.CreateFault.{CreateFault}
use Rattle.create_claims.proofs.RoundLemmas.{again_by}
use Rattle.create_claims.proofs.again.create_then_extract.Goals as goal

pub returns : goal.returns
returns g c =
    let p = c.args.plan.params in
    let found = c.args.found.items in
    let folder = g.F.Folder.state c.args.folder in
    let folder' = g.F.Folder.state c.create-disk.result.folder in
    let disk = g.D.Disk.state c.args.disk in
    let disk' = g.D.Disk.state c.create-disk.result.disk in
    let makes : MakesImage p c.args.plan.is_laddered found folder folder' disk disk' =
    subst (λ (r : Result (Unit {0}) CreateFault). OnOk r
    (MakesImage p c.args.plan.is_laddered found folder folder' disk disk')) c.in-Ok.is c.create-disk.ensures.makes in
    record {
      again = λ was.
          again_by p c.args.plan.is_laddered found folder folder' disk disk' c.requires.version makes was
          c.args.target.wanted (g.B.Builder.state c.args.target.builder)
          (g.B.Builder.state c.extract-disk.result.builder) c.extract-disk.result.stays
          c.create-disk.ensures.calls.observable c.extract-disk.result.done c.extract-disk.ensures.extracts
          c.extracted.result c.extracted.ensures;
    }
