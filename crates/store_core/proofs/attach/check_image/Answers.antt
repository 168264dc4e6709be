use Rattle.std.proofs.Common.{Result, subst}
use Rattle.store_base.specs.declared.fault.DiskFault.{DiskFault}
use Rattle.disk_model.specs.DiskCalls.{IsSync}
use Rattle.store_core.proofs.OpeningLemmas.{checked}
use Rattle.store_core.proofs.attach.check_image.Goals as goal

-- the disk was synced and read
pub returns : goal.returns
returns g c =
    let old = g.D.Disk.state c.args.disk in
    let mid = g.D.Disk.state c.sync.new.self in
    let new = g.D.Disk.state c.find_image.result.0 in
    let sync = subst (λ (r : Result (Unit {0}) DiskFault). IsSync old mid r) c.in_default.is c.sync.ensures in
    checked old mid new c.in_default.field-0 (g.met.D.Disk.sound c.sync.new.self) sync
    c.find_image.result.1 c.find_image.ensures
