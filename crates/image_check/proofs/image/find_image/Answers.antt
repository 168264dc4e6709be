use Rattle.std.proofs.Common.{IfSome, Result, sym, ap, subst}
use Rattle.image_check.specs.declared.contents.Contents.{Contents}
use Rattle.image_check.specs.declared.fault.AttachFault.{AttachFault}
use Rattle.gate_journal.specs.Headers.{HasParameters}
use Rattle.image_check.specs.ImageCalls.{FindsImage}
use Rattle.image_check.proofs.ImageVerdicts.{searches_image, views_disk}
use Rattle.image_check.proofs.image.find_image.Goals as goal

pub returns : goal.returns
returns g c =
    let old = g.D.Disk.state c.args.disk in
    let mid = g.D.Disk.state c.view_header.new.disk in
    let new = g.D.Disk.state c.into_disk.result in
    let at = g.D.Disk.state c.new-view.result.disk in
    let back = g.D.Disk.state c.find_contents-found.new.slots.disk in
    let p = c.in-Ok-Some.params in
    let left = c.find_contents-found.new.slots.params in
    let views = c.in-Ok-Some.ensures.views in
    let read = views.calls in
    let view = views_disk p c.new-view.result.params left at mid back new
    c.find_contents-found.result c.new-view.ensures.params (ap g.D.Disk.state c.new-view.ensures.disk)
    (ap g.D.Disk.state (sym c.into_disk.ensures))
    (record { keeps = c.find_contents-found.ensures.follows; finds = c.find_contents-found.ensures.call }) in
    let search =
    searches_image old mid new p left c.find_contents-found.result
    (subst (λ found. IfSome found (HasParameters old)) c.in-Ok-Some.field-0-is views.found)
    read.size read.observable read.faults read.rise read.writes read.syncs views.reads view in
    subst (λ (r : Result Contents AttachFault). FindsImage old new r) (sym c.contents_of.ensures) search
