use Rattle.std.proofs.Common.{IfSome, Ok, subst}
use Rattle.store_model.specs.Parameters.{Parameters}
use Rattle.image_check.specs.ImageCalls.{ReadsDisk}
use Rattle.gate_journal.specs.Headers.{HasParameters}
use Rattle.scrub_free.specs.ScrubCalls.{ChecksScrubbed}
use Rattle.scrub_free.proofs.Checks.{scrubbed_clean, not_scrubbed}
use Rattle.scrub_free.proofs.call.scrub.Goals as goal

pub returns-in_default : goal.returns-in_default
returns-in_default g c =
    let views = c.in-Ok-Some.ensures.views in
    let read = views.calls in
    let reads : ReadsDisk {T = Parameters} (g.D.Disk.state c.args.disk) (g.D.Disk.state c.view_header.new.disk)
    (Ok c.in-Ok-Some.params) =
    record {
      size = read.size;
      observable = read.observable;
      faults = read.faults;
      rise = read.rise;
      writes = read.writes;
      syncs = read.syncs;
      reads = views.reads;
    } in
    let has = subst (λ found. IfSome found (HasParameters (g.D.Disk.state c.args.disk)))
    c.in-Ok-Some.field-0-is views.found in
    not_scrubbed _ _ _ _ c.in-Ok.verdict has reads
    c.in_default.not-Clean (subst (ChecksScrubbed _ _ _) c.in-Ok.is c.check_scrubbed-disk.ensures.call)

pub returns : goal.returns
returns g c =
    let views = c.in-Ok-Some.ensures.views in
    let read = views.calls in
    let reads : ReadsDisk {T = Parameters} (g.D.Disk.state c.args.disk) (g.D.Disk.state c.view_header.new.disk)
    (Ok c.in-Ok-Some.params) =
    record {
      size = read.size;
      observable = read.observable;
      faults = read.faults;
      rise = read.rise;
      writes = read.writes;
      syncs = read.syncs;
      reads = views.reads;
    } in
    let has = subst (λ found. IfSome found (HasParameters (g.D.Disk.state c.args.disk)))
    c.in-Ok-Some.field-0-is views.found in
    scrubbed_clean _ _ _ _ c.in-Ok.verdict has reads
    (subst (ChecksScrubbed _ _ _) c.in-Ok.is c.check_scrubbed-disk.ensures.call)
    c.in-Clean.pages c.in-Clean.dirs c.in-Clean.files c.in-Clean.bytes c.in-Clean.is
    (g.D.Disk.state c.scrub_image-scrubbed.new.disk) c.scrub_image-scrubbed.result c.answer_of.result
    c.scrub_image-scrubbed.ensures.calls c.scrub_image-scrubbed.ensures.scrubs
    c.scrub_image-scrubbed.ensures.counts c.answer_of.ensures
