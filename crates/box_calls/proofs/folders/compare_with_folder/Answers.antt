use Rattle.std.proofs.Common.{IfOk, subst}
use Rattle.disk_model.specs.DiskState.{IsObservable}
use Rattle.host_builder.specs.declared.attribute.Wanted.{Wanted}
use Rattle.image_reads.specs.Reads.{HasTreeWith}
use Rattle.image_differences.specs.declared.timing.Times.{Times}
use Rattle.image_differences.specs.Folders.{TellsFolder}
use Rattle.box_calls.specs.Makings.{wanted_of}
use Rattle.box_calls.proofs.folders.compare_with_folder.Goals as goal

pub returns : goal.returns
returns g c =
    let compared = c.compare_folder-disk in
    let disk = g.D.Disk.state c.args.disk in
    let old = g.F.Folder.state c.args.packed.folder in
    let new = g.F.Folder.state compared.result.folder in
    let entries = c.args.packed.found.items in
    record {
      compares = record {
        found = compared.result.found;
        tells = subst (λ (t : Times). IfOk compared.result.found (λ f. IsObservable disk → HasTreeWith disk
            (TellsFolder (wanted_of c.args.packed.taken) t entries old new f))) c.times_of.ensures
            (subst (λ (w : Wanted). IfOk compared.result.found (λ f. IsObservable disk → HasTreeWith disk
            (TellsFolder w c.times_of.result entries old new f))) c.wanted_of.ensures compared.ensures.compares);
        uncompared = compared.ensures.failed;
        untouched = compared.ensures.untouched;
        prints = c.end_folder-status.ensures.prints;
      };
      flushed = c.end_folder-status.ensures.flushed;
    }
