use Rattle.std.proofs.Common.{refl, true, ap, ◌∙◌, ◌+◌, Ok, sym, subst}
use Rattle.dump_streams.specs.Dumps.{DumpStep}
use Rattle.dump_streams.specs.Reading.{AddsStep}
use Rattle.host_folders.specs.Packed.{CameOf, EndsBy, AsksFor, attributes_there, found_at}
use Rattle.host_folders.specs.Steps.{Gives}
use Rattle.host_folders.specs.declared.stream.FolderStream.{FolderStream}
use Rattle.host_folders.specs.declared.stream.Place.TheVariants as places
use Rattle.host_folders.proofs.StepLemmas.{gives_folder}
use Rattle.host_folders.proofs.FaultLemmas.{err_of, begun_here, calm_behind, ends_so}
use Rattle.host_folders.proofs.stream.FolderStream.begin_folder.Goals as goal

pub returns-clause-gives : goal.returns-clause-gives
returns-clause-gives g c =
    let state = g.F.Folder.state in
    let old = c.args.self.now in
    let found = c.args.found.now in
    let reader = c.add.new.self.reader in
    subst (λ (stream : FolderStream g.row.F.Denot).
    Gives (CameOf state old)
    (CameOf state (record stream { at = stream.at + 1; place = places.Attribute found 0 })) c.make.new.self (Ok tt))
    (sym c.add.ensures.same)
    (subst (λ (step : DumpStep). Gives (CameOf state old)
    (CameOf state (record old { at = old.at + 1; place = places.Attribute found 0; reader = reader })) step (Ok tt))
    (sym c.make.ensures)
    (gives_folder state old found reader (record {
      start = c.requires.start;
      more = c.requires.more;
      here = c.requires.here;
    })
    c.requires.kind
    (subst (λ (step : DumpStep). AddsStep old.reader reader step true) c.make.ensures c.in_ok-add.ensures.added)))

pub returns-in_err-add-clause-failed : goal.returns-in_err-add-clause-failed
returns-in_err-add-clause-failed g c t was =
    let state = g.F.Folder.state in
    let old = c.args.self.now in
    let found = c.args.found.now in
    let here = ap (λ (s : FolderStream g.row.F.Denot). found_at s.place s.at s.found.items) c.add.ensures.same
    ∙ begun_here state old found (record {
      start = c.requires.start;
      more = c.requires.more;
      here = c.requires.here;
    }) in
    err_of c.from_residual.result c.in_err-add.field-0.0 (EndsBy state c.add.new.self t) c.from_residual.ensures.1
    (ends_so state old c.add.new.self t found c.make.new.self
    c.add.new.self.reader c.in_err-add.field-0.0 c.in_err-add.ensures.fault was c.in_err-add.ensures.refused here
    (subst (λ (step : DumpStep). AsksFor found (attributes_there c.add.new.self.place) step) (sym c.make.ensures)
    (refl, c.requires.kind))
    (calm_behind state old c.add.new.self c.add.new.self.reader c.add.ensures.same was.faults))
