use Rattle.std.proofs.Common.{◌≡◌, [], true, ap, ◌∙◌, ◌+◌, Ok, sym, subst}
use Rattle.dump_streams.specs.Dumps.{DumpStep}
use Rattle.dump_streams.specs.Dumps.DumpStep.{Write}
use Rattle.dump_streams.specs.Reading.{AddsStep}
use Rattle.host_folders.specs.Packed.{CameOf, EndsBy, attributes_there, found_at}
use Rattle.host_folders.specs.Steps.{Gives}
use Rattle.host_folders.specs.declared.stream.FolderStream.{FolderStream}
use Rattle.host_folders.specs.declared.stream.Place.TheVariants as places
use Rattle.host_folders.proofs.StepLemmas.{gives_link}
use Rattle.host_folders.proofs.FaultLemmas.{err_of, begun_here, asks_link, calm_behind, ends_so}
use Rattle.host_folders.proofs.stream.FolderStream.begin_link.Goals as goal

pub returns-clause-gives : goal.returns-clause-gives
returns-clause-gives g c =
    let state = g.F.Folder.state in
    let old = c.args.self.now in
    let found = c.args.found.now in
    let target = c.in_ok-target.target in
    let reader = c.add.new.self.reader in
    let step = c.write.new.self in
    let step_is : step ≡ Write found.path 0 [] = c.write.ensures in
    subst (λ (stream : FolderStream g.row.F.Denot).
    Gives (CameOf state old)
    (CameOf state (record stream { at = stream.at + 1; told = 0; place = places.Target found target })) step (Ok tt))
    (sym c.add.ensures.same)
    (subst (λ (d : DumpStep). Gives (CameOf state old)
    (CameOf state (record old {
      folder = c.target.new.self;
      at = old.at + 1;
      place = places.Target found target;
      told = 0;
      reader = reader;
    })) d (Ok tt))
    (sym step_is)
    (gives_link state old found c.target.new.self target reader (record {
      start = c.requires.start;
      more = c.requires.more;
      here = c.requires.here;
    })
    c.requires.kind c.in_ok-target.ensures
    (subst (λ (d : DumpStep). AddsStep old.reader reader d true) step_is c.in_ok-add.ensures.added)))

pub returns-in_err-add-clause-failed : goal.returns-in_err-add-clause-failed
returns-in_err-add-clause-failed g c t was =
    let state = g.F.Folder.state in
    let old = c.args.self.now in
    let found = c.args.found.now in
    let step = c.write.new.self in
    let here = ap (λ (s : FolderStream g.row.F.Denot). found_at s.place s.at s.found.items) c.add.ensures.same
    ∙ begun_here state old found (record {
      start = c.requires.start;
      more = c.requires.more;
      here = c.requires.here;
    }) in
    let asks = asks_link found (attributes_there c.add.new.self.place) step c.write.ensures c.requires.kind in
    let mid = record old { folder = c.target.new.self } in
    let calm = calm_behind state mid c.add.new.self c.add.new.self.reader c.add.ensures.same
    (c.in_ok-target.ensures.faults ∙ was.faults) in
    err_of c.from_residual-in_err-add.result c.in_err-add.field-0.0 (EndsBy state c.add.new.self t)
    c.from_residual-in_err-add.ensures.1
    (ends_so state old c.add.new.self t found step
    c.add.new.self.reader c.in_err-add.field-0.0 c.in_err-add.ensures.fault was
    c.in_err-add.ensures.refused here asks calm)
