use Rattle.std.proofs.Common.{ap, ◌∙◌, ◌+◌, Ok, sym, subst}
use Rattle.host_folders.specs.Packed.{CameOf, EndsBy, attributes_there, found_at}
use Rattle.host_folders.specs.Steps.{Gives}
use Rattle.host_folders.specs.declared.stream.FolderStream.{FolderStream}
use Rattle.host_folders.specs.declared.stream.Place.{Place}
use Rattle.host_folders.proofs.StepLemmas.{gives_file}
use Rattle.host_folders.proofs.FaultLemmas.{err_of, begun_here, asks_piece, calm_behind, ends_so}
use Rattle.host_folders.proofs.stream.FolderStream.begin_file.Goals as goal

pub returns-clause-gives : goal.returns-clause-gives
returns-clause-gives g c =
    let state = g.F.Folder.state in
    let old = c.args.self.now in
    let found = c.args.found.now in
    let step = c.read_piece.new.into in
    subst (λ (stream : FolderStream g.row.F.Denot).
    Gives (CameOf state old)
    (CameOf state (record stream { at = stream.at + 1; place = c.place_behind-self.result })) step (Ok tt))
    (sym c.add.ensures.same)
    (subst (λ (place : Place). Gives (CameOf state old)
    (CameOf state (record old {
      folder = c.read_piece.new.folder;
      at = old.at + 1;
      place = place;
      told = c.in_ok-told.told;
      reader = c.add.new.self.reader;
    })) step (Ok tt))
    (sym c.place_behind-self.ensures)
    (gives_file state old found c.requires.kind.0 c.in_ok-told.told c.open.new.self c.read_piece.new.folder step
    c.in_ok-count.count c.add.new.self.reader (record {
      start = c.requires.start;
      more = c.requires.more;
      here = c.requires.here;
    })
    c.requires.kind.1 c.in_ok-told.ensures
    c.read_piece.ensures.observable c.in_ok-count.ensures.faults c.in_ok-count.ensures.piece
    c.in_ok-add.ensures.added))

pub returns-in_err-add-clause-failed : goal.returns-in_err-add-clause-failed
returns-in_err-add-clause-failed g c t was =
    let state = g.F.Folder.state in
    let old = c.args.self.now in
    let found = c.args.found.now in
    let step = c.read_piece.new.into in
    let here = ap (λ (s : FolderStream g.row.F.Denot). found_at s.place s.at s.found.items) c.add.ensures.same
    ∙ begun_here state old found (record {
      start = c.requires.start;
      more = c.requires.more;
      here = c.requires.here;
    }) in
    let asks = asks_piece found (attributes_there c.add.new.self.place) step 0 c.in_ok-count.ensures.piece.bytes
    c.in_ok-count.ensures.piece.step_is c.requires.kind in
    let mid = record old { folder = c.read_piece.new.folder; told = c.in_ok-told.told } in
    let calm = calm_behind state mid c.add.new.self c.add.new.self.reader c.add.ensures.same
    (c.in_ok-count.ensures.faults ∙ c.in_ok-told.ensures.faults ∙ was.faults) in
    err_of c.from_residual-in_err-add.result c.in_err-add.field-0.0 (EndsBy state c.add.new.self t)
    c.from_residual-in_err-add.ensures.1
    (ends_so state old c.add.new.self t found step
    c.add.new.self.reader c.in_err-add.field-0.0 c.in_err-add.ensures.fault was
    c.in_err-add.ensures.refused here asks calm)
