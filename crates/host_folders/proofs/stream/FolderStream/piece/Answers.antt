use Rattle.std.proofs.Common.{ap, ◌∙◌, Ok, sym, true, subst}
use Rattle.dump_streams.specs.Streams.{IsNext}
use Rattle.dump_streams.proofs.DrainSteps.{next_failed}
use Rattle.host_folders.specs.Packed.{CameOf, IsPacked, EndsBy, attributes_there, found_at}
use Rattle.host_folders.specs.declared.stream.FolderStream.{FolderStream}
use Rattle.host_folders.specs.declared.stream.Place.{Place}
use Rattle.host_folders.specs.declared.stream.Place.TheVariants as places
use Rattle.host_folders.proofs.StepLemmas.{gives_piece, passes_file, next_given, next_behind}
use Rattle.host_folders.proofs.FaultLemmas.{asks_piece, calm_behind, read_kind, ends_so}
use Rattle.host_folders.proofs.stream.FolderStream.piece.Goals as goal

pub returns-then-count-eq0-clause-next : goal.returns-then-count-eq0-clause-next
returns-then-count-eq0-clause-next g c =
    let state = g.F.Folder.state in
    let old = c.args.self.now in
    let mid = record old { folder = c.read_piece.new.folder; place = places.Attribute c.args.found.now 0 } in
    next_behind (CameOf state old) (CameOf state mid) (CameOf state c.attribute.new.self)
    (IsPacked state c.attribute.new.self)
    (EndsBy state c.attribute.new.self) c.attribute.new.into c.attribute.result
    (λ t was.
    passes_file state old t c.args.found.now c.args.at c.read_piece.new.folder c.read_piece.new.into
    c.in_ok-count.count c.requires c.read_piece.ensures.observable c.in_ok-count.ensures.faults
    c.in_ok-count.ensures.piece c.if-count-eq0.true was) c.attribute.ensures.next

pub returns-clause-next : goal.returns-clause-next
returns-clause-next g c =
    let state = g.F.Folder.state in
    let old = c.args.self.now in
    let step = c.read_piece.new.into in
    let given = λ (new : FolderStream g.row.F.Denot). IsNext (CameOf state old) (CameOf state new) (IsPacked state new)
    (EndsBy state new) step (Ok true) in
    let now = c.read_piece.new.folder in
    let reader = c.add.new.self.reader in
    subst (λ (stream : FolderStream g.row.F.Denot). given (record stream { place = c.place_behind-self.result }))
    (sym c.add.ensures.same)
    (subst (λ (place : Place). given (record old { folder = now; place = place; reader = reader }))
    (sym c.place_behind-self.ensures)
    (next_given (CameOf state old) _ _ _ step
    (gives_piece state old c.args.found.now c.args.at now step c.in_ok-count.count reader
    c.requires c.read_piece.ensures.observable c.in_ok-count.ensures.faults c.in_ok-count.ensures.piece
    c.in_ok-add.ensures.added)))

pub returns-in_err-add-clause-next : goal.returns-in_err-add-clause-next
returns-in_err-add-clause-next g c =
    let state = g.F.Folder.state in
    let old = c.args.self.now in
    let found = c.args.found.now in
    let step = c.read_piece.new.into in
    let here = ap (λ (s : FolderStream g.row.F.Denot). found_at s.place s.at s.found.items) c.add.ensures.same
    ∙ ap (λ (p : Place). found_at p old.at old.found.items) c.requires in
    next_failed (CameOf state old) (CameOf state c.add.new.self) (IsPacked state c.add.new.self)
    (EndsBy state c.add.new.self) step c.from_residual-in_err-add.result c.in_err-add.field-0.0
    c.from_residual-in_err-add.ensures.1 (λ t was.
    let asks = asks_piece found (attributes_there c.add.new.self.place) step c.args.at
    c.in_ok-count.ensures.piece.bytes c.in_ok-count.ensures.piece.step_is
    (read_kind state old found c.args.at t c.requires was) in
    let mid = record old { folder = c.read_piece.new.folder } in
    ends_so state old c.add.new.self t found step
    c.add.new.self.reader c.in_err-add.field-0.0 c.in_err-add.ensures.fault was
    c.in_err-add.ensures.refused here asks
    (calm_behind state mid c.add.new.self c.add.new.self.reader c.add.ensures.same
    (c.in_ok-count.ensures.faults ∙ was.faults)))
