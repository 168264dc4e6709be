use Rattle.std.proofs.Common.{◌≡◌, refl, sym, ap, ◌∙◌, ◌+◌, Some, None, option_map, Ok, true, subst}
use Rattle.std.specs.List.{slice_get}
use Rattle.store_model.specs.Trees.{Attributes}
use Rattle.dump_streams.specs.Dumps.{DumpStep}
use Rattle.dump_streams.specs.Reading.{AddsStep}
use Rattle.dump_streams.specs.Streams.{IsNext}
use Rattle.dump_streams.proofs.DrainSteps.{next_failed}
use Rattle.host_folders.specs.Facts.{attribute_of, says}
use Rattle.host_folders.specs.FoundEntries.{own_attributes}
use Rattle.host_folders.specs.Packed.{CameOf, IsPacked, EndsBy, AsksFor, attributes_there, found_at}
use Rattle.host_folders.specs.declared.stream.FolderStream.{FolderStream}
use Rattle.host_folders.specs.declared.stream.Place.{Place}
use Rattle.host_folders.specs.declared.stream.Place.TheVariants as places
use Rattle.host_folders.proofs.StepLemmas.{gives_attribute, passes_entry, next_given, next_behind}
use Rattle.host_folders.proofs.FaultLemmas.{stands_in, calm_behind, ends_so}
use Rattle.host_folders.proofs.stream.FolderStream.attribute.Goals as goal

pub returns-in_default-clause-next : goal.returns-in_default-clause-next
returns-in_default-clause-next g c =
    let state = g.F.Folder.state in
    let old = c.args.self.now in
    let mid = record old { place = places.Start } in
    let none : slice_get (own_attributes c.args.found.now) c.args.index ≡ None =
    sym c.attribute.ensures.value ∙ ap (option_map attribute_of) c.in_default.is in
    next_behind (CameOf state old) (CameOf state mid) (CameOf state c.begin.new.self) (IsPacked state c.begin.new.self)
    (EndsBy state c.begin.new.self) c.begin.new.into c.begin.result
    (λ t was. passes_entry state old t c.args.found.now c.args.index c.requires none was) c.begin.ensures.next

pub returns-clause-next : goal.returns-clause-next
returns-clause-next g c =
    let state = g.F.Folder.state in
    let old = c.args.self.now in
    let found = c.args.found.now in
    let index = c.args.index in
    let attribute = c.in-Some.attribute in
    let reader = c.add.new.self.reader in
    let step = c.set.new.into in
    let new = record old { place = places.Attribute found (index + 1); reader = reader } in
    let here : slice_get (own_attributes found) index ≡ Some (attribute.name, says attribute.says) =
    sym c.attribute.ensures.value ∙ ap (option_map attribute_of) c.in-Some.is in
    subst (λ (stream : FolderStream g.row.F.Denot).
    let end = record stream { place = places.Attribute found (index + 1) }
    in IsNext (CameOf state old) (CameOf state end) (IsPacked state end) (EndsBy state end) step (Ok true))
    (sym c.add.ensures.same)
    (subst (λ (d : DumpStep). IsNext (CameOf state old) (CameOf state new) (IsPacked state new)
    (EndsBy state new) d (Ok true))
    (sym c.set.ensures)
    (next_given (CameOf state old) (CameOf state new) (IsPacked state new) (EndsBy state new) _
    (gives_attribute state old found index attribute.name (says attribute.says) reader c.requires here
    (subst (λ (d : DumpStep). AddsStep old.reader reader d true) c.set.ensures c.in_ok-add.ensures.added))))

pub returns-in_err-add-clause-next : goal.returns-in_err-add-clause-next
returns-in_err-add-clause-next g c =
    let state = g.F.Folder.state in
    let old = c.args.self.now in
    let found = c.args.found.now in
    let index = c.args.index in
    let attribute = c.in-Some.attribute in
    let step = c.set.new.into in
    let at = ap (λ (s : FolderStream g.row.F.Denot). found_at s.place s.at s.found.items) c.add.ensures.same
    ∙ ap (λ (p : Place). found_at p old.at old.found.items) c.requires in
    let here : slice_get (own_attributes found) index ≡ Some (attribute.name, says attribute.says) =
    sym c.attribute.ensures.value ∙ ap (option_map attribute_of) c.in-Some.is in
    let there : attributes_there c.add.new.self.place ≡ own_attributes found =
    ap (λ (s : FolderStream g.row.F.Denot). attributes_there s.place) c.add.ensures.same
    ∙ ap attributes_there c.requires in
    let asks : AsksFor found (attributes_there c.add.new.self.place) step =
    subst (λ (a : Attributes). AsksFor found a step) (sym there)
    (subst (λ (d : DumpStep). AsksFor found (own_attributes found) d) (sym c.set.ensures)
    (refl, stands_in (own_attributes found) index (attribute.name, says attribute.says) here)) in
    next_failed (CameOf state old) (CameOf state c.add.new.self) (IsPacked state c.add.new.self)
    (EndsBy state c.add.new.self) step c.from_residual.result c.in_err-add.field-0.0
    c.from_residual.ensures.1 (λ t was.
    ends_so state old c.add.new.self t found step
    c.add.new.self.reader c.in_err-add.field-0.0 c.in_err-add.ensures.fault was
    c.in_err-add.ensures.refused at asks
    (calm_behind state old c.add.new.self c.add.new.self.reader c.add.ensures.same was.faults))
