use Rattle.std.proofs.Common.{◌≡◌, refl, sym, ap, ◌∙◌, Ok, true, subst}
use Rattle.store_model.specs.Trees.{Attributes}
use Rattle.dump_streams.specs.Dumps.{DumpStep}
use Rattle.dump_streams.specs.Dumps.DumpStep.{Set}
use Rattle.dump_streams.specs.Reading.{AddsStep}
use Rattle.dump_streams.specs.Streams.{IsNext}
use Rattle.dump_streams.proofs.DrainSteps.{next_failed}
use Rattle.host_builder.specs.HostAttributes.{link_name}
use Rattle.host_folders.specs.FoundEntries.{link_attributes}
use Rattle.host_folders.specs.Packed.{CameOf, IsPacked, EndsBy, AsksFor, attributes_there, found_at}
use Rattle.host_folders.specs.declared.stream.FolderStream.{FolderStream}
use Rattle.host_folders.specs.declared.stream.Place.{Place}
use Rattle.host_folders.specs.declared.stream.Place.TheVariants as places
use Rattle.host_folders.proofs.StepLemmas.{gives_target, next_given}
use Rattle.host_folders.proofs.FaultLemmas.{calm_behind, ends_so, only_one, set_of}
use Rattle.host_folders.proofs.stream.FolderStream.lead.Goals as goal

pub returns-clause-next : goal.returns-clause-next
returns-clause-next g c =
    let state = g.F.Folder.state in
    let old = c.args.self.now in
    let found = c.args.found.now in
    let target = c.args.target.now in
    let reader = c.add.new.self.reader in
    let step = c.set.new.self in
    let set = Set found.path link_name target in
    let set_is : step ≡ set = set_of c.attribute_name.ensures.value c.as_bytes.ensures.value c.set.ensures in
    let new = record old { place = places.Start; reader = reader } in
    subst (λ (stream : FolderStream g.row.F.Denot).
    let end = record stream { place = places.Start }
    in IsNext (CameOf state old) (CameOf state end) (IsPacked state end) (EndsBy state end) step (Ok true))
    (sym c.add.ensures.same)
    (subst (λ (d : DumpStep). IsNext (CameOf state old) (CameOf state new) (IsPacked state new)
    (EndsBy state new) d (Ok true))
    (sym set_is)
    (next_given (CameOf state old) (CameOf state new) (IsPacked state new) (EndsBy state new) _
    (gives_target state old found target reader c.requires
    (subst (λ (d : DumpStep). AddsStep old.reader reader d true) set_is c.in_ok-add.ensures.added))))

pub returns-in_err-add-clause-next : goal.returns-in_err-add-clause-next
returns-in_err-add-clause-next g c =
    let state = g.F.Folder.state in
    let old = c.args.self.now in
    let found = c.args.found.now in
    let target = c.args.target.now in
    let step = c.set.new.self in
    let set_is : step ≡ Set found.path link_name target =
    set_of c.attribute_name.ensures.value c.as_bytes.ensures.value c.set.ensures in
    let at = ap (λ (s : FolderStream g.row.F.Denot). found_at s.place s.at s.found.items) c.add.ensures.same
    ∙ ap (λ (p : Place). found_at p old.at old.found.items) c.requires in
    let there : attributes_there c.add.new.self.place ≡ link_attributes target =
    ap (λ (s : FolderStream g.row.F.Denot). attributes_there s.place) c.add.ensures.same
    ∙ ap attributes_there c.requires in
    let asks : AsksFor found (attributes_there c.add.new.self.place) step =
    subst (λ (a : Attributes). AsksFor found a step) (sym there)
    (subst (λ (d : DumpStep). AsksFor found (link_attributes target) d) (sym set_is)
    (refl, only_one (link_name, target))) in
    next_failed (CameOf state old) (CameOf state c.add.new.self) (IsPacked state c.add.new.self)
    (EndsBy state c.add.new.self) step c.from_residual.result c.in_err-add.field-0.0
    c.from_residual.ensures.1 (λ t was.
    ends_so state old c.add.new.self t found step
    c.add.new.self.reader c.in_err-add.field-0.0 c.in_err-add.ensures.fault was
    c.in_err-add.ensures.refused at asks
    (calm_behind state old c.add.new.self c.add.new.self.reader c.add.ensures.same was.faults))
