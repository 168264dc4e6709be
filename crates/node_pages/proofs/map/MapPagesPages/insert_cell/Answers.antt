use Rattle.std.proofs.Common.{refl, rules}
use Rattle.std.specs.Box.{with_value}
use Rattle.node_pages.proofs.EntryLemmas.{no_page}
use Rattle.node_pages.proofs.CellInserts.{inserted_in, cell_inserted, has_no_place}
use Rattle.node_pages.proofs.map.MapPagesPages.insert_cell.Goals as goal

pub invariant_of-self : goal.invariant_of-self
invariant_of-self c =
    let stands = rw c.deref.ensures.value at c.in-Ok.ensures in
    let done = cell_inserted _ c.args.self.now.pages.items c.args.self.now.sorted c.args.self.now.valid c.args.label.now
    c.args.at c.args.cell.now c.in-Ok.place c.index_mut.result.now
    (with_value c.index_mut.result.now c.insert-takes.new.self)
    c.deref_mut.result.now c.insert-takes.result c.requires.place c.index_mut.ensures.value
    c.deref_mut.ensures.value stands c.insert-takes.ensures.takes c.insert-takes.ensures.value in
    record { sorted = done.left.sorted; valid = done.left.valid }

pub returns-clause-call : goal.returns-clause-call
returns-clause-call c =
    let stands = rw c.deref.ensures.value at c.in-Ok.ensures in
    let done = cell_inserted _ c.args.self.now.pages.items c.args.self.now.sorted c.args.self.now.valid c.args.label.now
    c.args.at c.args.cell.now c.in-Ok.place c.index_mut.result.now
    (with_value c.index_mut.result.now c.insert-takes.new.self)
    c.deref_mut.result.now c.insert-takes.result c.requires.place c.index_mut.ensures.value
    c.deref_mut.ensures.value stands c.insert-takes.ensures.takes c.insert-takes.ensures.value in
    record {
      faults = refl;
      lookups = refl;
      hidden = λ o. tt;
      observed = λ o page found. record {
        observable = tt;
        changed = inserted_in _ _ c.args.label.now _ page c.args.at c.args.cell.now _ done found;
        unchanged = tt;
      };
    }

-- the page is there, and takes the cell
pub unreachable-requires : goal.unreachable-requires
unreachable-requires c =
    let lacks = rw c.deref.ensures.value at c.in_default.ensures in
    has_no_place _ c.args.label.now c.args.at c.args.cell.now c.requires.place
    (no_page _ c.args.self.now.sorted c.args.self.now.valid c.args.label.now c.in_default.field-0 lacks)

pub prove-unreachable-requires : goal.prove-unreachable-requires
prove-unreachable-requires c =
    let stands = rw c.deref.ensures.value at c.in-Ok.ensures in
    let done = cell_inserted _ c.args.self.now.pages.items c.args.self.now.sorted c.args.self.now.valid c.args.label.now
    c.args.at c.args.cell.now c.in-Ok.place c.index_mut.result.now
    (with_value c.index_mut.result.now c.insert-takes.new.self)
    c.deref_mut.result.now c.insert-takes.result c.requires.place c.index_mut.ensures.value
    c.deref_mut.ensures.value stands c.insert-takes.ensures.takes c.insert-takes.ensures.value in
    let took = done.took_it in
    search rules
