use Rattle.std.proofs.Common.{◌≡◌, ◌≢◌, Bool, true, false, Some, refl, sym, ap, ◌∙◌}
use Rattle.std.proofs.lemmas.Map.Steps.{set_value_same}
use Rattle.std.specs.BTreeMap.{is_at}
use Rattle.store_model.specs.Labels.{label_cmp}
use Rattle.page_store.proofs.CellCalls.{written_cell}
use Rattle.page_store.proofs.changes.Changes.insert_staged.Goals as goal

was_false : (b : Bool) → Some b ≢ Some true → b ≡ false
was_false true is_not = absurd (is_not refl)
was_false false is_not = refl

pub returns-in-Some-clause-done : goal.returns-in-Some-clause-done
returns-in-Some-clause-done c = λ memo is.
    let old = c.args.self.now.pages.entries in
    let now = c.insert_into.new.change in
    let did : c.insert_into.result ≡ true = cc in
    written_cell old (c.get_mut.follows.lender now).entries memo
    c.args.label.now c.args.at c.args.cell.now c.in-Some.change.now now (sym c.in-Some.ensures.value)
    (c.insert_into.ensures.done did) (c.get_mut.follows.holds now).0

pub returns-in-Some-clause-kept : goal.returns-in-Some-clause-kept
returns-in-Some-clause-kept c = λ is_not.
    let old = c.args.self.now.pages.entries in
    let now = c.insert_into.new.change in
    let same = c.insert_into.ensures.kept (was_false c.insert_into.result is_not) in
    (c.get_mut.follows.holds now).0
    ∙ set_value_same (is_at (label_cmp c.args.label.now)) old now (sym c.in-Some.ensures.value ∙ ap Some (sym same))
