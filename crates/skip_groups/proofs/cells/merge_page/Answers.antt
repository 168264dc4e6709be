use Rattle.std.proofs.Common.{◌≡◌, ◌++◌, List, drop, ap, subst, ◌∙◌, arith}
use Rattle.std.proofs.lemmas.List.{take_all}
use Rattle.store_base.specs.Leads.{model_lead}
use Rattle.store_model.specs.Pages.{Cell}
use Rattle.skip_groups.specs.Floors.{last_of, lead_from}
use Rattle.skip_groups.specs.GroupCells.{AreCells}
use Rattle.skip_groups.proofs.CellLists.{merged_cells}
use Rattle.skip_groups.proofs.cells.merge_page.Goals as goal

pub returns-clause-merged : goal.returns-clause-merged
returns-clause-merged c valid =
    let level = c.args.level in
    let start = c.args.cells.now in
    let cells = c.args.page.now.cells in
    let first = c.append_rising.new.cells in
    let second = c.append_own.new.cells in
    let third = c.append_rising-2.new.cells in
    let key = c.args.key.now in
    let above = ap (drop c.places_of-at.result.1) (take_all c.len.result cells (omega (arith, c.len.ensures.value)))
    ∙ c.places_of-at.ensures.between.high in
    let made = merged_cells level key start.cells c.args.own.now cells cells
    first.cells second.cells third.cells c.requires.empty valid
    (subst (λ (xs : List Cell). AreCells level (start.cells ++ xs) → first.cells ≡ start.cells ++ xs)
    c.places_of-at.ensures.between.low c.in_ok-append_rising.ensures.added)
    c.in_ok-append_own.ensures.added
    (subst (λ (xs : List Cell). AreCells level (second.cells ++ xs) → third.cells ≡ second.cells ++ xs) above
    c.in_ok-append_rising-2.ensures.added) in
    record {
      next = c.lead_behind-next.ensures ∙ ap (λ xs. lead_from (last_of xs) (model_lead c.args.lead.now)) made.0;
      cells = made.1;
    }
