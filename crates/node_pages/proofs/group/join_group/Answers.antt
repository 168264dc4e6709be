use Rattle.std.proofs.Common.{◌≡◌, ◌==◌, ℕ, List, Result, Ok, Err, IfOk, ap, ◌∙◌}
use Rattle.std.specs.List.{filter, flat_map}
use Rattle.store_model.specs.Pages.{Page}
use Rattle.node_pages.specs.Cells.{CellList}
use Rattle.node_pages.specs.Groups.{level_of_pages}
use Rattle.node_pages.proofs.Joined.{joined_group}
use Rattle.node_pages.proofs.group.join_group.Goals as goal

-- what holds of each value holds of the value, if there is one
of_ok : {T E : Type 0} (P Q : T → Type 0) (answer : Result T E) → ((value : T) → P value → Q value)
    → IfOk answer P → IfOk answer Q
of_ok P Q (Ok value) follows holds = follows value holds
of_ok P Q (Err fault) follows holds = holds

pub returns-clause-group : goal.returns-clause-group
returns-clause-group c level lead cells of_group =
    let joined : ℕ → List Page → CellList = λ first pages. record {
      level = first;
      cells = flat_map (λ page. page.cells) (filter (λ page. page.label.level == first) pages);
    } in
    of_ok (λ value. value ≡ joined c.level_of.result c.args.pages.now) (λ value. value.cells ≡ cells)
    c.join_level.result
    (λ value is. ap (λ (l : CellList). l.cells)
    (is ∙ ap (λ first. joined first c.args.pages.now) c.level_of.ensures
    ∙ ap (λ pages. joined (level_of_pages pages) pages) of_group)
    ∙ joined_group level lead cells)
    (c.join_level.ensures)
