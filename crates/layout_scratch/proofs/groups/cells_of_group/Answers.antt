use Rattle.std.proofs.Common.{[], ◌∷◌, ◌++◌, List, take, ap, ap₂, sym, ◌∙◌}
use Rattle.std.proofs.lemmas.List.{append-nil, take_all}
use Rattle.store_model.specs.Pages.{Cell}
use Rattle.node_pages.specs.Cells.{CellList}
use Rattle.layout_scratch.specs.Ranks.{cells_on}
use Rattle.layout_scratch.proofs.LevelCells.{cells_on-stays, cells_on-skips, cells_on-more}
use Rattle.layout_scratch.proofs.groups.cells_of_group.Goals as goal
use Rattle.layout_scratch.proofs.groups.cells_of_group.Goals.{then-level-ranked+in_ok-cell+in_ok-push}
use Rattle.layout_scratch.proofs.groups.cells_of_group.Goals.{else-level-ranked}

pub loop-ranked-preserved : goal.loop-ranked-preserved
loop-ranked-preserved c =
    let level = c.args.level in
    let group = c.args.group.now in
    let r = c.ranked-item.result in
    let done = cells_on level (take c.loop-ranked.ranked-index group) in
    let more = sym (cells_on-more level group c.loop-ranked.ranked-index r c.loop-ranked-test.true c.ranked-item.is) in
    let list : List Cell → CellList = λ cells. record { level = level; cells = cells } in
    let done_is = c.loop-ranked.invariant in
    elim c.if-level-ranked.branch [
      | then-level-ranked+in_ok-cell+in_ok-push w ↦ w.cells-is ∙ w.in_ok-push.ensures.ok
          ∙ ap₂ (λ (l : CellList) (cell : Cell). record {
            level = l.level;
            cells = l.cells ++ cell ∷ [];
          }) done_is w.in_ok-cell.ensures.value
          ∙ ap list (ap (λ cells. done ++ cells) (sym (cells_on-stays level r [] w.if-level-ranked.true)) ∙ more)
      | else-level-ranked w ↦ w.cells-is ∙ done_is
          ∙ ap list (sym (append-nil done) ∙ ap (λ cells. done ++ cells)
          (sym (cells_on-skips level r [] w.if-level-ranked.false)) ∙ more)
    ]

pub returns : goal.returns
returns c = c.loop-ranked.invariant ∙ ap (λ group. record { level = c.args.level; cells = cells_on c.args.level group })
    (take_all c.loop-ranked.ranked-index c.args.group.now c.loop-ranked-test.false)
