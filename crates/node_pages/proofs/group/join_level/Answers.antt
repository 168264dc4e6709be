use Rattle.std.proofs.Common.{◌≡◌, ◌==◌, List, ap, sym, ◌∙◌}
use Rattle.std.specs.List.{filter, flat_map}
use Rattle.std.proofs.lemmas.List.{take_all}
use Rattle.store_model.specs.Labels.{Label}
use Rattle.store_model.specs.Pages.{Page}
use Rattle.node_pages.specs.Cells.{CellList}
use Rattle.node_pages.proofs.Joined.{cells_of_group, group_of_level, joined_page, passed_page}
use Rattle.node_pages.proofs.group.join_level.Goals as goal
use Rattle.node_pages.proofs.group.join_level.Goals.{then-label-level+in_ok-append_from, else-label-level}

pub loop-page-preserved : goal.loop-page-preserved
loop-page-preserved c =
    let level = c.args.level in
    let pages = c.as_slice-page-items.result.now in
    let page = c.page-item.result in
    let level_is : c.label-in-loop-page.inside.level ≡ page.label.level =
    ap (λ (l : Label). l.level) (c.label-in-loop-page.view_is ∙ c.label.ensures.value) in
    elim c.if-label-level.branch [
      | then-label-level+in_ok-append_from w ↦
          w.cells-is ∙ joined_page level pages c.loop-page.page-index page
          c.loop-page-test.true c.page-item.is c.loop-page.cells _
          w.len.result (sym level_is ∙ w.if-label-level.true)
          w.len.ensures.value c.loop-page.invariant w.in_ok-append_from.ensures.ok
      | else-label-level w ↦
          w.cells-is ∙ passed_page level pages c.loop-page.page-index page
          c.loop-page-test.true c.page-item.is c.loop-page.cells (λ same. w.if-label-level.false (level_is ∙ same))
          c.loop-page.invariant
    ]
