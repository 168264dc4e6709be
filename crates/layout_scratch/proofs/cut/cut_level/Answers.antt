use Rattle.std.proofs.Common.{◌++◌, map, drop, length, sym, ap₂, subst, ◌∙◌}
use Rattle.std.specs.List.Sorted.{IsStrictlySortedBy}
use Rattle.store_model.specs.Paths.{key_cmp}
use Rattle.store_model.specs.Pages.{group_pages}
use Rattle.node_pages.specs.Cells.{CellList}
use Rattle.layout_scratch.proofs.LevelGroups.{first_from}
use Rattle.layout_scratch.proofs.LevelPages.{level_none, level_all, level_more, rising_cells, rising_group}
use Rattle.layout_scratch.proofs.cut.cut_level.Goals as goal

pub loop-start-init : goal.loop-start-init
loop-start-init c = level_none c.args.level c.args.ranked.now c.args.pages.now c.requires

pub append_group-requires : goal.append_group-requires
append_group-requires c =
    let level = c.args.level in
    let ranked = c.args.ranked.now in
    let start = c.loop-start.start in
    let group = c.first_group-group.result.now in
    let behind = drop (length group) (drop start ranked) in
    let first = first_from level ranked group start c.first_group-group.ensures in
    subst (λ (list : CellList). IsStrictlySortedBy key_cmp (map (λ cell. cell.key) list.cells))
    (sym c.in_ok-cells.ensures)
    (rising_cells level group (rising_group level ranked group behind c.args.pages.now c.loop-start.pages start
    c.loop-start.invariant first.whole))

pub loop-start-preserved : goal.loop-start-preserved
loop-start-preserved c =
    let level = c.args.level in
    let ranked = c.args.ranked.now in
    let start = c.loop-start.start in
    let group = c.first_group-group.result.now in
    let pages = c.loop-start.pages in
    let first = first_from level ranked group start c.first_group-group.ensures in
    level_more level ranked group c.args.pages.now pages c.append_group.new.pages start c.loop-start.invariant first
    (λ d levels. c.in_ok-append_group.ensures.ok
    ∙ ap₂ (λ lead (list : CellList). pages ++ group_pages list.level lead list.cells)
    (c.lead_of_group.ensures d levels) c.in_ok-cells.ensures)

pub returns : goal.returns
returns c = λ d levels. level_all c.args.level c.args.ranked.now c.args.pages.now c.loop-start.pages c.loop-start.start
    c.loop-start.invariant c.loop-start-test.false d levels
