use Rattle.std.proofs.Common.{length, ap₂, ◌∙◌}
use Rattle.std.specs.Int.{div_ceil}
use Rattle.layout_scratch.specs.Ranks.{cells_on}
use Rattle.layout_scratch.proofs.LevelGroups.{first_from}
use Rattle.layout_scratch.proofs.LevelCounts.{count_none, count_more, count_all, div_ceil-room}
use Rattle.layout_scratch.proofs.count.level_page_count.Goals as goal

pub loop-start-init : goal.loop-start-init
loop-start-init c = count_none c.args.level c.args.ranked.now

pub loop-start-preserved : goal.loop-start-preserved
loop-start-preserved c =
    let level = c.args.level in
    let ranked = c.args.ranked.now in
    let group = c.first_group-group.result.now in
    let first = first_from level ranked group c.loop-start.start c.first_group-group.ensures in
    let pages = c.div_ceil-count.ensures ∙ ap₂ div_ceil c.cell_count.ensures (c.from-room.ensures ∙ c.room.ensures)
    ∙ div_ceil-room level (length (cells_on level group)) in
    count_more level ranked group c.loop-start.count c.loop-start.start c.div_ceil-count.result
    c.loop-start.invariant first pages

pub returns-clause-value : goal.returns-clause-value
returns-clause-value c =
    count_all c.args.level c.args.ranked.now c.loop-start.count c.loop-start.start c.loop-start.invariant
    c.loop-start-test.false
