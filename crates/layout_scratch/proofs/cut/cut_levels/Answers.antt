use Rattle.std.proofs.Common.{◌++◌, sym, ap, ◌∙◌}
use Rattle.store_model.specs.Lists.{numbers_from}
use Rattle.store_model.specs.Pages.{level_pages}
use Rattle.layout_scratch.specs.Ranks.{pairs_of}
use Rattle.layout_scratch.proofs.AllLevels.{made_of_levels}
use Rattle.layout_scratch.proofs.cut.cut_levels.Goals as goal

pub loop-level-init : goal.loop-level-init
unfolding numbers_from
loop-level-init c = λ d levels. c.new-pages.ensures

pub loop-level-preserved : goal.loop-level-preserved
loop-level-preserved c = λ d levels.
    let made = level_pages d (pairs_of c.args.ranked.now) in
    c.in_ok-cut_level.ensures d levels ∙ ap (λ pages. pages ++ made c.loop-level.level)
    (c.loop-level.invariant d levels) ∙ sym (made_of_levels made c.loop-level.level)
