use Rattle.std.proofs.Common.{◌+◌, length, drop, ap, ◌∙◌}
use Rattle.std.specs.List.{take_while}
use Rattle.std.proofs.lemmas.List.{take_rest}
use Rattle.std.proofs.lemmas.List.Folds.{length-prefix_len}
use Rattle.layout_scratch.proofs.LevelGroups.{follows_on, first_is}
use Rattle.layout_scratch.proofs.groups.first_group.Goals as goal

pub returns : goal.returns
returns c =
    let ranked = c.args.ranked.now in
    let passes = follows_on c.args.level in
    let followers = c.follower_count.ensures ∙ ap (λ rs. length (take_while passes rs)) (take_rest ranked 1)
    ∙ length-prefix_len passes (drop 1 ranked) in
    first_is c.args.level (1 + c.follower_count.result) ranked c.requires (ap (λ k. 1 + k) followers)
