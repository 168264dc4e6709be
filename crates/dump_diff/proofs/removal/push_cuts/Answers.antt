use Rattle.std.proofs.Common.{◌≡◌, ◌<◌, ◌≤◌, List, length, map, get_or, ap, subst, ◌∙◌}
use Rattle.dump_diff.specs.declared.difference.Difference.{Difference}
use Rattle.dump_diff.specs.Differences.{marks_of}
use Rattle.dump_diff.specs.Scripts.{commands_in, cut_commands, removal_command}
use Rattle.dump_diff.proofs.Removing.{pushed_none, pushed_item, pushed_all}
use Rattle.dump_diff.proofs.removal.push_cuts.Goals as goal

pub loop-difference-init : goal.loop-difference-init
loop-difference-init c rising = pushed_none (map removal_command c.args.removals.now.items)

pub loop-difference-preserved : goal.loop-difference-preserved
loop-difference-preserved c rising =
    let items = c.args.found.now.paths.items in
    let within : c.loop-difference.difference-index < length items =
    subst (λ (xs : List Difference). c.loop-difference.difference-index < length xs)
    c.paths-difference-items.ensures c.loop-difference-test.true in
    let at : c.difference-item.result ≡ get_or items c.loop-difference.difference-index c.difference-item.result =
    c.difference-item.is
    ∙ ap (λ (xs : List Difference). get_or xs c.loop-difference.difference-index c.difference-item.result)
    c.paths-difference-items.ensures in
    pushed_item (map removal_command c.args.removals.now.items) (map removal_command c.loop-difference.removals.items)
    (map removal_command c.push_if.new.removals.items)
    (cut_commands (marks_of items)) items c.loop-difference.difference-index c.difference-item.result
    (commands_in c.cut_of.result)
    (c.cut_of.ensures rising) within at (c.loop-difference.invariant rising) c.in_ok-push_if.ensures

pub returns : goal.returns
returns c rising =
    let items = c.args.found.now.paths.items in
    let past : length items ≤ c.loop-difference.difference-index =
    subst (λ (xs : List Difference). length xs ≤ c.loop-difference.difference-index) c.paths-difference-items.ensures
    c.loop-difference-test.false in
    pushed_all (map removal_command c.args.removals.now.items) (map removal_command c.loop-difference.removals.items)
    (cut_commands (marks_of items)) items c.loop-difference.difference-index past (c.loop-difference.invariant rising)
