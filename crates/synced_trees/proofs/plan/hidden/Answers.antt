use Rattle.std.proofs.Common.{◌≡◌, ◌≤◌, ◌<◌, List, length, get_or, sym, ap, subst, ◌∙◌}
use Rattle.std.specs.List.{list_any}
use Rattle.std.proofs.lemmas.List.{take_all}
use Rattle.dump_diff.specs.declared.difference.Difference.{Difference}
use Rattle.dump_diff.specs.Differences.{marks_of}
use Rattle.synced_trees.proofs.Planned.{hiding_so, none_so, item_known, is_hidden_at}
use Rattle.synced_trees.proofs.plan.hidden.Goals as goal

pub returns-then-is_hidden-clause-some : goal.returns-then-is_hidden-clause-some
returns-then-is_hidden-clause-some c rising =
    let items : List Difference = c.args.found.now.paths.items in
    let d : Difference = c.difference-item.result in
    let at : d ≡ get_or items c.loop-difference.difference-index d =
    subst (λ (xs : List Difference). d ≡ get_or xs c.loop-difference.difference-index d)
    c.paths-difference-items.ensures c.difference-item.is in
    let below : c.loop-difference.difference-index < length items =
    subst (λ (xs : List Difference). c.loop-difference.difference-index < length xs) c.paths-difference-items.ensures
    c.loop-difference-test.true in
    hiding_so items d c.above.result (item_known items c.loop-difference.difference-index d rising.paths below at)
    c.above.ensures (sym (c.is_hidden.ensures rising) ∙ c.if-is_hidden.true)

pub returns-clause-none : goal.returns-clause-none
returns-clause-none c rising =
    let items : List Difference = c.args.found.now.paths.items in
    let past : length items ≤ c.loop-difference.difference-index =
    subst (λ (xs : List Difference). length xs ≤ c.loop-difference.difference-index) c.paths-difference-items.ensures
    c.loop-difference-test.false in
    none_so items (ap (list_any (is_hidden_at (marks_of items)))
    (sym (take_all c.loop-difference.difference-index items past)) ∙ c.loop-difference.invariant rising)
