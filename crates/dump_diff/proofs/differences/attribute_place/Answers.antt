use Rattle.std.proofs.Common.{rules}
use Rattle.std.proofs.lemmas.Fn.{always_returns_same}
use Rattle.dump_diff.specs.Scripts.{attribute_cmp}
use Rattle.dump_diff.specs.declared.difference.AttributeDifference.{AttributeDifference}
use Rattle.dump_diff.proofs.Searching.{found_by_search, attribute_total}
use Rattle.dump_diff.proofs.differences.attribute_place.Goals as goal

-- the closure compares an item's path and name with the given ones
pub returns-clause-found : goal.returns-clause-found
returns-clause-found c =
    let by_place = c.binary_search_by.ensures.position
    (λ (a : AttributeDifference). attribute_cmp (a.path, a.name) (c.args.path.now, c.args.name.now))
    (always_returns_same _ _ _ (λ a r f' k. search rules)) in
    found_by_search attribute_total (λ (a : AttributeDifference). (a.path, a.name))
    (λ (a : AttributeDifference). a.side) _ _ _ c.binary_search_by.ensures.bound by_place
