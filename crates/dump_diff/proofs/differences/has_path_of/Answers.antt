use Rattle.std.proofs.Common.{rules, ◌∙◌}
use Rattle.std.proofs.lemmas.Fn.{always_returns_same}
use Rattle.store_model.specs.Paths.{path_cmp}
use Rattle.dump_diff.specs.declared.difference.AttributeDifference.{AttributeDifference}
use Rattle.dump_diff.proofs.Counting.{path_searched}
use Rattle.dump_diff.proofs.differences.has_path_of.Goals as goal

-- the closure compares an item's path with the given one
pub returns : goal.returns
returns c sorted =
    let by_path = c.binary_search_by.ensures.position (λ (a : AttributeDifference). path_cmp a.path c.args.path.now)
    (always_returns_same _ _ _ (λ a r f' k. search rules)) in
    c.is_ok.ensures.value
    ∙ path_searched c.args.attributes.now c.args.path.now c.binary_search_by.result c.binary_search_by.ensures.bound
    by_path sorted
