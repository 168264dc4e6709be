use Rattle.std.proofs.Common.{rules}
use Rattle.std.proofs.lemmas.Fn.{always_returns_same}
use Rattle.store_model.specs.Paths.{path_cmp}
use Rattle.store_model.proofs.TreesLemmasPaths.{path_cmp_total}
use Rattle.dump_diff.specs.declared.difference.Difference.{Difference}
use Rattle.dump_diff.proofs.Searching.{found_by_search}
use Rattle.dump_diff.proofs.differences.place_of.Goals as goal

-- the closure compares an item's path with the given one
pub returns-clause-found : goal.returns-clause-found
returns-clause-found c =
    let by_path = c.binary_search_by.ensures.position (λ (d : Difference). path_cmp d.path c.args.path.now)
    (always_returns_same _ _ _ (λ a r f' k. search rules)) in
    found_by_search path_cmp_total (λ (d : Difference). d.path)
    (λ (d : Difference). d.mark) _ _ _ c.binary_search_by.ensures.bound by_path
