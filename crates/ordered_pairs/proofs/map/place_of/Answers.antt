use Rattle.std.proofs.Common.{rules}
use Rattle.std.proofs.lemmas.Fn.{always_returns_same}
use Rattle.store_model.specs.Paths.{key_cmp}
use Rattle.store_model.specs.Pairs.{Pair}
use Rattle.node_pages.proofs.PlaceLemmas.{searched}
use Rattle.ordered_pairs.proofs.map.place_of.Goals as goal

-- the closure compares a pair's key with the given one
pub returns : goal.returns
returns c =
    let by_key = c.binary_search_by.ensures.position (λ (pair : Pair). key_cmp pair.0 c.args.key.now)
    (always_returns_same _ _ _ (λ a r f' k. search rules)) in
    searched _ _ _ c.requires c.binary_search_by.ensures.bound by_key
