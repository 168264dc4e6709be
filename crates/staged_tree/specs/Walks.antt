-- A stream of the pairs of a tree: where it stands in the tree's pages, and what it gives next.
use Rattle.std.specs.Prelude.{◌≡◌, ◌↔◌, List, [], ◌∷◌, ◌++◌, Option, Some, None, Result, Ok, Err, IfSome}
use Rattle.store_model.specs.Parameters.{Parameters}
use Rattle.store_model.specs.Trees.{Tree}
use Rattle.store_model.specs.Draws.{draw_of}
use Rattle.store_model.specs.Pairs.{Pair, pairs}
use Rattle.store_model.specs.Pages.{pages}
use Rattle.store_model.specs.PageMaps.{map_of_pages}
use Rattle.pair_stream.specs.Streams.{StandsBehind}
use Rattle.pair_stream.specs.declared.places.PairStream.{PairStream}

-- in the pages of a tree a stream stands after these pairs, which are the first of the tree's
abbrev pub StandsIn : Tree → Parameters → List Pair → PairStream → Type 0
StandsIn t p passed stream = StandsBehind (draw_of p) (pairs t p) (map_of_pages (pages t p)) passed stream

-- the pairs that are passed after a call for one more
abbrev pub passed_after : {E : Type 0} → List Pair → Result (Option Pair) E → List Pair
passed_after passed (Ok (Some pair)) = passed ++ pair ∷ []
passed_after passed (Ok None) = passed
passed_after passed (Err fault) = passed

-- what comes after these first pairs of a list: one more pair, or none exactly where they are all
pub record IsNextIn (s passed : List Pair) (pair : Option Pair) : Type 0 where
  pub none : (pair ≡ None) ↔ (passed ≡ s)
  pub some : IfSome pair (λ pair. (rest : List Pair) × (s ≡ passed ++ pair ∷ rest))

-- what a stream gives in the pages of a tree
abbrev pub IsNextFor : Tree → Parameters → PairStream → Option Pair → Type 0
IsNextFor t p stream pair = (passed : List Pair) → StandsIn t p passed stream → IsNextIn (pairs t p) passed pair
