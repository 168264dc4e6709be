-- The levels that are kept beside the pairs of a listing.
use Rattle.std.proofs.Common.{◌≡◌, ℕ, List, map, get_or, Some, slice_get, slice_set, sym, ap, ◌∙◌}
use Rattle.std.proofs.lemmas.List.{map-set, set-get_or, get_or-map}
use Rattle.std.proofs.lemmas.Option.{slice_get_within, get_or_from_slice_get}
use Rattle.store_model.specs.Draws.{Draw}
use Rattle.store_model.specs.Pairs.{Pair}
use Rattle.layout_scratch.specs.Levels.{levels_of}

-- another value under a key leaves the levels
pub levels_again : (d : Draw) (s : List Pair) (i : ℕ) (pair : Pair) (value : List ℕ) → slice_get s i ≡ Some pair
    → levels_of d (slice_set s i (pair.0, value)) ≡ levels_of d s
levels_again d s i pair value found =
    let level_of : Pair → ℕ = λ p. d.level p.0 in
    let here : get_or (map level_of s) i 0 ≡ d.level pair.0 =
    get_or-map level_of s i pair 0 (slice_get_within s i pair found)
    ∙ ap level_of (get_or_from_slice_get s i pair pair found) in
    map-set level_of s i (pair.0, value)
    ∙ ap (slice_set (map level_of s) i) (sym here)
    ∙ set-get_or (map level_of s) i 0
