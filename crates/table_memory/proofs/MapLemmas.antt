-- Lemmas on maps that are taken entry by entry.
use Rattle.std.proofs.Common.{◌≡◌, ◌<◌, true, false, List, [], ◌∷◌, length, refl, arith}
use Rattle.std.proofs.lemmas.Bool.{false≢true}

-- where there is no first entry there is none
pub none_left : {X : Type 0} (rest : List X) → (0 < length rest → false ≡ true) → rest ≡ []
none_left [] empty = refl
none_left (e ∷ rest) empty = absurd (false≢true (empty (omega arith)))
