-- What a walk hands on, one part behind another.
use Rattle.std.proofs.Common.{◌≡◌, List, [], ◌∷◌, ◌++◌, map, refl, sym, ap, subst, ◌∙◌, append_assoc}
use Rattle.std.proofs.lemmas.List.{append-nil}
use Rattle.store_model.specs.Pairs.{Pair}
use Rattle.store_model.specs.Pages.{Cell}
use Rattle.table_walk.specs.Walks.{HandsOn, pair_of}

pub hands_none : (Took : List Pair → Type 0) → HandsOn Took Took
hands_none Took pairs took = ([], subst Took (sym (append-nil pairs)) took)

pub hands_both : (Took TookMid TookNow : List Pair → Type 0) → HandsOn Took TookMid
    → HandsOn TookMid TookNow → HandsOn Took TookNow
hands_both Took TookMid TookNow first then pairs took =
    let (more, mid) = first pairs took in
    let (last, now) = then (pairs ++ more) mid in
    (more ++ last, subst TookNow (append_assoc pairs more last) now)

pairs-append : (first second : List Cell) → map pair_of (first ++ second) ≡ map pair_of first ++ map pair_of second
pairs-append [] second = refl
pairs-append (cell ∷ cells) second = ap (λ (rest : List Pair). pair_of cell ∷ rest) (pairs-append cells second)

pub handed_none : (Took : List Pair → Type 0) (pairs : List Pair) → Took pairs → Took (pairs ++ map pair_of [])
handed_none Took pairs took = subst Took (sym (append-nil pairs)) took

pub handed_both : (TookNow : List Pair → Type 0) (pairs : List Pair) (first second : List Cell)
    → TookNow ((pairs ++ map pair_of first) ++ map pair_of second) → TookNow (pairs ++ map pair_of (first ++ second))
handed_both TookNow pairs first second now =
    subst TookNow (append_assoc pairs (map pair_of first) (map pair_of second)
    ∙ ap (λ (rest : List Pair). pairs ++ rest) (sym (pairs-append first second))) now
