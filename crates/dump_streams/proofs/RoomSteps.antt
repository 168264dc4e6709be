-- What is left of a line that is given in parts.
use Rattle.std.proofs.Common.{◌≡◌, ◌↔◌, ℕ, ◌-◌, ◌≤◌, IsTrue, nat_eq, List, [], length, drop, eq-eqb, sym, ap, ◌∙◌}
use Rattle.std.proofs.Common.{arith}
use Rattle.std.proofs.lemmas.Bool.{eqb-true}
use Rattle.std.proofs.lemmas.List.{length-drop, nil_from_length}

-- nothing is left where all was given
pub none_left : (start size : ℕ) (bytes rest : List ℕ) → size ≡ length bytes → start ≤ size → drop start bytes ≡ rest
    → IsTrue (nat_eq start size) ↔ (rest ≡ [])
none_left start size bytes rest size_is within is =
    let left : length rest ≡ length bytes - start = ap length (sym is) ∙ length-drop start bytes in (
      λ e. nil_from_length rest (omega (arith, size_is, within, eqb-true start size e)),
      λ none.
          eq-eqb start size (omega (arith, size_is, within, ap length none)),
    )
