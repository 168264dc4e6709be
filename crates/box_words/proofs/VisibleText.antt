-- What is shown of a text, character by character.
use Rattle.std.proofs.Common.{◌≡◌, ℕ, List, ◌∷◌, [], ◌++◌, chars, ap}
use Rattle.std.specs.List.{flat_map}
use Rattle.box_words.specs.Shown.{visible_char, visible_text}

pub visible_none : (text : List ℕ) → chars text ≡ [] → visible_text text ≡ []
unfolding visible_text
visible_none text e = ap (flat_map visible_char) e

pub visible_more : (text rest : List ℕ) (c : ℕ) → chars text ≡ c ∷ chars rest
    → visible_text text ≡ visible_char c ++ visible_text rest
unfolding visible_text
visible_more text rest c e = ap (flat_map visible_char) e
