-- Changes that lead from one tree to another.
use Rattle.std.specs.Prelude.{◌≡◌, List, [], ◌∷◌, None}
use Rattle.store_model.specs.Trees.{Tree}
use Rattle.store_model.specs.Commands.{Command}
use Rattle.store_model.specs.Steps.{refusal_of, next_tree}

-- none of these commands, carried out one after another, is refused for what the tree holds then
abbrev pub AreAllowed : Tree → List Command → Type 0
AreAllowed t [] = Unit {0}
AreAllowed t (c ∷ cs) = (refusal_of t c ≡ None) × AreAllowed (next_tree t c) cs

-- the tree after them
abbrev pub led_by : Tree → List Command → Tree
led_by t [] = t
led_by t (c ∷ cs) = led_by (next_tree t c) cs
