use Rattle.std.proofs.Common.{◌≡◌, ◌++◌, length, map}
use Rattle.box_words.specs.Shown.{parts_between}
use Rattle.box_words.proofs.list.listed_names.Given as goal

-- what was read, and what is left, which is shorter at each turn
abbrev pub invariant-loop-names : goal.invariant-loop-names
invariant-loop-names l = map (λ name. name.now) l.names.items ++ parts_between 0 l.rest ≡ parts_between 0 l.list

abbrev pub decreases-loop-names : goal.decreases-loop-names
decreases-loop-names l = length l.rest
