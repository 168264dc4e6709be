use Rattle.std.proofs.Common.{◌≡◌, take}
use Rattle.ordered_pairs.proofs.map.MapPairs.copy.Given as goal

abbrev pub invariant-loop-key : goal.invariant-loop-key
invariant-loop-key l = l.pairs.items ≡ take l.key-index l.key-items
