use Rattle.std.proofs.Common.{◌≤◌, ◌-◌, length, take}
use Rattle.std.specs.List.{AllByRecursion}
use Rattle.store_stream.specs.PartKeys.{IsPast}
use Rattle.store_stream.proofs.place.past_at.Given as goal

abbrev pub invariant-loop-at : goal.invariant-loop-at
invariant-loop-at l = (l.at ≤ length l.paths)
    × (AllByRecursion (IsPast l.key) (take l.past l.paths) → AllByRecursion (IsPast l.key) (take l.at l.paths))

abbrev pub decreases-loop-at : goal.decreases-loop-at
decreases-loop-at l = length l.paths - l.at
