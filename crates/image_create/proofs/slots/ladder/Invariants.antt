use Rattle.std.proofs.Common.{◌≡◌, drop}
use Rattle.std.specs.List.{find}
use Rattle.image_create.specs.Ladder.{has_room, rungs}
use Rattle.image_create.proofs.slots.ladder.Given as goal

-- what is found on the rungs that are left is found on all
abbrev pub invariant-loop-slots : goal.invariant-loop-slots
invariant-loop-slots l = find (has_room l.fn.pages) (drop l.slots-index l.slots-items) ≡ find (has_room l.pages) rungs
