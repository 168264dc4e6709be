use Rattle.std.proofs.Common.{◌≡◌, take}
use Rattle.layout_scratch.specs.Ranks.{cells_on}
use Rattle.layout_scratch.proofs.groups.cells_of_group.Given as goal

abbrev pub invariant-loop-ranked : goal.invariant-loop-ranked
invariant-loop-ranked l = l.cells ≡ record { level = l.level; cells = cells_on l.level (take l.ranked-index l.group) }
