use Rattle.std.proofs.Common.{◌≡◌, take}
use Rattle.box_changes.specs.Telling.{name_lines}
use Rattle.box_changes.proofs.telling.name_lines.Given as goal

-- the lines of the first ones
abbrev pub invariant-loop-index : goal.invariant-loop-index
invariant-loop-index l = l.text.items ≡ name_lines (take l.index l.attributes)
