use Rattle.std.proofs.Common.{◌≡◌, take}
use Rattle.script_lines.proofs.copies.copy_attributes.Given as goal

-- the first ones were copied
abbrev pub invariant-loop-index : goal.invariant-loop-index
invariant-loop-index l = l.copy ≡ take l.index l.attributes
