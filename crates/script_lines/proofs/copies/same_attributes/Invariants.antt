use Rattle.std.proofs.Common.{◌≡◌, drop}
use Rattle.std.specs.Cmp.Lexicographic.{pointwise}
use Rattle.script_lines.specs.Sessions.{same_attribute}
use Rattle.script_lines.proofs.copies.same_attributes.Given as goal

-- the first ones are the same, so the rest decides
abbrev pub invariant-loop-index : goal.invariant-loop-index
invariant-loop-index l = pointwise same_attribute (drop l.index l.one) (drop l.index l.other)
    ≡ pointwise same_attribute l.one l.other
