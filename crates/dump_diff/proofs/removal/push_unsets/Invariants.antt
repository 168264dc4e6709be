use Rattle.std.proofs.Common.{◌≡◌, ◌++◌, map, take}
use Rattle.std.specs.List.{flat_map}
use Rattle.dump_diff.specs.Scripts.{unset_commands, removal_command}
use Rattle.dump_diff.proofs.removal.push_unsets.Given as goal

-- the removals of the attributes so far were added
abbrev pub invariant-loop-attribute : goal.invariant-loop-attribute
invariant-loop-attribute l = map removal_command l.removals.items ≡ map removal_command l.fn.removals.items
    ++ flat_map unset_commands (take l.attribute-index l.attributes)
