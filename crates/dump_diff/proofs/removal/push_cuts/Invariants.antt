use Rattle.std.proofs.Common.{◌≡◌, ◌++◌, map, take}
use Rattle.std.specs.List.{flat_map}
use Rattle.dump_diff.specs.Differences.{marks_of}
use Rattle.dump_diff.specs.Scripts.{AreRising, cut_commands, removal_command}
use Rattle.dump_diff.proofs.removal.push_cuts.Given as goal

-- the removals of the paths so far were added
abbrev pub invariant-loop-difference : goal.invariant-loop-difference
invariant-loop-difference l =
    AreRising l.found → map removal_command l.removals.items ≡ map removal_command l.fn.removals.items
    ++ flat_map (cut_commands (marks_of l.found.paths.items)) (take l.difference-index l.found.paths.items)
