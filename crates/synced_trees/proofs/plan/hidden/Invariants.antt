use Rattle.std.proofs.Common.{◌≡◌, false, take}
use Rattle.std.specs.List.{list_any}
use Rattle.dump_diff.specs.declared.difference.Difference.{Difference}
use Rattle.dump_diff.specs.Differences.{marks_of}
use Rattle.dump_diff.specs.Scripts.{AreRising}
use Rattle.synced_trees.specs.Plans.{is_hidden_by}
use Rattle.synced_trees.proofs.plan.hidden.Given as goal

-- no path before this one is of something that is hidden
abbrev pub invariant-loop-difference : goal.invariant-loop-difference
invariant-loop-difference l = AreRising l.fn.found
    → list_any (λ (d : Difference). is_hidden_by (marks_of l.fn.found.paths.items) (d.path, d.mark))
    (take l.difference-index l.fn.found.paths.items) ≡ false
