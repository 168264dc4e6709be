use Rattle.std.proofs.Common.{◌≤◌, length, take}
use mathlib.Core.List.{reverse}
use Rattle.disk_model.specs.Record.{LieWithin}
use Rattle.disk_model.proofs.Copying.{CopiesSoFar}
use Rattle.disk_model.proofs.record.copy_pending.Given as goal

abbrev pub invariant-loop-left : goal.invariant-loop-left
invariant-loop-left l = record {
  in_range : l.left ≤ length l.calls;
  within : LieWithin (length l.fn.target) (reverse (take l.left l.calls));
  so_far : CopiesSoFar (reverse l.calls) (reverse (take l.left l.calls)) l.source l.fn.target l.target;
}

abbrev pub decreases-loop-left : goal.decreases-loop-left
decreases-loop-left l = l.left
