use Rattle.std.proofs.Common.{◌≡◌, ◌≤◌, ◌+◌, drop}
use Rattle.std.specs.List.{slice_get}
use Rattle.host_folders.specs.Facts.{present}
use Rattle.host_folders.proofs.attribute.present_at.Given as goal

-- it is looked for among the ones that are left
abbrev pub invariant-loop-one : goal.invariant-loop-one
invariant-loop-one l = record {
  left_over : slice_get (present (drop l.one-index l.all)) l.left ≡ slice_get (present l.all) l.at;
  passed : l.at ≤ l.left + l.one-index;
}
