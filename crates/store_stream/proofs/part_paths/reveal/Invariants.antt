use Rattle.std.proofs.Common.{◌≤◌, ◌-◌, length, take, IsTrue}
use Rattle.std.specs.List.{list_all}
use Rattle.store_model.specs.Paths.{is_path}
use Rattle.store_stream.proofs.part_paths.reveal.Given as goal

abbrev pub invariant-loop-at : goal.invariant-loop-at
invariant-loop-at l = (l.at ≤ length l.paths) × IsTrue (list_all is_path (take l.at l.paths))

abbrev pub decreases-loop-at : goal.decreases-loop-at
decreases-loop-at l = length l.paths - l.at
