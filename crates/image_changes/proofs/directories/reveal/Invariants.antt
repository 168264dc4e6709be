use Rattle.std.proofs.Common.{IsTrue, take}
use Rattle.std.specs.List.{AllByRecursion}
use Rattle.store_model.specs.Paths.{is_path}
use Rattle.image_changes.proofs.directories.reveal.Given as goal

abbrev pub invariant-loop-path : goal.invariant-loop-path
invariant-loop-path l = AllByRecursion (λ q. IsTrue (is_path q)) (take l.path-index l.paths)
