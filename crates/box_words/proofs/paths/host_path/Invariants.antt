use Rattle.std.specs.Prelude.{length}
use Rattle.box_words.proofs.PathWords.{Reads}
use Rattle.box_words.proofs.paths.host_path.Given as goal

-- what was read is the path, and what is left is shorter at each turn
abbrev pub invariant-loop-path : goal.invariant-loop-path
invariant-loop-path l = Reads l.text l.path l.rest

abbrev pub decreases-loop-path : goal.decreases-loop-path
decreases-loop-path l = length l.rest
