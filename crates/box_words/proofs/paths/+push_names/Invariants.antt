use Rattle.std.specs.Prelude.{length}
use Rattle.box_words.proofs.paths.+push_names.Given as goal

-- a path's parent has one name less
abbrev pub decreases-push_names : goal.decreases-push_names
decreases-push_names l = length l.path.now
