use Rattle.std.specs.Prelude.{length}
use Rattle.host_names.proofs.host_paths.+has_host_text.Given as goal

-- a path's parent has one name less
abbrev pub decreases-has_host_text : goal.decreases-has_host_text
decreases-has_host_text l = length l.path.now
