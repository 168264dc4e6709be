use Rattle.std.specs.Prelude.{◌≡◌}
use Rattle.std.specs.List.{flat_map}
use Rattle.store_model.specs.Parameters.{Parameters}
use Rattle.store_model.specs.Trees.{Tree}
use Rattle.store_model.specs.Scripts.{lines, tree_after}
use Rattle.image_check.specs.Standing.{IsFitting}
use Rattle.script_lines.specs.Memory.{SourceMemory}
use Rattle.store_claims.specs.Machines.{HasImage, meaning}
use Rattle.store_claims.proofs.equal.run_scripts.Given as goal

-- the image is that of the tree after the scripts that were run, and no call of the disk and the sink failed
abbrev pub invariant-loop-source : goal.invariant-loop-source
invariant-loop-source l =
    ((t : Tree) (p : Parameters) → IsFitting t p → HasImage l.fn.disk t p
    → HasImage l.disk (tree_after t (flat_map (λ (source : SourceMemory). lines source.left) l.yielded) p) p)
    × ((meaning l.disk).faults ≡ (meaning l.fn.disk).faults) × (l.sink.faults ≡ l.fn.sink.faults)
