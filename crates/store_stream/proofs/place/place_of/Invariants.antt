use Rattle.std.proofs.Common.{◌≡◌, ◌≤◌, ℕ, length, take, Less}
use Rattle.store_model.specs.Paths.{key, key_cmp}
use Rattle.store_stream.proofs.place.place_of.Given as goal

-- so many first names of the path, whose key stands behind the one that is placed
abbrev pub invariant-loop-parent : goal.invariant-loop-parent
invariant-loop-parent l = (m : ℕ) × (m ≤ length l.path) × (l.at ≡ take m l.path)
    × (l.next ≡ key (take m l.path) 0) × (key_cmp l.key l.next ≡ Less)

abbrev pub decreases-loop-parent : goal.decreases-loop-parent
decreases-loop-parent l = length l.at
