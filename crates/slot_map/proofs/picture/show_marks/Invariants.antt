use Rattle.std.proofs.Common.{◌≡◌, ℕ, ◌<◌, ◌≤◌, slice_index}
use Rattle.slot_map.specs.Pictures.{mark_character}
use Rattle.slot_map.proofs.picture.show_marks.Given as goal

-- the marks so far have become their characters, and the others are as they were
abbrev pub invariant-loop-mark : goal.invariant-loop-mark
invariant-loop-mark l = record {
  shown : (k : ℕ) → k < l.mark-index → slice_index l.marks k ≡ mark_character (slice_index l.fn.marks k);
  left : (k : ℕ) → l.mark-index ≤ k → slice_index l.marks k ≡ slice_index l.fn.marks k;
}
