use Rattle.std.proofs.Common.{◌≡◌, ◌≤◌, take}
use Rattle.slot_map.specs.Pictures.{used_count}
use Rattle.slot_map.proofs.picture.used_count.Given as goal

-- how many of the characters so far are not those of free slots
abbrev pub invariant-loop-char : goal.invariant-loop-char
invariant-loop-char l = record {
  counted : l.used ≡ used_count (take l.char-index l.chars);
  within : l.used ≤ l.char-index;
}
