use Rattle.std.proofs.Common.{◌≡◌, take}
use Rattle.std.specs.List.{AllByRecursion}
use Rattle.image_create.specs.Counts.{AddsKeys}
use Rattle.image_create.specs.FoundKeys.{HasKeys, keys_found}
use Rattle.image_create.proofs.counting.count_keys.Given as goal

-- the keys of what was found before this entry are counted
abbrev pub invariant-loop-entry : goal.invariant-loop-entry
invariant-loop-entry l = record {
  levels : l.keys.levels ≡ l.fn.keys.levels;
  counted : AllByRecursion HasKeys l.fn.found
      → AddsKeys l.fn.keys l.keys (keys_found l.fn.version (take l.entry-index l.fn.found));
}
