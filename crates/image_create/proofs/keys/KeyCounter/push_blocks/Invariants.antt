use Rattle.std.proofs.Common.{◌≡◌}
use Rattle.image_create.specs.Counts.{AddsKeys}
use Rattle.image_create.specs.FoundKeys.{block_keys}
use Rattle.image_create.proofs.keys.KeyCounter.push_blocks.Given as goal

-- the blocks before this one are counted
abbrev pub invariant-loop-number : goal.invariant-loop-number
invariant-loop-number l = record {
  levels : l.self.levels ≡ l.fn.self.levels;
  counted : AddsKeys l.fn.self l.self (block_keys l.fn.path l.number);
}
