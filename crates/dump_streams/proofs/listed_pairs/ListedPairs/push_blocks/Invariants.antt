use Rattle.std.proofs.Common.{◌≡◌, ◌+◌, ◌<◌, length}
use Rattle.seeded_draw.specs.AnyDrawn.{any_draw}
use Rattle.dump_streams.specs.declared.listed_pairs.ListedPairs.{ListedPairs}
use Rattle.dump_streams.specs.Listed.{AddsPairs, blocks_from}
use Rattle.dump_streams.proofs.listed_pairs.ListedPairs.push_blocks.Given as goal

-- the blocks of what is left are those that are to be added behind those that were
abbrev pub invariant-loop-rest : goal.invariant-loop-rest
invariant-loop-rest l = record {
  few : l.number + length l.rest < 4294967296;
  params : l.self.params ≡ l.fn.self.params;
  first : l.self.first ≡ l.fn.self.first;
  added : (new : ListedPairs) → AddsPairs (any_draw l.draw) l.self.pairs (blocks_from l.path l.number l.rest) l.self new
      → AddsPairs (any_draw l.draw) l.fn.self.pairs (blocks_from l.path l.first l.bytes) l.fn.self new;
}

abbrev pub decreases-loop-rest : goal.decreases-loop-rest
decreases-loop-rest l = length l.rest
