use Rattle.std.proofs.Common.{◌≡◌}
use Rattle.script_lines.specs.LineState.{unread}
use Rattle.dump_streams.specs.SourceLines.{IsReading}
use Rattle.dump_streams.proofs.listing.ListingStream.read_to_end.Given as goal

-- no take failed, and only the lines went on
abbrev pub invariant-lines : goal.invariant-lines
invariant-lines g l = record {
  same : l.self ≡ record l.fn.self { lines = l.self.lines };
  reading : IsReading g.R.Source.state l.fn.self.first.value l.fn.self.lines
      → IsReading g.R.Source.state l.fn.self.first.value l.self.lines;
}

abbrev pub decreases-lines : goal.decreases-lines
decreases-lines g l = unread l.self.lines
