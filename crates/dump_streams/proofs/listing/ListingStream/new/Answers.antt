use Rattle.std.proofs.Common.{ap, sym, refl, ◌∙◌}
use Rattle.dump_streams.specs.SourceLines.{fresh_lines}
use Rattle.dump_streams.proofs.ListingSteps.{came_none}
use Rattle.dump_streams.proofs.listing.ListingStream.new.Goals as goal

pub returns-clause-came : goal.returns-clause-came
returns-clause-came g c = came_none g.R.Source.state _
    (c.in_ok-lines.ensures.ok ∙ ap fresh_lines (sym c.of-first.ensures)) refl
    (λ p same. c.new-2.ensures.read p (same ∙ c.new-2.ensures.version))
