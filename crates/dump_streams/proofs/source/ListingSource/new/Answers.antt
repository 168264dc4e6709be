use Rattle.std.proofs.Common.{refl, ap}
use Rattle.dump_streams.specs.Rooms.{Room}
use Rattle.dump_streams.proofs.SourceSteps.{gave_none}
use Rattle.dump_streams.proofs.source.ListingSource.new.Goals as goal

pub returns-clause-gave : goal.returns-clause-gave
returns-clause-gave g c none = gave_none g.S.DumpStream.came g.S.DumpStream.whole _ none
    (ap (λ (r : Room). r.rest) c.in-Ok.ensures) refl
