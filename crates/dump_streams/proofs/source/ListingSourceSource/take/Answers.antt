use Rattle.std.proofs.Common.{length}
use Rattle.dump_streams.proofs.SourceSteps.{end_given}
use Rattle.dump_streams.proofs.source.ListingSourceSource.take.Goals as goal

pub returns-clause-end : goal.returns-clause-end
returns-clause-end g c bytes gave some none =
    let ready = rw c.if-not-is_ready.false at c.is_ready.ensures.ready bytes gave in
    end_given g.S.DumpStream.came g.S.DumpStream.whole c.is_ready.new.self bytes
    (length c.give.new.into) c.give.result ready some c.give.ensures.count (cc)
