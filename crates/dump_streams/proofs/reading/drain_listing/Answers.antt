use Rattle.std.proofs.Common.{refl}
use Rattle.dump_streams.proofs.ReadDumps.{listing_taken}
use Rattle.dump_streams.proofs.reading.drain_listing.Goals as goal

pub returns-clause-listing : goal.returns-clause-listing
returns-clause-listing g c =
    listing_taken g.R.Source.state g.T.Taker.took g.T.Taker.broke c.args.stream.now c.drain.new.stream c.args.taker.now
    c.drain.new.taker c.drain.result
    (c.drain.ensures.keeps c.args.stream.now (record { first = refl; version = refl })) c.drain.ensures.drains

pub returns-clause-same : goal.returns-clause-same
returns-clause-same g c = c.drain.ensures.keeps c.args.stream.now (record { first = refl; version = refl })
