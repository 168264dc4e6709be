use Rattle.dump_streams.proofs.DumpRuns.{listing_runs}
use Rattle.dump_streams.proofs.laws.every_listing_runs.Goals as goal

pub returns : goal.returns
returns c = record { law = listing_runs }
