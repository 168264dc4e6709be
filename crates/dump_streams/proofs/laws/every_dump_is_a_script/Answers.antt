use Rattle.dump_streams.proofs.DumpRuns.{dump_is_short, dump_is_listing}
use Rattle.dump_streams.proofs.laws.every_dump_is_a_script.Goals as goal

pub returns-clause-short : goal.returns-clause-short
returns-clause-short c = dump_is_short

pub returns-clause-listing : goal.returns-clause-listing
returns-clause-listing c = dump_is_listing
