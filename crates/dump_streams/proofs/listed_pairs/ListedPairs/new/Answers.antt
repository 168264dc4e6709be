use Rattle.std.proofs.Common.{refl}
use Rattle.store_model.specs.Draws.{draw_of}
use Rattle.dump_streams.proofs.ListedLemmas.{holds_nothing}
use Rattle.dump_streams.proofs.TakenPairs.{took_none}
use Rattle.dump_streams.proofs.listed_pairs.ListedPairs.new.Goals as goal

pub returns-clause-listed : goal.returns-clause-listed
returns-clause-listed c = holds_nothing _ c.args.params.now refl
    (c.new-2.ensures (draw_of c.args.params.now)) c.new-3.ensures

pub returns-clause-took : goal.returns-clause-took
returns-clause-took c = took_none _
