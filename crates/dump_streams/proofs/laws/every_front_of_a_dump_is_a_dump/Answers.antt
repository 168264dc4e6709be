use Rattle.dump_streams.proofs.DumpFronts.{dump_front, dumps_tell_trees}
use Rattle.dump_streams.proofs.laws.every_front_of_a_dump_is_a_dump.Goals as goal

pub returns-clause-front : goal.returns-clause-front
returns-clause-front c = dump_front

pub returns-clause-tells : goal.returns-clause-tells
returns-clause-tells c = dumps_tell_trees
