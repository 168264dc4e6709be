use Rattle.store_stream.proofs.PartTrees.{below_part, part_at_root}
use Rattle.store_stream.proofs.laws.a_part_has_all_below_its_path.Goals as goal

pub returns-clause-below : goal.returns-clause-below
returns-clause-below c = below_part

pub returns-clause-whole : goal.returns-clause-whole
returns-clause-whole c = part_at_root
