use Rattle.tree_pairs.proofs.Readings.{counts_told}
use Rattle.tree_pairs.proofs.reader.TreeReader.counts.Goals as goal

pub returns : goal.returns
returns c s p seen t tree e = counts_told c.args.self.now s p seen t tree e
