use Rattle.std.proofs.Common.{◌∙◌}
use Rattle.dump_streams.proofs.ListedLemmas.{told_pages}
use Rattle.dump_streams.proofs.listed_pairs.ListedPairs.pages.Goals as goal

pub returns : goal.returns
returns c = λ t p held. c.pages.ensures.value ∙ told_pages c.args.self.now t p held
