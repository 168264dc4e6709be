use Rattle.std.proofs.Common.{◌∙◌}
use Rattle.word_values.proofs.SeedLemmas.{seed_decoded}
use Rattle.word_values.proofs.values.seed_of.Goals as goal

pub returns : goal.returns
returns c = c.ok.ensures.value ∙ seed_decoded c.args.word.now _ c.from_hex.ensures
