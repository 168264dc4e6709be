use Rattle.std.proofs.Common.{◌∙◌, refl, sym}
use Rattle.command_line.proofs.PairLemmas.{asks_pair}
use Rattle.command_line.proofs.pair.pair_words.Goals as goal

pub returns-then-len-eq2-clause-asks : goal.returns-then-len-eq2-clause-asks
returns-then-len-eq2-clause-asks c =
    rw c.eq.ensures (asks_pair c.args.words.now c.get.result _ refl
    c.get.ensures (sym c.len.ensures ∙ c.if-len-eq2.true))
