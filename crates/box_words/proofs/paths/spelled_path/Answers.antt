use Rattle.box_words.proofs.PathWords.{nothing_spelled}
use Rattle.box_words.proofs.paths.spelled_path.Goals as goal

pub returns-in-empty-clause-no_path : goal.returns-in-empty-clause-no_path
returns-in-empty-clause-no_path c _ path = nothing_spelled c.args.text.now path c.in-empty.len_below
