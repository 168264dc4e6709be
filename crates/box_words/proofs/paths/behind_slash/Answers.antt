use Rattle.std.proofs.Common.{arith}
use Rattle.box_words.proofs.PathWords.{long_text}
use Rattle.box_words.proofs.paths.behind_slash.Goals as goal

pub returns-in-Err-clause-too_long : goal.returns-in-Err-clause-too_long
returns-in-Err-clause-too_long c _ = long_text c.args.text.now (grind arith)
