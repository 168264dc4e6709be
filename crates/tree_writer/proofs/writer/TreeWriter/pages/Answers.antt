use Rattle.std.proofs.Common.{◌∙◌}
use Rattle.tree_writer.proofs.TakenSteps.{pages_told}
use Rattle.tree_writer.proofs.writer.TreeWriter.pages.Goals as goal

pub returns : goal.returns
returns c = λ p t holds. c.pages.ensures p holds.came holds.counts ∙ pages_told p t c.args.self.now holds
