use Rattle.std.proofs.Common.{◌∙◌}
use Rattle.rising_pages.proofs.kept.KeptPairs.last.Goals as goal

pub returns : goal.returns
returns c = λ d s kept_is fits. c.page.ensures ∙ (kept_is.ends fits).last_is
