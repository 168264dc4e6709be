use Rattle.std.proofs.Common.{◌∙◌}
use Rattle.rising_pages.proofs.kept.KeptPairs.raised.Goals as goal

pub returns : goal.returns
returns c = λ d s kept_is fits. c.as_slice.ensures.value ∙ (kept_is.ends fits).raised_are
