use Rattle.rising_pages.proofs.kept.KeptPairs.pages.Goals as goal

pub returns : goal.returns
returns c = λ d s kept_is. c.pages.ensures.counted d s kept_is.counted
