use Rattle.rising_pages.proofs.Keeping.{kept_none}
use Rattle.rising_pages.proofs.kept.KeptPairs.new.Goals as goal

pub returns : goal.returns
returns c = λ d slots_are.
    kept_none d _ slots_are (c.new-counter.ensures d) c.new-last.ensures c.new-raised.ensures.items
