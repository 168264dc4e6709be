use Rattle.rising_pages.proofs.RaisedLevels.{raised_tell}
use Rattle.rising_pages.proofs.laws.raised_keys_tell_the_levels_above.Goals as goal

pub returns : goal.returns
returns c = raised_tell
