use Rattle.rising_pages.proofs.OpenPages.{closed_stay}
use Rattle.rising_pages.proofs.laws.closed_pages_stay.Goals as goal

pub returns : goal.returns
returns c = closed_stay
