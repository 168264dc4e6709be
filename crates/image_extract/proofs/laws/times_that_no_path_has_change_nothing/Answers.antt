use Rattle.image_extract.proofs.Timing.{view_same}
use Rattle.image_extract.proofs.laws.times_that_no_path_has_change_nothing.Goals as goal

pub returns : goal.returns
returns c = view_same
