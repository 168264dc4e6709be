use Rattle.std.proofs.Common.{◌∙◌}
use Rattle.path_keys.specs.PathOrder.{paths_ties}
use Rattle.dump_views.proofs.same.is_same_path.Goals as goal

pub returns : goal.returns
returns c = c.eq.ensures.value ∙ paths_ties c.args.one.now c.args.other.now
