use Rattle.std.proofs.Common.{ap, length, arith}
use Rattle.host_names.proofs.HostPathNames.{last_fits}
use Rattle.box_words.proofs.paths.last_name.Goals as goal

pub returns-clause-fits : goal.returns-clause-fits
returns-clause-fits c =
    omega (arith, ap length c.name.ensures, last_fits c.args.path.now c.requires c.is_root.ensures.valid)
