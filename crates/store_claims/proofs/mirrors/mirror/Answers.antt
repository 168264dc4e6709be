use Rattle.image_subcommands.specs.MirrorCall.{pair_of}
use Rattle.store_claims.proofs.Mirroring.{mirror_equal, mirror_fails, mirror_cut_short, mirror_either, mirror_costs}
use Rattle.store_claims.proofs.mirrors.mirror.Goals as goal

pub returns-clause-equal : goal.returns-clause-equal
returns-clause-equal c = mirror_equal (pair_of c.args.from c.args.to c.args.sink) c.top_pair.result c.top_pair.ensures

pub returns-clause-failed : goal.returns-clause-failed
returns-clause-failed c = mirror_fails (pair_of c.args.from c.args.to c.args.sink) c.top_pair.result c.top_pair.ensures

pub returns-clause-cut_short : goal.returns-clause-cut_short
returns-clause-cut_short c =
    mirror_cut_short (pair_of c.args.from c.args.to c.args.sink) c.top_pair.result c.top_pair.ensures

pub returns-clause-either : goal.returns-clause-either
returns-clause-either c = mirror_either (pair_of c.args.from c.args.to c.args.sink) c.top_pair.result c.top_pair.ensures

pub returns-clause-costs : goal.returns-clause-costs
returns-clause-costs c = mirror_costs (pair_of c.args.from c.args.to c.args.sink) c.top_pair.result c.top_pair.ensures
