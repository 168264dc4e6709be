use Rattle.store_claims.proofs.Imaging.{scrub_cut_short}
use Rattle.store_claims.proofs.images.scrub_cut_short.Goals as goal

pub returns-clause-same : goal.returns-clause-same
returns-clause-same c is =
    scrub_cut_short c.args.machine c.call-cut.result c.args.left c.call-again.result c.args.twin c.call-whole.result
    (c.call-cut.ensures.performs _ is) (c.call-again.ensures.performs _ is) (c.call-whole.ensures.performs _ is)

pub returns-clause-cut : goal.returns-clause-cut
returns-clause-cut c is = c.call-cut.ensures.performs _ is

pub returns-clause-again : goal.returns-clause-again
returns-clause-again c is = c.call-again.ensures.performs _ is

pub returns-clause-whole : goal.returns-clause-whole
returns-clause-whole c is = c.call-whole.ensures.performs _ is
