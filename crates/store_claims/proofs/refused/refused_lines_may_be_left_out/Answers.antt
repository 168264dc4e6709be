use Rattle.store_claims.proofs.RefusalLemmas.{left_out}
use Rattle.store_claims.proofs.refused.refused_lines_may_be_left_out.Goals as goal

pub returns-clause-same : goal.returns-clause-same
returns-clause-same c t p is other_is lines_are =
    left_out t p c.args.first.disk c.args.second.disk c.args.first.source c.args.second.source c.args.first.sink
    c.args.second.sink c.in_ok-whole.whole c.in_ok-short.short
    (c.in_ok-whole.ensures.answered t p is) (c.in_ok-short.ensures.answered t p other_is) lines_are

pub returns-clause-whole : goal.returns-clause-whole
returns-clause-whole c t p is = c.in_ok-whole.ensures.answered t p is

pub returns-clause-short : goal.returns-clause-short
returns-clause-short c t p is = c.in_ok-short.ensures.answered t p is
