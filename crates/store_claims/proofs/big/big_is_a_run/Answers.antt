use Rattle.store_claims.proofs.BigLemmas.{run_of_commands}
use Rattle.store_claims.proofs.big.big_is_a_run.Goals as goal

pub returns-clause-same : goal.returns-clause-same
returns-clause-same c number count t p asked is other_is ask =
    run_of_commands number count t p c.args.first.disk c.args.second.disk c.args.first.source c.args.second.source
    c.args.first.sink c.args.second.sink (record { big = c.top-big.result; run = c.in_ok-run.run' })
    (c.top-big.ensures.performs _ asked) is ask (c.in_ok-run.ensures.answered t p other_is)

pub returns-clause-run : goal.returns-clause-run
returns-clause-run c t p is = c.in_ok-run.ensures.answered t p is
