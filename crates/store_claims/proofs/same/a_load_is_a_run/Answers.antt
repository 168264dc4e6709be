use Rattle.store_claims.proofs.CopyLemmas.{loads_as_run}
use Rattle.store_claims.proofs.same.a_load_is_a_run.Goals as goal

pub returns : goal.returns
returns c p loaded run same =
    loads_as_run p c.args.loaded.disk c.args.run.disk c.args.loaded.source c.args.run.source
    c.args.loaded.sink c.args.run.sink
    (record { load = c.in_ok-load.load; run = c.in_ok-run.run' })
    c.every_listing_runs.ensures.law same (c.in_ok-load.ensures.loads _ p loaded) (c.in_ok-run.ensures.answered _ p run)
