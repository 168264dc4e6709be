use Rattle.store_claims.proofs.RequestedParameters.{requested_fits}
use Rattle.store_claims.proofs.StoppingLemmas.{handed_on}
use Rattle.store_claims.proofs.Checking.{check_of_made}
use Rattle.store_claims.proofs.runs.check_behind_runs.Goals as goal

pub returns-clause-checks : goal.returns-clause-checks
returns-clause-checks c p is checking =
    check_of_made c.args.making.scripts.items p
    (record { disk = c.in_ok-disk.disk; source = c.no_script.result; sink = c.args.line }) c.call-checked.result
    (requested_fits c.args.format.now p is) (c.in_ok-disk.ensures.image p is)
    (c.call-checked.ensures.performs _ checking)

pub returns-in_err-disk-clause-stops : goal.returns-in_err-disk-clause-stops
returns-in_err-disk-clause-stops c p is =
    handed_on _ c.in_err-disk.field-0.0 c.from_residual.result c.from_residual.ensures.1
    (c.in_err-disk.ensures.stops p is)
