use Rattle.std.proofs.Common.{inl, inr}
use Rattle.store_model.specs.declared.version.Version.TheVariants.{Two}
use Rattle.store_model.specs.Parameters.{with_version}
use Rattle.store_claims.proofs.MakingLemmas.{made_fits}
use Rattle.store_claims.proofs.RequestedParameters.{requested_fits}
use Rattle.store_claims.proofs.StoppingLemmas.{handed_on}
use Rattle.store_claims.proofs.UpgradedLemmas.{asks_for_two, upgraded_as_made}
use Rattle.store_claims.proofs.upgraded.an_upgraded_image_is_the_one_made_so.Goals as goal

pub returns-clause-same : goal.returns-clause-same
returns-clause-same c p asked same scripts =
    let fits = made_fits c.args.first.scripts.items p (requested_fits c.args.format.now p asked) in
    upgraded_as_made c.args.first.scripts.items c.args.second.scripts.items p
    c.in_ok-upgraded.upgraded.disk c.in_ok-made.made scripts
    (c.in_ok-upgraded.ensures.image _ p fits (c.in_ok-formatted.ensures.image p asked))
    (c.in_ok-made.ensures.image (with_version p Two) (asks_for_two c.args.format.now c.args.format2.now p same asked))

pub returns-in_err-formatted-clause-stops : goal.returns-in_err-formatted-clause-stops
returns-in_err-formatted-clause-stops c p asked same =
    handed_on _ c.in_err-formatted.field-0.0 c.from_residual.result c.from_residual.ensures.1
    (inl (c.in_err-formatted.ensures.stops p asked))

pub returns-in_err-upgraded-clause-stops : goal.returns-in_err-upgraded-clause-stops
returns-in_err-upgraded-clause-stops c p asked same =
    let fits = made_fits c.args.first.scripts.items p (requested_fits c.args.format.now p asked) in
    let image = c.in_ok-formatted.ensures.image p asked in
    handed_on _ c.in_err-upgraded.field-0.0 c.from_residual-in_err-upgraded.result
    c.from_residual-in_err-upgraded.ensures.1
    (inr (inl (record { disk = _; image = image; stops = c.in_err-upgraded.ensures.stops _ p fits image })))

pub returns-in_err-made-clause-stops : goal.returns-in_err-made-clause-stops
returns-in_err-made-clause-stops c p asked same =
    handed_on _ c.in_err-made.field-0.0 c.from_residual-in_err-made.result c.from_residual-in_err-made.ensures.1
    (inr (inr (c.in_err-made.ensures.stops (with_version p Two)
    (asks_for_two c.args.format.now c.args.format2.now p same asked))))
