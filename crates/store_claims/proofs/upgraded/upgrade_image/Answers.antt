use Rattle.std.proofs.Common.{sym, ap, subst}
use Rattle.std.proofs.lemmas.Result.{IfOk-weaker, IfErr-weaker}
use Rattle.store_model.specs.declared.version.Version.TheVariants.{Two}
use Rattle.store_model.specs.Parameters.{with_version}
use Rattle.store_claims.specs.Machines.{Ended, HasImage}
use Rattle.store_claims.specs.Upgrades.{StopsUpgrade}
use Rattle.store_claims.proofs.OneWord.{asks_upgrade}
use Rattle.store_claims.proofs.UpgradedLemmas.{upgraded, upgrade_stops, unupgraded_stops}
use Rattle.store_claims.proofs.upgraded.upgrade_image.Goals as goal

pub returns-in-Ok-clause-image : goal.returns-in-Ok-clause-image
returns-in-Ok-clause-image c t p is image =
    IfOk-weaker c.done.result _ _
    (λ after ok.
    subst (λ (ended : Ended). HasImage ended.disk t (with_version p Two)) (sym ok.0)
    (upgraded t p c.args.disk c.no_script.result c.args.sink c.top.result
    (c.top.ensures.performs _ (c.in-Ok.ensures _ asks_upgrade)) is
    image ok.1))
    c.done.ensures.ok

pub returns-in-Ok-clause-stops : goal.returns-in-Ok-clause-stops
returns-in-Ok-clause-stops c t p is image =
    IfErr-weaker c.done.result _ _
    (λ after other.
    subst (StopsUpgrade c.args.disk) (sym other.0)
    (upgrade_stops t p c.args.disk c.no_script.result c.args.sink c.top.result
    (c.top.ensures.performs _ (c.in-Ok.ensures _ asks_upgrade)) c.top.ensures.outside is image other.1))
    c.done.ensures.ended

pub returns-in-Err-clause-stops : goal.returns-in-Err-clause-stops
returns-in-Err-clause-stops c t p is image =
    unupgraded_stops c.args.disk c.idle.result (ap (λ (ended : Ended). ended.status) c.idle.ensures)
