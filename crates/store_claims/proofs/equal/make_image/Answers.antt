use Rattle.std.proofs.Common.{Contains, inl, inr, sym, subst}
use Rattle.std.proofs.lemmas.Result.{IfErr-weaker}
use Rattle.store_model.specs.Trees.{empty_tree}
use Rattle.script_lines.specs.Memory.{SourceMemory}
use Rattle.store_claims.specs.Makings.{SparesCounts, StopsFormat}
use Rattle.store_claims.specs.Machines.{Ended, HasImage}
use Rattle.store_claims.proofs.MakingLemmas.{formatted}
use Rattle.store_claims.proofs.RequestedParameters.{requested_fits}
use Rattle.store_claims.proofs.StoppingLemmas.{handed_on, spares_counts, format_stops, stops_behind}
use Rattle.store_claims.proofs.equal.make_image.Goals as goal

pub returns-clause-image : goal.returns-clause-image
returns-clause-image c p asked =
    let ok = c.in_ok-formatted.ensures.ok in
    c.run_scripts.ensures.image empty_tree p (requested_fits c.args.format.now p asked)
    (subst (λ (ended : Ended). HasImage ended.disk empty_tree p) (sym ok.0)
    (formatted p c.args.making.disk c.no_script.result c.args.making.sink c.top.result
    (c.top.ensures.performs _ asked) ok.1))

pub returns-in_err-formatted-clause-stops : goal.returns-in_err-formatted-clause-stops
returns-in_err-formatted-clause-stops c p asked =
    let other = c.in_err-formatted.ensures.ended in
    handed_on _ c.in_err-formatted.field-0.0 c.from_residual.result c.from_residual.ensures.1
    (inl (subst (StopsFormat p c.args.making.disk) (sym other.0)
    (format_stops c.args.making.disk c.no_script.result c.args.making.sink c.top.result c.top.ensures.outside p
    (c.top.ensures.performs _ asked) other.1)))

pub returns-clause-stops : goal.returns-clause-stops
returns-clause-stops c p asked =
    let ok = c.in_ok-formatted.ensures.ok in
    let format = c.top.ensures.performs _ asked in
    let spared = subst (λ (ended : Ended). SparesCounts c.args.making.disk c.args.making.sink ended) (sym ok.0)
    (spares_counts c.args.making.disk c.no_script.result c.args.making.sink c.top.result
    c.top.ensures.outside ok.1) in
    let image = subst (λ (ended : Ended). HasImage ended.disk empty_tree p) (sym ok.0)
    (formatted p c.args.making.disk c.no_script.result c.args.making.sink c.top.result format ok.1) in
    IfErr-weaker c.run_scripts.result _ _
    (λ ended stops.
    inr (stops_behind c.args.making.disk c.in_ok-formatted.formatted.disk
    (λ (script : SourceMemory). Contains c.args.making.scripts.items script)
    (λ (script : SourceMemory). Contains c.args.making.scripts.items script)
    c.args.making.sink c.in_ok-formatted.formatted.sink ended
    spared.disk_faults spared.sink_faults (λ script is. is) stops))
    (c.run_scripts.ensures.stops empty_tree p (requested_fits c.args.format.now p asked) image)
