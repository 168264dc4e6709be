use Rattle.std.proofs.Common.{◌≡◌, List, length, Contains, refl, sym, ◌∙◌, subst, arith}
use Rattle.std.specs.List.{flat_map}
use Rattle.std.proofs.lemmas.Iterator.Consumers.{YieldsList-end, YieldsList-turn}
use Rattle.std.proofs.lemmas.List.{map-id}
use Rattle.std.proofs.lemmas.Iterator.Adapters.{YieldsList-from_vec}
use Rattle.store_model.specs.Trees.{Tree}
use Rattle.store_model.specs.Scripts.{lines, tree_after}
use Rattle.script_lines.specs.Memory.{SourceMemory}
use Rattle.store_claims.specs.Machines.{HasImage}
use Rattle.store_claims.proofs.MakingLemmas.{no_more, one_more, after_fits}
use Rattle.store_claims.proofs.StoppingLemmas.{handed_on, stops_behind}
use Rattle.store_claims.proofs.equal.run_scripts.Goals as goal

pub loop-source-init : goal.loop-source-init
loop-source-init c =
    ((λ t p is image. subst (λ (u : Tree). HasImage c.args.disk u p) (sym (no_more t p)) image), refl, refl)

pub loop-source-preserved : goal.loop-source-preserved
loop-source-preserved c =
    let spared = c.in_ok-after.ensures.spares in (
      (λ t p is image. subst (λ (u : Tree). HasImage c.in_ok-after.after.disk u p)
          (one_more t p c.loop-source.yielded c.in-Some.source)
          (c.in_ok-after.ensures.image _ p
          (after_fits t p (flat_map (λ (source : SourceMemory). lines source.left) c.loop-source.yielded) is)
          (c.loop-source.invariant.0 t p is image))),
      spared.disk_faults ∙ c.loop-source.invariant.1,
      spared.sink_faults ∙ c.loop-source.invariant.2,
    )

pub returns-clause-image : goal.returns-clause-image
returns-clause-image c t p is image =
    let gives = c.into_iter-source-iterator.ensures.into_iter_gives in
    let end =
    YieldsList-end (YieldsList-from_vec c.args.scripts.items gives.0 (omega (arith, gives.1, c.args.scripts.ok.0)))
    c.loop-source.yielded c.loop-source.source-iterator c.loop-source.yielded_by c.next.result c.next.new.self
    c.in-None.is c.next.ensures.steps in
    subst (λ (scripts : List SourceMemory).
    HasImage c.loop-source.disk (tree_after t (flat_map (λ (source : SourceMemory). lines source.left) scripts) p)
    p) (sym (map-id c.loop-source.yielded) ∙ end.0) (c.loop-source.invariant.0 t p is image)

pub returns-in_err-after-clause-stops : goal.returns-in_err-after-clause-stops
returns-in_err-after-clause-stops c t p is image =
    let gives = c.into_iter-source-iterator.ensures.into_iter_gives in
    let turn =
    YieldsList-turn (YieldsList-from_vec c.args.scripts.items gives.0 (omega (arith, gives.1, c.args.scripts.ok.0)))
    c.loop-source.yielded c.loop-source.source-iterator c.loop-source.yielded_by c.next.result c.next.new.self
    c.in-Some.source c.in-Some.is c.next.ensures.steps in
    let among : Contains c.args.scripts.items c.in-Some.source = (length c.loop-source.yielded, turn.0, sym turn.1) in
    handed_on _ c.in_err-after.field-0.0 c.from_residual.result c.from_residual.ensures.1
    (stops_behind c.args.disk c.loop-source.disk (λ (script : SourceMemory). Contains c.args.scripts.items script)
    (λ (script : SourceMemory). script ≡ c.in-Some.source) c.args.sink c.loop-source.sink _
    c.loop-source.invariant.1 c.loop-source.invariant.2
    (λ script e. subst (λ (s : SourceMemory). Contains c.args.scripts.items s) (sym e) among)
    (c.in_err-after.ensures.stops _ p
    (after_fits t p (flat_map (λ (source : SourceMemory). lines source.left) c.loop-source.yielded) is)
    (c.loop-source.invariant.0 t p is image)))
