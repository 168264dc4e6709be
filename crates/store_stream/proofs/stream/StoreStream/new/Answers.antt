use Rattle.std.proofs.Common.{refl, sym, ap, ◌∙◌}
use Rattle.store_model.specs.Parameters.{Parameters}
use Rattle.store_stream.proofs.StreamLemmas.{came_none, under_fitting}
use Rattle.store_stream.proofs.stream.StoreStream.new.Goals as goal

pub returns-clause-came : goal.returns-clause-came
returns-clause-came g c =
    let tree = c.args.store.tree in
    let params = c.args.store.params in
    let fitting = c.params.ensures.fitting in
    let version = sym (c.version.ensures.value ∙ ap (λ (p : Parameters). p.version) c.params.ensures.value) in
    came_none g.D.Disk.state _ fitting refl c.walk-walk.ensures (c.new-steps.ensures.given params version)
    (c.new-steps.ensures.taken tree params version (under_fitting tree params fitting))
