use Rattle.std.proofs.Common.{refl, ap, ◌∙◌}
use Rattle.store_model.specs.Parameters.{Parameters}
use Rattle.store_model.specs.Draws.{draw_of}
use Rattle.store_model.specs.Pairs.{pairs}
use Rattle.store_model.specs.Pages.{pages}
use Rattle.store_model.specs.PageMaps.{map_of_pages}
use Rattle.staged_tree.proofs.TreePages.{tree_holds}
use Rattle.store_core.specs.Walks.{StandsAfter}
use Rattle.store_core.proofs.store.Store.walk.Goals as goal

pub returns : goal.returns
unfolding StandsAfter draw_of
returns g c =
    let t = c.args.self.now.tree in
    let p = c.args.self.now.params in
    c.new.ensures (draw_of p) (pairs t p) (map_of_pages (pages t p))
    (tree_holds t p (map_of_pages (pages t p)) c.params.ensures.fitting refl)
    (c.height.ensures.value ∙ ap (λ (q : Parameters). q.height) c.params.ensures.value)
