use Rattle.std.proofs.Common.{◌≡◌, false, ap, subst, ◌∙◌}
use Rattle.std.specs.FinMap as maps
use Rattle.store_model.specs.Pages.{page_count}
use Rattle.disk_model.specs.DiskState.{IsObservable}
use Rattle.staged_tree.specs.StagedTree.{TreeList}
use Rattle.store_core.specs.StoreState.{StoreState}
use Rattle.staged_tree.proofs.TreePages.{tree_holds, held_count}
use Rattle.store_core.proofs.store.Store.used.Goals as goal

pub returns : goal.returns
returns g c observable runs =
    let state = g.D.Disk.state in
    let known = c.self.inside.known in
    let map = c.self.inside.pairs.pages.map in
    let told = ap (λ (x : StoreState g.row.D.Denot). (state x.disk).is_observable) c.self.view_is ∙ observable in
    let goes_on = ap (λ (x : StoreState g.row.D.Denot). x.is_stopped) c.self.view_is ∙ runs in
    let at = c.self.invariant.at in
    let count = subst (λ (v : TreeList g.row.D.Denot). IsObservable (state v.pages.disk) → v.pages.is_spent ≡ false
    → c.used.result ≡ maps.len v.pages.map) (λ i. (c.self-inside.view_is i).pairs) c.used.ensures in
    count told goes_on ∙ held_count known.tree known.params map
    (tree_holds known.tree known.params map at.fitting (at.pages.held told goes_on).map_is)
    ∙ ap (λ (x : StoreState g.row.D.Denot). page_count x.tree x.params) c.self.view_is
