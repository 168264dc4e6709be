use Rattle.std.proofs.Common.{◌≡◌, sym, ap, subst, ◌∙◌}
use Rattle.store_model.specs.Parameters.{Parameters}
use Rattle.store_model.specs.Trees.{Tree, empty_tree}
use Rattle.store_model.specs.Pairs.{pairs}
use Rattle.store_model.specs.Pages.{IsTreeUnder}
use Rattle.staged_tree.specs.StagedTree.{TreeList, IsListAt}
use Rattle.store_core.specs.StoreState.{StoreState}
use Rattle.store_core.proofs.StoreSteps.{load_carried, tree_there, served_ok, applies_ok, served_err, applies_err}
use Rattle.store_core.proofs.store.Store.load_drawn.Goals as goal

pub load_list-result-requires-clause-list : goal.load_list-result-requires-clause-list
load_list-result-requires-clause-list g c =
    let state = g.D.Disk.state in
    let known = c.self.inside.known in
    let tree_is : known.tree ≡ empty_tree =
    ap (λ (x : StoreState g.row.D.Denot). x.tree) c.self.view_is ∙ c.requires.empty in
    subst (λ (q : Parameters). IsListAt state empty_tree q c.self.inside.pairs) (sym c.params.ensures.value)
    (subst (λ (u : Tree). IsListAt state u known.params c.self.inside.pairs) tree_is c.self.invariant.at)

pub load_list-result-requires-clause-pairs : goal.load_list-result-requires-clause-pairs
load_list-result-requires-clause-pairs g c =
    let params_is : c.args.self.now.params ≡ c.params.result.now =
    sym (c.params.ensures.value ∙ ap (λ (x : StoreState g.row.D.Denot). x.params) c.self.view_is) in
    subst (λ (q : Parameters). (t : Tree) × (IsTreeUnder t q × (c.args.pairs.now ≡ pairs t q)))
    params_is c.requires.pairs

pub move_on-requires-clause-tree : goal.move_on-requires-clause-tree
move_on-requires-clause-tree g c =
    let some = c.requires.pairs in
    let params_is : c.args.self.now.params ≡ c.params.result.now =
    sym (c.params.ensures.value ∙ ap (λ (x : StoreState g.row.D.Denot). x.params) c.self.view_is) in
    let here = subst (λ (q : Parameters). c.args.pairs.now ≡ pairs some.0 q) params_is some.1.1 in
    let is = load_carried g.D.Disk.state some.0 c.self.inside.known c.self.inside.pairs _ c.args.self.now _ _ _
    c.self.invariant c.self.view_is c.is_stopped.ensures.value c.if-is_stopped.false c.params.ensures.value
    c.requires.empty some.1.0 c.load_list-result.ensures.list (λ at. c.load_list-result.ensures.call some.0 at here)
    in
    let disk_is = c.disk.ensures ∙ ap (λ (v : TreeList g.row.D.Denot). v.pages.disk) c.pairs.view_is in
    tree_there g.D.Disk.state _ _ _ _ _ _ _ is _ c.is_ok.ensures.value c.if-is_ok.true c.disk.result.now disk_is

pub invariant_of-self : goal.invariant_of-self
invariant_of-self g c =
    let some = c.requires.pairs in
    let params_is : c.args.self.now.params ≡ c.params.result.now =
    sym (c.params.ensures.value ∙ ap (λ (x : StoreState g.row.D.Denot). x.params) c.self.view_is) in
    let here = subst (λ (q : Parameters). c.args.pairs.now ≡ pairs some.0 q) params_is some.1.1 in
    let is = load_carried g.D.Disk.state some.0 c.self.inside.known c.self.inside.pairs _ c.args.self.now _ _ _
    c.self.invariant c.self.view_is c.is_stopped.ensures.value c.if-is_stopped.false c.params.ensures.value
    c.requires.empty some.1.0 c.load_list-result.ensures.list (λ at. c.load_list-result.ensures.call some.0 at here)
    in
    let disk_is = c.disk.ensures ∙ ap (λ (v : TreeList g.row.D.Denot). v.pages.disk) c.pairs.view_is in
    served_ok g.D.Disk.state _ _ _ _ _ _ _ is _ c.is_ok.ensures.value c.if-is_ok.true c.disk.result.now disk_is
    c.move_on.new.self c.move_on.ensures.call

pub returns-then-is_ok : goal.returns-then-is_ok
returns-then-is_ok g c = record {
  call = λ t under of.
      let params_is : c.args.self.now.params ≡ c.params.result.now =
      sym (c.params.ensures.value ∙ ap (λ (x : StoreState g.row.D.Denot). x.params) c.self.view_is) in
      let here = subst (λ (q : Parameters). c.args.pairs.now ≡ pairs t q) params_is of in
      let is = load_carried g.D.Disk.state t c.self.inside.known c.self.inside.pairs _ c.args.self.now _ _ _
      c.self.invariant c.self.view_is c.is_stopped.ensures.value c.if-is_stopped.false c.params.ensures.value
      c.requires.empty under c.load_list-result.ensures.list (λ at. c.load_list-result.ensures.call t at here) in
      let disk_is = c.disk.ensures ∙ ap (λ (v : TreeList g.row.D.Denot). v.pages.disk) c.pairs.view_is in
      applies_ok g.D.Disk.state _ _ _ _ _ _ _ is _ c.is_ok.ensures.value c.if-is_ok.true c.disk.result.now disk_is
      c.move_on.new.self c.move_on.ensures.call;
}

pub returns-else-is_ok : goal.returns-else-is_ok
returns-else-is_ok g c = record {
  call = λ t under of.
      let params_is : c.args.self.now.params ≡ c.params.result.now =
      sym (c.params.ensures.value ∙ ap (λ (x : StoreState g.row.D.Denot). x.params) c.self.view_is) in
      let here = subst (λ (q : Parameters). c.args.pairs.now ≡ pairs t q) params_is of in
      let is = load_carried g.D.Disk.state t c.self.inside.known c.self.inside.pairs _ c.args.self.now _ _ _
      c.self.invariant c.self.view_is c.is_stopped.ensures.value c.if-is_stopped.false c.params.ensures.value
      c.requires.empty under c.load_list-result.ensures.list (λ at. c.load_list-result.ensures.call t at here) in
      applies_err g.D.Disk.state _ _ _ _ _ _ _ is _ c.is_ok.ensures.value c.if-is_ok.false;
}

pub invariant_of-self-else-is_ok : goal.invariant_of-self-else-is_ok
invariant_of-self-else-is_ok g c =
    let some = c.requires.pairs in
    let params_is : c.args.self.now.params ≡ c.params.result.now =
    sym (c.params.ensures.value ∙ ap (λ (x : StoreState g.row.D.Denot). x.params) c.self.view_is) in
    let here = subst (λ (q : Parameters). c.args.pairs.now ≡ pairs some.0 q) params_is some.1.1 in
    let is = load_carried g.D.Disk.state some.0 c.self.inside.known c.self.inside.pairs _ c.args.self.now _ _ _
    c.self.invariant c.self.view_is c.is_stopped.ensures.value c.if-is_stopped.false c.params.ensures.value
    c.requires.empty some.1.0 c.load_list-result.ensures.list (λ at. c.load_list-result.ensures.call some.0 at here)
    in
    served_err g.D.Disk.state _ _ _ _ _ _ _ is _ c.is_ok.ensures.value c.if-is_ok.false
