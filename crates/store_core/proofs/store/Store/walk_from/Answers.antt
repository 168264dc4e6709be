use Rattle.std.proofs.Common.{Ok, Err, true, false, refl, sym, ap, subst, ◌∙◌}
use Rattle.store_model.specs.Parameters.{Parameters}
use Rattle.staged_tree.specs.StagedTree.{TreeList, IsListAt}
use Rattle.store_core.proofs.StoreSteps.{next_tree, carried, tree_there, served_ok, applies_ok, served_err, applies_err}
use Rattle.store_core.proofs.WalkSteps.{StartReply, started, not_started}
use Rattle.store_core.proofs.store.Store.walk_from.Goals as goal

pub start_stream-requires-clause-list : goal.start_stream-requires-clause-list
start_stream-requires-clause-list g c = (
  c.self.inside.known.tree,
  subst (λ (q : Parameters). IsListAt g.D.Disk.state c.self.inside.known.tree q c.self.inside.pairs)
      (sym c.params.ensures.value) c.self.invariant.at,
)

pub move_on-requires-clause-tree : goal.move_on-requires-clause-tree
move_on-requires-clause-tree g c =
    let is = carried g.D.Disk.state next_tree (StartReply c.args.key.now) c.self.inside.known c.self.inside.pairs _
    c.args.self.now (Ok c.in-Ok.stream) _ _ c.self.invariant c.self.view_is c.is_stopped.ensures.value
    c.if-is_stopped.false c.params.ensures.value c.in-Ok.ensures.list c.in-Ok.ensures.call
    (λ t list observable answer is. list.fitting) in
    let disk_is = c.disk.ensures ∙ ap (λ (v : TreeList g.row.D.Denot). v.pages.disk) c.pairs.view_is in
    tree_there g.D.Disk.state _ _ _ _ _ _ _ is true refl refl c.disk.result.now disk_is

pub invariant_of-self : goal.invariant_of-self
invariant_of-self g c =
    let is = carried g.D.Disk.state next_tree (StartReply c.args.key.now) c.self.inside.known c.self.inside.pairs _
    c.args.self.now (Ok c.in-Ok.stream) _ _ c.self.invariant c.self.view_is c.is_stopped.ensures.value
    c.if-is_stopped.false c.params.ensures.value c.in-Ok.ensures.list c.in-Ok.ensures.call
    (λ t list observable answer is. list.fitting) in
    let disk_is = c.disk.ensures ∙ ap (λ (v : TreeList g.row.D.Denot). v.pages.disk) c.pairs.view_is in
    served_ok g.D.Disk.state _ _ _ _ _ _ _ is true refl refl c.disk.result.now disk_is c.move_on.new.self
    c.move_on.ensures.call

pub returns-in-Ok : goal.returns-in-Ok
returns-in-Ok g c =
    let is = carried g.D.Disk.state next_tree (StartReply c.args.key.now) c.self.inside.known c.self.inside.pairs _
    c.args.self.now (Ok c.in-Ok.stream) _ _ c.self.invariant c.self.view_is c.is_stopped.ensures.value
    c.if-is_stopped.false c.params.ensures.value c.in-Ok.ensures.list c.in-Ok.ensures.call
    (λ t list observable answer is. list.fitting) in
    let disk_is = c.disk.ensures ∙ ap (λ (v : TreeList g.row.D.Denot). v.pages.disk) c.pairs.view_is in
    record {
      call = started g.D.Disk.state c.args.key.now _ _ c.in-Ok.stream _ refl
          (applies_ok g.D.Disk.state _ _ _ _ _ _ _ is true refl refl c.disk.result.now disk_is c.move_on.new.self
          c.move_on.ensures.call);
    }

pub returns-in-Err : goal.returns-in-Err
returns-in-Err g c =
    let is = carried g.D.Disk.state next_tree (StartReply c.args.key.now) c.self.inside.known c.self.inside.pairs _
    c.args.self.now (Err c.in-Err.fault) _ _ c.self.invariant c.self.view_is c.is_stopped.ensures.value
    c.if-is_stopped.false c.params.ensures.value c.in-Err.ensures.list c.in-Err.ensures.call
    (λ t list observable answer is. list.fitting) in
    record {
      call = not_started g.D.Disk.state c.args.key.now _ _ c.in-Err.fault
          (applies_err g.D.Disk.state _ _ _ _ _ _ _ is false refl refl);
    }

pub invariant_of-self-in-Err : goal.invariant_of-self-in-Err
invariant_of-self-in-Err g c =
    let is = carried g.D.Disk.state next_tree (StartReply c.args.key.now) c.self.inside.known c.self.inside.pairs _
    c.args.self.now (Err c.in-Err.fault) _ _ c.self.invariant c.self.view_is c.is_stopped.ensures.value
    c.if-is_stopped.false c.params.ensures.value c.in-Err.ensures.list c.in-Err.ensures.call
    (λ t list observable answer is. list.fitting) in
    served_err g.D.Disk.state _ _ _ _ _ _ _ is false refl refl
