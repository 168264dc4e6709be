use Rattle.std.proofs.Common.{refl, ap, ◌∙◌}
use Rattle.staged_tree.specs.StagedTree.{TreeList}
use Rattle.store_core.proofs.StoreSteps.{next_tree, carried, tree_there, served_ok, applies_ok, served_err}
use Rattle.store_core.proofs.StoreSteps.{applies_err}
use Rattle.store_core.specs.declared.walks.PairsWalk.{PairsWalk}
use Rattle.store_core.proofs.WalkSteps.{WalkReply, walk_seen, walks_on}
use Rattle.store_core.proofs.store.Store.next_of.Goals as goal

pub pull_next-result-requires-clause-list : goal.pull_next-result-requires-clause-list
pull_next-result-requires-clause-list g c =
    (c.self.inside.known.tree, (c.self.inside.known.params, c.self.invariant.at))

pub move_on-requires-clause-tree : goal.move_on-requires-clause-tree
move_on-requires-clause-tree g c =
    let is = carried g.D.Disk.state next_tree (WalkReply c.args.walk.now.stream) c.self.inside.known
    c.self.inside.pairs _
    c.args.self.now _ _ _ c.self.invariant c.self.view_is c.is_stopped.ensures.value c.if-is_stopped.false refl
    c.pull_next-result.ensures.list (λ t list. c.pull_next-result.ensures.call t c.self.inside.known.params list)
    (λ t list observable answer is. list.fitting) in
    let disk_is = c.disk.ensures ∙ ap (λ (v : TreeList g.row.D.Denot). v.pages.disk) c.pairs.view_is in
    tree_there g.D.Disk.state _ _ _ _ _ _ _ is _ c.is_ok.ensures.value c.if-is_ok.true c.disk.result.now disk_is

pub invariant_of-self : goal.invariant_of-self
invariant_of-self g c =
    let is = carried g.D.Disk.state next_tree (WalkReply c.args.walk.now.stream) c.self.inside.known
    c.self.inside.pairs _
    c.args.self.now _ _ _ c.self.invariant c.self.view_is c.is_stopped.ensures.value c.if-is_stopped.false refl
    c.pull_next-result.ensures.list (λ t list. c.pull_next-result.ensures.call t c.self.inside.known.params list)
    (λ t list observable answer is. list.fitting) in
    let disk_is = c.disk.ensures ∙ ap (λ (v : TreeList g.row.D.Denot). v.pages.disk) c.pairs.view_is in
    served_ok g.D.Disk.state _ _ _ _ _ _ _ is _ c.is_ok.ensures.value c.if-is_ok.true c.disk.result.now disk_is
    c.move_on.new.self c.move_on.ensures.call

pub returns-then-is_ok : goal.returns-then-is_ok
returns-then-is_ok g c =
    let is = carried g.D.Disk.state next_tree (WalkReply c.args.walk.now.stream) c.self.inside.known
    c.self.inside.pairs _
    c.args.self.now _ _ _ c.self.invariant c.self.view_is c.is_stopped.ensures.value c.if-is_stopped.false refl
    c.pull_next-result.ensures.list (λ t list. c.pull_next-result.ensures.call t c.self.inside.known.params list)
    (λ t list observable answer is. list.fitting) in
    let disk_is = c.disk.ensures ∙ ap (λ (v : TreeList g.row.D.Denot). v.pages.disk) c.pairs.view_is in
    let after : PairsWalk = record { stream = c.pull_next-result.new.stream } in
    record {
      call = walks_on g.D.Disk.state _ _ c.args.walk.now after _
          (applies_ok g.D.Disk.state _ _ _ _ _ _ _ is _
          c.is_ok.ensures.value c.if-is_ok.true c.disk.result.now disk_is c.move_on.new.self c.move_on.ensures.call)
          (walk_seen g.D.Disk.state c.self.inside.known c.self.inside.pairs _ _ _ _ c.self.view_is
          (c.pull_next-result.ensures.stream c.self.inside.known.tree c.self.inside.known.params c.self.invariant.at));
    }

pub returns-else-is_ok : goal.returns-else-is_ok
returns-else-is_ok g c =
    let is = carried g.D.Disk.state next_tree (WalkReply c.args.walk.now.stream) c.self.inside.known
    c.self.inside.pairs _
    c.args.self.now _ _ _ c.self.invariant c.self.view_is c.is_stopped.ensures.value c.if-is_stopped.false refl
    c.pull_next-result.ensures.list (λ t list. c.pull_next-result.ensures.call t c.self.inside.known.params list)
    (λ t list observable answer is. list.fitting) in
    let after : PairsWalk = record { stream = c.pull_next-result.new.stream } in
    record {
      call = walks_on g.D.Disk.state _ _ c.args.walk.now after _
          (applies_err g.D.Disk.state _ _ _ _ _ _ _ is _ c.is_ok.ensures.value c.if-is_ok.false)
          (walk_seen g.D.Disk.state c.self.inside.known c.self.inside.pairs _ _ _ _ c.self.view_is
          (c.pull_next-result.ensures.stream c.self.inside.known.tree c.self.inside.known.params c.self.invariant.at));
    }

pub invariant_of-self-else-is_ok : goal.invariant_of-self-else-is_ok
invariant_of-self-else-is_ok g c =
    let is = carried g.D.Disk.state next_tree (WalkReply c.args.walk.now.stream) c.self.inside.known
    c.self.inside.pairs _
    c.args.self.now _ _ _ c.self.invariant c.self.view_is c.is_stopped.ensures.value c.if-is_stopped.false refl
    c.pull_next-result.ensures.list (λ t list. c.pull_next-result.ensures.call t c.self.inside.known.params list)
    (λ t list observable answer is. list.fitting) in
    served_err g.D.Disk.state _ _ _ _ _ _ _ is _ c.is_ok.ensures.value c.if-is_ok.false
