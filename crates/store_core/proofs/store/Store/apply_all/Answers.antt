use Rattle.std.proofs.Common.{map, ap, ◌∙◌}
use Rattle.script_lines.specs.Sessions.{change_of}
use Rattle.staged_tree.specs.StagedTree.{TreeList}
use Rattle.store_core.proofs.StoreSteps.{group_next, GroupReply, on_value, carried, tree_there, served_ok, applies_ok}
use Rattle.store_core.proofs.StoreSteps.{served_err, applies_err}
use Rattle.store_core.proofs.store.Store.apply_all.Goals as goal

pub move_on-requires-clause-tree : goal.move_on-requires-clause-tree
move_on-requires-clause-tree g c =
    let group = map change_of c.args.changes.now in
    let is = carried g.D.Disk.state (group_next group) (GroupReply group) c.self.inside.known c.self.inside.pairs _
    c.args.self.now _ _ _ c.self.invariant c.self.view_is c.is_stopped.ensures.value c.if-is_stopped.false
    c.params.ensures.value c.carry_out_all-result.ensures.list c.carry_out_all-result.ensures.call
    (λ t list observable. on_value _ (c.carry_out_all-result.ensures.fits t list observable)) in
    let disk_is = c.disk.ensures ∙ ap (λ (v : TreeList g.row.D.Denot). v.pages.disk) c.pairs.view_is in
    tree_there g.D.Disk.state _ _ _ _ _ _ _ is _ c.is_ok.ensures.value c.if-is_ok.true c.disk.result.now disk_is

pub invariant_of-self : goal.invariant_of-self
invariant_of-self g c =
    let group = map change_of c.args.changes.now in
    let is = carried g.D.Disk.state (group_next group) (GroupReply group) c.self.inside.known c.self.inside.pairs _
    c.args.self.now _ _ _ c.self.invariant c.self.view_is c.is_stopped.ensures.value c.if-is_stopped.false
    c.params.ensures.value c.carry_out_all-result.ensures.list c.carry_out_all-result.ensures.call
    (λ t list observable. on_value _ (c.carry_out_all-result.ensures.fits t list observable)) in
    let disk_is = c.disk.ensures ∙ ap (λ (v : TreeList g.row.D.Denot). v.pages.disk) c.pairs.view_is in
    served_ok g.D.Disk.state _ _ _ _ _ _ _ is _ c.is_ok.ensures.value c.if-is_ok.true c.disk.result.now disk_is
    c.move_on.new.self c.move_on.ensures.call

pub returns-then-is_ok : goal.returns-then-is_ok
returns-then-is_ok g c =
    let group = map change_of c.args.changes.now in
    let is = carried g.D.Disk.state (group_next group) (GroupReply group) c.self.inside.known c.self.inside.pairs _
    c.args.self.now _ _ _ c.self.invariant c.self.view_is c.is_stopped.ensures.value c.if-is_stopped.false
    c.params.ensures.value c.carry_out_all-result.ensures.list c.carry_out_all-result.ensures.call
    (λ t list observable. on_value _ (c.carry_out_all-result.ensures.fits t list observable)) in
    let disk_is = c.disk.ensures ∙ ap (λ (v : TreeList g.row.D.Denot). v.pages.disk) c.pairs.view_is in
    record {
      call = applies_ok g.D.Disk.state _ _ _ _ _ _ _ is _
          c.is_ok.ensures.value c.if-is_ok.true c.disk.result.now disk_is c.move_on.new.self c.move_on.ensures.call;
    }

pub returns-else-is_ok : goal.returns-else-is_ok
returns-else-is_ok g c =
    let group = map change_of c.args.changes.now in
    let is = carried g.D.Disk.state (group_next group) (GroupReply group) c.self.inside.known c.self.inside.pairs _
    c.args.self.now _ _ _ c.self.invariant c.self.view_is c.is_stopped.ensures.value c.if-is_stopped.false
    c.params.ensures.value c.carry_out_all-result.ensures.list c.carry_out_all-result.ensures.call
    (λ t list observable. on_value _ (c.carry_out_all-result.ensures.fits t list observable)) in
    record { call = applies_err g.D.Disk.state _ _ _ _ _ _ _ is _ c.is_ok.ensures.value c.if-is_ok.false }

pub invariant_of-self-else-is_ok : goal.invariant_of-self-else-is_ok
invariant_of-self-else-is_ok g c =
    let group = map change_of c.args.changes.now in
    let is = carried g.D.Disk.state (group_next group) (GroupReply group) c.self.inside.known c.self.inside.pairs _
    c.args.self.now _ _ _ c.self.invariant c.self.view_is c.is_stopped.ensures.value c.if-is_stopped.false
    c.params.ensures.value c.carry_out_all-result.ensures.list c.carry_out_all-result.ensures.call
    (λ t list observable. on_value _ (c.carry_out_all-result.ensures.fits t list observable)) in
    served_err g.D.Disk.state _ _ _ _ _ _ _ is _ c.is_ok.ensures.value c.if-is_ok.false
