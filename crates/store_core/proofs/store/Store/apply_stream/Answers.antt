use Rattle.std.proofs.Common.{[], false, sym, ap, ◌∙◌}
use Rattle.staged_tree.specs.StagedTree.{TreeList}
use Rattle.store_core.proofs.StoreSteps.{stream_next, StreamReply, on_value, carried, tree_there, served_ok, applies_ok}
use Rattle.store_core.proofs.StoreSteps.{served_err, applies_err, stopped}
use Rattle.store_core.proofs.store.Store.apply_stream.Goals as goal

pub returns-then-is_stopped : goal.returns-then-is_stopped
returns-then-is_stopped g c = record {
  call = record {
    changes = [];
    is_whole = false;
    came_for = c.requires.begins;
    store = stopped g.D.Disk.state _ _ c.args.self.now (sym c.is_stopped.ensures.value ∙ c.if-is_stopped.true);
  };
  keeps = λ start kept. kept;
}

pub move_on-requires-clause-tree : goal.move_on-requires-clause-tree
move_on-requires-clause-tree g c =
    let call = c.carry_out_stream-result.ensures.call in
    let is = carried g.D.Disk.state (stream_next call.is_whole call.changes) (StreamReply call.is_whole call.changes)
    c.self.inside.known c.self.inside.pairs _
    c.args.self.now _ _ _ c.self.invariant c.self.view_is c.is_stopped.ensures.value c.if-is_stopped.false
    c.params.ensures.value c.carry_out_stream-result.ensures.list call.call
    (λ t list observable. on_value _ (call.fits t list observable)) in
    let disk_is = c.disk.ensures ∙ ap (λ (v : TreeList g.row.D.Denot). v.pages.disk) c.pairs.view_is in
    tree_there g.D.Disk.state _ _ _ _ _ _ _ is _ c.is_ok.ensures.value c.if-is_ok.true c.disk.result.now disk_is

pub invariant_of-self : goal.invariant_of-self
invariant_of-self g c =
    let call = c.carry_out_stream-result.ensures.call in
    let is = carried g.D.Disk.state (stream_next call.is_whole call.changes) (StreamReply call.is_whole call.changes)
    c.self.inside.known c.self.inside.pairs _
    c.args.self.now _ _ _ c.self.invariant c.self.view_is c.is_stopped.ensures.value c.if-is_stopped.false
    c.params.ensures.value c.carry_out_stream-result.ensures.list call.call
    (λ t list observable. on_value _ (call.fits t list observable)) in
    let disk_is = c.disk.ensures ∙ ap (λ (v : TreeList g.row.D.Denot). v.pages.disk) c.pairs.view_is in
    served_ok g.D.Disk.state _ _ _ _ _ _ _ is _ c.is_ok.ensures.value c.if-is_ok.true c.disk.result.now disk_is
    c.move_on.new.self c.move_on.ensures.call

pub returns-then-is_ok : goal.returns-then-is_ok
returns-then-is_ok g c =
    let call = c.carry_out_stream-result.ensures.call in
    let is = carried g.D.Disk.state (stream_next call.is_whole call.changes) (StreamReply call.is_whole call.changes)
    c.self.inside.known c.self.inside.pairs _
    c.args.self.now _ _ _ c.self.invariant c.self.view_is c.is_stopped.ensures.value c.if-is_stopped.false
    c.params.ensures.value c.carry_out_stream-result.ensures.list call.call
    (λ t list observable. on_value _ (call.fits t list observable)) in
    let disk_is = c.disk.ensures ∙ ap (λ (v : TreeList g.row.D.Denot). v.pages.disk) c.pairs.view_is in
    record {
      call = record {
        changes = call.changes;
        is_whole = call.is_whole;
        came_for = call.came_for;
        store = applies_ok g.D.Disk.state _ _ _ _ _ _ _ is _ c.is_ok.ensures.value c.if-is_ok.true c.disk.result.now
            disk_is c.move_on.new.self c.move_on.ensures.call;
      };
      keeps = c.carry_out_stream-result.ensures.keeps;
    }

pub returns-else-is_ok : goal.returns-else-is_ok
returns-else-is_ok g c =
    let call = c.carry_out_stream-result.ensures.call in
    let is = carried g.D.Disk.state (stream_next call.is_whole call.changes) (StreamReply call.is_whole call.changes)
    c.self.inside.known c.self.inside.pairs _
    c.args.self.now _ _ _ c.self.invariant c.self.view_is c.is_stopped.ensures.value c.if-is_stopped.false
    c.params.ensures.value c.carry_out_stream-result.ensures.list call.call
    (λ t list observable. on_value _ (call.fits t list observable)) in
    record {
      call = record {
        changes = call.changes;
        is_whole = call.is_whole;
        came_for = call.came_for;
        store = applies_err g.D.Disk.state _ _ _ _ _ _ _ is _ c.is_ok.ensures.value c.if-is_ok.false;
      };
      keeps = c.carry_out_stream-result.ensures.keeps;
    }

pub invariant_of-self-else-is_ok : goal.invariant_of-self-else-is_ok
invariant_of-self-else-is_ok g c =
    let call = c.carry_out_stream-result.ensures.call in
    let is = carried g.D.Disk.state (stream_next call.is_whole call.changes) (StreamReply call.is_whole call.changes)
    c.self.inside.known c.self.inside.pairs _
    c.args.self.now _ _ _ c.self.invariant c.self.view_is c.is_stopped.ensures.value c.if-is_stopped.false
    c.params.ensures.value c.carry_out_stream-result.ensures.list call.call
    (λ t list observable. on_value _ (call.fits t list observable)) in
    served_err g.D.Disk.state _ _ _ _ _ _ _ is _ c.is_ok.ensures.value c.if-is_ok.false
