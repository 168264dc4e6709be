use Rattle.std.proofs.Common.{ap, ◌∙◌}
use Rattle.script_lines.specs.Parsing.{command_of}
use Rattle.staged_tree.specs.StagedTree.{TreeList}
use Rattle.staged_tree.proofs.TreePages.{fitting_step}
use Rattle.store_core.proofs.StoreSteps.{command_tree, CommandReply, is_ok-in_place, carried, tree_there}
use Rattle.store_core.proofs.StoreSteps.{served_ok, applies_ok, served_err, applies_err}
use Rattle.store_core.proofs.store.Store.apply_into.Goals as goal

pub move_on-requires-clause-tree : goal.move_on-requires-clause-tree
move_on-requires-clause-tree g c =
    let command = command_of c.args.command.now in
    let is = carried g.D.Disk.state (command_tree command)
    (CommandReply command) c.self.inside.known c.self.inside.pairs _ c.args.self.now _ _ _
    c.self.invariant c.self.view_is c.is_stopped.ensures.value c.if-is_stopped.false c.params.ensures.value
    c.carry_out-result.ensures.list c.carry_out-result.ensures.call
    (λ t list observable reply is. fitting_step t command _ list.fitting c.reveal.ensures) in
    let disk_is = c.disk.ensures ∙ ap (λ (v : TreeList g.row.D.Denot). v.pages.disk) c.pairs.view_is in
    tree_there g.D.Disk.state _ _ _ _ _ _ _ is _
    (c.is_ok.ensures.value ∙ is_ok-in_place c.carry_out-result.new.reply c.carry_out-result.result)
    c.if-is_ok.true c.disk.result.now disk_is

pub invariant_of-self : goal.invariant_of-self
invariant_of-self g c =
    let command = command_of c.args.command.now in
    let is = carried g.D.Disk.state (command_tree command)
    (CommandReply command) c.self.inside.known c.self.inside.pairs _ c.args.self.now _ _ _
    c.self.invariant c.self.view_is c.is_stopped.ensures.value c.if-is_stopped.false c.params.ensures.value
    c.carry_out-result.ensures.list c.carry_out-result.ensures.call
    (λ t list observable reply is. fitting_step t command _ list.fitting c.reveal.ensures) in
    let disk_is = c.disk.ensures ∙ ap (λ (v : TreeList g.row.D.Denot). v.pages.disk) c.pairs.view_is in
    served_ok g.D.Disk.state _ _ _ _ _ _ _ is _
    (c.is_ok.ensures.value ∙ is_ok-in_place c.carry_out-result.new.reply c.carry_out-result.result)
    c.if-is_ok.true c.disk.result.now disk_is c.move_on.new.self c.move_on.ensures.call

pub returns-then-is_ok : goal.returns-then-is_ok
returns-then-is_ok g c =
    let command = command_of c.args.command.now in
    let is = carried g.D.Disk.state (command_tree command)
    (CommandReply command) c.self.inside.known c.self.inside.pairs _ c.args.self.now _ _ _
    c.self.invariant c.self.view_is c.is_stopped.ensures.value c.if-is_stopped.false c.params.ensures.value
    c.carry_out-result.ensures.list c.carry_out-result.ensures.call
    (λ t list observable reply is. fitting_step t command _ list.fitting c.reveal.ensures) in
    let disk_is = c.disk.ensures ∙ ap (λ (v : TreeList g.row.D.Denot). v.pages.disk) c.pairs.view_is in
    record {
      call = applies_ok g.D.Disk.state _ _ _ _ _ _ _ is _
          (c.is_ok.ensures.value ∙ is_ok-in_place c.carry_out-result.new.reply c.carry_out-result.result)
          c.if-is_ok.true c.disk.result.now disk_is c.move_on.new.self c.move_on.ensures.call;
    }

pub returns-else-is_ok : goal.returns-else-is_ok
returns-else-is_ok g c =
    let command = command_of c.args.command.now in
    let is = carried g.D.Disk.state (command_tree command)
    (CommandReply command) c.self.inside.known c.self.inside.pairs _ c.args.self.now _ _ _
    c.self.invariant c.self.view_is c.is_stopped.ensures.value c.if-is_stopped.false c.params.ensures.value
    c.carry_out-result.ensures.list c.carry_out-result.ensures.call
    (λ t list observable reply is. fitting_step t command _ list.fitting c.reveal.ensures) in
    record {
      call = applies_err g.D.Disk.state _ _ _ _ _ _ _ is _
          (c.is_ok.ensures.value ∙ is_ok-in_place c.carry_out-result.new.reply c.carry_out-result.result)
          c.if-is_ok.false;
    }

pub invariant_of-self-else-is_ok : goal.invariant_of-self-else-is_ok
invariant_of-self-else-is_ok g c =
    let command = command_of c.args.command.now in
    let is = carried g.D.Disk.state (command_tree command)
    (CommandReply command) c.self.inside.known c.self.inside.pairs _ c.args.self.now _ _ _
    c.self.invariant c.self.view_is c.is_stopped.ensures.value c.if-is_stopped.false c.params.ensures.value
    c.carry_out-result.ensures.list c.carry_out-result.ensures.call
    (λ t list observable reply is. fitting_step t command _ list.fitting c.reveal.ensures) in
    served_err g.D.Disk.state _ _ _ _ _ _ _ is _
    (c.is_ok.ensures.value ∙ is_ok-in_place c.carry_out-result.new.reply c.carry_out-result.result) c.if-is_ok.false
