use Rattle.std.proofs.Common.{◌≡◌, Ok, refl, sym, ap, subst, ◌∙◌}
use Rattle.store_model.specs.declared.refusal.Refusal.TheVariants as refusals
use Rattle.store_model.specs.Commands.{Command}
use Rattle.store_model.specs.Commands.Command.{Space}
use Rattle.store_model.specs.Steps.{Step, step}
use Rattle.store_model.proofs.TreesLemmasSteps.{step_of_version}
use Rattle.disk_model.specs.DiskState.{IsObservable}
use Rattle.seeded_draw.specs.AnyDrawn.{any_draw}
use Rattle.script_lines.specs.declared.reply.Reply.{Reply}
use Rattle.script_lines.specs.declared.reply.Reply.TheVariants as replies
use Rattle.script_lines.specs.Parsing.{command_of}
use Rattle.script_lines.specs.Replies.{reply_of}
use Rattle.page_store.specs.StagedState.{Follows-refl}
use Rattle.staged_tree.specs.StagedTree.{TreeList, AreAt}
use Rattle.staged_tree.specs.Steps.{IsReplyTo, EndsCommand}
use Rattle.staged_tree.proofs.ListSteps.{keeps_stays, follows_stay}
use Rattle.staged_tree.proofs.StagedSteps.{read_step, same_staged}
use Rattle.tree_commands.proofs.StepLemmas.{space_step}
use Rattle.store_core.proofs.apply.carry_out.Goals as goal

pub invariant_of-pairs : goal.invariant_of-pairs
invariant_of-pairs g c =
    let s = c.pairs-in-Digest.inside in
    let new = c.tell_digest.new.staged in
    keeps_stays g.D.Disk.state (any_draw s.draw) s.is_whole s.walk.known s.pages new
    (follows_stay g.D.Disk.state s.pages new c.tell_digest.ensures.follows c.tell_digest.ensures.map)
    c.pairs-in-Digest.invariant

pub returns-in-Space-clause-call : goal.returns-in-Space-clause-call
returns-in-Space-clause-call g c t list =
    let state = g.D.Disk.state in
    let p = c.args.params.now in
    let staged = c.args.pairs.now.pages in
    let to = step t Space p in
    let still = Follows-refl state staged (g.met.D.Disk.sound staged.disk) in
    let told = subst (λ (v : TreeList g.row.D.Denot). IsObservable (state v.pages.disk) → AreAt state t p v.pages
    → reply_of c.tell_space.new.reply ≡ to.reply)
    c.pairs.view_is (λ observable at. c.tell_space.ensures observable t list.fitting at) in
    let ends : EndsCommand state t to p staged staged (Ok c.tell_space.new.reply) = record {
      step = read_step state t to.tree (IsReplyTo to) p staged staged
          (Ok c.tell_space.new.reply) list.fitting list.pages c.requires.runs still refl (λ e. cc)
          (λ observable. ap (λ (s : Step). s.tree) (space_step t p)) (λ observable. told observable list.pages);
      none_staged = same_staged state t p staged staged list.pages c.requires.runs still (λ observable. refl);
    } in
    subst (λ (x : Command). EndsCommand state t (step t x p) p staged staged (Ok c.tell_space.new.reply))
    (sym (ap command_of c.in-Space.is)) ends

-- the version lacks the command
pub returns-then-lacks_version-clause-call : goal.returns-then-lacks_version-clause-call
returns-then-lacks_version-clause-call g c t list =
    let state = g.D.Disk.state in
    let p = c.args.params.now in
    let command = command_of c.args.command.now in
    let staged = c.args.pairs.now.pages in
    let reply = replies.No refusals.Version in
    let still = Follows-refl state staged (g.met.D.Disk.sound staged.disk) in
    let is = step_of_version t command p (sym c.lacks_version.ensures ∙ c.if-lacks_version.true) in
    let ends : EndsCommand state t (step t command p) p staged staged (Ok reply) = record {
      step = read_step state t (step t command p).tree (IsReplyTo (step t command p)) p staged staged
          (Ok reply) list.fitting list.pages c.requires.runs still refl (λ e. cc)
          (λ observable. ap (λ (s : Step). s.tree) is) (λ observable. sym (ap (λ (s : Step). s.reply) is));
      none_staged = same_staged state t p staged staged list.pages c.requires.runs still (λ observable. refl);
    } in
    subst (λ (r : Reply). EndsCommand state t (step t command p) p staged staged (Ok r))
    (sym c.put_refusal.ensures) ends
