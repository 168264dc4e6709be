use Rattle.std.proofs.Common.{Result, Ok, Err, sym, ap, subst, ◌∙◌}
use Rattle.std.proofs.lemmas.Result.{err_from_is_err_and}
use Rattle.sha2.specs.Sha256.{sha256}
use Rattle.store_model.specs.Commands.Command.{Digest}
use Rattle.store_model.specs.Commands.Reply.{ImageDigest}
use Rattle.store_model.specs.Steps.{Step, step}
use Rattle.script_lines.specs.declared.reply.Reply.TheVariants as replies
use Rattle.script_lines.specs.InPlace.{in_place}
use Rattle.image_check.specs.declared.fault.ApplyFault.{ApplyFault}
use Rattle.image_check.specs.declared.fault.ApplyFault.TheVariants as apply
use Rattle.staged_tree.specs.Steps.{IsReplyTo, EndsCommand}
use Rattle.staged_tree.proofs.StagedSteps.{read_step, same_staged}
use Rattle.tree_commands.proofs.StepLemmas.{digest_step}
use Rattle.store_core.proofs.apply.tell_digest.Goals as goal

pub returns-in_err-digest : goal.returns-in_err-digest
returns-in_err-digest g c = record {
  call = λ t p fit at.
      let state = g.D.Disk.state in
      let old = c.args.staged.now in
      let new = c.digest.new.self in
      let failed = err_from_is_err_and c.from_residual.result c.from_residual.ensures.1 in
      let to = step t Digest p in
      let step = read_step state t to.tree (IsReplyTo to) p old new
      (Err apply.Disk) fit at c.requires.runs c.digest.ensures.follows c.in_err-digest.ensures.calls.faults
      (λ e. cc) (λ observable. tt) (λ observable. tt) in
      subst (λ (r : Result (Unit {0}) ApplyFault). EndsCommand state t to p old new (in_place c.args.reply.now r))
      (sym (failed.1 ∙ ap Err failed.2)) (record {
        step = step;
        none_staged = same_staged state t p old new at c.requires.runs c.digest.ensures.follows c.digest.ensures.map;
      });
  map = c.digest.ensures.map;
  follows = c.digest.ensures.follows;
}

pub returns : goal.returns
returns g c = record {
  call = λ t p fit at.
      let state = g.D.Disk.state in
      let old = c.args.staged.now in
      let new = c.digest.new.self in
      let to = step t Digest p in
      let digest = c.in_ok-digest.field-0 in
      record {
        step = read_step state t to.tree (IsReplyTo to) p old new
            (Ok (replies.Digest digest)) fit at
            c.requires.runs c.digest.ensures.follows c.in_ok-digest.ensures.calls.faults (λ e. cc)
            (λ observable. ap (λ (s : Step). s.tree) (digest_step t p))
            (λ observable.
            ap ImageDigest (c.in_ok-digest.ensures.digest observable
            ∙ ap sha256 (at.held observable c.requires.runs).stands.layout_is)
            ∙ sym (ap (λ (s : Step). s.reply) (digest_step t p)));
        none_staged = same_staged state t p old new at c.requires.runs c.digest.ensures.follows c.digest.ensures.map;
      };
  map = c.digest.ensures.map;
  follows = c.digest.ensures.follows;
}
