use Rattle.std.proofs.Common.{◌∙◌, None, refl, sym}
use Rattle.store_model.specs.Words.{request_of}
use Rattle.command_line.proofs.Subcommands.{asked_alone, found_here, passed_none, passed_over}
use Rattle.command_line.proofs.line.single_request.Goals.{in-Single+else-eq, in-Taking}
use Rattle.command_line.proofs.line.single_request.Goals as goal

pub loop-subcommand-init : goal.loop-subcommand-init
unfolding request_of
loop-subcommand-init c = refl

pub returns-then-eq : goal.returns-then-eq
returns-then-eq c =
    found_here asked_alone None _ c.loop-subcommand.subcommand-index c.args.name.now _ c.loop-subcommand.invariant _ _
    c.loop-subcommand-test.true c.in-Single.is _ refl (sym c.eq.ensures ∙ c.if-eq.true)

pub loop-subcommand-preserved : goal.loop-subcommand-preserved
loop-subcommand-preserved c =
    elim c.match-subcommand.branch [
      | in-Single+else-eq w
          ↦ passed_over asked_alone None _ c.loop-subcommand.subcommand-index c.args.name.now _
          c.loop-subcommand.invariant _ _ c.loop-subcommand-test.true w.in-Single.is _ refl
          (sym w.eq.ensures ∙ w.if-eq.false)
      | in-Taking w
          ↦ passed_none asked_alone None _ c.loop-subcommand.subcommand-index c.args.name.now _
          c.loop-subcommand.invariant _ _ c.loop-subcommand-test.true w.in-Taking.is refl
    ]
