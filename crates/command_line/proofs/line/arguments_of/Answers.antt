use Rattle.std.proofs.Common.{◌∙◌, [], refl, sym}
use Rattle.command_line.proofs.Subcommands.{named_behind, passed_none, passed_over}
use Rattle.command_line.proofs.line.arguments_of.Goals.{in-Taking+else-eq, in-Single}
use Rattle.command_line.proofs.line.arguments_of.Goals as goal

pub loop-subcommand-preserved : goal.loop-subcommand-preserved
loop-subcommand-preserved c =
    elim c.match-subcommand.branch [
      | in-Taking+else-eq w
          ↦ passed_over named_behind [] _ c.loop-subcommand.subcommand-index c.args.name.now _
          c.loop-subcommand.invariant _ _ c.loop-subcommand-test.true w.in-Taking.is _ refl
          (sym w.eq.ensures ∙ w.if-eq.false)
      | in-Single w
          ↦ passed_none named_behind [] _ c.loop-subcommand.subcommand-index c.args.name.now _
          c.loop-subcommand.invariant _ _ c.loop-subcommand-test.true w.in-Single.is refl
    ]
