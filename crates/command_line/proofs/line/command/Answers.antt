use Rattle.std.proofs.Common.{refl}
use Rattle.command_line.proofs.Subcommands.{is_line, next_added}
use Rattle.command_line.proofs.line.command.Goals as goal

pub loop-subcommand-preserved : goal.loop-subcommand-preserved
loop-subcommand-preserved c = next_added _ _ _ _ c.loop-subcommand.subcommand-index _ c.loop-subcommand.invariant
    c.loop-subcommand-test.true c.in_ok-line.ensures

pub returns : goal.returns
returns c = is_line _ _ _ _ c.loop-subcommand.invariant c.loop-subcommand-test.false refl
    (record { names = _; parser_is = refl; names_are = refl }) (record {
      names = _;
      parser_is = refl;
      names_are = refl;
    })
