use Rattle.std.proofs.Common.{◌≡◌, drop}
use Rattle.clap.specs.Simple.{app_of}
use Rattle.command_line.proofs.Subcommands.{with_subcommands}
use Rattle.command_line.specs.Line.{without_subcommands}
use Rattle.command_line.proofs.line.command.Given as goal

-- with the subcommands that are left it is the line of all of them
abbrev pub invariant-loop-subcommand : goal.invariant-loop-subcommand
invariant-loop-subcommand l = with_subcommands (app_of l.line) (drop l.subcommand-index l.subcommand-items)
    ≡ with_subcommands without_subcommands l.subcommand-items
