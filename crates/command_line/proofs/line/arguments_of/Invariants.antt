use Rattle.std.proofs.Common.{◌≡◌, [], drop}
use Rattle.command_line.specs.Line.{arguments_of}
use Rattle.command_line.proofs.Subcommands.{lookup, named_behind}
use Rattle.command_line.proofs.line.arguments_of.Given as goal

-- the word has the arguments that it has by the subcommands that are left
abbrev pub invariant-loop-subcommand : goal.invariant-loop-subcommand
invariant-loop-subcommand l =
    lookup named_behind [] (drop l.subcommand-index l.subcommand-items) l.name ≡ arguments_of l.name
