-- How a command line is built: a command with arguments more, and a line with a subcommand more.
use Rattle.std.specs.Prelude.{◌≡◌, List, [], ◌∷◌, map, false}
use Rattle.clap.specs.Simple.{App, app_of, with_rule, with_subcommand}
use Rattle.clap.specs.Walk.{Rule, Text}
use Rattle.clap.specs.declared.builder.command.Command.{Command}
use Rattle.clap.specs.declared.builder.command.Command.TheViews.{out-Command}
use Rattle.command_line.specs.Line.{argument, without_help}
use Rattle.command_line.specs.declared.line.Argument.{Argument}
use Rattle.command_line.specs.declared.line.Subcommand.{Subcommand}
use Rattle.command_line.specs.declared.line.Subcommand.TheVariants.{Taking, Single}

-- what `clap` reads of an argument
abbrev pub rule_told : Argument → Rule
rule_told told = argument told.name.now told.parser

-- a command with these rules behind its others, one after another
abbrev pub with_rules : App → List Rule → App
with_rules app [] = app
with_rules app (rule ∷ rules) = with_rules (with_rule app rule) rules

-- the command after has these arguments behind those of the command before
pub record AddsArguments (arguments : List Argument) (before after : Command) : Type 0 where
  pub added_are : app_of after ≡ with_rules (app_of before) (map rule_told arguments)
  pub local : (out-Command after).has_globals ≡ (out-Command before).has_globals

-- a command of this name with no arguments
abbrev named : Text → App
named name = record { top = without_help name []; subs = [] }

-- what `clap` reads of a subcommand
abbrev pub subcommand_told : Subcommand → App
subcommand_told (Taking word arguments) = with_rules (named word.now) (map rule_told arguments.now)
subcommand_told (Single word asks) = named word.now

-- the command is this subcommand
pub record IsBuilt (subcommand : Subcommand) (command : Command) : Type 0 where
  pub subcommand_is : app_of command ≡ subcommand_told subcommand
  pub local : (out-Command command).has_globals ≡ false

-- the line after has this subcommand behind those of the line before
abbrev pub AddsSubcommand : Subcommand → Command → Command → Type 0
AddsSubcommand subcommand before after =
    app_of after ≡ with_subcommand (app_of before) (subcommand_told subcommand).top
