use Rattle.std.proofs.Common.{◌≡◌, drop, map}
use Rattle.clap.specs.Simple.{app_of}
use Rattle.clap.specs.declared.builder.command.Command.TheViews.{out-Command}
use Rattle.command_line.specs.Building.{rule_told, with_rules}
use Rattle.command_line.proofs.line.with_arguments.Given as goal

-- with what is left it is as it is to be
abbrev pub invariant-loop-argument : goal.invariant-loop-argument
invariant-loop-argument l = record {
  added : with_rules (app_of l.command) (map rule_told (drop l.argument-index l.arguments))
      ≡ with_rules (app_of l.initial.command) (map rule_told l.arguments);
  local : (out-Command l.command).has_globals ≡ (out-Command l.initial.command).has_globals;
}
