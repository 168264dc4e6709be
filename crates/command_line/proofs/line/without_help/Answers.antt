use Rattle.std.proofs.Common.{◌∙◌, true, ap}
use Rattle.clap.specs.Simple.{App, app_of_fields}
use Rattle.clap.specs.declared.builder.command.Command.{Command}
use Rattle.clap.specs.declared.builder.command.Command.TheOpen.{Command-F}
use Rattle.command_line.proofs.line.without_help.Goals as goal

-- one field is changed, which the shape has
pub returns-clause-shape : goal.returns-clause-shape
returns-clause-shape c = ap app_of_fields c.disable_help_flag.ensures
    ∙ ap (λ (app : App). record app { top = record app.top { disable_help_flag = true } }) c.new.ensures.app

pub returns-clause-local : goal.returns-clause-local
returns-clause-local c = ap (λ (f : Command-F Command). f.has_globals) c.disable_help_flag.ensures
    ∙ c.new.ensures.local
