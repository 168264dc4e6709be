use Rattle.model_laws.proofs.CommandsLemmasTexts.{parse-command_text, reading-command_text}
use Rattle.model_laws.proofs.laws.scripts.lines_spell_their_commands.Goals as goal

pub returns-clause-parsed : goal.returns-clause-parsed
returns-clause-parsed c = parse-command_text

pub returns-clause-read : goal.returns-clause-read
returns-clause-read c = reading-command_text
