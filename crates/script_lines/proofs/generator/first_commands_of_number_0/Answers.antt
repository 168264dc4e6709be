use Rattle.std.proofs.Common.{refl}
use Rattle.std.specs.Fmt.{digits}
use Rattle.hex.specs.Hex.{decode_pairs}
use Rattle.store_model.specs.Paths.{name_bytes}
use Rattle.store_model.specs.Grammar.{parse, command_of, command_of_fields, has_short_paths, path_of, number_of}
use Rattle.store_model.specs.Grammar.{content_of, digits_value}
use Rattle.script_lines.specs.Generated.{generated, state_after}
use Rattle.script_lines.proofs.generator.first_commands_of_number_0.Goals as goal

pub returns-clause-first : goal.returns-clause-first
unfolding generated state_after digits parse command_of command_of_fields has_short_paths name_bytes path_of number_of
    content_of digits_value decode_pairs
returns-clause-first c = refl

pub returns-clause-second : goal.returns-clause-second
unfolding generated state_after digits parse command_of command_of_fields has_short_paths name_bytes path_of
returns-clause-second c = refl

pub returns-clause-third : goal.returns-clause-third
unfolding generated state_after digits parse command_of command_of_fields has_short_paths name_bytes path_of
returns-clause-third c = refl
