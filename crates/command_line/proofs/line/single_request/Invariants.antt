use Rattle.std.proofs.Common.{◌≡◌, ◌∷◌, [], None, drop}
use Rattle.store_model.specs.Words.{request_of}
use Rattle.command_line.proofs.Subcommands.{asked_alone, lookup}
use Rattle.command_line.proofs.line.single_request.Given as goal

-- the word asks for what it asks for by the subcommands that are left
abbrev pub invariant-loop-subcommand : goal.invariant-loop-subcommand
invariant-loop-subcommand l =
    lookup asked_alone None (drop l.subcommand-index l.subcommand-items) l.name ≡ request_of (l.name ∷ [])
