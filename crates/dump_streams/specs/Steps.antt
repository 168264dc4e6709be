-- Steps of a dump, as the program has them.
use Rattle.std.specs.Prelude.{◌≡◌, ℕ, List, [], Bool, Ok, Option, Some, None, unwrap_or}
use Rattle.std.specs.Bool.{OnTrue, OnFalse}
use Rattle.store_model.specs.Commands.{Command}
use Rattle.store_model.specs.Scripts.{reading}
use Rattle.dump_streams.specs.Dumps.{DumpStep, command_of_step}
use Rattle.dump_streams.specs.Dumps.DumpStep.{Make, Write, Set}
use Rattle.dump_streams.specs.declared.step.Step.{Step}
use Rattle.dump_streams.specs.declared.step.Step.TheVariants as parts

-- the step that a command carries out, if it carries out one
abbrev pub step_in : Command → Option DumpStep
step_in (Command.Make path) = Some (Make path)
step_in (Command.Write path at bytes) = Some (Write path at bytes)
step_in (Command.SetAttribute path name bytes) = Some (Set path name bytes)
step_in _ = None

-- that step; any where there is none
abbrev pub held_step : Command → DumpStep
held_step c = unwrap_or (step_in c) (Make [])

-- the step that has these parts
abbrev pub step_of : Step → DumpStep
step_of (parts.Make path) = Make path.now
step_of (parts.Write path at bytes) = Write path.now at bytes.now
step_of (parts.Set path name bytes) = Set path.now name.now bytes.now

-- a line asks for the step, or for none
pub record ReadsStep (text : List ℕ) (s : DumpStep) (is_step : Bool) : Type 0 where
  pub read : OnTrue is_step (reading text ≡ Ok (command_of_step s))
  pub none : OnFalse is_step ((other : DumpStep) → reading text ≡ Ok (command_of_step other) → ⊥)
