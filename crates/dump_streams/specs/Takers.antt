-- What a taker of steps does.
use Rattle.std.specs.Prelude.{List, [], ◌∷◌, ◌++◌, Result, OnOk, ⊤}
use Rattle.dump_streams.specs.Dumps.{DumpStep}
use Rattle.dump_streams.specs.declared.taker.TakerFault.{TakerFault}

-- one more step was taken
abbrev pub IsTaken : {E : Type 0} → (List DumpStep → Type 0) → (List DumpStep → Type 0) → DumpStep
    → Result (Unit {0}) E → Type 0
IsTaken old new s result = (steps : List DumpStep) → old steps → OnOk result (new (steps ++ s ∷ []))

-- a step was not taken, and nothing is known of what was done of it
abbrev pub BreaksAnyhow : {T : Type 0} → T → T → DumpStep → TakerFault → Type 0
BreaksAnyhow first now s fault = ⊤
