-- The lines that were written of steps.
use Rattle.std.specs.Prelude.{◌≡◌, List, ◌++◌, Result, Err}
use Rattle.dump_streams.specs.Dumps.{DumpStep, step_line, steps_text}
use Rattle.script_lines.specs.SinkState.{SinkState, IsObservable, IsPut}
use Rattle.dump_streams.specs.declared.lines.LineTaker.{LineTaker}
use Rattle.dump_streams.specs.declared.taker.TakerFault.{TakerFault}

-- From one moment to a later one the lines of these steps were written, and nothing else.
pub record AppendsSteps (first now : SinkState) (steps : List DumpStep) : Type 0 where
  pub observable : now.is_observable ≡ first.is_observable
  pub faults : now.faults ≡ first.faults
  pub written : IsObservable first → now.written ≡ first.written ++ steps_text steps

abbrev pub TookLines : {W : Type 0} → (W → SinkState) → LineTaker W → LineTaker W → List DumpStep → Type 0
TookLines sink_of first now steps = AppendsSteps (sink_of first.sink) (sink_of now.sink) steps

-- The line of a step was not written, or a prefix of it.
abbrev pub BreaksLine : {W : Type 0} → (W → SinkState) → LineTaker W → LineTaker W → DumpStep → TakerFault → Type 0
BreaksLine sink_of old new s fault =
    IsPut {T = Unit {0}} (sink_of old.sink) (sink_of new.sink) (step_line s) (Err fault)

-- The line of a step was put into the sink: it fails exactly where the sink does, and then a prefix of the line
-- was written.
abbrev pub PutsLine : {W T E : Type 0} → (W → SinkState) → LineTaker W → LineTaker W → DumpStep → Result T E → Type 0
PutsLine sink_of old new s result = IsPut (sink_of old.sink) (sink_of new.sink) (step_line s) result
