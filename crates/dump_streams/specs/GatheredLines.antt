-- A taker that gathers the lines of steps, as its clauses see it.
use Rattle.std.specs.Prelude.{◌≡◌, ℕ, List, Result, Ok, Err}
use Rattle.script_lines.specs.SinkState.{SinkState, IsPut}
use Rattle.dump_streams.specs.Dumps.{DumpStep, step_line}
use Rattle.dump_streams.specs.Gathered.{Gathered, gathered_state}
use Rattle.dump_streams.specs.Lines.{AppendsSteps}
use Rattle.dump_streams.specs.declared.gather.GatheredLines.{GatheredLines}
use Rattle.dump_streams.specs.declared.taker.TakerFault.{TakerFault}
use Rattle.dump_streams.specs.declared.taker.TakerFault.TheVariants as faults

-- its meaning is that of what gathers its bytes
abbrev pub lines_state : {W : Type 0} → (W → SinkState) → GatheredLines W → SinkState
lines_state sink_of lines = gathered_state sink_of lines.gathered

-- The line is gathered, or the sink failed; without memory for the line nothing is done.
abbrev pub GathersLine : {W : Type 0} → (W → SinkState) → GatheredLines W → GatheredLines W → List ℕ
    → Result (Unit {0}) TakerFault → Type 0
GathersLine sink_of old new text (Ok value) =
    IsPut {E = TakerFault} (lines_state sink_of old) (lines_state sink_of new) text (Ok value)
GathersLine sink_of old new text (Err faults.Failed) =
    IsPut {T = Unit {0}} (lines_state sink_of old) (lines_state sink_of new) text (Err faults.Failed)
GathersLine sink_of old new text (Err faults.NoMemory) = new.gathered ≡ old.gathered

-- From one moment to a later one the lines of these steps were gathered for the same sink, and nothing else.
pub record TookGathered {W : Type 0} (sink_of : W → SinkState) (first now : GatheredLines W)
    (steps : List DumpStep) : Type 0 where
  pub same : now.gathered.first ≡ first.gathered.first
  pub appends : AppendsSteps (lines_state sink_of first) (lines_state sink_of now) steps

-- The line of a step was not gathered for the same sink, or the sink failed.
pub record BreaksGathered {W : Type 0} (sink_of : W → SinkState) (old new : GatheredLines W) (s : DumpStep)
    (fault : TakerFault) : Type 0 where
  pub same : new.gathered.first ≡ old.gathered.first
  pub line : GathersLine sink_of old new (step_line s) (Err fault)
