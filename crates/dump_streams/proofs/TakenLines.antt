-- Writing the lines of steps one after another.
use Rattle.std.proofs.Common.{◌≡◌, List, [], ◌∷◌, ◌++◌, Result, Ok, Err, refl, sym, ap, ◌∙◌}
use Rattle.std.specs.Prelude.{OnOk, IfErr}
use Rattle.std.proofs.lemmas.List.{append-nil, append_assoc}
use Rattle.std.proofs.lemmas.List.Concat.{flat_map-append}
use Rattle.script_lines.specs.SinkState.{SinkState, IsPut}
use Rattle.dump_streams.specs.Dumps.{DumpStep, step_line, steps_text}
use Rattle.dump_streams.specs.declared.gather.GatheredLines.{GatheredLines}
use Rattle.dump_streams.specs.declared.taker.TakerFault.{TakerFault}
use Rattle.dump_streams.specs.GatheredLines.{lines_state, GathersLine, TookGathered, BreaksGathered}
use Rattle.dump_streams.specs.Lines.{AppendsSteps}

-- the lines of no step
pub text_none : steps_text [] ≡ []
unfolding steps_text
text_none = refl

-- the lines of steps and of one more
pub text_more : (steps : List DumpStep) (s : DumpStep)
    → steps_text (steps ++ s ∷ []) ≡ steps_text steps ++ step_line s
unfolding steps_text
text_more steps s = flat_map-append step_line steps (s ∷ [])
    ∙ ap (λ xs. steps_text steps ++ xs) (append-nil (step_line s))

pub appends_none : (state : SinkState) → AppendsSteps state state []
unfolding steps_text
appends_none state = record {
  observable = refl;
  faults = refl;
  written = λ told. sym (append-nil state.written);
}

pub appends_more : {E : Type 0} (first old new : SinkState) (steps : List DumpStep) (s : DumpStep)
    → AppendsSteps first old steps → IsPut {T = Unit {0}} {E = E} old new (step_line s) (Ok tt)
    → AppendsSteps first new (steps ++ s ∷ [])
appends_more first old new steps s took put = record {
  observable = put.observable ∙ took.observable;
  faults = put.faults ∙ took.faults;
  written = λ told.
      (put.observed (took.observable ∙ told)).appended
      ∙ ap (λ xs. xs ++ step_line s) (took.written told)
      ∙ append_assoc first.written (steps_text steps) (step_line s)
      ∙ ap (λ xs. first.written ++ xs) (sym (text_more steps s));
}

module _ {W : Type 0} (sink_of : W → SinkState) where
  pub gathered_none : (lines : GatheredLines W) → TookGathered sink_of lines lines []
  gathered_none lines = record { same = refl; appends = appends_none (lines_state sink_of lines) }

  pub gathered_more : (first old new : GatheredLines W) (steps : List DumpStep) (s : DumpStep)
      (result : Result (Unit {0}) TakerFault) → new.gathered.first ≡ old.gathered.first
      → GathersLine sink_of old new (step_line s) result → TookGathered sink_of first old steps
      → OnOk result (TookGathered sink_of first new (steps ++ s ∷ []))
  gathered_more first old new steps s (Ok value) same put took = record {
    same = same ∙ took.same;
    appends = appends_more {E = TakerFault} (lines_state sink_of first) (lines_state sink_of old)
        (lines_state sink_of new) steps s took.appends put;
  }
  gathered_more first old new steps s (Err fault) same put took = tt

  pub gathered_broken : (old new : GatheredLines W) (s : DumpStep) (result : Result (Unit {0}) TakerFault)
      → new.gathered.first ≡ old.gathered.first → GathersLine sink_of old new (step_line s) result
      → IfErr result (BreaksGathered sink_of old new s)
  gathered_broken old new s (Ok value) same put = tt
  gathered_broken old new s (Err fault) same put = record { same = same; line = put }
