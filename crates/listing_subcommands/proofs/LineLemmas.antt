-- Lemmas on the lines of steps that are gathered.
use Rattle.std.proofs.Common.{ℕ, List, [], Result, Ok, Err, OnOk, inl, inr, refl, sym, ap, ◌∙◌}
use Rattle.std.proofs.lemmas.List.{append-nil}
use Rattle.script_lines.specs.SinkState.{SinkState, IsObservable, PutsBytes}
use Rattle.dump_streams.specs.declared.gather.GatheredLines.{GatheredLines}
use Rattle.dump_streams.specs.declared.taker.TakerFault.{TakerFault}
use Rattle.dump_streams.specs.declared.taker.TakerFault.TheVariants as takers
use Rattle.dump_streams.specs.Gathered.{Gathered, gathered_state}
use Rattle.dump_streams.specs.GatheredLines.{lines_state, GathersLine}
use Rattle.listing_subcommands.specs.Dumping.{KeepsSink, line_ended}

-- what holds where a line was gathered
pub told_flushed : (put : Result (Unit {0}) TakerFault) (P : Type 0) → OnOk put P → OnOk (line_ended put) P
told_flushed (Ok value) P holds = holds
told_flushed (Err takers.NoMemory) P holds = tt
told_flushed (Err takers.Failed) P holds = tt

module _ {W : Type 0} (sink_of : W → SinkState) (old new : GatheredLines W) where
  -- a line was gathered, or was not
  pub line_kept : (text : List ℕ) (put : Result (Unit {0}) TakerFault) → GathersLine sink_of old new text put
      → KeepsSink (lines_state sink_of old) (lines_state sink_of new) (line_ended put)
  line_kept text (Ok value) is = record { fault = tt; observable = is.observable; faults = is.faults }
  line_kept text (Err takers.Failed) is = record { fault = inl refl; observable = is.observable; faults = is.faults }
  line_kept text (Err takers.NoMemory) is = record {
    fault = inr refl;
    observable = ap (λ (g : Gathered W). (gathered_state sink_of g).is_observable) is;
    faults = ap (λ (g : Gathered W). g.faults) is;
  }

  -- so it was written, or a front of it
  pub text_puts : (text : List ℕ) (put : Result (Unit {0}) TakerFault) → GathersLine sink_of old new text put
      → IsObservable (lines_state sink_of old)
      → PutsBytes (lines_state sink_of old) (lines_state sink_of new) text (line_ended put)
  text_puts text (Ok value) is told = record { appended = (is.observed told).appended; cut_off = tt }
  text_puts text (Err takers.Failed) is told = record { appended = tt; cut_off = (is.observed told).cut_off }
  text_puts text (Err takers.NoMemory) is told = record {
    appended = tt;
    cut_off = record {
      part = [];
      rest = text;
      is_prefix = refl;
      appended = ap (λ (g : Gathered W). (gathered_state sink_of g).written) is
          ∙ sym (append-nil (lines_state sink_of old).written);
    };
  }
