-- What a line asks for, whatever is read of it.
use Rattle.std.proofs.Common.{◌≡◌, ℕ, ◌<◌, ◌≤◌, List, length, Some, None, Result, Ok, Err, refl, ap}
use Rattle.std.proofs.Common.{if◌then◌else◌}
use Rattle.std.proofs.lemmas.Bool.{lt-ltb, le-ltb}
use Rattle.store_model.specs.declared.refusal.Refusal.{Refusal}
use Rattle.store_model.specs.declared.refusal.Refusal.TheVariants as refusals
use Rattle.store_model.specs.Grammar.{parse}
use Rattle.store_model.specs.Scripts.{line_limit}
use Rattle.script_lines.specs.InPlace.{in_place}
use Rattle.script_lines.specs.SourceState.{SourceState, IsObservable}
use Rattle.script_lines.specs.LineState.{LineState, KeepsSource, EndsCall, NextLine}
use Rattle.script_lines.specs.Sessions.{parse_session}
use Rattle.script_lines.specs.declared.lines.Line.{Line}
use Rattle.script_lines.specs.declared.lines.Line.TheVariants as answers
use Rattle.script_lines.specs.declared.lines.LineFault.{LineFault}
use Rattle.script_lines.specs.declared.lines.LineFault.TheVariants as causes
use Rattle.script_runs.specs.Runs.{reading, ReadsLine}
use Rattle.script_runs.specs.SessionRuns.{session_reading}
use Rattle.script_runs.specs.Turns.{asked_by, asked_for}

-- what was read into a place is asked for, or its refusal is
pub read_asks : {Q : Type 0} (placed : Q) (result : Result (Unit {0}) Refusal)
    → asked_for placed (asked_by result) ≡ Some (in_place placed result)
read_asks placed (Ok read) = refl
read_asks placed (Err refusal) = refl

-- and so it is with a line of sessions
pub session_reading_short : (text : List ℕ) → length text ≤ line_limit → session_reading text ≡ parse_session text
unfolding session_reading
session_reading_short text h = ap (λ b. if b then Err refusals.Long else parse_session text)
    (le-ltb line_limit (length text) h)

pub session_reading_long : (text : List ℕ) → line_limit < length text → session_reading text ≡ Err refusals.Long
unfolding session_reading
session_reading_long text h = ap (λ b. if b then Err refusals.Long else parse_session text)
    (lt-ltb line_limit (length text) h)

module _ {R Q : Type 0} {source_of : R → SourceState} {IsAsked : Q → List ℕ → Type 0} {old new : LineState R} where
  -- a line of text
  pub reads_text : (line : Line) → line ≡ answers.Text
      → KeepsSource (source_of old.source) (source_of new.source) (Ok line) → EndsCall old new (Ok line)
      → (IsObservable (source_of old.source) → NextLine source_of old new (Ok line)) → {asked : Q}
      → IsAsked asked new.text → ReadsLine source_of IsAsked old new (Ok (Some asked))
  reads_text answers.Text is source ends next asks = record {
    source = record { observable = source.observable; faults = source.faults };
    live = (λ e. refl, λ e. ends.live.1 refl);
    limit = ends.limit;
    in_limit = ends.in_limit;
    falls = ends.falls;
    next = λ o. (new.text, asks, next o);
  }
  reads_text answers.Long is source ends next asks = absurd (cc)
  reads_text answers.End is source ends next asks = absurd (cc)

  -- a line that is longer
  pub reads_long : (line : Line) → line ≡ answers.Long
      → KeepsSource (source_of old.source) (source_of new.source) (Ok line) → EndsCall old new (Ok line)
      → (IsObservable (source_of old.source) → NextLine source_of old new (Ok line)) → {asked : Q}
      → ((text : List ℕ) → line_limit < length text → IsAsked asked text)
      → ReadsLine source_of IsAsked old new (Ok (Some asked))
  reads_long answers.Long is source ends next asks = record {
    source = record { observable = source.observable; faults = source.faults };
    live = (λ e. refl, λ e. ends.live.1 refl);
    limit = ends.limit;
    in_limit = ends.in_limit;
    falls = ends.falls;
    next = λ o. let line = next o in (line.0, asks line.0 line.1, line.2);
  }
  reads_long answers.Text is source ends next asks = absurd (cc)
  reads_long answers.End is source ends next asks = absurd (cc)

  -- the end of the script
  pub reads_end : (line : Line) → line ≡ answers.End
      → KeepsSource (source_of old.source) (source_of new.source) (Ok line) → EndsCall old new (Ok line)
      → (IsObservable (source_of old.source) → NextLine source_of old new (Ok line))
      → ReadsLine source_of IsAsked old new (Ok None)
  reads_end answers.End is source ends next = record {
    source = record { observable = source.observable; faults = source.faults };
    live = (λ e. refl, λ e. ends.live.1 refl);
    limit = ends.limit;
    in_limit = ends.in_limit;
    falls = ends.falls;
    next = next;
  }
  reads_end answers.Text is source ends next = absurd (cc)
  reads_end answers.Long is source ends next = absurd (cc)

  -- no line, for a fault
  pub fault_read : (fault : LineFault)
      → KeepsSource {T = Line} (source_of old.source) (source_of new.source) (Err fault) → EndsCall old new (Err fault)
      → (IsObservable (source_of old.source) → NextLine source_of old new (Err fault))
      → ReadsLine source_of IsAsked old new (Err fault)
  fault_read causes.Source source ends next = record {
    source = record { observable = source.observable; faults = source.faults };
    live = ends.live;
    limit = ends.limit;
    in_limit = ends.in_limit;
    falls = tt;
    next = next;
  }
  fault_read causes.TooLong source ends next = record {
    source = record { observable = source.observable; faults = source.faults };
    live = ends.live;
    limit = ends.limit;
    in_limit = ends.in_limit;
    falls = tt;
    next = next;
  }
