-- A sink that gathers bytes, as its clauses see it.
use Rattle.std.specs.Prelude.{◌≡◌, ◌↔◌, ◌<◌, ℕ, Bool, IsTrue, false, List, [], ◌++◌, Result, IsErr}
use Rattle.store_base.specs.Counts.{raised, faults_after}
use Rattle.script_lines.specs.SinkState.{SinkState, IsObservable, AppendsPrefix}

-- so many bytes are held at most
abbrev pub gather_room : ℕ
gather_room = 65536

-- The sink that it puts into, the bytes that it holds, whether a fault came, how many calls failed, the sink before
-- the bytes held, and the sink that it was made over.
pub record Gathered (W : Type 0) : Type 0 where
  pub sink : W
  pub held : List ℕ
  pub is_broken : Bool
  pub faults : ℕ
  pub before : W
  pub first : W

-- one made over a sink, to which no byte came
abbrev pub gathers_none : {W : Type 0} → W → Gathered W
gathers_none sink = record { sink = sink; held = []; is_broken = false; faults = 0; before = sink; first = sink }

-- Its meaning: it tells its bytes where the sink does, and the bytes written are those that the sink was to get, the
-- ones held behind the others.
abbrev pub gathered_state : {W : Type 0} → (W → SinkState) → Gathered W → SinkState
gathered_state sink_of g = record {
  is_observable = (sink_of g.before).is_observable;
  written = (sink_of g.before).written ++ g.held;
  faults = g.faults;
}

-- the bytes are the first of all
pub record IsFrontOf (front all : List ℕ) : Type 0 where
  pub rest : List ℕ
  pub all_is : all ≡ front ++ rest

-- Before a fault none of the bytes held came to the sink, and after it maybe the first of them.
pub record StandsAt {W : Type 0} (sink_of : W → SinkState) (sink : W) (held : List ℕ) (is_broken : Bool)
    (before : W) : Type 0 where
  pub whole : is_broken ≡ false → sink ≡ before
  pub observable : (sink_of sink).is_observable ≡ (sink_of before).is_observable
  pub cut_off : IsObservable (sink_of before) → AppendsPrefix (sink_of before).written (sink_of sink).written held

-- Since it was made the sink before the bytes held only grew, and a put into the sink failed where a fault came.
pub record CameFrom {W : Type 0} (sink_of : W → SinkState) (first before sink : W) (is_broken : Bool)
    (faults : ℕ) : Type 0 where
  pub observable : (sink_of before).is_observable ≡ (sink_of first).is_observable
  pub grew : IsObservable (sink_of first) → IsFrontOf (sink_of first).written (sink_of before).written
  pub going : is_broken ≡ false → (faults ≡ 0) × ((sink_of sink).faults ≡ (sink_of first).faults)
  pub broken : IsTrue is_broken → (0 < faults) × ((sink_of sink).faults ≡ raised (sink_of first).faults)

-- Since it was made the sink only grew, and a put into it failed where a call failed, and only the first did.
pub record GrewFrom {W : Type 0} (sink_of : W → SinkState) (first sink : W) (faults : ℕ) : Type 0 where
  pub observable : (sink_of sink).is_observable ≡ (sink_of first).is_observable
  pub grew : IsObservable (sink_of first) → IsFrontOf (sink_of first).written (sink_of sink).written
  pub whole : faults ≡ 0 → (sink_of sink).faults ≡ (sink_of first).faults
  pub failed : 0 < faults → (sink_of sink).faults ≡ raised (sink_of first).faults

-- What a call does to the sink: after a fault it puts nothing and fails, and else it fails exactly where a put into
-- the sink does.
pub record CallsSink {W T E : Type 0} (sink_of : W → SinkState) (old new : Gathered W)
    (result : Result T E) : Type 0 where
  pub after : IsTrue old.is_broken → (new.sink ≡ old.sink) × IsErr result
  pub faults : old.is_broken ≡ false → (sink_of new.sink).faults ≡ faults_after (sink_of old.sink).faults result
  pub broken : IsTrue new.is_broken ↔ IsErr result

-- nothing is held, no fault came, and what is written of it is what is written of its sink
pub record IsFlushed {W : Type 0} (sink_of : W → SinkState) (g : Gathered W) : Type 0 where
  pub none_held : g.held ≡ []
  pub going : g.is_broken ≡ false
  pub sink_is : g.sink ≡ g.before
  pub written : (gathered_state sink_of g).written ≡ (sink_of g.sink).written
