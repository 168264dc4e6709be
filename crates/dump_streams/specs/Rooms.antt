-- The room of a line, as its clauses see it.
use Rattle.std.specs.Prelude.{ℕ, true, List}
use Rattle.script_lines.specs.SinkState.{SinkState}

-- the bytes that were put and not given yet, and how many puts failed
pub record Room : Type 0 where
  pub rest : List ℕ
  pub faults : ℕ

-- as a sink it tells those bytes
abbrev pub room_state : Room → SinkState
room_state room = record { is_observable = true; written = room.rest; faults = room.faults }
