-- A source and a sink in memory, as their clauses see them.
use Rattle.std.specs.Prelude.{ℕ, ◌+◌, ◌<◌, ◌⊎◌, min, max, nat_lt, true, List, ◌++◌, length, drop, slice_index, Contains}
use Rattle.std.specs.Prelude.{if◌then◌else◌}
use Rattle.store_base.specs.Counts.{raised}
use Rattle.script_lines.specs.SourceState.{SourceState}
use Rattle.script_lines.specs.SinkState.{SinkState}

-- A source in memory: the bytes that it still has, the most bytes of the takes in order, the numbers of the takes that
-- fail, and how many takes were made and failed.
pub record SourceMemory : Type 0 where
  pub left : List ℕ
  pub pieces : List ℕ
  pub failing : List ℕ
  pub takes : ℕ
  pub faults : ℕ

-- its meaning
abbrev pub source_state : SourceMemory → SourceState
source_state source = record { is_observable = true; left = source.left; faults = source.faults }

-- the most bytes that the next take gives into a buffer of so many: at least 1 in a piece, and as many as asked for
-- after the last piece
abbrev pub next_piece : SourceMemory → ℕ → ℕ
next_piece source room = if nat_lt source.takes (length source.pieces) then min room
    (max 1 (slice_index source.pieces source.takes)) else room

-- how many bytes the next take gives into a buffer of so many, if it does not fail
abbrev pub next_count : SourceMemory → ℕ → ℕ
next_count source room = min (next_piece source room) (length source.left)

-- after a take that gave so many bytes
abbrev pub after_take : SourceMemory → ℕ → SourceMemory
after_take source count = record source { left = drop count source.left; takes = raised source.takes }

-- after a take that failed
abbrev pub after_failed_take : SourceMemory → SourceMemory
after_failed_take source = record source { takes = raised source.takes; faults = raised source.faults }

-- A sink in memory: the bytes that were written, how many fit, the numbers of the puts that fail, and how many puts
-- were made and failed.
pub record SinkMemory : Type 0 where
  pub written : List ℕ
  pub room : ℕ
  pub failing : List ℕ
  pub puts : ℕ
  pub faults : ℕ

-- its meaning
abbrev pub sink_state : SinkMemory → SinkState
sink_state sink = record { is_observable = true; written = sink.written; faults = sink.faults }

-- the next put of so many bytes fails: its number is one of those that fail, or the room left is smaller
abbrev pub IsFailing : SinkMemory → ℕ → Type 0
IsFailing sink count = Contains sink.failing sink.puts ⊎ (sink.room < length sink.written + count)

-- after a put of these bytes
abbrev pub after_put : SinkMemory → List ℕ → SinkMemory
after_put sink bytes = record sink { written = sink.written ++ bytes; puts = raised sink.puts }

-- after a put that failed
abbrev pub after_failed_put : SinkMemory → SinkMemory
after_failed_put sink = record sink { puts = raised sink.puts; faults = raised sink.faults }
