-- What is known of a script between two of its lines, and what they leave at their end, whatever answers them: over
-- the texts of the answers, one for each line.
use Rattle.std.specs.Prelude.{◌≡◌, ℕ, ◌≤◌, IsTrue, List, ◌++◌, length, take}
use Rattle.std.specs.List.{concat}
use Rattle.store_model.specs.Parameters.{Parameters}
use Rattle.store_model.specs.Trees.{Tree}
use Rattle.disk_model.specs.DiskState.{DiskState}
use Rattle.disk_model.specs.DiskState as disks
use Rattle.script_lines.specs.SourceState.{SourceState}
use Rattle.script_lines.specs.SourceState as sources
use Rattle.script_lines.specs.SinkState.{SinkState}
use Rattle.script_lines.specs.LineState.{LineState, Answers, left}
use Rattle.store_core.specs.StoreState.{StoreState}
use Rattle.image_subcommands.specs.declared.status.Status.{Status}
use Rattle.image_subcommands.specs.declared.status.Status.TheVariants as statuses
use Rattle.image_subcommands.specs.Statuses.{Subcommand, IsEndOf, source_faults_by, sink_faults_by}
use Rattle.script_runs.specs.Runs.{IsUnread, KeepsLimit, RepliesKept}
use Rattle.script_runs.specs.Turns.{TurnsEnd}

-- So many lines were read from the start of a script on.
pub record Halfway {R : Type 0} (state : R → SourceState) (first now : LineState R) (done : ℕ) : Type 0 where
  pub read : List (List ℕ)
  pub answers : Answers state first now read
  pub count : done ≡ length read

-- so many of these texts were written to a sink that tells it
abbrev pub HasWritten : List (List ℕ) → ℕ → SinkState → SinkState → Type 0
HasWritten texts done first now = IsTrue first.is_observable → now.written ≡ first.written ++ concat (take done texts)

-- What a work that ended so leaves of the source and the sink: each tells its bytes where it did, and the status
-- tells which failed.
pub record KeepsEnds (status : Status) (source source_new : SourceState) (sink sink_new : SinkState) : Type 0 where
  pub source_observable : source_new.is_observable ≡ source.is_observable
  pub sink_observable : sink_new.is_observable ≡ sink.is_observable
  pub source_faults : source_new.faults ≡ source_faults_by status source.faults
  pub sink_faults : sink_new.faults ≡ sink_faults_by status sink.faults

module _ {R W : Type 0} (source_of : R → SourceState) (sink_of : W → SinkState) where
  -- Between two lines: those before were answered, so many. The texts are known where `Tells` holds.
  pub record LinesKept (texts : List (List ℕ)) (Tells : Type 0) (first now : LineState R) (sink_first sink_now : W)
      (done : ℕ) : Type 0 where
    pub unread : IsUnread first
    pub limit : now.limit ≡ first.limit
    pub in_limit : now.taken ≤ now.limit
    pub kept : KeepsEnds statuses.Done (source_of first.source) (source_of now.source)
        (sink_of sink_first) (sink_of sink_now)
    pub half : sources.IsObservable (source_of first.source) → Halfway source_of first now done
    pub written : sources.IsObservable (source_of first.source) → Tells
        → HasWritten texts done (sink_of sink_first) (sink_of sink_now)

  -- The lines of a script that this subcommand answers ended so, with so many carried out.
  pub record LinesEnd (word : Subcommand) (texts : List (List ℕ)) (Tells : Type 0) (first new : LineState R)
      (sink_first sink_new : W) (done : ℕ) (status : Status) : Type 0 where
    pub ends : IsEndOf word status
    pub kept : KeepsEnds status (source_of first.source) (source_of new.source) (sink_of sink_first) (sink_of sink_new)
    pub limit : sources.IsObservable (source_of first.source)
        → KeepsLimit status (source_of first.source) (source_of new.source)
    pub replies : sources.IsObservable (source_of first.source) → Tells
        → RepliesKept status done texts (source_of first.source) (source_of new.source)
        (sink_of sink_first) (sink_of sink_new)

-- The lines of a script were answered, from a store on, and the call ended so, with so many lines carried out.
module _ (word : Subcommand) (texts : Tree → List ℕ → Parameters → List (List ℕ))
    (trees : Tree → List ℕ → Parameters → ℕ → Tree)
    {D R W : Type 0} (disk_of : D → DiskState) (source_of : R → SourceState) (sink_of : W → SinkState) where
  abbrev pub AnswersLines : Status → ℕ → StoreState D → StoreState D → LineState R → LineState R → W → W → Type 0
  AnswersLines status done store store_new reader reader_new sink sink_new =
      TurnsEnd disk_of (sources.IsObservable (source_of reader.source))
      (trees store.tree (left source_of reader) store.params)
      (LinesEnd source_of sink_of word (texts store.tree (left source_of reader) store.params)
      (disks.IsObservable (disk_of store.disk)) reader reader_new sink sink_new) status done store store_new
