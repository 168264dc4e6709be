-- What `run`, `session` and `big` promise. The first two answer the lines of a script: which subcommand it is, what it
-- answers and which trees that leads to differ. The third does what a run over its commands does, with two counts and
-- two replies in place of the replies to them.
use Rattle.std.specs.Prelude.{◌≡◌, ◌⊎◌, ℕ, ◌≤◌, List, length}
use Rattle.store_model.specs.Parameters.{Parameters}
use Rattle.store_model.specs.Trees.{Tree}
use Rattle.store_model.specs.Scripts.{lines, script_limit}
use Rattle.store_base.specs.Counts.{Rose}
use Rattle.disk_model.specs.DiskState.{DiskState}
use Rattle.script_lines.specs.SourceState.{SourceState, IsObservable}
use Rattle.script_lines.specs.SinkState.{SinkState}
use Rattle.script_lines.specs.SinkState as sinks
use Rattle.image_subcommands.specs.declared.outcome.Outcome.{Outcome}
use Rattle.image_subcommands.specs.declared.status.Status.TheVariants as statuses
use Rattle.image_subcommands.specs.Outside.{Outside}
use Rattle.image_subcommands.specs.Statuses.{Subcommand, Subcommand as words, IsSummed}
use Rattle.image_work.specs.Works.{Works}
use Rattle.script_runs.specs.declared.script.Answering.{Answering}
use Rattle.script_runs.specs.declared.script.Answering.TheVariants as answering
use Rattle.script_runs.specs.Generations.{generated_replies, generated_trees, summary_text, PrintsSummary}
use Rattle.script_runs.specs.Runs.{RepliesKept, KeepsLimit, LeavesByLines, run_texts, run_trees}
use Rattle.script_runs.specs.SessionRuns.{session_texts, session_trees}

-- ---- the lines of a script

-- what is taken, whatever the disk holds
abbrev pub KeepsScript : {D R W : Type 0} → (R → SourceState) → Outside D R W → Outcome D R W → Type 0
KeepsScript source_of before after = IsObservable (source_of before.source)
    → KeepsLimit after.status (source_of before.source) (source_of after.source)

module _ (texts : Tree → List ℕ → Parameters → List (List ℕ)) (trees : Tree → List ℕ → Parameters → ℕ → Tree)
    {D R W : Type 0} (disk_of : D → DiskState) (source_of : R → SourceState) (sink_of : W → SinkState) where
  -- Over an image that represents the tree t, of a script that the source tells.
  pub record AnswersFrom (t : Tree) (p : Parameters) (before : Outside D R W) (after : Outcome D R W) : Type 0 where
    pub replies : RepliesKept after.status after.done (texts t (source_of before.source).left p)
        (source_of before.source) (source_of after.source) (sink_of before.sink) (sink_of after.sink)
    pub carried : LeavesByLines t (trees t (source_of before.source).left p) p after.status after.done
        (disk_of before.disk) (disk_of after.disk)
    -- every line is answered where the script keeps its limit, no call failed and memory was there
    pub complete : length (source_of before.source).left ≤ script_limit
        → (Rose (disk_of before.disk).faults (disk_of after.disk).faults → ⊥)
        → (Rose (source_of before.source).faults (source_of after.source).faults → ⊥)
        → (Rose (sink_of before.sink).faults (sink_of after.sink).faults → ⊥)
        → ((after.status ≡ statuses.Done) × (after.done ≡ length (lines (source_of before.source).left)))
        ⊎ (after.status ≡ statuses.NoMemory)

  abbrev pub AnswersAt : Tree → Parameters → Outside D R W → Outcome D R W → Type 0
  AnswersAt t p before after = IsObservable (source_of before.source) → AnswersFrom t p before after

-- The lines of a script are answered, by the subcommand with this word: these are the texts of the answers, one for
-- each line, and the trees after each number of lines, from a tree and a script on.
module _ (word : Subcommand) (texts : Tree → List ℕ → Parameters → List (List ℕ))
    (trees : Tree → List ℕ → Parameters → ℕ → Tree)
    {D R W : Type 0} (disk_of : D → DiskState) (source_of : R → SourceState) (sink_of : W → SinkState) where
  abbrev pub AnswersScript : Outside D R W → Outcome D R W → Type 0
  AnswersScript before after =
      Works disk_of word (KeepsScript source_of) (AnswersAt texts trees disk_of source_of sink_of) before after

-- the subcommand that answers each line so, the texts of its answers and its trees
abbrev pub word_of : Answering → Subcommand
word_of answering.Commands = words.Run
word_of answering.Calls = words.Session

abbrev pub texts_by : Answering → Tree → List ℕ → Parameters → List (List ℕ)
texts_by answering.Commands = run_texts
texts_by answering.Calls = session_texts

abbrev pub trees_by : Answering → Tree → List ℕ → Parameters → ℕ → Tree
trees_by answering.Commands = run_trees
trees_by answering.Calls = session_trees

abbrev pub IsRun : {D R W : Type 0} → (D → DiskState) → (R → SourceState) → (W → SinkState) → Outside D R W
    → Outcome D R W → Type 0
IsRun disk_of source_of sink_of before after =
    AnswersScript words.Run run_texts run_trees disk_of source_of sink_of before after

abbrev pub IsSession : {D R W : Type 0} → (D → DiskState) → (R → SourceState) → (W → SinkState) → Outside D R W
    → Outcome D R W → Type 0
IsSession disk_of source_of sink_of before after =
    AnswersScript words.Session session_texts session_trees disk_of source_of sink_of before after

-- ---- the commands of a number

-- What `big` leaves, whatever the disk holds.
pub record KeepsBig {D R W : Type 0} (count : ℕ) (before : Outside D R W) (after : Outcome D R W) : Type 0 where
  -- how many commands were carried out: all of them where they were summed up
  pub all_done : IsSummed after.status → after.done ≡ count
  pub done_limit : after.done ≤ count
  -- nothing is taken, and nothing is printed but the summary
  pub source : after.source ≡ before.source
  pub silent : (IsSummed after.status → ⊥) → after.sink ≡ before.sink

module _ {D R W : Type 0} (disk_of : D → DiskState) (sink_of : W → SinkState) (number count : ℕ) where
  -- Over an image that represents the tree t.
  pub record GeneratesFrom (t : Tree) (p : Parameters) (before : Outside D R W) (after : Outcome D R W) : Type 0 where
    pub carried : LeavesByLines t (generated_trees t number count p) p after.status after.done
        (disk_of before.disk) (disk_of after.disk)
    -- the four lines are those of the replies to all commands, and of the tree after the last
    pub summary : IsSummed after.status → sinks.IsObservable (sink_of before.sink)
        → PrintsSummary after.status (summary_text (generated_replies t number count p)
        (generated_trees t number count p count) p) (sink_of before.sink) (sink_of after.sink)
    -- all is done where no call failed and memory was there
    pub complete : (Rose (disk_of before.disk).faults (disk_of after.disk).faults → ⊥)
        → (Rose (sink_of before.sink).faults (sink_of after.sink).faults → ⊥)
        → (after.status ≡ statuses.Done) ⊎ (after.status ≡ statuses.NoMemory)

  abbrev pub IsBig : Outside D R W → Outcome D R W → Type 0
  IsBig before after = Works disk_of words.Big (KeepsBig count) GeneratesFrom before after
