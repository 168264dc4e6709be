-- A script as a work: the lines of a reader, whose replies go to a sink.
use Rattle.std.specs.Prelude.{◌≡◌, ℕ, true, IsTrue, List, Result, Ok, Some}
use Rattle.store_model.specs.Trees.{Tree}
use Rattle.store_model.specs.declared.refusal.Refusal.{Refusal}
use Rattle.script_lines.specs.SourceState.{SourceState}
use Rattle.script_lines.specs.SourceState as sources
use Rattle.script_lines.specs.SinkState.{SinkState}
use Rattle.script_lines.specs.LineState.{LineState, left}
use Rattle.script_lines.specs.declared.command.Command.{Command}
use Rattle.script_runs.specs.declared.lines.Script.{Script}
use Rattle.image_subcommands.specs.declared.status.Status.{Status}
use Rattle.image_subcommands.specs.Statuses.{Subcommand as words}
use Rattle.script_runs.specs.Runs.{ReadsLine, IsAskedIn, run_texts, run_trees}
use Rattle.script_runs.specs.ScriptLines.{LinesKept, LinesEnd}
use Rattle.script_runs.specs.Turns.{Start}

module _ {R W : Type 0} (source_of : R → SourceState) (sink_of : W → SinkState) where
  -- whether the source tells its bytes
  abbrev pub ScriptTold : Script R W → Type 0
  ScriptTold script = sources.IsObservable (source_of script.reader.source)

  -- whether its reader may be asked for a line
  abbrev pub ScriptLive : Script R W → Type 0
  ScriptLive script = script.reader.is_live ≡ true

  -- the trees of its run
  abbrev pub script_trees : Script R W → Start → ℕ → Tree
  script_trees script start k = run_trees start.tree (left source_of script.reader) start.params k

  -- the texts of its replies
  abbrev pub script_texts : Script R W → Start → List (List ℕ)
  script_texts script start = run_texts start.tree (left source_of script.reader) start.params

  -- Between two lines: those before were answered.
  abbrev pub ScriptKept : Start → Script R W → Script R W → ℕ → Type 0
  ScriptKept start first now done = LinesKept source_of sink_of (script_texts first start)
      (IsTrue start.tells) first.reader now.reader first.sink now.sink done

  -- A line was read, and is not answered yet.
  pub record ScriptDue (start : Start) (first now : Script R W) (done : ℕ)
      (asked : Result Command Refusal) : Type 0 where
    pub before : LineState R
    pub kept : ScriptKept start first (record { reader = before; sink = now.sink }) done
    pub reads : ReadsLine source_of IsAskedIn before now.reader (Ok (Some asked))

  -- The lines ended so, with so many carried out.
  abbrev pub ScriptEnds : Start → Script R W → Script R W → ℕ → Status → Type 0
  ScriptEnds start first new done status =
      LinesEnd source_of sink_of words.Run (script_texts first start)
      (IsTrue start.tells) first.reader new.reader first.sink new.sink done status
