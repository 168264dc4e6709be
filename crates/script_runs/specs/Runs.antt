-- What answering a script does: the replies, their texts and the trees of its lines, and what a loop over them leaves.
use Rattle.std.specs.Prelude.{◌≡◌, ◌⊎◌, ℕ, ◌+◌, ◌≤◌, List, [], ◌++◌, take, map, Result, Ok, Err}
use Rattle.std.specs.Prelude.{IfOk, Option, Some, None, ◌<◌, IsTrue, ◌↔◌, IsOk, IsOkAnd, ◌∷◌}
use Rattle.store_model.specs.declared.refusal.Refusal.{Refusal}
use Rattle.store_model.specs.Parameters.{Parameters}
use Rattle.store_model.specs.Trees.{Tree}
use Rattle.store_model.specs.Images.{Represents}
use Rattle.store_model.specs.Commands as model
use Rattle.store_model.specs.Commands.{reply_text}
use Rattle.store_model.specs.Commands.Reply.{Refused}
use Rattle.store_model.specs.Scripts.{lines, replies, tree_after}
unfoldable pub use Rattle.store_model.specs.Scripts.{reading}
use Rattle.disk_model.specs.DiskState.{DiskState, MayLeaveOnly}
use Rattle.gate_journal.specs.Disks.{IsUnwritten}
use Rattle.gate_journal.specs.Phases.{HasEmptyJournal}
use Rattle.gate_journal.specs.Places.{ReadsOnly}
use Rattle.script_lines.specs.SourceState.{SourceState}
use Rattle.script_lines.specs.SourceState as sources
use Rattle.script_lines.specs.SinkState.{SinkState}
use Rattle.script_lines.specs.SinkState as sinks
use Rattle.script_lines.specs.LineState.{LineState, KeepsSource, Answers, FailsBetween, PassesLimit, to_come, unread}
use Rattle.script_lines.specs.declared.lines.LineFault.{LineFault}
use Rattle.script_lines.specs.declared.lines.LineFault.TheVariants as causes
use Rattle.script_lines.specs.declared.command.Command.{Command}
use Rattle.script_lines.specs.declared.reply.Reply.{Reply}
use Rattle.script_lines.specs.Parsing.{reading_of}
use Rattle.script_lines.specs.Replies.{reply_of}
use Rattle.image_check.specs.declared.fault.ApplyFault.{ApplyFault}
use Rattle.image_check.specs.Standing.{Stands}
use Rattle.store_core.specs.StoreState.{StoreState}
use Rattle.store_core.specs.StoreCalls.{Applies}
use Rattle.image_subcommands.specs.declared.status.Status.{Status}
pub use Rattle.image_subcommands.specs.Limits.{HasTaken, KeepsLimit, IsUnread}
use Rattle.image_subcommands.specs.declared.status.Status.TheVariants as statuses
pub use Rattle.image_work.specs.Works.{IsReady}
use Rattle.script_runs.specs.Costs.{CountsLines, CountsRun}
use Rattle.script_runs.specs.Promises.{PromisesReplies, CountsReplies, PromisesImage, PromisesCrashes}

-- the replies to the lines of a script
abbrev pub run_replies : Tree → List ℕ → Parameters → List model.Reply
run_replies t script p = replies t (lines script) p

-- their texts, one for each line
abbrev pub run_texts : Tree → List ℕ → Parameters → List (List ℕ)
run_texts t script p = map reply_text (run_replies t script p)

-- the tree after so many of its lines; after the last of them it stays
abbrev pub run_trees : Tree → List ℕ → Parameters → ℕ → Tree
run_trees t script p k = tree_after t (take k (lines script)) p

-- the tree after each of the first lines is that before them
abbrev pub IsUnchanged : (ℕ → Tree) → ℕ → Type 0
IsUnchanged trees done = (k : ℕ) → k ≤ done → trees k ≡ trees 0

-- a call that ended so wrote these bytes to the sink, as is promised of the replies
pub record WritesReplies (status : Status) (done : ℕ) (texts : List (List ℕ)) (old new : SinkState) : Type 0 where
  pub written : List ℕ
  pub written_is : new.written ≡ old.written ++ written
  pub promised : PromisesReplies status done texts written

-- It took these bytes from the source and carried out so many lines, and these texts were written to a sink that
-- tells it.
pub record RepliesKept (status : Status) (done : ℕ) (texts : List (List ℕ)) (source_old source_new : SourceState)
    (sink_old sink_new : SinkState) : Type 0 where
  pub taken : List ℕ
  pub taken_is : source_old.left ≡ taken ++ source_new.left
  pub counted : CountsReplies status done texts taken source_new.left
  pub written : sinks.IsObservable sink_old → WritesReplies status done texts sink_old sink_new

-- ---- one line

-- what the program read of a line is what it asks for
abbrev pub IsAskedIn : Result Command Refusal → List ℕ → Type 0
IsAskedIn asked text = reading_of asked ≡ reading text

-- the bytes that may still come fall where a line was read
abbrev pub FallsAt : {R Q : Type 0} → LineState R → LineState R → Option Q → Type 0
FallsAt old new (Some asked) = unread new < unread old
FallsAt old new None = unread new ≤ unread old

module _ {R Q : Type 0} (source_of : R → SourceState) (IsAsked : Q → List ℕ → Type 0) where
  -- what was read of a source that tells its bytes: the next line, its end, or none for a fault
  abbrev pub NextReading : LineState R → LineState R → Result (Option Q) LineFault → Type 0
  NextReading old new (Ok (Some asked)) = (text : List ℕ) × IsAsked asked text × Answers source_of old new (text ∷ [])
  NextReading old new (Ok None) = Answers source_of old new [] × (to_come source_of new ≡ [])
  NextReading old new (Err causes.Source) = FailsBetween source_of old new
  NextReading old new (Err causes.TooLong) = PassesLimit source_of old new

  -- The next line is read, with what it asks for.
  pub record ReadsLine (old new : LineState R) (result : Result (Option Q) LineFault) : Type 0 where
    pub source : KeepsSource (source_of old.source) (source_of new.source) result
    pub live : IsTrue new.is_live ↔ IsOk result
    pub limit : new.limit ≡ old.limit
    pub in_limit : new.taken ≤ new.limit
    pub falls : IfOk result (FallsAt old new)
    pub next : sources.IsObservable (source_of old.source) → NextReading old new result

-- A line was refused: the refusal is the reply, nothing was called, and nothing changed.
pub record IsRefusedLine {S A : Type 0} (IsReply : A → Type 0) (old new : S)
    (result : Result A ApplyFault) : Type 0 where
  pub reply : IsOkAnd result IsReply
  pub same : new ≡ old

module _ {D : Type 0} (disk_of : D → DiskState) where
  -- What a line asks for is answered: a command is carried out, and a refusal is the reply.
  abbrev pub AnswersReading : Result model.Command Refusal → StoreState D → StoreState D
      → Result Reply ApplyFault → Type 0
  AnswersReading (Ok command) old new result = Applies disk_of command old new result
  AnswersReading (Err refusal) old new result = IsRefusedLine (λ reply. reply_of reply ≡ Refused refusal) old new result

-- ---- all lines

-- What so many lines did to an observable disk, over the trees of the run.
pub record ChangesByLines (status : Status) (done : ℕ) (trees : ℕ → Tree) (p : Parameters)
    (old new : DiskState) : Type 0 where
  -- it stands at the tree after them; where the disk failed it represents that or the tree after the next line
  pub stands : (status ≡ statuses.DiskFault → ⊥) → Stands new (trees done) p
  pub fault : status ≡ statuses.DiskFault → Represents new.bytes (trees done) p
      ⊎ Represents new.bytes (trees (done + 1)) p
  pub crashes : PromisesCrashes status done trees old new p
  -- lines that change nothing only read it; the others write and sync just the commits of the slots that differ
  pub quiet : (status ≡ statuses.DiskFault → ⊥) → IsUnchanged trees done → ReadsOnly old new
  pub counts : CountsLines status done trees p old new

-- ---- all lines of a call

-- Opening an image of the tree t was tried, and so many lines with these trees were carried out, the first from t on:
-- none where opening failed.
pub record LeavesByLines (t : Tree) (trees : ℕ → Tree) (p : Parameters) (status : Status) (done : ℕ)
    (old new : DiskState) : Type 0 where
  pub image : PromisesImage status done trees old new p
  -- Just so many writes and syncs are made as opening the image takes and the commits of the slots in which the trees
  -- differ. So over an image with an empty journal, lines that change nothing write nothing, whatever stands between
  -- them.
  pub counts : CountsRun status done trees p old new
  pub quiet : HasEmptyJournal p.slots old.bytes → (status ≡ statuses.DiskFault → ⊥) → IsUnchanged trees done
      → IsUnwritten old new
  -- where a crash before the call leaves no other image
  pub crashes : MayLeaveOnly old (λ image. Represents image t p) → PromisesCrashes status done trees old new p
