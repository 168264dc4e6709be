-- What a run promises: the replies that were written, the image, and what a crash leaves.
--
-- Each is said over the status and the count `done` that a call answered, over the trees t_0, t_1, .. of the run
-- (a function of the number of lines carried out) and the texts of all its replies, one for each line, so that a call
-- with other lines and other answers can promise the same.
use Rattle.std.specs.Prelude.{◌≡◌, ℕ, ◌+◌, ◌-◌, ◌≤◌, ◌⊎◌, List, [], ◌++◌, length, take, drop}
use Rattle.std.specs.List.{concat}
use Rattle.store_model.specs.Parameters.{Parameters}
use Rattle.store_model.specs.Trees.{Tree}
use Rattle.store_model.specs.Images.{Represents}
use Rattle.store_model.specs.Scripts.{script_limit}
use Rattle.disk_model.specs.DiskState.{DiskState, MayLeaveOnly, IsDurable}
use Rattle.disk_model.specs.DiskCalls.{LeavesOnly}
use Rattle.script_lines.specs.Lines.{ended_lines}
use Rattle.image_subcommands.specs.declared.status.Status.{Status}
use Rattle.image_subcommands.specs.declared.status.Status.TheVariants as statuses
use Rattle.gate_journal.specs.Disks.{IsOnlySynced}
use Rattle.image_check.specs.Standing.{Stands}
use Rattle.image_subcommands.specs.Statuses.{IsBetweenLines, IsCutShort}

-- some bytes of a text, from its front on
pub record IsFrontOf (part text : List ℕ) : Type 0 where
  pub rest : List ℕ
  pub whole : text ≡ part ++ rest

-- the replies of all lines but the last that was carried out, and of that one a part
pub record WroteInPart (done : ℕ) (texts : List (List ℕ)) (written : List ℕ) : Type 0 where
  pub part : List ℕ
  pub front : IsFrontOf part (concat (take 1 (drop (done - 1) texts)))
  pub written_is : written ≡ concat (take (done - 1) texts) ++ part

-- The replies that were written to a sink that tells it.
pub record PromisesReplies (status : Status) (done : ℕ) (texts : List (List ℕ)) (written : List ℕ) : Type 0 where
  -- each line was answered
  pub all : status ≡ statuses.Done → written ≡ concat texts
  -- the lines that were carried out were answered
  pub answered : IsCutShort status → written ≡ concat (take done texts)
  -- so they were but for the last of them, and of its reply there is a part
  pub in_part : status ≡ statuses.SinkFault → WroteInPart done texts written

-- The lines that were carried out, whatever the sink tells. `taken` is what was taken from the source and `left` what
-- is left there.
pub record CountsReplies (status : Status) (done : ℕ) (texts : List (List ℕ)) (taken left : List ℕ) : Type 0 where
  -- the source is at its end, and each line was carried out
  pub all : status ≡ statuses.Done → (left ≡ []) × (done ≡ length texts)
  -- each line that was ended among the bytes taken was carried out; of a script that is too long, among as many as it
  -- may have
  pub ended : status ≡ statuses.SourceFault → done ≡ length (ended_lines taken)
  pub ended_in_limit : status ≡ statuses.TooLong → done ≡ length (ended_lines (take script_limit (taken ++ left)))
  -- no more lines were carried out than there are, and the reply that could not be written was that of one of them
  pub counted : done ≤ length texts
  pub some_line : status ≡ statuses.SinkFault → 1 ≤ done

-- The image, on a disk that was in one state before the call and is in another after it.
pub record PromisesImage (status : Status) (done : ℕ) (trees : ℕ → Tree) (old new : DiskState)
    (p : Parameters) : Type 0 where
  -- between two lines it is the layout of the tree after the lines carried out, and durable
  pub between : IsBetweenLines status → Stands new (trees done) p
  -- for want of memory it is so too, or nothing was done
  pub no_memory : status ≡ statuses.NoMemory → Stands new (trees done) p ⊎ ((done ≡ 0) × IsOnlySynced old new)
  -- where the disk failed the image represents the tree before or after the line in progress
  pub fault : status ≡ statuses.DiskFault → Represents new.bytes (trees done) p
      ⊎ Represents new.bytes (trees (done + 1)) p

-- the image represents one of the trees up to a number
abbrev pub RepresentsOneOf : (ℕ → Tree) → ℕ → Parameters → List ℕ → Type 0
RepresentsOneOf trees last p image = (k : ℕ) × (k ≤ last) × Represents image (trees k) p

-- What a crash at a moment of the call leaves, or at its return.
pub record PromisesCrashes (status : Status) (done : ℕ) (trees : ℕ → Tree) (old new : DiskState)
    (p : Parameters) : Type 0 where
  -- the image represents a tree after some of the lines carried out; where the disk failed, the line in progress may
  -- be among them
  pub during : (status ≡ statuses.DiskFault → ⊥) → LeavesOnly old new (RepresentsOneOf trees done p)
  pub during_fault : status ≡ statuses.DiskFault → LeavesOnly old new (RepresentsOneOf trees (done + 1) p)
  -- at the return it is the very layout that a read gives, where that is promised
  pub between : IsBetweenLines status → IsDurable new
  pub fault : status ≡ statuses.DiskFault
      → MayLeaveOnly new (λ image. Represents image (trees done) p ⊎ Represents image (trees (done + 1)) p)
  pub no_memory : status ≡ statuses.NoMemory → Stands new (trees done) p
      ⊎ MayLeaveOnly new (λ image. Represents image (trees 0) p)
