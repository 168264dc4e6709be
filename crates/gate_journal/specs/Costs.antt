-- The writes and syncs of commits, and of opening an image.
use Rattle.std.specs.Prelude.{ℕ, zero, suc, ◌+◌, ◌-◌, ◌*◌, ◌^◌, ◌==◌, ◌≤◌, min, not, Bool, if◌then◌else◌, List, Result}
use Rattle.std.specs.Prelude.{OnOk}
use Rattle.std.specs.List.{list_any}
use Rattle.store_model.specs.Parameters.{gate_at}
use Rattle.store_model.specs.Images.{bytes_at, journal_len}
use Rattle.disk_model.specs.DiskState.{DiskState}
use Rattle.disk_model.specs.DiskCalls.{raised_by}
use Rattle.gate_journal.specs.Places.{Made}
use Rattle.gate_journal.specs.Recovery.{redo_writes, redo_syncs, erase_writes}

-- the writes of a commit of so many slots
abbrev pub commit_writes : ℕ → ℕ
commit_writes zero = 0
commit_writes (suc n) = 5 * suc n + 2

-- and its syncs
abbrev pub commit_syncs : ℕ → ℕ
commit_syncs zero = 0
commit_syncs (suc n) = 5

-- the writes of a commit of so many slots, or of none, that makes the image one of version 2
abbrev pub upgrade_writes : ℕ → ℕ
upgrade_writes n = 5 * n + 5

-- and its syncs
abbrev pub upgrade_syncs : ℕ
upgrade_syncs = 5

-- whether gate block, marks and shadow of an image have a byte other than zero
unfoldable pub has_journal : ℕ → List ℕ → Bool
has_journal slots image = list_any (λ byte. not (byte == 0)) (bytes_at image gate_at (journal_len slots))

-- the writes of opening an image: those that redo its journal, and those that erase it
abbrev pub opening_writes : ℕ → List ℕ → ℕ
opening_writes slots image = redo_writes slots image + erase_writes slots image

-- and its syncs: the one before the check and that before recovery, and where there is a journal those that redo it
-- and the one behind its erasure
abbrev pub opening_syncs : ℕ → List ℕ → ℕ
opening_syncs slots image = if has_journal slots image then redo_syncs image + 3 else 2

-- so many writes and syncs were made at most, as far as the counts go
pub record MadeAtMost (writes syncs : ℕ) (old new : DiskState) : Type 0 where
  pub write_limit : min new.writes (2 ^ 64 - 1) ≤ raised_by old.writes writes
  pub sync_limit : min new.syncs (2 ^ 64 - 1) ≤ raised_by old.syncs syncs

-- a commit of so many slots makes just its writes and syncs, and with a fault no more
pub record CountsCommit {T E : Type 0} (slots : ℕ) (old new : DiskState) (result : Result T E) : Type 0 where
  pub made : OnOk result (Made (commit_writes slots) (commit_syncs slots) old new)
  pub limit : MadeAtMost (commit_writes slots) (commit_syncs slots) old new
