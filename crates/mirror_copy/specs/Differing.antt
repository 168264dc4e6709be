-- In how many slots two images differ, and what it takes to make the one equal to the other.
use Rattle.std.specs.Prelude.{ℕ, ◌+◌, List, if◌then◌else◌}
use Rattle.store_model.specs.Images.{recovered_slot}
use Rattle.gate_journal.specs.Costs.{has_journal, opening_writes, commit_writes, commit_syncs}
use Rattle.gate_journal.specs.Recovery.{redo_syncs}
use Rattle.table_memory.specs.Differences.{differing}

-- in how many slots recovery leaves other bytes of the one image than of the other
abbrev pub slots_differing : ℕ → List ℕ → List ℕ → ℕ
slots_differing slots old new = differing (recovered_slot slots old) (recovered_slot slots new) slots

-- the syncs of recovering an image: one before, and where there is a journal those that redo it and one behind its
-- erasure
abbrev pub recovery_syncs : ℕ → List ℕ → ℕ
recovery_syncs slots image = if has_journal slots image then redo_syncs image + 2 else 1

-- the writes of recovering an image and of a commit of so many slots after that
abbrev pub rewrite_writes : ℕ → List ℕ → ℕ → ℕ
rewrite_writes slots image count = opening_writes slots image + commit_writes count

-- and the syncs
abbrev pub rewrite_syncs : ℕ → List ℕ → ℕ → ℕ
rewrite_syncs slots image count = recovery_syncs slots image + commit_syncs count
