-- What was read of the journal of a disk.
use Rattle.std.specs.Prelude.{◌≡◌, ℕ, ◌<◌, ◌≤◌, List, Result}
use Rattle.std.specs.Option.{ForSome}
use Rattle.store_model.specs.Parameters.{block_len, image_len, mark_at, slots_limit}
use Rattle.store_model.specs.Images.{bytes_at, is_flag_set}
use Rattle.disk_model.specs.DiskState.{DiskState, IsObservable}
use Rattle.gate_journal.specs.Places.{AreCalls, ReadsOnly}
use Rattle.gate_journal.specs.declared.journal_cache.JournalCache.{JournalCache}

-- what the cache has is what the image has in its place
pub record Agrees (image : List ℕ) (cache : JournalCache) : Type 0 where
  pub flag_is : ForSome cache.flag (λ set. set ≡ is_flag_set image)
  pub marks_are : ForSome cache.first (λ first. cache.marks ≡ bytes_at image (mark_at first) block_len)

-- the cache agrees with what an observable disk reads
abbrev pub IsJournalCacheOf : DiskState → JournalCache → Type 0
IsJournalCacheOf disk cache = IsObservable disk → Agrees disk.bytes cache

-- one of the slots of a disk as long as an image of so many, and what was kept of the disk's journal
pub record HasSlot (slots slot : ℕ) (disk : DiskState) (kept : JournalCache) : Type 0 where
  pub in_range : slots ≤ slots_limit
  pub below : slot < slots
  pub size : disk.size ≡ image_len slots
  pub cache : IsJournalCacheOf disk kept

-- Calls that only read a disk, and keep of its journal what they read.
pub record ReadsJournal {T E : Type 0} (old new : DiskState) (kept : JournalCache) (result : Result T E) : Type 0 where
  pub calls : AreCalls old new result
  pub reads : IsObservable old → ReadsOnly old new
  pub cache : IsJournalCacheOf new kept
