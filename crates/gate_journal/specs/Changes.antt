-- Slots of a table that are to be changed together, and an image with these slots changed.
use Rattle.std.specs.Prelude.{◌≡◌, ◌⊎◌, ℕ, zero, suc, ◌<◌, List, [], ◌∷◌, length, slice_index, Result, OnOk}
use Rattle.store_model.specs.declared.version.Version.TheVariants.{Two}
use Rattle.store_model.specs.Lists.{zeros}
use Rattle.store_model.specs.Parameters.{block_len, mark_at, shadow_at, table_at}
use Rattle.store_model.specs.Images.{version_byte, version_at, bytes_at, recovered}
use Rattle.disk_model.specs.DiskState.{DiskState, IsDurable}
use Rattle.disk_model.specs.DiskCalls.{overwrite, LeavesOnly}
use Rattle.gate_journal.specs.Places.{IsApart}
use Rattle.gate_journal.specs.Phases.{HasEmptyJournal}

-- how many slots change, the number of each, and its new bytes
pub record Changes : Type 0 where
  pub count : ℕ
  pub slot : ℕ → ℕ
  pub bytes : ℕ → List ℕ

-- the numbers rise strictly and are below that of the slots, and the new bytes fill a slot
pub record AreChanges (slots : ℕ) (changes : Changes) : Type 0 where
  pub rising : (j k : ℕ) → j < k → k < changes.count → changes.slot j < changes.slot k
  pub below : (k : ℕ) → k < changes.count → changes.slot k < slots
  pub whole : (k : ℕ) → k < changes.count → length (changes.bytes k) ≡ block_len

-- the image with the first n of the slots changed
abbrev pub with_first : ℕ → Changes → ℕ → List ℕ → List ℕ
with_first slots changes zero image = image
with_first slots changes (suc n) image =
    overwrite (with_first slots changes n image) (table_at slots (changes.slot n)) (changes.bytes n)

-- the image with the slots changed
abbrev pub with_slots : ℕ → Changes → List ℕ → List ℕ
with_slots slots changes image = with_first slots changes changes.count image

-- the image with the slots changed, and of version 2
abbrev pub upgraded : ℕ → Changes → List ℕ → List ℕ
upgraded slots changes image = overwrite (with_slots slots changes image) version_at (version_byte Two ∷ [])

-- the image is as long as the old one, and recovers to that or to the new one
pub record RecoversToEither (slots : ℕ) (old new image : List ℕ) : Type 0 where
  pub same_length : length image ≡ length old
  pub recovers : (recovered slots image ≡ old) ⊎ (recovered slots image ≡ new)

-- a place outside the mark and the shadow block of a slot
pub record OutsideEntry (slots slot place : ℕ) : Type 0 where
  pub mark : IsApart (mark_at slot) 1 place
  pub shadow : IsApart (shadow_at slots slot) block_len place

-- the mark and the shadow block of a slot
pub record HasEntry (slots slot mark : ℕ) (shadow : List ℕ) (image : List ℕ) : Type 0 where
  pub mark_is : slice_index image (mark_at slot) ≡ mark
  pub shadow_is : bytes_at image (shadow_at slots slot) block_len ≡ shadow

-- the first n of the changed slots are marked, and their shadow blocks hold the new bytes
abbrev pub AreJournaled : ℕ → Changes → ℕ → List ℕ → Type 0
AreJournaled slots changes n image = (k : ℕ) → k < n → HasEntry slots (changes.slot k) 1 (changes.bytes k) image

-- the marks and shadow blocks of the first n of the changed slots are zero
abbrev pub AreErased : ℕ → Changes → ℕ → List ℕ → Type 0
AreErased slots changes n image = (k : ℕ) → k < n → HasEntry slots (changes.slot k) 0 (zeros block_len) image

-- A commit that leads to the target. Each image that a crash at any moment of it may leave has the old length and
-- recovers to the old image or to the target; the same holds of the bytes that the disk reads, whatever the answer.
-- After Ok it reads the target, and is durable.
pub record CommitsTo {T E : Type 0} (slots : ℕ) (target : List ℕ) (old new : DiskState)
    (result : Result T E) : Type 0 where
  pub crash : LeavesOnly old new (RecoversToEither slots old.bytes target)
  pub reads : RecoversToEither slots old.bytes target new.bytes
  pub durable : OnOk result (IsDurable new)
  pub done : OnOk result (new.bytes ≡ target)
  pub empty : OnOk result (HasEmptyJournal slots new.bytes)

-- a commit of the changes
abbrev pub Commits : {T E : Type 0} → ℕ → Changes → DiskState → DiskState → Result T E → Type 0
Commits slots changes old new result = CommitsTo slots (with_slots slots changes old.bytes) old new result

-- a commit of the changes, and of version 2 with them
abbrev pub CommitsUpgrade : {T E : Type 0} → ℕ → Changes → DiskState → DiskState → Result T E → Type 0
CommitsUpgrade slots changes old new result = CommitsTo slots (upgraded slots changes old.bytes) old new result
