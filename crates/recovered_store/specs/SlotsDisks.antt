-- A disk of slots, as its clauses see it.
use Rattle.std.specs.Prelude.{◌≡◌, ◌⊎◌, ℕ, suc, ◌*◌, ◌<◌, ◌≤◌, List, [], ◌∷◌, ◌++◌, length, Result}
use Rattle.std.specs.List.{flat_map, AllByRecursion}
use Rattle.std.proofs.Common.{refl, ap, ◌∙◌, inl, inr, arith}
use Rattle.store_model.specs.Lists.{zeros}
use Rattle.store_model.specs.Parameters.{Parameters, IsParameters, image_len, block_len}
use Rattle.store_model.specs.Images.{header, journal_len}
use Rattle.store_base.specs.Counts.{faults_after}
use Rattle.store_base.specs.SlotsState.{SlotsState, IsObservable, IsCounted, AreWhole}
use Rattle.disk_model.specs.DiskState.{DiskState, IsSound}
use Rattle.disk_model.specs.Counted.{counted, counted_is_sound}
use Rattle.recovered_store.specs.BelowDisks.{IsTrace, first_moment}
use Rattle.store_model.proofs.ImagesLemmas.{length-header, length-flat_map_same, length-areas}

-- the image of these parameters with an empty journal and these slots
abbrev pub image_of : Parameters → List (List ℕ) → List ℕ
image_of p slots = header p ++ zeros (journal_len p.slots) ++ flat_map (λ slot. slot) slots

-- a disk that always reads this image, and on which nothing is ever pending; its history begins with what the disk is
-- from which the slots are read
abbrev pub still : List ℕ → SlotsState → DiskState → ℕ → DiskState
still image slots below size = record {
  size = size;
  is_observable = slots.is_observable;
  bytes = image;
  crash_images = λ left. left ≡ image;
  clock = first_moment;
  crash_images_since = λ since left. (left ≡ image) ⊎ ((since < first_moment) × IsTrace below since left);
  faults = slots.faults;
  writes = 0;
  syncs = 0;
}

-- The disk of the slots: each write failed.
abbrev pub disk_state : SlotsState → DiskState → Parameters → ℕ → ℕ → DiskState
disk_state slots below p refused syncs =
    counted (still (image_of p slots.slots) slots below (image_len p.slots)) refused refused syncs

-- Calls that only read slots.
pub record ReadsSlots {T E : Type 0} (old new : SlotsState) (result : Result T E) : Type 0 where
  pub count : new.count ≡ old.count
  pub observable : new.is_observable ≡ old.is_observable
  pub takes_none : new.takes_none ≡ old.takes_none
  pub faults : new.faults ≡ faults_after old.faults result
  pub slots : IsObservable old → new.slots ≡ old.slots

-- so many bytes are some, and no more than the buffer has
abbrev pub IsPart : ℕ → List ℕ → Type 0
IsPart count buffer = (0 < count) × (count ≤ length buffer)

-- ---- the law of a disk, which stands here since it proves a trait's law

-- slots of a block each
pub all_whole : (slots : List (List ℕ)) → AreWhole slots → AllByRecursion (λ slot. length slot ≡ block_len) slots
all_whole [] whole = tt
all_whole (slot ∷ slots) whole = (whole 0 slot refl, all_whole slots (λ i found. whole (suc i) found))

-- the image has the length of one of its parameters
pub length-image_of : (p : Parameters) (slots : List (List ℕ)) → IsParameters p → length slots ≡ p.slots
    → AreWhole slots → length (image_of p slots) ≡ image_len p.slots
length-image_of p slots in_range count whole =
    length-areas p.slots (header p) (flat_map (λ slot. slot) slots) (length-header p in_range)
    (length-flat_map_same (λ slot. slot) block_len slots (all_whole slots whole) ∙ ap (λ n. block_len * n) count)

pub disk_sound : (slots : SlotsState) (below : DiskState) (p : Parameters) (refused syncs : ℕ) → IsParameters p
    → slots.count ≡ p.slots → IsCounted slots → AreWhole slots.slots → IsSound (disk_state slots below p refused syncs)
disk_sound slots below p refused syncs in_range count counted_is whole =
    let long = length-image_of p slots.slots in_range (counted_is ∙ count) whole in
    counted_is_sound (still (image_of p slots.slots) slots below (image_len p.slots)) refused refused syncs (record {
      size = long;
      read_image = refl;
      image_size = λ image is. ap length is ∙ long;
      includes_now = λ t image earlier here. inl here;
      only_now = λ image here. now_only (image_of p slots.slots) image _ here;
    })
  where
    now_only : (image left : List ℕ) (A : Type 0) → (left ≡ image) ⊎ ((2 < 2) × A) → left ≡ image
    now_only image left A (inl is) = is
    now_only image left A (inr later) = absurd (omega (arith, later.0))
