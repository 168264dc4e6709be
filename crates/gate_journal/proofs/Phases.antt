-- What each phase of the journal recovers to.
use Rattle.std.proofs.Common.{◌≡◌, ◌⊎◌, ℕ, ◌+◌, ◌*◌, ◌<◌, List, ◌++◌, length, take, drop, slice_index, slice_set, true}
use Rattle.std.proofs.Common.{false, Bool, refl, sym, ap, ◌∙◌, inl, inr, arith, length-take, length-drop}
use Rattle.std.proofs.Common.{take-append-drop, append_assoc, get_or-take, get_or-drop, if◌then◌else◌, ◌&&◌, not, ◌==◌}
use Rattle.std.specs.List.{flat_map}
use Rattle.std.proofs.lemmas.Bool.{cases_Bool}
use Rattle.std.proofs.lemmas.List.{take_all, drop-drop, ext_get_or, length-replicate, get_or-replicate}
use Rattle.store_model.specs.Lists.{zeros, numbers_below}
use Rattle.store_model.specs.Parameters.{block_len, shadow_at, table_at, image_len}
use Rattle.store_model.specs.declared.version.Version.TheVariants.{Two}
use Rattle.store_model.specs.Images.{version_byte, version_at, bytes_at, is_flag_set, is_marked, viewed_header}
use Rattle.store_model.specs.Images.{recovered_slot, recovered, journal_len}
use Rattle.store_model.proofs.ImagesLemmas.{viewed_header-at_rest}
use Rattle.gate_journal.specs.Phases.{table_slot, HasTable, HasEmptyJournal}
use Rattle.gate_journal.proofs.Areas.{areas, journal_end, table_end, shadow_end, marks_end}
use Rattle.gate_journal.proofs.Slots.{flat_map-blocks, flat_map-same}

-- the slot that the journal of the image has in its place: its shadow block where it is marked
abbrev pub redo_slot : ℕ → List ℕ → ℕ → List ℕ
redo_slot slots image i = bytes_at image (if is_marked image i then shadow_at slots i else table_at slots i) block_len

-- the header and the table of the image, with an empty journal between
abbrev pub settled : ℕ → List ℕ → List ℕ
settled slots image = take block_len image ++ zeros (journal_len slots)
    ++ flat_map (table_slot slots image) (numbers_below slots)

-- the header that the journal of the image leads to: of version 2 where the mark behind the last slot's is set
abbrev pub redo_header : ℕ → List ℕ → List ℕ
redo_header slots image = if is_marked image slots then slice_set (take block_len image) version_at
    (version_byte Two) else take block_len image

-- the image's journal leads to the header and the table of the target
pub record HasRedo (slots : ℕ) (target image : List ℕ) : Type 0 where
  pub header : redo_header slots image ≡ take block_len target
  pub redo : (i : ℕ) → i < slots → redo_slot slots image i ≡ table_slot slots target i

-- what the journal does, one phase after another
pub data JournalPhase : Type 0 where
  -- marks and shadow are written; the commit flag is clear
  Journaling : JournalPhase
  -- the journal is complete; the commit flag is being set
  Flagging : JournalPhase
  -- the commit flag is set; the table is written from the journal
  Redoing : JournalPhase
  -- the table is complete; the commit flag is being cleared
  Clearing : JournalPhase
  -- the commit flag is clear; marks and shadow are erased
  Erasing : JournalPhase

-- an image that a crash in this phase may leave, on the way from the one image to the other
abbrev pub InPhase : ℕ → List ℕ → List ℕ → JournalPhase → List ℕ → Type 0
InPhase slots old new Journaling image = HasTable slots old image × (is_flag_set image ≡ false)
InPhase slots old new Flagging image = HasTable slots old image × HasRedo slots new image
InPhase slots old new Redoing image = HasRedo slots new image × (is_flag_set image ≡ true)
InPhase slots old new Clearing image = HasTable slots new image × HasRedo slots new image
InPhase slots old new Erasing image = HasTable slots new image × (is_flag_set image ≡ false)

-- images whose parts are equal
pub same_parts : (slots : ℕ) (head other_head : List ℕ) (slot other : ℕ → List ℕ) → head ≡ other_head
    → ((i : ℕ) → i < slots → slot i ≡ other i)
    → head ++ zeros (journal_len slots) ++ flat_map slot (numbers_below slots) ≡ other_head ++ zeros (journal_len slots)
    ++ flat_map other (numbers_below slots)
same_parts slots head other_head slot other heads same =
    ap (λ (l : List ℕ). l ++ zeros (journal_len slots) ++ flat_map slot (numbers_below slots)) heads
    ∙ ap (λ (l : List ℕ). other_head ++ zeros (journal_len slots) ++ l)
    (flat_map-same slot other 0 slots (λ i low. same i (omega arith)))

-- with the flag clear recovery keeps the table
pub recovered_clear : (slots : ℕ) (target image : List ℕ) → is_flag_set image ≡ false → HasTable slots target image
    → recovered slots image ≡ settled slots target
unfolding recovered recovered_slot
recovered_clear slots target image clear has =
    same_parts slots (viewed_header slots image) (take 4096 target) (recovered_slot slots image)
    (table_slot slots target) (viewed_header-at_rest slots image clear ∙ has.header)
    λ i below. ap (λ (raised : Bool). bytes_at image
    (if raised && is_marked image i then shadow_at slots i else table_at slots i) 4096) clear ∙ has.table i below

-- with the flag set it redoes the header and the marked slots
pub recovered_set : (slots : ℕ) (target image : List ℕ) → is_flag_set image ≡ true → HasRedo slots target image
    → recovered slots image ≡ settled slots target
unfolding recovered recovered_slot viewed_header
recovered_set slots target image set has =
    same_parts slots (viewed_header slots image) (take 4096 target) (recovered_slot slots image)
    (table_slot slots target)
    (ap (λ (raised : Bool). if raised && is_marked image slots then slice_set
    (take 4096 image) 14 2 else take 4096 image) set ∙ has.header)
    λ i below. ap (λ (raised : Bool). bytes_at image
    (if raised && is_marked image i then shadow_at slots i else table_at slots i) 4096) set ∙ has.redo i below

-- the one law: an image in any phase recovers to the one image or to the other
pub recovered_in_phase : (slots : ℕ) (old new : List ℕ) (phase : JournalPhase) (image : List ℕ)
    → InPhase slots old new phase image → (recovered slots image ≡ settled slots old)
    ⊎ (recovered slots image ≡ settled slots new)
recovered_in_phase slots old new Journaling image is = inl (recovered_clear slots old image is.1 is.0)
recovered_in_phase slots old new Flagging image is = elim (cases_Bool (is_flag_set image)) [
  | inl set ↦ inr (recovered_set slots new image set is.1)
  | inr clear ↦ inl (recovered_clear slots old image clear is.0)
]
recovered_in_phase slots old new Redoing image is = inr (recovered_set slots new image is.1 is.0)
recovered_in_phase slots old new Clearing image is = elim (cases_Bool (is_flag_set image)) [
  | inl set ↦ inr (recovered_set slots new image set is.1)
  | inr clear ↦ inr (recovered_clear slots new image clear is.0)
]
recovered_in_phase slots old new Erasing image is = inr (recovered_clear slots new image is.1 is.0)

-- from the table on, every phase recovers to the new image
pub recovered_late : (slots : ℕ) (new image : List ℕ) → (HasTable slots new image × (is_flag_set image ≡ false))
    ⊎ (HasRedo slots new image × (is_flag_set image ≡ true)) → recovered slots image ≡ settled slots new
recovered_late slots new image (inl is) = recovered_clear slots new image is.1 is.0
recovered_late slots new image (inr is) = recovered_set slots new image is.1 is.0

pub settled-same : (slots : ℕ) (target image : List ℕ) → HasTable slots target image
    → settled slots image ≡ settled slots target
settled-same slots target image has = same_parts slots (take 4096 image) (take 4096 target) (table_slot slots image)
    (table_slot slots target) has.header has.table

-- the slots of an image are the blocks of its table
slots_joined : (slots : ℕ) (image : List ℕ) → length image ≡ image_len slots
    → flat_map (table_slot slots image) (numbers_below slots) ≡ drop (table_at slots 0) image
slots_joined slots image long =
    let at = table_at slots 0 in
    let start : at + 4096 * 0 ≡ at = omega arith in
    flat_map-same (table_slot slots image) (λ i. bytes_at image (at + 4096 * i) 4096) 0 slots
    (λ i low. ap (λ (n : ℕ). bytes_at image n 4096) ((areas slots i (omega arith)).table_is))
    ∙ flat_map-blocks image at 4096 0 slots ∙ ap (λ (n : ℕ). take (4096 * slots) (drop n image)) start
    ∙ take_all (4096 * slots) (drop at image) (omega (arith, length-drop at image, table_end slots))

-- an empty journal is zeros
journal_zeros : (slots : ℕ) (image : List ℕ) → length image ≡ image_len slots → HasEmptyJournal slots image
    → take (journal_len slots) (drop 4096 image) ≡ zeros (journal_len slots)
journal_zeros slots image long empty =
    let n = journal_len slots in
    let lengths : length (take n (drop 4096 image)) ≡ n =
    omega (arith, length-take n (drop 4096 image), length-drop 4096 image, table_end slots, journal_end slots) in
    ext_get_or 0 (take n (drop 4096 image)) (zeros n) (lengths ∙ sym (length-replicate n 0)) λ i low.
    let few : i < n = omega (arith, lengths) in
    get_or-take n (drop 4096 image) i 0 few ∙ get_or-drop 4096 image i 0
    ∙ empty (4096 + i) (omega arith) (omega (arith, journal_end slots)) ∙ sym (get_or-replicate n i 0 0 few)

-- an image with an empty journal is settled
pub settled_empty : (slots : ℕ) (image : List ℕ) → length image ≡ image_len slots → HasEmptyJournal slots image
    → settled slots image ≡ image
settled_empty slots image long empty =
    let n = journal_len slots in
    let back : take n (drop 4096 image) ++ drop n (drop 4096 image) ≡ drop 4096 image =
    take-append-drop n (drop 4096 image) in
    let behind : drop n (drop 4096 image) ≡ drop (table_at slots 0) image =
    drop-drop n 4096 image ∙ ap (λ (m : ℕ). drop m image) (journal_end slots) in
    append_assoc (take 4096 image) (zeros n) (flat_map (table_slot slots image) (numbers_below slots))
    ∙ ap (λ (l : List ℕ). take 4096 image ++ (zeros n ++ l)) (slots_joined slots image long ∙ sym behind)
    ∙ ap (λ (l : List ℕ). take 4096 image ++ (l ++ drop n (drop 4096 image)))
    (sym (journal_zeros slots image long empty))
    ∙ ap (λ (l : List ℕ). take 4096 image ++ l) back ∙ take-append-drop 4096 image

-- images with empty journals, one header and one table are the same
pub same_settled : (slots : ℕ) (target image : List ℕ) → length target ≡ image_len slots
    → length image ≡ image_len slots → HasEmptyJournal slots target → HasEmptyJournal slots image
    → HasTable slots target image → image ≡ target
same_settled slots target image target_long long target_empty empty has =
    sym (settled_empty slots image long empty) ∙ settled-same slots target image has
    ∙ settled_empty slots target target_long target_empty

-- an image with an empty journal is what it recovers to
pub recovered_empty : (slots : ℕ) (image : List ℕ) → length image ≡ image_len slots → HasEmptyJournal slots image
    → recovered slots image ≡ image
unfolding is_flag_set
recovered_empty slots image long empty =
    let zero_flag : slice_index image 4096 ≡ 0 =
    empty 4096 (omega arith) (omega (arith, shadow_end slots, marks_end slots)) in
    recovered_clear slots image image (ap (λ (b : ℕ). not (b == 0)) zero_flag)
    (record { header = refl; table = λ i below. refl }) ∙ settled_empty slots image long empty
