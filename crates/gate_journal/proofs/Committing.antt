-- The images on the way of a commit, from an old image with an empty journal to the one with the slots changed, and of
-- version 2 in an upgrade.
use Rattle.std.proofs.Common.{◌≡◌, ◌⊎◌, ℕ, zero, suc, ◌+◌, ◌-◌, ◌<◌, ◌≤◌, List, [], ◌∷◌, length, take, drop}
use Rattle.std.proofs.Common.{slice_index, true, false, not, ◌==◌, if◌then◌else◌, Bool, refl, sym, ap, ◌∙◌, inl, inr}
use Rattle.std.proofs.Common.{arith, subst, get_or-take, get_or-drop}
use Rattle.std.proofs.lemmas.Bool.{cases_lt, cases_eq}
use Rattle.std.proofs.lemmas.List.{get_or-replicate}
use Rattle.store_model.specs.Lists.{zeros}
use Rattle.store_model.specs.Parameters.{mark_at, shadow_at, table_at, image_len}
use Rattle.store_model.specs.Images.{bytes_at, is_flag_set, is_marked}
use Rattle.disk_model.specs.DiskCalls.{overwrite}
use Rattle.disk_model.proofs.Images.{SameOutside-overwrite, take-drop-overwrite}
use Rattle.gate_journal.specs.declared.commit.Kind.{Kind}
use Rattle.gate_journal.specs.declared.commit.Pass.TheVariants.{Journal, Table}
use Rattle.gate_journal.specs.Places.{IsApart, SameAt}
use Rattle.gate_journal.specs.Changes.{Changes, AreChanges, OutsideEntry, AreJournaled, AreErased, with_first}
use Rattle.gate_journal.specs.Changes.{with_slots, RecoversToEither}
use Rattle.gate_journal.specs.Passes.{version_writes, OutsideSlots, OutsidePass, HasVersionMark, target}
use Rattle.gate_journal.specs.Phases.{table_slot, HasTable, HasEmptyJournal}
use Rattle.gate_journal.proofs.Phases.JournalPhase.{Journaling, Flagging, Redoing, Clearing, Erasing}
use Rattle.gate_journal.proofs.Areas.{areas, marks_end, shadow_end, table_end}
use Rattle.gate_journal.proofs.Places.{SameAt-refl, SameAt-trans, SameAt-weaken, SameAt-outside, bytes_at-same}
use Rattle.gate_journal.proofs.Entries.{slice_index-overwrite}
use Rattle.gate_journal.proofs.Phases.{redo_slot, HasRedo, JournalPhase, InPhase, recovered_in_phase, settled_empty}
use Rattle.gate_journal.proofs.Phases.{same_settled}
use Rattle.gate_journal.proofs.Versions.{version_mark, headed, version_few, redo_headed, headed-headed, headed-same}
use Rattle.gate_journal.proofs.Versions.{target-same, take-target, version_marked, version_erased}

-- a place outside the changed slots of the table
abbrev pub OutsideTable : ℕ → Changes → ℕ → Type 0
OutsideTable slots changes place = OutsideSlots Table slots changes place

-- and in an upgrade outside the version's byte of the header
abbrev pub OutsideTarget : Kind → ℕ → Changes → ℕ → Type 0
OutsideTarget kind slots changes place = OutsidePass kind Table slots changes place

-- a place outside the marks and the shadow blocks of the changed slots, and in an upgrade outside the version's mark
abbrev pub OutsideJournal : Kind → ℕ → Changes → ℕ → Type 0
OutsideJournal kind slots changes place = OutsidePass kind Journal slots changes place

-- a slot of the table lies apart from another
pub table_apart : (slots i other : ℕ) → i < slots → other < slots → (other ≡ i → ⊥) → (place : ℕ)
    → table_at slots i ≤ place → place < table_at slots i + 4096 → IsApart (table_at slots other) 4096 place
table_apart slots i other below other_below differ place low high =
    let here = areas slots i below in
    let there = areas slots other other_below in
    elim (cases_lt other i) [
      | inl before ↦ inr (omega (arith, here.table_is, there.table_is))
      | inr behind ↦ inl (omega (arith, here.table_is, there.table_is, differ))
    ]

-- the header and the table of an image that is the same there
pub HasTable-same : (slots : ℕ) (places : ℕ → Type 0) (target a b : List ℕ)
    → ((place : ℕ) → place < 4096 → places place)
    → ((place : ℕ) → table_at slots 0 ≤ place → place < image_len slots → places place)
    → SameAt places a b → HasTable slots target a → HasTable slots target b
HasTable-same slots places target a b header table same has = record {
  header = bytes_at-same places 0 4096 a b (λ place low high. header place (omega arith)) same ∙ has.header;
  table = λ i below.
      let at = areas slots i below in
      bytes_at-same places (table_at slots i) 4096 a b
      (λ place low high. table place (omega (arith, at.table_is)) (omega (arith, at.table_end))) same
      ∙ has.table i below;
}

pub clear_flag : (image : List ℕ) → slice_index image 4096 ≡ 0 → is_flag_set image ≡ false
unfolding is_flag_set
clear_flag image zero_flag = ap (λ (b : ℕ). not (b == 0)) zero_flag

pub set_flag : (image : List ℕ) → slice_index image 4096 ≡ 1 → is_flag_set image ≡ true
unfolding is_flag_set
set_flag image one = ap (λ (b : ℕ). not (b == 0)) one

module _ (slots : ℕ) (changes : Changes) (valid : AreChanges slots changes) where
  -- whether a slot is among the first n of the changed ones
  pub find_slot : (n i : ℕ) → ((j : ℕ) × (j < n) × (changes.slot j ≡ i)) ⊎ ((j : ℕ) → j < n → changes.slot j ≡ i → ⊥)
  find_slot zero i = inr (λ j none is. absurd (omega arith))
  find_slot (suc n) i = elim (cases_eq (changes.slot n) i) [
    | inl here ↦ inl (n, omega arith, here)
    | inr elsewhere ↦ elim (find_slot n i) [
      | inl found ↦ inl (found.0, omega (arith, found.1), found.2)
      | inr none ↦ inr (λ j low is. elim (cases_lt j n) [
        | inl before ↦ none j before is
        | inr last ↦ let same : j ≡ n = omega arith in elsewhere (ap changes.slot (sym same) ∙ is)
      ])
    ]
  ]

  -- outside the changed slots the image stays
  pub with_first_same : (image : List ℕ) → length image ≡ image_len slots → (n : ℕ) → n ≤ changes.count
      → SameAt (OutsideTable slots changes) image (with_first slots changes n image)
  with_first_same image long zero few = SameAt-refl (OutsideTable slots changes) image
  with_first_same image long (suc n) few =
      let before = with_first_same image long n (omega arith) in
      let whole = valid.whole n few in
      let at = table_at slots (changes.slot n) in
      let here = areas slots (changes.slot n) (valid.below n few) in
      let so_far = with_first slots changes n image in
      SameAt-trans (OutsideTable slots changes) image so_far (overwrite so_far at (changes.bytes n)) before
      (SameAt-outside (OutsideTable slots changes) at (length (changes.bytes n)) so_far
      (overwrite so_far at (changes.bytes n))
      (λ place outside. subst (λ (m : ℕ). IsApart at m place) (sym whole) (outside n few))
      (SameOutside-overwrite so_far at (changes.bytes n)
      (omega (arith, whole, here.table_end, before.same_length, long))))

  -- a changed slot has its new bytes
  pub with_first_changed : (image : List ℕ) → length image ≡ image_len slots → (n : ℕ) → n ≤ changes.count → (j : ℕ)
      → j < n → table_slot slots (with_first slots changes n image) (changes.slot j) ≡ changes.bytes j
  with_first_changed image long zero few j low = absurd (omega arith)
  with_first_changed image long (suc n) few j low =
      let before = with_first_same image long n (omega arith) in
      let whole = valid.whole n few in
      let at = table_at slots (changes.slot n) in
      let here = areas slots (changes.slot n) (valid.below n few) in
      let so_far = with_first slots changes n image in
      let within : at + length (changes.bytes n) ≤ length so_far =
      omega (arith, whole, here.table_end, before.same_length, long) in
      elim (cases_lt j n) [
        | inl earlier ↦
            let rises = valid.rising j n earlier few in
            bytes_at-same (IsApart at 4096) (table_at slots (changes.slot j)) 4096 so_far
            (overwrite so_far at (changes.bytes n))
            (λ place from to. table_apart slots (changes.slot j) (changes.slot n)
            (omega (arith, rises, here.table_end, valid.below n few)) (valid.below n few)
            (λ same. omega arith) place from to)
            (SameAt-outside (IsApart at 4096) at (length (changes.bytes n)) so_far
            (overwrite so_far at (changes.bytes n))
            (λ place apart. subst (λ (m : ℕ). IsApart at m place) (sym whole) apart)
            (SameOutside-overwrite so_far at (changes.bytes n) within))
            ∙ with_first_changed image long n (omega arith) j earlier
        | inr last ↦
            let same : n ≡ j = omega arith in
            subst (λ (k : ℕ). table_slot slots (overwrite so_far at (changes.bytes n)) (changes.slot k)
            ≡ changes.bytes k) same
            (subst (λ (m : ℕ). take m (drop at (overwrite so_far at (changes.bytes n))) ≡ changes.bytes n) whole
            (take-drop-overwrite so_far at (changes.bytes n) within))
      ]

  -- a slot that is not changed stays
  pub with_slots_other : (image : List ℕ) → length image ≡ image_len slots → (i : ℕ) → i < slots
      → ((j : ℕ) → j < changes.count → changes.slot j ≡ i → ⊥)
      → table_slot slots (with_slots slots changes image) i ≡ table_slot slots image i
  with_slots_other image long i below none =
      bytes_at-same (OutsideTable slots changes) (table_at slots i) 4096 image (with_slots slots changes image)
      (λ place from to k low. table_apart slots i (changes.slot k) below (valid.below k low) (none k low) place from to)
      (with_first_same image long changes.count (omega arith))

  -- the changes leave all that lies before the table
  pub below_table : (place : ℕ) → place < table_at slots 0 → OutsideTable slots changes place
  below_table place low k few = inl (omega (arith, (areas slots (changes.slot k) (valid.below k few)).table_is))

  -- so the image with the slots changed has the same header, and an empty journal too
  module _ (old : List ℕ) (long : length old ≡ image_len slots) (empty : HasEmptyJournal slots old) where
    pub new_header : take 4096 (with_slots slots changes old) ≡ take 4096 old
    new_header =
        bytes_at-same (OutsideTable slots changes) 0 4096 old (with_slots slots changes old)
        (λ place low high. below_table place (omega (arith, marks_end slots, shadow_end slots)))
        (with_first_same old long changes.count (omega arith))

    pub new_empty : HasEmptyJournal slots (with_slots slots changes old)
    new_empty place low high = (with_first_same old long changes.count (omega arith)).same place
        (below_table place high) ∙ empty place low high

  module _ (kind : Kind) where
    -- the slots of the image that the commit leads to
    module _ (image : List ℕ) (long : length image ≡ image_len slots) where
      some_bytes : 15 ≤ length (with_slots slots changes image)
      some_bytes =
          omega (
            arith,
            (with_first_same image long changes.count (omega arith)).same_length,
            long,
            table_end slots,
            shadow_end slots,
            marks_end slots,
          )

      -- it is the same but for the changed slots and the version's byte
      target_outside : SameAt (OutsideTarget kind slots changes) image (target kind slots changes image)
      target_outside =
          SameAt-trans (OutsideTarget kind slots changes) image (with_slots slots changes image)
          (target kind slots changes image)
          (SameAt-weaken (OutsideTable slots changes) (OutsideTarget kind slots changes) image
          (with_slots slots changes image) (λ place here. here.0)
          (with_first_same image long changes.count (omega arith)))
          (SameAt-weaken (IsApart 14 (version_writes kind)) (OutsideTarget kind slots changes)
          (with_slots slots changes image) (target kind slots changes image) (λ place here. here.1)
          (target-same kind slots changes image some_bytes))

      -- the version's byte lies before the table
      target_slot : (i : ℕ) → i < slots → table_slot slots (target kind slots changes image) i
          ≡ table_slot slots (with_slots slots changes image) i
      target_slot i below =
          let here = areas slots i below in
          bytes_at-same (IsApart 14 (version_writes kind)) (table_at slots i) 4096 (with_slots slots changes image)
          (target kind slots changes image)
          (λ place low high. inr (omega (arith, version_few kind, here.table_is, shadow_end slots, marks_end slots)))
          (target-same kind slots changes image some_bytes)

      target_changed : (j : ℕ) → j < changes.count
          → table_slot slots (target kind slots changes image) (changes.slot j) ≡ changes.bytes j
      target_changed j low = target_slot (changes.slot j) (valid.below j low)
          ∙ with_first_changed image long changes.count (omega arith) j low

      target_other : (i : ℕ) → i < slots → ((j : ℕ) → j < changes.count → changes.slot j ≡ i → ⊥)
          → table_slot slots (target kind slots changes image) i ≡ table_slot slots image i
      target_other i below none = target_slot i below ∙ with_slots_other image long i below none

      target_header : take 4096 (target kind slots changes image) ≡ headed kind (take 4096 image)
      target_header =
          take-target kind slots changes image some_bytes
          ∙ headed-same kind (OutsideTable slots changes) image (with_slots slots changes image)
          (λ place low apart. below_table place (omega (arith, marks_end slots, shadow_end slots)))
          (with_first_same image long changes.count (omega arith))

    -- the places between header and table
    between : (place : ℕ) → 4096 ≤ place → place < table_at slots 0 → OutsideTarget kind slots changes place
    between place low high = (below_table place high, inr (omega (arith, version_few kind)))

    -- images with one table have one table after the commit
    HasTable-target : (old image : List ℕ) → length old ≡ image_len slots → length image ≡ image_len slots
        → HasTable slots old image → HasTable slots (target kind slots changes old) (target kind slots changes image)
    HasTable-target old image old_long long has = record {
      header = target_header image long ∙ ap (headed kind) has.header ∙ sym (target_header old old_long);
      table = λ i below. elim (find_slot changes.count i) [
        | inl found ↦
            subst (λ (k : ℕ). table_slot slots (target kind slots changes image) k
            ≡ table_slot slots (target kind slots changes old) k) found.2
            (target_changed image long found.0 found.1 ∙ sym (target_changed old old_long found.0 found.1))
        | inr none ↦ target_other image long i below none ∙ has.table i below
            ∙ sym (target_other old old_long i below none)
      ];
    }

    -- the journal holds the changed slots and marks no other, and the version where that is changed
    pub record HasJournal (image : List ℕ) : Type 0 where
      pub entries : AreJournaled slots changes changes.count image
      pub others : (i : ℕ) → i < slots → ((j : ℕ) → j < changes.count → changes.slot j ≡ i → ⊥)
          → slice_index image (mark_at i) ≡ 0
      pub version : slice_index image (mark_at slots) ≡ version_mark kind

    HasJournal-same : (places : ℕ → Type 0) (a b : List ℕ)
        → ((place : ℕ) → 8192 ≤ place → place < table_at slots 0 → places place) → SameAt places a b
        → HasJournal a → HasJournal b
    HasJournal-same places a b within same has = record {
      entries = λ k low.
          let here = areas slots (changes.slot k) (valid.below k low) in
          let entry = has.entries k low in
          record {
            mark_is =
                same.same (mark_at (changes.slot k))
                (within (mark_at (changes.slot k)) (omega arith)
                (omega (arith, here.mark_end, here.shadow_is, here.shadow_end)))
                ∙ entry.mark_is;
            shadow_is =
                bytes_at-same places (shadow_at slots (changes.slot k)) 4096 a b
                (λ place from to. within place (omega (arith, here.shadow_is, marks_end slots))
                (omega (arith, here.shadow_end))) same
                ∙ entry.shadow_is;
          };
      others = λ i below none.
          same.same (mark_at i) (within (mark_at i) (omega arith)
          (omega (arith, (areas slots i below).mark_end, shadow_end slots))) ∙ has.others i below none;
      version = same.same (mark_at slots)
          (within (mark_at slots) (omega arith) (omega (arith, marks_end slots, shadow_end slots))) ∙ has.version;
    }

    -- a journal of the changed slots leads to the image that the commit leads to
    redo : (old image : List ℕ) → length old ≡ image_len slots → HasJournal image
        → headed kind (take 4096 image) ≡ take 4096 (target kind slots changes old)
        → ((i : ℕ) → i < slots → ((j : ℕ) → j < changes.count → changes.slot j ≡ i → ⊥)
        → table_slot slots image i ≡ table_slot slots (target kind slots changes old) i)
        → HasRedo slots (target kind slots changes old) image
    unfolding is_marked
    redo old image long journal header others = record {
      header = redo_headed kind slots image journal.version ∙ header;
      redo = λ i below. elim (find_slot changes.count i) [
        | inl found ↦
            let entry = journal.entries found.0 found.1 in
            let marked : is_marked image (changes.slot found.0) ≡ true = ap (λ (b : ℕ). not (b == 0)) entry.mark_is in
            subst (λ (k : ℕ). redo_slot slots image k ≡ table_slot slots (target kind slots changes old) k) found.2
            (ap (λ (b : Bool). bytes_at image
            (if b then shadow_at slots (changes.slot found.0) else table_at slots (changes.slot found.0)) 4096)
            marked
            ∙ entry.shadow_is ∙ sym (target_changed old long found.0 found.1))
        | inr none ↦
            let unmarked : is_marked image i ≡ false = ap (λ (b : ℕ). not (b == 0)) (journal.others i below none) in
            ap (λ (b : Bool). bytes_at image (if b then shadow_at slots i else table_at slots i) 4096) unmarked
            ∙ others i below none
      ];
    }

    -- Between two phases: the header and the table of an image and the whole journal, with zeros beside it and the
    -- flag.
    pub record Stands (to image : List ℕ) : Type 0 where
      pub long : length image ≡ image_len slots
      pub table : HasTable slots to image
      pub journal : HasJournal image
      pub beside : (place : ℕ) → 4097 ≤ place → place < table_at slots 0 → OutsideJournal kind slots changes place
          → slice_index image place ≡ 0

    -- whatever the flag
    Stands-flag : (to a b : List ℕ) → SameAt (IsApart 4096 1) a b → Stands to a → Stands to b
    Stands-flag to a b same stands = record {
      long = same.same_length ∙ stands.long;
      table = HasTable-same slots (IsApart 4096 1) to a b (λ place low. inl low)
          (λ place low high. inr (omega (arith, marks_end slots, shadow_end slots))) same stands.table;
      journal = HasJournal-same (IsApart 4096 1) a b (λ place low high. inr (omega arith)) same stands.journal;
      beside = λ place low high outside. same.same place (inr low) ∙ stands.beside place low high outside;
    }

    journal_spared : (place : ℕ) → place < 8192 → OutsideJournal kind slots changes place
    journal_spared place low = (
      λ k few. record {
        mark = inl (omega arith);
        shadow = inl (omega (arith, (areas slots (changes.slot k) (valid.below k few)).shadow_is, marks_end slots));
      },
      inl (omega arith),
    )

    table_spared : (place : ℕ) → table_at slots 0 ≤ place → OutsideJournal kind slots changes place
    table_spared place low = (
      λ k few.
          let here = areas slots (changes.slot k) (valid.below k few) in
          record {
            mark = inr (omega (arith, here.mark_end, shadow_end slots));
            shadow = inr (omega (arith, here.shadow_end));
          },
      inr (omega (arith, version_few kind, marks_end slots, shadow_end slots)),
    )

    -- what the first and the last pass write leaves header and table
    HasTable-beside : (to a b : List ℕ) → SameAt (OutsideJournal kind slots changes) a b
        → HasTable slots to a → HasTable slots to b
    HasTable-beside to a b same has = HasTable-same slots (OutsideJournal kind slots changes) to a b
        (λ place low. journal_spared place (omega arith)) (λ place low high. table_spared place low) same has

    module _ (old : List ℕ) (long : length old ≡ image_len slots) (empty : HasEmptyJournal slots old) where
      -- the image that the commit leads to has an empty journal too
      target_long : length (target kind slots changes old) ≡ image_len slots
      target_long = (target_outside old long).same_length ∙ long

      pub target_empty : HasEmptyJournal slots (target kind slots changes old)
      target_empty place low high = (target_outside old long).same place (between place low high) ∙ empty place low high

      either : (phase : JournalPhase) (image : List ℕ) → length image ≡ image_len slots
          → InPhase slots old (target kind slots changes old) phase image
          → RecoversToEither slots old (target kind slots changes old) image
      either phase image image_long is = record {
        same_length = image_long ∙ sym long;
        recovers = elim (recovered_in_phase slots old (target kind slots changes old) phase image is) [
          | inl to_old ↦ inl (to_old ∙ settled_empty slots old long empty)
          | inr to_new ↦ inr (to_new ∙ settled_empty slots (target kind slots changes old) target_long target_empty)
        ];
      }

      old_table : HasTable slots old old
      old_table = record { header = refl; table = λ i below. refl }

      -- while the journal is written
      pub journaling : (image : List ℕ) → SameAt (OutsideJournal kind slots changes) old image
          → RecoversToEither slots old (target kind slots changes old) image
      journaling image same =
          either Journaling image (same.same_length ∙ long) (
            HasTable-beside old old image same old_table,
            clear_flag image (same.same 4096 (journal_spared 4096 (omega arith))
                ∙ empty 4096 (omega arith) (omega (arith, marks_end slots, shadow_end slots))),
          )

      pub journaled : (image : List ℕ) → SameAt (OutsideJournal kind slots changes) old image
          → AreJournaled slots changes changes.count image → HasVersionMark kind slots 1 image → Stands old image
      journaled image same entries version = record {
        long = same.same_length ∙ long;
        table = HasTable-beside old old image same old_table;
        journal = record {
          entries = entries;
          others = λ i below none.
              let here = areas slots i below in
              same.same (mark_at i) (
                λ k few.
                    let there = areas slots (changes.slot k) (valid.below k few) in
                    record {
                      mark = elim (cases_lt (changes.slot k) i) [
                        | inl before ↦ inr (omega arith)
                        | inr behind ↦ inl (let differ : changes.slot k ≡ i → ⊥ = none k few in omega arith)
                      ];
                      shadow = inl (omega (arith, here.mark_end, there.shadow_is));
                    },
                inl (omega (arith, below)),
              )
              ∙ empty (mark_at i) (omega arith) (omega (arith, here.mark_end, shadow_end slots));
          version =
              version_marked kind slots image
              (λ unwritten.
              same.same (mark_at slots) (
                λ k few. record {
                  mark = inr (omega (arith, valid.below k few));
                  shadow = inl
                      (omega (arith, (areas slots (changes.slot k) (valid.below k few)).shadow_is, marks_end slots));
                },
                unwritten,
              )
              ∙ empty (mark_at slots) (omega arith) (omega (arith, marks_end slots, shadow_end slots)))
              version;
        };
        beside = λ place low high outside. same.same place outside ∙ empty place (omega arith) high;
      }

      -- while the flag is set
      pub flagging : (before image : List ℕ) → Stands old before → SameAt (IsApart 4096 1) before image
          → RecoversToEither slots old (target kind slots changes old) image
      flagging before image stands same =
          let here = Stands-flag old before image same stands in
          either Flagging image here.long (
            here.table,
            redo old image long here.journal (ap (headed kind) here.table.header ∙ sym (target_header old long))
                (λ i below none. here.table.table i below ∙ sym (target_other old long i below none)),
          )

      pub flagged : (before image : List ℕ) (flag : ℕ) (to : List ℕ) → image ≡ overwrite before 4096 (flag ∷ [])
          → Stands to before → Stands to image × (slice_index image 4096 ≡ flag)
      flagged before image flag to is stands =
          let within : 4096 + 1 ≤ length before =
          omega (arith, stands.long, table_end slots, marks_end slots, shadow_end slots) in
          let same = SameAt-outside (IsApart 4096 1) 4096 1 before (overwrite before 4096 (flag ∷ []))
          (λ place apart. apart) (SameOutside-overwrite before 4096 (flag ∷ []) within) in (
            subst (Stands to) (sym is) (Stands-flag to before (overwrite before 4096 (flag ∷ [])) same stands),
            ap (λ (l : List ℕ). slice_index l 4096) is ∙ slice_index-overwrite before 4096 flag within,
          )

      -- while header and table are written: byte and slots may be torn, and the journal leads to the new ones
      pub redoing : (before image : List ℕ) → Stands old before → slice_index before 4096 ≡ 1
          → SameAt (OutsideTarget kind slots changes) before image
          → RecoversToEither slots old (target kind slots changes old) image
      redoing before image stands one same =
          let header = headed-same kind (OutsideTarget kind slots changes) before image
          (λ place low apart. (below_table place (omega (arith, marks_end slots, shadow_end slots)), apart)) same in
          either Redoing image (same.same_length ∙ stands.long) (
            redo old image long (HasJournal-same (OutsideTarget kind slots changes) before image
                (λ place low high. between place (omega arith) high) same stands.journal)
                (header ∙ ap (headed kind) stands.table.header ∙ sym (target_header old long))
                (λ i below none.
                let here = areas slots i below in
                bytes_at-same (OutsideTarget kind slots changes) (table_at slots i) 4096 before image
                (λ place from to. (
                  λ k low. table_apart slots i (changes.slot k) below (valid.below k low) (none k low) place from to,
                  inr (omega (arith, version_few kind, here.table_is, shadow_end slots, marks_end slots)),
                ))
                same
                ∙ stands.table.table i below ∙ sym (target_other old long i below none)),
            set_flag image
                (same.same 4096 (between 4096 (omega arith) (omega (arith, marks_end slots, shadow_end slots))) ∙ one),
          )

      pub redone : (before image : List ℕ) → Stands old before → image ≡ target kind slots changes before
          → Stands (target kind slots changes old) image
      redone before image stands is =
          let same = target_outside before stands.long in
          subst (Stands (target kind slots changes old)) (sym is) (record {
            long = same.same_length ∙ stands.long;
            table = HasTable-target old before long stands.long stands.table;
            journal = HasJournal-same (OutsideTarget kind slots changes) before (target kind slots changes before)
                (λ place low high. between place (omega arith) high) same stands.journal;
            beside = λ place low high outside. same.same place (between place (omega arith) high)
                ∙ stands.beside place low high outside;
          })

      -- while the flag is cleared
      pub clearing : (before image : List ℕ) → Stands (target kind slots changes old) before
          → SameAt (IsApart 4096 1) before image → RecoversToEither slots old (target kind slots changes old) image
      clearing before image stands same =
          let here = Stands-flag (target kind slots changes old) before image same stands in
          let header = target_header old long in
          either Clearing image here.long (
            here.table,
            redo old image long here.journal (ap (headed kind) (here.table.header ∙ header)
                ∙ headed-headed kind (take 4096 old) ∙ sym header) (λ i below none. here.table.table i below),
          )

      -- while the journal is erased
      pub erasing : (before image : List ℕ) → Stands (target kind slots changes old) before
          → slice_index before 4096 ≡ 0 → SameAt (OutsideJournal kind slots changes) before image
          → RecoversToEither slots old (target kind slots changes old) image
      erasing before image stands zero_flag same =
          either Erasing image (same.same_length ∙ stands.long) (
            HasTable-beside (target kind slots changes old) before image same stands.table,
            clear_flag image (same.same 4096 (journal_spared 4096 (omega arith)) ∙ zero_flag),
          )

      -- a place in the journal of one of the first n changed slots, or outside all of them
      find_place : (n place : ℕ)
          → ((k : ℕ) × (k < n) × ((place ≡ mark_at (changes.slot k))
          ⊎ ((shadow_at slots (changes.slot k) ≤ place) × (place < shadow_at slots (changes.slot k) + 4096))))
          ⊎ ((k : ℕ) → k < n → OutsideEntry slots (changes.slot k) place)
      find_place zero place = inr (λ k none. absurd (omega arith))
      find_place (suc n) place = elim (find_place n place) [
        | inl found ↦ inl (found.0, omega (arith, found.1), found.2)
        | inr outside ↦
            let mark = mark_at (changes.slot n) in
            let shadow = shadow_at slots (changes.slot n) in
            let more : OutsideEntry slots (changes.slot n) place → (k : ℕ) → k < suc n
            → OutsideEntry slots (changes.slot k) place = λ here k low. elim (cases_lt k n) [
              | inl before ↦ outside k before
              | inr last ↦ let same : n ≡ k = omega arith
                  in subst (λ (j : ℕ). OutsideEntry slots (changes.slot j) place) same here
            ] in
            elim (cases_eq place mark) [
              | inl is ↦ inl (n, omega arith, inl is)
              | inr differs ↦
                  let apart : IsApart mark 1 place =
                  elim (cases_lt place mark) [ inl low ↦ inl low | inr high ↦ inr (omega arith) ] in
                  elim (cases_lt place shadow) [
                    | inl low ↦ inr (more (record { mark = apart; shadow = inl low }))
                    | inr high ↦ elim (cases_lt place (shadow + 4096)) [
                      | inl within ↦ inl (n, omega arith, inr (high, within))
                      | inr behind ↦ inr (more (record { mark = apart; shadow = inr behind }))
                    ]
                  ]
            ]
      ]

      byte_of : (image : List ℕ) (at n place : ℕ) → at ≤ place → place < at + n → bytes_at image at n ≡ zeros n
          → slice_index image place ≡ 0
      byte_of image at n place low high is =
          let few : place - at < n = omega arith in
          let there : place ≡ at + (place - at) = omega arith in
          ap (slice_index image) there ∙ sym (get_or-drop at image (place - at) 0)
          ∙ sym (get_or-take n (drop at image) (place - at) 0 few)
          ∙ ap (λ (l : List ℕ). slice_index l (place - at)) is ∙ get_or-replicate n (place - at) 0 0 few

      -- when the journal is erased the disk reads the image that the commit leads to
      pub erased : (before image : List ℕ) → Stands (target kind slots changes old) before → slice_index before 4096 ≡ 0
          → SameAt (OutsideJournal kind slots changes) before image
          → AreErased slots changes changes.count image → HasVersionMark kind slots 0 image
          → image ≡ target kind slots changes old
      erased before image stands zero_flag same entries version =
          let image_long = same.same_length ∙ stands.long in
          let image_empty : HasEmptyJournal slots image = λ place low high. elim (find_place changes.count place) [
            | inl found ↦
                let entry = entries found.0 found.1 in
                elim found.2 [
                  | inl is ↦ ap (slice_index image) is ∙ entry.mark_is
                  | inr within ↦ byte_of image (shadow_at slots (changes.slot found.0)) 4096 place
                      within.0 within.1 entry.shadow_is
                ]
            | inr outside ↦ elim (version_erased kind slots image place version) [
              | inl apart ↦
                  same.same place (outside, apart)
                  ∙ elim (cases_eq place 4096) [
                    | inl flag ↦ ap (slice_index before) flag ∙ zero_flag
                    | inr differs ↦ stands.beside place (omega arith) high (outside, apart)
                  ]
              | inr erased_byte ↦ erased_byte
            ]
          ] in
          same_settled slots (target kind slots changes old) image target_long image_long target_empty image_empty
          (HasTable-beside (target kind slots changes old) before image same stands.table)
