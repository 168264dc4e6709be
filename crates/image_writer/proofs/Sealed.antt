-- The phases in which placed pages become an image.
use Rattle.std.proofs.Common.{◌≡◌, ℕ, zero, suc, ◌+◌, ◌-◌, ◌/◌, ◌<◌, ◌≤◌, List, [], ◌∷◌, length, map, Bool, true}
use Rattle.std.proofs.Common.{Some, is_none, slice_get, slice_index, Result, Ok, Err, OnOk, IsErr, sym, ap}
use Rattle.std.proofs.Common.{◌∙◌, inl, inr, arith}
use Rattle.std.proofs.lemmas.Bool.{cases_eq, cases_lt, false≢true}
use Rattle.std.proofs.lemmas.Option.{same_Some, slice_get_within}
use Rattle.std.proofs.lemmas.List.{length-map}
use Rattle.store_base.specs.declared.fault.DiskFault.{DiskFault}
use Rattle.store_model.specs.Parameters.{Parameters, IsParameters, image_len, table_at}
use Rattle.store_model.specs.Draws.{draw_of, IsLawful}
use Rattle.store_model.specs.Pages.{Page}
use Rattle.store_model.specs.Placement.{Table, HoldsPage}
use Rattle.disk_model.specs.DiskState.{DiskState, IsObservable, IsDurable, IsSound}
use Rattle.disk_model.specs.DiskCalls.{LeavesOnly, SameOutside, IsSync, overwrite, raised}
use Rattle.disk_model.proofs.Crashes.{LeavesOnly-trans, LeavesOnly-weaken}
use Rattle.disk_model.proofs.Images.{slice_index-overwrite}
use Rattle.gate_journal.specs.Places.{IsApart, SameAt, Keeps, Reaches, Made}
use Rattle.gate_journal.proofs.Areas.{areas, table_end, shadow_end, marks_end, table_blocks, image_blocks}
use Rattle.gate_journal.proofs.Places.{Keeps-trans, Keeps-weaken, Keeps-durable, bytes_at-same}
use Rattle.gate_journal.proofs.Reading.{zero_kept}
use Rattle.gate_journal.proofs.Calls.{Made-as, Made-then, Makes-sync}
use Rattle.gate_journal.proofs.Stages.{on_ok_map}
use Rattle.gate_journal.proofs.Formatting.{no_image}
use Rattle.rising_pages.specs.FreePlaces.{AreFree}
use Rattle.image_writer.specs.Filling.{OutsideFree, AreFilled, OutsideJournal, IsJournalZero, HasHeaderRest, free_count}
use Rattle.image_writer.specs.Placing.{placed, HasPages, FirstByte, HavePlaced}
use Rattle.image_writer.specs.Sealing.{image_of, OutsideRest, HasRest, IsOrNone, Becomes}
use Rattle.image_writer.proofs.Fills.{Made-both}
use Rattle.image_writer.proofs.PlacedPages.{length-placed, used_placed}
use Rattle.image_writer.proofs.WholeImages.{image_is, slots_are, free_and_used}

-- ---- all but the pages and the first byte

module _ (p : Parameters) (free : List Bool) (long : length free ≡ p.slots) (old a b c : DiskState)
    (sound_a : IsSound a) (sound_b : IsSound b)
    (filled : Reaches {T = Unit {0}} {E = DiskFault} (OutsideFree p.slots free) (AreFilled p.slots free p.slots) old a
    (Ok tt))
    (zeroed : Reaches {T = Unit {0}} {E = DiskFault} (OutsideJournal p.slots) (IsJournalZero p.slots) a b (Ok tt)) where
  keeps_filled : Keeps (OutsideRest p.slots free) old a
  keeps_filled = Keeps-weaken (OutsideFree p.slots free) (OutsideRest p.slots free) old a (λ place o. o.beside_free)
      filled.keeps

  pub keeps_zeroed : Keeps (OutsideRest p.slots free) old b
  keeps_zeroed = Keeps-trans (OutsideRest p.slots free) old a b sound_a keeps_filled
      (Keeps-weaken (OutsideJournal p.slots) (OutsideRest p.slots free) a b (λ place o. o.beside_journal) zeroed.keeps)

  pub keeps_header : Keeps (IsApart 1 4095) b c → Keeps (OutsideRest p.slots free) old c
  keeps_header header = Keeps-trans (OutsideRest p.slots free) old b c sound_b keeps_zeroed
      (Keeps-weaken (IsApart 1 4095) (OutsideRest p.slots free) b c (λ place o. o.beside_header) header)

  pub rest_is : Keeps (IsApart 1 4095) b c → HasHeaderRest p c.bytes → HasRest p free c.bytes
  rest_is keeps header = record {
    filled = λ i low there.
        let at = areas p.slots i low in
        zero_kept (IsApart 1 4095) (table_at p.slots i) 4096 b.bytes c.bytes
        (λ place from to. inr (omega (arith, at.table_is, shadow_end p.slots, marks_end p.slots))) keeps.reads
        (zero_kept (OutsideJournal p.slots) (table_at p.slots i) 4096 a.bytes b.bytes
        (λ place from to. inr (omega (arith, at.table_is, shadow_end p.slots, marks_end p.slots))) zeroed.keeps.reads
        (filled.done i low there));
    journal = zero_kept (IsApart 1 4095) 4096 (table_at p.slots 0 - 4096) b.bytes c.bytes
        (λ place from to. inr (omega (arith, from))) keeps.reads zeroed.done;
    header = header;
  }

pub keeps_free : (slots : ℕ) (free : List Bool) (old a : DiskState) → Keeps (OutsideFree slots free) old a
    → Keeps (OutsideRest slots free) old a
keeps_free slots free old a keeps =
    Keeps-weaken (OutsideFree slots free) (OutsideRest slots free) old a (λ place o. o.beside_free) keeps

-- the writes and the sync
pub made_rest : {T E : Type 0} (slots free_slots : ℕ) (old a b c new : DiskState) (result : Result T E) → IsObservable c
    → IsSync c new result → Made free_slots 0 old a → Made (table_at slots 0 / 4096 - 1) 0 a b → Made 1 0 b c
    → OnOk result (Made (free_slots + table_at slots 0 / 4096) 1 old new)
made_rest slots free_slots old a b c new (Ok value) observable sync filled zeroed header =
    let blocks = table_at slots 0 / 4096 in
    let all : free_slots + (blocks - 1) + 1 + 0 ≡ free_slots + blocks =
    omega (arith, table_blocks slots, shadow_end slots, marks_end slots) in
    Made-as old new (free_slots + (blocks - 1) + 1 + 0) (0 + 0 + 0 + 1) (free_slots + blocks) 1 all (omega arith)
    (Made-then old c new value (free_slots + (blocks - 1) + 1) (0 + 0 + 0) 0 1
    (Made-both old b c (free_slots + (blocks - 1)) (0 + 0) 1 0
    (Made-both old a b free_slots 0 (blocks - 1) 0 filled zeroed) header)
    (Makes-sync c new (Ok value) observable sync))
made_rest slots free_slots old a b c new (Err error) observable sync filled zeroed header = tt

-- ---- the first byte stays until all the rest stands

-- the first byte is outside the rest
first_outside : (slots : ℕ) (free : List Bool) → length free ≡ slots → (place : ℕ) → FirstByte slots place
    → OutsideRest slots free place
first_outside slots free long place (inl low) = record {
  beside_free = λ i is.
      let at = areas slots i (omega (arith, slice_get_within free i true is, long)) in
      inl (omega (arith, at.table_is, shadow_end slots, marks_end slots));
  beside_journal = inl (omega arith);
  beside_header = inl low;
}
first_outside slots free long place (inr high) = record {
  beside_free = λ i is.
      let at = areas slots i (omega (arith, slice_get_within free i true is, long)) in
      inr (omega (arith, at.table_end, marks_end slots));
  beside_journal = inr (omega (arith, table_end slots, shadow_end slots, marks_end slots));
  beside_header = inr (omega (arith, table_end slots, shadow_end slots, marks_end slots));
}

first_place : (slots : ℕ) → FirstByte slots 0
first_place slots = let low : 0 < 1 = omega arith in inl low

pub keeps_first : (p : Parameters) (pages : List Page) (free : List Bool) (start old new : DiskState)
    → length free ≡ p.slots → IsSound old → HavePlaced (draw_of p) pages start old
    → Keeps (OutsideRest p.slots free) old new → Keeps (FirstByte p.slots) start new
unfolding draw_of
keeps_first p pages free start old new long sound before keeps =
    Keeps-trans (FirstByte p.slots) start old new sound before.keeps
    (Keeps-weaken (OutsideRest p.slots free) (FirstByte p.slots) old new (first_outside p.slots free long) keeps)

module _ (p : Parameters) (whole : List ℕ) (start now : DiskState) (differs : slice_index start.bytes 0 ≡ 72 → ⊥)
    (keeps : Keeps (FirstByte p.slots) start now) where
  pub reads_none : IsOrNone whole now.bytes
  reads_none = inl (no_image now.bytes (λ first. differs (sym (keeps.reads.same 0 (first_place p.slots)) ∙ first)))

  pub leaves_none : IsDurable start → LeavesOnly start now (IsOrNone whole)
  leaves_none durable =
      LeavesOnly-weaken start now (SameAt (FirstByte p.slots) start.bytes) (IsOrNone whole)
      (λ image same. inl (no_image image (λ first. differs (sym (same.same 0 (first_place p.slots)) ∙ first))))
      (Keeps-durable (FirstByte p.slots) start now durable keeps)

  -- a fault before the first byte is written
  pub becomes_none : {T E : Type 0} (result : Result T E) → IsErr result → Becomes p whole start now result
  becomes_none (Ok value) fails = absurd (false≢true fails)
  becomes_none (Err error) fails = record {
    done = tt;
    durable = tt;
    made = tt;
    reads = reads_none;
    crash =
        leaves_none;
  }

-- a slot that holds a page is not free
by_slots : (t : Table) (k : ℕ) (page : Page) → HoldsPage t k page → slice_get (map is_none t) k ≡ Some true → ⊥
by_slots [] k page held free = cc
by_slots (slot ∷ t) zero page held free =
    let is : slot ≡ Some page = same_Some slot (Some page) held in
    let none : is_none slot ≡ true = same_Some (is_none slot) true free in
    false≢true (sym (ap is_none is) ∙ none)
by_slots (slot ∷ t) (suc k) page held free = by_slots t k page held free

-- ---- the first byte

module _ (p : Parameters) (valid : IsParameters p) (law : IsLawful (draw_of p)) (pages : List Page) (free : List Bool)
    (start old mid : DiskState) (long : length mid.bytes ≡ image_len p.slots) (sound_old : IsSound old)
    (fits : length pages ≤ p.slots) (are : AreFree (placed (draw_of p) pages) free)
    (before : HavePlaced (draw_of p) pages start old)
    (rest : Reaches {T = Unit {0}} {E = DiskFault} (OutsideRest p.slots free) (HasRest p free) old mid (Ok tt)) where
  abbrev pub table : Table
  table = placed (draw_of p) pages

  pub slots : length table ≡ p.slots
  unfolding draw_of
  slots = length-placed (draw_of p) pages

  free_long : length free ≡ p.slots
  free_long = ap length are ∙ length-map table is_none ∙ slots

  pub keeps_all : Keeps (FirstByte p.slots) start mid
  keeps_all = keeps_first p pages free start old mid free_long sound_old before rest.keeps

  -- the pages stand in their slots
  pages_stay : HasPages p.slots table mid.bytes
  unfolding draw_of
  pages_stay i page held =
      let below : i < p.slots = omega (arith, slice_get_within table i (Some page) held, slots) in
      let here = areas p.slots i below in
      bytes_at-same (OutsideRest p.slots free) (table_at p.slots i) 4096 old.bytes mid.bytes
      (λ place from to. record {
        beside_free = λ j is.
            let there = areas p.slots j (omega (arith, slice_get_within free j true is, free_long)) in
            let apart : j ≡ i → ⊥ = λ same. by_slots table i page held
            (ap (slice_get (map is_none table)) (sym same) ∙ sym (ap (λ l. slice_get l j) are) ∙ is) in
            elim (cases_lt i j) [
              | inl lower ↦ inl (omega (arith, here.table_is, there.table_is))
              | inr higher ↦ inr (omega (arith, here.table_is, there.table_is, apart))
            ];
        beside_journal = inr (omega (arith, here.table_is, shadow_end p.slots, marks_end p.slots));
        beside_header = inr (omega (arith, here.table_is, shadow_end p.slots, marks_end p.slots));
      })
      rest.keeps.reads ∙ before.holds i page held

  -- an image that is the same but for the first byte
  pub whole_if_first : (image : List ℕ) → SameOutside 0 1 mid.bytes image → slice_index image 0 ≡ 72
      → image ≡ image_of p table
  whole_if_first image same first =
      let image_long : length image ≡ image_len p.slots = same.same_length ∙ long in
      let stays : SameAt (λ place. 1 ≤ place) mid.bytes image = record {
        same_length = same.same_length;
        same = λ place high. same.above place high;
      } in
      image_is p valid table slots image image_long first
      (λ place low high. same.above place low ∙ rest.done.header place low high)
      (zero_kept (λ place. 1 ≤ place) 4096 (table_at p.slots 0 - 4096) mid.bytes image
      (λ place from to. omega (arith, from)) stays rest.done.journal)
      (slots_are p valid table slots image image_long free are
      (λ i page held.
      let below : i < p.slots = omega (arith, slice_get_within table i (Some page) held, slots) in
      bytes_at-same (λ place. 1 ≤ place) (table_at p.slots i) 4096 mid.bytes image
      (λ place from to. omega (arith, from, (areas p.slots i below).table_is, shadow_end p.slots, marks_end p.slots))
      stays ∙ pages_stay i page held)
      (λ i low there.
      zero_kept (λ place. 1 ≤ place) (table_at p.slots i) 4096 mid.bytes image
      (λ place from to. omega (arith, from, (areas p.slots i low).table_is, shadow_end p.slots, marks_end p.slots))
      stays (rest.done.filled i low there)))

  pub whole_or_none : (image : List ℕ) → SameOutside 0 1 mid.bytes image → IsOrNone (image_of p table) image
  whole_or_none image same = elim (cases_eq (slice_index image 0) 72) [
    | inl first ↦ inr (whole_if_first image same first)
    | inr differs ↦ inl (no_image image differs)
  ]

  -- how many writes there were
  pub writes_are : length pages + (free_count free + table_at p.slots 0 / 4096) + 1 ≡ image_len p.slots / 4096 + 1
  unfolding draw_of
  writes_are = omega (
    arith,
    free_and_used table free are,
    used_placed (draw_of p) pages law fits,
    slots,
    table_end p.slots,
    table_blocks p.slots,
    image_blocks p.slots,
  )

  module _ {T E : Type 0} (new : DiskState) (result : Result T E) (differs : slice_index start.bytes 0 ≡ 72 → ⊥)
      (made_mid : Made (free_count free + table_at p.slots 0 / 4096) 1 old mid)
      (outside : SameOutside 0 1 mid.bytes new.bytes)
      (written : OnOk result (new.bytes ≡ overwrite mid.bytes 0 (72 ∷ [])))
      (crash : LeavesOnly mid new (SameOutside 0 1 mid.bytes)) (durable : OnOk result (IsDurable new))
      (write_count : new.writes ≡ raised mid.writes) (sync_count : OnOk result (new.syncs ≡ raised mid.syncs)) where
    pub becomes_whole : Becomes p (image_of p table) start new result
    becomes_whole = record {
      done = on_ok_map result (new.bytes ≡ overwrite mid.bytes 0 (72 ∷ [])) (new.bytes ≡ image_of p table)
          (λ is.
          let within : 0 + 1 ≤ length mid.bytes =
          omega (arith, long, table_end p.slots, shadow_end p.slots, marks_end p.slots) in
          whole_if_first new.bytes outside
          (ap (λ (l : List ℕ). slice_index l 0) is
          ∙ slice_index-overwrite mid.bytes 0 (72 ∷ []) 0 within (omega arith) (omega arith)))
          written;
      durable = durable;
      made = on_ok_map result (new.syncs ≡ raised mid.syncs) (Made (image_len p.slots / 4096 + 1) 2 start new)
          (λ syncs.
          let last : Made 1 1 mid new = record {
            write_count = omega (arith, write_count);
            sync_count = omega (arith, syncs);
          } in
          Made-as start new (length pages + (free_count free + table_at p.slots 0 / 4096) + 1) (0 + 1 + 1)
          (image_len p.slots / 4096 + 1) 2 writes_are (omega arith)
          (Made-both start mid new (length pages + (free_count free + table_at p.slots 0 / 4096)) (0 + 1) 1 1
          (Made-both start old mid (length pages) 0 (free_count free + table_at p.slots 0 / 4096) 1 before.made
          made_mid)
          last))
          sync_count;
      reads = whole_or_none new.bytes outside;
      crash = λ start_durable.
          LeavesOnly-trans start mid new (IsOrNone (image_of p table))
          (leaves_none p (image_of p table) start mid differs keeps_all start_durable)
          (LeavesOnly-weaken mid new (SameOutside 0 1 mid.bytes) (IsOrNone (image_of p table))
          (λ image same. whole_or_none image same) crash);
    }
