-- The images on the way of a format.
use Rattle.std.proofs.Common.{◌≡◌, ℕ, zero, suc, ◌+◌, ◌-◌, ◌*◌, ◌<◌, ◌≤◌, List, [], ◌∷◌, ◌++◌, length, take, drop}
use Rattle.std.proofs.Common.{replicate, slice_index, slice_set, if◌then◌else◌, ◌&&◌, Option, None, refl, sym, ap, ◌∙◌}
use Rattle.std.proofs.Common.{inl, inr, arith, length-append, length-take, length-drop, append_assoc, get_or-take}
use Rattle.std.proofs.Common.{get_or-drop, Bool, true, false, nat_eq, Result, Ok, Err, OnOk, IsErr}
use Rattle.std.specs.List.{flat_map}
use Rattle.std.specs.Result.{IsErrAnd}
use Rattle.std.proofs.lemmas.Bool.{cases_eq, cases_lt}
use Rattle.std.proofs.lemmas.Result.{err_from_is_err_and}
use Rattle.std.proofs.lemmas.List.{ext_get_or, get_or-set_other, get_or_append_left, get_or-append_right}
use Rattle.std.proofs.lemmas.List.{get_or-replicate, length-replicate, replicate-append-replicate}
use Rattle.store_model.specs.Lists.{zeros, zero_filled, numbers_from, cut_before, in_order}
use Rattle.store_model.specs.Parameters.{Parameters, IsParameters, image_len}
use Rattle.store_model.specs.Trees.{empty_tree}
use Rattle.store_model.specs.Pairs.{pairs}
use Rattle.store_model.specs.Draws.{Draw, draw_of}
use Rattle.store_model.specs.Pages.{Page, level_list, groups, level_pages, pages_of_pairs, pages}
use Rattle.store_model.specs.Placement.{place, put_all}
use Rattle.store_model.specs.Images.{header, slot_bytes, table_bytes, layout, journal_len, is_flag_set, is_marked}
use Rattle.store_model.specs.Images.{viewed_header}
use Rattle.disk_model.specs.DiskState.{DiskState, IsDurable}
use Rattle.disk_model.specs.DiskCalls.{LeavesOnly, Rose, raised, overwrite}
use Rattle.disk_model.proofs.Crashes.{LeavesOnly-trans, LeavesOnly-weaken}
use Rattle.disk_model.proofs.Faults.{Rose-fault}
use Rattle.disk_model.proofs.Images.{slice_index-overwrite}
use Rattle.store_model.proofs.ImagesLemmas.{length-header}
use Rattle.gate_journal.specs.declared.fault.JournalFault.{JournalFault}
use Rattle.gate_journal.specs.declared.fault.JournalFault.TheVariants.{Disk, AlreadyImage, WrongLength}
use Rattle.gate_journal.specs.Places.{IsApart, SameAt, Keeps, Reaches, ReadsOnly}
use Rattle.gate_journal.specs.Formats.{NamesNoParameters, IsEmptyOrNone, HasEmptyRest, Formats, faults_after_format}
use Rattle.gate_journal.proofs.Areas.{journal_end, marks_end, shadow_end, table_end}
use Rattle.gate_journal.proofs.Places.{Keeps-durable}
use Rattle.gate_journal.proofs.Reading.{IsDurable-reads}
use Rattle.gate_journal.proofs.Stages.{no_claim, on_ok_map, phase_leaves}

-- The image of the empty tree: its table is empty.
no_level : (d : Draw) (level : ℕ) → level_pages d [] level ≡ []
unfolding level_pages groups level_list cut_before
no_level d level = refl

no_levels : (d : Draw) (first count : ℕ) → flat_map (level_pages d []) (numbers_from first count) ≡ []
unfolding numbers_from
no_levels d first zero = refl
no_levels d first (suc count) =
    ap (λ (l : List Page). l ++ flat_map (level_pages d []) (numbers_from (suc first) count)) (no_level d first)
    ∙ no_levels d (suc first) count

no_pages : (p : Parameters) → pages empty_tree p ≡ []
unfolding pages pairs pages_of_pairs
no_pages p = no_levels (draw_of p) 0 (draw_of p).height

empty_slots : (n : ℕ) → table_bytes (replicate n None) ≡ zeros (4096 * n)
unfolding table_bytes slot_bytes
empty_slots zero = let none : 0 ≡ 4096 * 0 = omega arith in ap zeros none
empty_slots (suc n) =
    let more : 4096 + 4096 * n ≡ 4096 * suc n = omega arith in
    ap (λ (l : List ℕ). zeros 4096 ++ l) (empty_slots n) ∙ replicate-append-replicate 4096 (4096 * n) 0 ∙ ap zeros more

draw_slots : (p : Parameters) → (draw_of p).slots ≡ p.slots
unfolding draw_of
draw_slots p = refl

empty_place : (p : Parameters) → place (draw_of p) [] ≡ replicate (draw_of p).slots None
unfolding place put_all in_order
empty_place p = refl

pub layout_empty : (p : Parameters) → layout empty_tree p ≡ header p ++ zeros (image_len p.slots - 4096)
unfolding layout
layout_empty p =
    let n = journal_len p.slots in
    let rest : n + 4096 * p.slots ≡ image_len p.slots - 4096 = omega (arith, journal_end p.slots, table_end p.slots) in
    ap (λ (l : List Page). header p ++ zeros n ++ table_bytes (place (draw_of p) l)) (no_pages p)
    ∙ ap (λ (t : List (Option Page)). header p ++ zeros n ++ table_bytes t) (empty_place p)
    ∙ ap (λ (m : ℕ). header p ++ zeros n ++ table_bytes (replicate m None)) (draw_slots p)
    ∙ ap (λ (l : List ℕ). header p ++ zeros n ++ l) (empty_slots p.slots)
    ∙ append_assoc (header p) (zeros n) (zeros (4096 * p.slots))
    ∙ ap (λ (l : List ℕ). header p ++ l) (replicate-append-replicate n (4096 * p.slots) 0)
    ∙ ap (λ (m : ℕ). header p ++ zeros m) rest

pub first_of_header : (p : Parameters) → slice_index (header p) 0 ≡ 72
unfolding header zero_filled
first_of_header p = refl

-- the first byte of a header, however it is read
first_of_viewed : (slots : ℕ) (image : List ℕ) → slice_index (viewed_header slots image) 0 ≡ slice_index image 0
unfolding viewed_header
first_of_viewed slots image =
    let low : 0 < 4096 = omega arith in
    elim (is_flag_set image && is_marked image slots) as
    (λ (b : Bool). slice_index (if b then slice_set (take 4096 image) 14 2 else take 4096 image) 0
    ≡ slice_index image 0) [
      | true ↦ get_or-set_other (take 4096 image) 14 0 2 0 (λ (same : 0 ≡ 14). omega (arith, same))
          ∙ get_or-take 4096 image 0 0 low
      | false ↦ get_or-take 4096 image 0 0 low
    ]

pub no_image : (image : List ℕ) → (slice_index image 0 ≡ 72 → ⊥) → NamesNoParameters image
no_image image differs p valid is =
    differs (sym (first_of_viewed p.slots image) ∙ ap (λ (l : List ℕ). slice_index l 0) is ∙ first_of_header p)

pub header_written : (block old : List ℕ) → length block ≡ 4096 → 4096 ≤ length old → (place : ℕ) → 1 ≤ place
    → place < 4096 → slice_index (overwrite old 1 (take 4095 (drop 1 block))) place ≡ slice_index block place
header_written block old long within place low high =
    let part = take 4095 (drop 1 block) in
    let part_long : length part ≡ 4095 = omega (arith, length-take 4095 (drop 1 block), length-drop 1 block, long) in
    let few : place - 1 < 4095 = omega arith in
    let there : 1 + (place - 1) ≡ place = omega arith in
    slice_index-overwrite old 1 part place (omega (arith, part_long)) low (omega (arith, part_long))
    ∙ get_or-take 4095 (drop 1 block) (place - 1) 0 few ∙ get_or-drop 1 block (place - 1) 0
    ∙ ap (slice_index block) there

module _ (p : Parameters) (valid : IsParameters p) where
  -- every byte is that of the image of the empty tree
  pub whole_empty : (image : List ℕ) → length image ≡ image_len p.slots → slice_index image 0 ≡ 72
      → HasEmptyRest p image → image ≡ layout empty_tree p
  whole_empty image long first rest =
      let n = image_len p.slots - 4096 in
      let head = length-header p valid in
      let size : 4096 + n ≡ image_len p.slots = omega (arith, table_end p.slots, shadow_end p.slots, marks_end p.slots)
      in
      let lengths : length image ≡ length (header p ++ zeros n) =
      omega (arith, length-append (header p) (zeros n), head, length-replicate {A = ℕ} n 0, size, long) in
      ext_get_or 0 image (header p ++ zeros n) lengths (λ i low. elim (cases_lt i 4096) [
        | inl in_header ↦
            (elim (cases_eq i 0) [
              | inl start ↦ ap (slice_index image) start ∙ first ∙ sym (first_of_header p)
                  ∙ ap (slice_index (header p)) (sym start)
              | inr later ↦ rest.header_is i (omega arith) in_header
            ])
            ∙ sym (get_or_append_left (header p) (zeros n) 0 i (omega (arith, head)))
        | inr behind ↦
            rest.rest_is i behind (omega (arith, size, long))
            ∙ sym (get_or-replicate n (i - 4096) 0 0 (omega (arith, size, long)))
            ∙ sym (get_or-append_right (header p) (zeros n) 4096 i 0 head behind)
      ])
      ∙ sym (layout_empty p)

  -- while the first byte is written
  pub while_first : (before image : List ℕ) → length before ≡ image_len p.slots → HasEmptyRest p before
      → SameAt (IsApart 0 1) before image → IsEmptyOrNone p image
  while_first before image long rest same = elim (cases_eq (slice_index image 0) 72) [
    | inl first ↦
        inr
        (whole_empty image (same.same_length ∙ long) first (record {
          header_is = λ place low high. same.same place (inr (omega arith)) ∙ rest.header_is place low high;
          rest_is = λ place low high. same.same place (inr (omega arith)) ∙ rest.rest_is place low high;
        }))
    | inr differs ↦ inl (no_image image differs)
  ]

-- while all the rest is written
pub while_rest : (p : Parameters) (before image : List ℕ) (n : ℕ) → (slice_index before 0 ≡ 72 → ⊥)
    → SameAt (IsApart 1 n) before image → IsEmptyOrNone p image
while_rest p before image n differs same =
    inl (no_image image (λ first. differs (sym (same.same 0 (inl (let low : 0 < 1 = omega arith in low))) ∙ first)))

-- a format that failed claims nothing of Ok
pub formats_failed : {T E : Type 0} (p : Parameters) (new : DiskState) (result : Result T E)
    → IsErr result → Formats p new result
formats_failed p new result fails = record {
  durable = no_claim result (IsDurable new) fails;
  done = no_claim result (new.bytes ≡ layout empty_tree p) fails;
}

-- another value in the place of an Ok
pub formats_answered : {T E U F : Type 0} (p : Parameters) (new : DiskState) (value : U) (answer : T)
    → Formats {E = F} p new (Ok value) → Formats {E = E} p new (Ok answer)
formats_answered p new value answer formats = record { durable = formats.durable; done = formats.done }

-- The states of the disk behind the two phases: after the rest was written, and after the first byte.
module _ (p : Parameters) (valid : IsParameters p) (old : DiskState) (differs : slice_index old.bytes 0 ≡ 72 → ⊥) where
  pub reads_rest : (mid : DiskState) → Keeps (IsApart 1 (image_len p.slots - 1)) old mid → IsEmptyOrNone p mid.bytes
  reads_rest mid keeps = while_rest p old.bytes mid.bytes (image_len p.slots - 1) differs keeps.reads

  pub leaves_rest : (mid : DiskState) → IsDurable old → Keeps (IsApart 1 (image_len p.slots - 1)) old mid
      → LeavesOnly old mid (IsEmptyOrNone p)
  leaves_rest mid durable keeps =
      LeavesOnly-weaken old mid (SameAt (IsApart 1 (image_len p.slots - 1)) old.bytes) (IsEmptyOrNone p)
      (λ image same. while_rest p old.bytes image (image_len p.slots - 1) differs same)
      (Keeps-durable (IsApart 1 (image_len p.slots - 1)) old mid durable keeps)

  module _ {T E : Type 0} (mid new : DiskState) (result : Result T E) (long : length mid.bytes ≡ image_len p.slots)
      (rest : HasEmptyRest p mid.bytes)
      (first : Reaches (IsApart 0 1) (λ image. image ≡ overwrite mid.bytes 0 (72 ∷ [])) mid new result) where
    pub formats : OnOk result (IsDurable new) → Formats p new result
    formats durable = record {
      durable = durable;
      done = on_ok_map result (new.bytes ≡ overwrite mid.bytes 0 (72 ∷ [])) (new.bytes ≡ layout empty_tree p)
          (λ is.
          let within : 0 + 1 ≤ length mid.bytes =
          omega (arith, long, table_end p.slots, shadow_end p.slots, marks_end p.slots) in
          whole_empty p valid new.bytes (first.keeps.reads.same_length ∙ long)
          (ap (λ (l : List ℕ). slice_index l 0) is
          ∙ slice_index-overwrite mid.bytes 0 (72 ∷ []) 0 within (omega arith) (omega arith)) (record {
            header_is = λ place low high. first.keeps.reads.same place (inr (omega arith))
                ∙ rest.header_is place low high;
            rest_is = λ place low high. first.keeps.reads.same place (inr (omega arith)) ∙ rest.rest_is place low high;
          }))
          first.done;
    }

    pub reads_first : IsEmptyOrNone p new.bytes
    reads_first = while_first p valid mid.bytes new.bytes long rest first.keeps.reads

    pub leaves_first : IsDurable old → Keeps (IsApart 1 (image_len p.slots - 1)) old mid → IsDurable mid
        → LeavesOnly old new (IsEmptyOrNone p)
    leaves_first durable keeps mid_durable =
        phase_leaves (IsApart 0 1) (IsEmptyOrNone p) old mid new
        (leaves_rest mid durable keeps) mid_durable
        first.keeps (λ image same. while_first p valid mid.bytes image long rest same)

-- a disk that was only read so far
pub leaves_no_image : (p : Parameters) (old mid : DiskState) → IsDurable old → (slice_index old.bytes 0 ≡ 72 → ⊥)
    → ReadsOnly old mid → LeavesOnly old mid (IsEmptyOrNone p)
leaves_no_image p old mid durable differs reads =
    LeavesOnly-weaken old mid old.crash_images (IsEmptyOrNone p)
    (λ image left.
    inl (no_image image
    (λ first. differs (sym (ap (λ (l : List ℕ). slice_index l 0) (durable image left)) ∙ first)))) reads.leaves

pub reads_no_image : (p : Parameters) (old mid : DiskState) → (slice_index old.bytes 0 ≡ 72 → ⊥) → ReadsOnly old mid
    → IsEmptyOrNone p mid.bytes
reads_no_image p old mid differs reads =
    inl (no_image mid.bytes (λ first. differs (sym (ap (λ (l : List ℕ). slice_index l 0) reads.bytes) ∙ first)))

-- a durable disk that was only read, and then written
pub leaves_written : (p : Parameters) (old mid new : DiskState) → IsDurable old → (slice_index old.bytes 0 ≡ 72 → ⊥)
    → ReadsOnly old mid → (IsDurable mid → LeavesOnly mid new (IsEmptyOrNone p)) → LeavesOnly old new (IsEmptyOrNone p)
leaves_written p old mid new durable differs reads after =
    LeavesOnly-trans old mid new (IsEmptyOrNone p) (leaves_no_image p old mid durable differs reads)
    (after (IsDurable-reads old mid durable reads))

-- what a format answers, told apart
pub handed_fault : {T : Type 0} (result : Result T JournalFault) → IsErrAnd result (λ e. e ≡ Disk) → result ≡ Err Disk
handed_fault result handed = let err = err_from_is_err_and result handed in err.1 ∙ ap Err err.2

pub fault_not_wrong : {T : Type 0} (result : Result T JournalFault) → result ≡ Err Disk → result ≡ Err WrongLength → ⊥
fault_not_wrong result is other = cc

pub fault_not_image : {T : Type 0} (result : Result T JournalFault) → result ≡ Err Disk → result ≡ Err AlreadyImage → ⊥
fault_not_image result is other = cc

pub other_fault : {T : Type 0} (result : Result T JournalFault) (fault other : JournalFault) → result ≡ Err fault
    → result ≡ Err other → (fault ≡ other → ⊥) → ⊥
other_fault result fault other is same apart = apart cc

pub wrong_not_image : WrongLength ≡ AlreadyImage → ⊥
wrong_not_image same = cc

pub wrong_not_disk : WrongLength ≡ Disk → ⊥
wrong_not_disk same = cc

pub image_not_disk : AlreadyImage ≡ Disk → ⊥
image_not_disk same = cc

pub ok_not_fault : {T : Type 0} (value : T) (fault : JournalFault) → Ok value ≡ Err fault → ⊥
ok_not_fault value fault is = cc

-- a fault is counted once
pub fault_counted : {T : Type 0} (old new : ℕ) (result : Result T JournalFault) → result ≡ Err Disk → new ≡ raised old
    → new ≡ faults_after_format old result
fault_counted old new result is counted = counted ∙ ap (faults_after_format old) (sym is)

pub fault_rose : (old new : ℕ) → new ≡ raised old → Rose old new
fault_rose old new counted = Rose-fault {T = Unit {0}} {E = Unit {0}} old new (Err tt) counted

-- the test of the first byte found another one
pub not_first : (found : Bool) (byte first : ℕ) → found ≡ nat_eq byte first → found ≡ false → byte ≡ first → ⊥
not_first found byte first is other same = grind arith

pub is_first : (found : Bool) (byte first : ℕ) → found ≡ nat_eq byte first → found ≡ true → byte ≡ first
is_first found byte first is here = grind arith
