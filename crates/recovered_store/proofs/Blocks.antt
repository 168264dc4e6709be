-- Which bytes an image of slots has, block by block.
use Rattle.std.proofs.Common.{◌≡◌, ℕ, zero, suc, ◌+◌, ◌-◌, ◌*◌, ◌/◌, ◌^◌, ◌<◌, ◌≤◌, List, [], ◌∷◌, ◌++◌, take, drop}
use Rattle.std.proofs.Common.{Some}
use Rattle.std.proofs.Common.{refl, sym, ap, ◌∙◌, arith}
use Rattle.std.proofs.lemmas.List.{drop-replicate, take-replicate, take-append-le, drop-append-le, drop-drop, drop-take}
use Rattle.std.proofs.lemmas.List.{take-take, take_at, append_assoc, length-replicate}
use Rattle.std.proofs.Math.Seq.{take-add}
use Rattle.std.proofs.lemmas.Option.{none-some, same_Some}
use Rattle.std.specs.Prelude.{slice_get, Result, Ok, Err, IfOk}
use Rattle.std.specs.List.{flat_map}
use Rattle.store_model.specs.Lists.{zeros}
use Rattle.store_model.specs.Parameters.{Parameters, IsParameters, block_len, table_at, image_len, mark_blocks}
use Rattle.store_model.specs.Parameters.{slots_limit}
use Rattle.store_model.specs.Images.{header, journal_len, bytes_at}
use Rattle.store_model.proofs.ImagesLemmas.{take_head, drop_past, block_of_table, length-header}
use Rattle.store_base.specs.SlotsState.{AreWhole, HoldsSlots}
use Rattle.recovered_store.specs.SlotsDisks.{image_of, IsPart}

-- the first block is the header
pub header_block : (p : Parameters) (slots : List (List ℕ)) → IsParameters p
    → header p ≡ bytes_at (image_of p slots) 0 block_len
header_block p slots in_range =
    sym (take_head block_len (journal_len p.slots) (header p) (flat_map (λ slot. slot) slots)
    (length-header p in_range))

-- those behind it, up to the table, are zero
pub zeros_block : (p : Parameters) (slots : List (List ℕ)) (block : ℕ) → IsParameters p → 0 < block
    → block_len * (block + 1) ≤ block_len + journal_len p.slots
    → zeros block_len ≡ bytes_at (image_of p slots) (block_len * block) block_len
zeros_block p slots block in_range some within =
    let len = journal_len p.slots in
    let past = block_len * block - block_len in
    let table = flat_map (λ slot. slot) slots in
    let there : block_len * block ≡ block_len + past = omega (arith, some) in
    let room : block_len ≤ len - past = omega (arith, some, within) in
    let zeros_left : drop past (zeros len) ≡ zeros (len - past) = drop-replicate past len 0 in
    sym (
    ap (λ (image : List ℕ). bytes_at image (block_len * block) block_len) (append_assoc (header p) (zeros len) table)
    ∙ ap (take block_len) (drop_past (header p) (zeros len ++ table) block_len past (block_len * block)
    (length-header p in_range) there)
    ∙ ap (take block_len) (drop-append-le past (zeros len) table
    (omega (arith, length-replicate {A = ℕ} len 0, some, within)))
    ∙ ap (λ (front : List ℕ). take block_len (front ++ table)) zeros_left
    ∙ take-append-le block_len (zeros (len - past)) table
    (omega (arith, room, length-replicate {A = ℕ} (len - past) 0))
    ∙ take-replicate block_len (len - past) 0 room
    )

-- block i of slots that are blocks, one behind the other
slot_in : (slots : List (List ℕ)) (i : ℕ) (slot : List ℕ) → AreWhole slots → slice_get slots i ≡ Some slot
    → take block_len (drop (block_len * i) (flat_map (λ each. each) slots)) ≡ slot
slot_in [] i slot whole found = absurd (none-some slot found)
slot_in (first ∷ slots) zero slot whole found =
    take_at first (flat_map (λ each. each) slots) block_len (whole 0 first refl) ∙ same_Some first slot found
slot_in (first ∷ slots) (suc i) slot whole found =
    ap (take block_len) (drop_past first (flat_map (λ each. each) slots) block_len (block_len * i) (block_len * suc i)
    (whole 0 first refl) (omega arith))
    ∙ slot_in slots i slot (λ j is. whole (suc j) is) found

-- a slot's bytes stand where the slot lies
pub slot_block : (p : Parameters) (slots : List (List ℕ)) (i : ℕ) (slot : List ℕ) → IsParameters p → AreWhole slots
    → slice_get slots i ≡ Some slot → slot ≡ bytes_at (image_of p slots) (table_at p.slots i) block_len
slot_block p slots i slot in_range whole found =
    sym (block_of_table p.slots (header p) (flat_map (λ each. each) slots) i (length-header p in_range)
    ∙ slot_in slots i slot whole found)

-- n and m bytes from a place on
pub bytes_at-add : (image : List ℕ) (at n m : ℕ)
    → bytes_at image at (n + m) ≡ bytes_at image at n ++ bytes_at image (at + n) m
bytes_at-add image at n m =
    take-add n m (drop at image) ∙ ap (λ (rest : List ℕ). bytes_at image at n ++ take m rest) (drop-drop n at image)

-- so many slots in a buffer, one behind the other, are the bytes of the image from the first of them on
pub run_of_slots : (p : Parameters) (slots : List (List ℕ)) (first count : ℕ) (buffer : List ℕ) → IsParameters p
    → AreWhole slots → HoldsSlots slots first buffer count
    → take (block_len * count) buffer ≡ bytes_at (image_of p slots) (table_at p.slots first) (block_len * count)
unfolding table_at
run_of_slots p slots first zero buffer in_range whole holds = refl
run_of_slots p slots first (suc count) buffer in_range whole holds =
    let image = image_of p slots in
    let more : block_len * suc count ≡ block_len * count + block_len = omega arith in
    let there : table_at p.slots (first + count) ≡ table_at p.slots first + block_len * count = omega arith in
    let front = run_of_slots p slots first count buffer in_range whole (λ i below. holds i (omega (arith, below))) in
    let last = slot_block p slots (first + count) (bytes_at buffer (block_len * count) block_len) in_range whole
    (holds count (omega arith)) in
    ap (λ (n : ℕ). take n buffer) more
    ∙ take-add (block_len * count) block_len buffer
    ∙ ap (λ (bytes : List ℕ). bytes ++ bytes_at buffer (block_len * count) block_len) front
    ∙ ap (λ (bytes : List ℕ). bytes_at image (table_at p.slots first) (block_len * count) ++ bytes) last
    ∙ ap (λ (at : ℕ). bytes_at image (table_at p.slots first) (block_len * count) ++ bytes_at image at block_len) there
    ∙ sym (bytes_at-add image (table_at p.slots first) (block_len * count) block_len)
    ∙ ap (λ (n : ℕ). bytes_at image (table_at p.slots first) n) (sym more)

-- a part of a block
pub part_of_block : (image bytes : List ℕ) (at behind count : ℕ) → bytes ≡ bytes_at image at block_len
    → behind + count ≤ block_len → take count (drop behind bytes) ≡ bytes_at image (at + behind) count
part_of_block image bytes at behind count is within =
    let left = block_len - behind in
    let parts : block_len ≡ behind + left = omega (arith, within) in
    ap (λ (block : List ℕ). take count (drop behind block)) is
    ∙ ap (λ (n : ℕ). take count (drop behind (bytes_at image at n))) parts
    ∙ ap (take count) (drop-take behind left (drop at image))
    ∙ take-take count left (drop behind (drop at image)) (omega (arith, within))
    ∙ ap (take count) (drop-drop behind at image)

-- bytes that came into the front of a buffer
pub run_in_front : {E : Type 0} (result : Result ℕ E) (image part rest : List ℕ) (place at : ℕ) → place ≡ at
    → IfOk result (λ count. IsPart count part) → IfOk result (λ count. take count part ≡ bytes_at image place count)
    → IfOk result (λ count. take count (part ++ rest) ≡ bytes_at image at count)
run_in_front (Ok count) image part rest place at is some read =
    take-append-le count part rest some.1 ∙ read ∙ ap (λ (n : ℕ). bytes_at image n count) is
run_in_front (Err fault) image part rest place at is some read = tt

-- ---- where the areas lie

-- the table begins with a block
pub table_block : (slots : ℕ) → block_len * (table_at slots 0 / block_len) ≡ table_at slots 0
unfolding table_at
table_block slots = omega arith

-- a block before the table is one of the journal, or the header
pub before_table : (slots first block : ℕ) → block_len * first ≡ table_at slots 0 → block < first
    → block_len * (block + 1) ≤ block_len + journal_len slots
unfolding table_at journal_len
before_table slots first block first_is below = omega (arith, first_is, below)

-- a block behind the beginning of the table is one of its slots
pub slot_within : (slots first block count : ℕ) → block_len * first ≡ table_at slots 0 → first ≤ block
    → block_len * block + block_len * count ≤ image_len slots → block - first + count ≤ slots
unfolding table_at image_len
slot_within slots first block count first_is behind within = omega (arith, first_is, behind, within)

pub slot_place : (slots first block : ℕ) → block_len * first ≡ table_at slots 0 → first ≤ block
    → table_at slots (block - first) ≡ block_len * block
unfolding table_at
slot_place slots first block first_is behind = omega (arith, first_is, behind)

-- the block in which a place of an image lies, is one of the image
pub block_within : (slots block behind len : ℕ) → 0 < len → block_len * block + behind + len ≤ image_len slots
    → block_len * (block + 1) ≤ image_len slots
unfolding image_len
block_within slots block behind len some within = omega (arith, some, within)

-- how long an image is fits a u64
pub image_fits : (slots : ℕ) → slots ≤ slots_limit → image_len slots < 2 ^ 64
unfolding image_len mark_blocks
image_fits slots in_range = omega (arith, in_range)
