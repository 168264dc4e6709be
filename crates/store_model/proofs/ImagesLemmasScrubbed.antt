-- What recovery and scrubbing leave in each slot, and that scrubbing twice is scrubbing once.
use Rattle.std.proofs.Common.{◌≡◌, ne_eqb, ℕ, zero, suc, ◌*◌, ◌<◌, List, [], ◌∷◌, ◌++◌, Bool, true, false, Option, Some}
use Rattle.std.proofs.Common.{None, length, take, drop, get_or, slice_index, refl, ap, sym, ◌∙◌, if◌then◌else◌, ◌==◌}
use Rattle.std.proofs.Common.{arith}
use Rattle.std.specs.List.{flat_map, AllByRecursion}
use Rattle.std.proofs.lemmas.List.{length-replicate, take_at}
use Rattle.store_model.specs.Lists.{zeros, zero_filled, numbers_below}
use Rattle.store_model.specs.Parameters.{Parameters, IsParameters, image_len, table_at}
use Rattle.store_model.specs.Trees.{Tree, IsTree}
use Rattle.store_model.specs.Draws.{draw_of}
use Rattle.store_model.specs.Pages.{Page, Fits, pages}
use Rattle.store_model.specs.Placement.{Table, place}
use Rattle.store_model.specs.Images.{header, page_bytes, slot_bytes, table_bytes, journal_len, layout, bytes_at}
use Rattle.store_model.specs.Images.{viewed_header, recovered_slot, recovered, scrubbed_block, scrubbed_slot, scrubbed}
use Rattle.store_model.proofs.ListsLemmas.{all_weaker, length-numbers_from}
use Rattle.store_model.proofs.PagesLemmasSizes.{tree_pages_are_pages}
use Rattle.store_model.proofs.PlacementLemmas.{get_or-numbers_from, length-place}
use Rattle.store_model.proofs.PlacementLemmasDraws.{IsLawful-draw_of}
use Rattle.store_model.proofs.ImagesLemmas.{IsSlot, length-header, length-slot_bytes, length-flat_map_same}
use Rattle.store_model.proofs.ImagesLemmas.{length-areas, length-recovered_slot, recovered_areas, slots-place}
use Rattle.store_model.proofs.ImagesLemmas.{length-place_bytes, drop_past, take_head, runs_join, header_in_image}
use Rattle.store_model.proofs.ImagesLemmas.{length-viewed_header, viewed_header-of_areas, block_of_table, slot_of_table}
use Rattle.store_model.proofs.ImagesLemmas.{AllByRecursion-numbers_from}

-- block i of pieces of n elements each, one after another
block_of_flat_map : {X : Type 0} (f : X → List ℕ) (n : ℕ) (xs : List X) (i : ℕ) (d : X)
    → AllByRecursion (λ x. length (f x) ≡ n) xs → i < length xs
    → take n (drop (n * i) (flat_map f xs)) ≡ f (get_or xs i d)
block_of_flat_map f n [] i d all h = absurd (omega arith)
block_of_flat_map f n (x ∷ xs) zero d all h =
    let front : n * 0 ≡ 0 = omega arith in
    ap (λ k. take n (drop k (f x ++ flat_map f xs))) front ∙ take_at (f x) (flat_map f xs) n all.0
block_of_flat_map f n (x ∷ xs) (suc i) d all h =
    ap (take n) (drop_past (f x) (flat_map f xs) n (n * i) (n * suc i) all.0 (omega arith))
    ∙ block_of_flat_map f n xs i d all.1 (omega arith)

-- block i of a table of numbered blocks
numbered_block : (block : ℕ → List ℕ) (slots i : ℕ) → ((k : ℕ) → k < slots → length (block k) ≡ 4096) → i < slots
    → take 4096 (drop (4096 * i) (flat_map block (numbers_below slots))) ≡ block i
numbered_block block slots i one within =
    block_of_flat_map block 4096 (numbers_below slots) i 0
    (AllByRecursion-numbers_from (λ k. length (block k) ≡ 4096) 0 slots (λ k h. one k (omega arith)))
    (omega (arith, length-numbers_from 0 slots))
    ∙ ap block (get_or-numbers_from 0 slots i 0 within ∙ omega arith)

-- pieces that are the same at each element
flat_map_within : {X Y : Type 0} (f g : X → List Y) (xs : List X) → AllByRecursion (λ x. f x ≡ g x) xs
    → flat_map f xs ≡ flat_map g xs
flat_map_within f g [] all = refl
flat_map_within f g (x ∷ xs) all = let first = all.0 in let rest = flat_map_within f g xs all.1
    in λ i. first i ++ rest i

-- the same of numbered blocks
numbered_same : (f g : ℕ → List ℕ) (slots : ℕ) → ((i : ℕ) → i < slots → f i ≡ g i)
    → flat_map f (numbers_below slots) ≡ flat_map g (numbers_below slots)
numbered_same f g slots same = flat_map_within f g (numbers_below slots)
    (AllByRecursion-numbers_from (λ i. f i ≡ g i) 0 slots (λ i h. same i (omega arith)))

-- the header is a block of its own
head_block : (slots : ℕ) (image : List ℕ) → length image ≡ image_len slots → length (viewed_header slots image) ≡ 4096
head_block slots image h = length-viewed_header slots image (omega (arith, header_in_image slots))

-- ---- recovery

-- recovery leaves the header as it is read
pub take-recovered : (slots : ℕ) (image : List ℕ) → length image ≡ image_len slots
    → take 4096 (recovered slots image) ≡ viewed_header slots image
take-recovered slots image h =
    ap (take 4096) (recovered_areas slots image)
    ∙ take_head 4096 (journal_len slots) (viewed_header slots image)
    (flat_map (recovered_slot slots image) (numbers_below slots)) (head_block slots image h)

-- and from then on it is read as it stands
pub viewed_header-recovered : (slots : ℕ) (image : List ℕ) → length image ≡ image_len slots
    → viewed_header slots (recovered slots image) ≡ viewed_header slots image
viewed_header-recovered slots image h =
    ap (viewed_header slots) (recovered_areas slots image)
    ∙ viewed_header-of_areas slots (viewed_header slots image)
    (flat_map (recovered_slot slots image) (numbers_below slots)) (head_block slots image h)

-- what recovery leaves in a slot stands in the recovered image
pub slot_of_recovered : (slots : ℕ) (image : List ℕ) (i : ℕ) → length image ≡ image_len slots → i < slots
    → bytes_at (recovered slots image) (table_at slots i) 4096 ≡ recovered_slot slots image i
unfolding recovered
slot_of_recovered slots image i h within =
    block_of_table slots (viewed_header slots image) (flat_map (recovered_slot slots image) (numbers_below slots)) i
    (head_block slots image h)
    ∙ numbered_block (recovered_slot slots image) slots i (λ k lt. length-recovered_slot slots image k h lt) within

-- recovery of what recovery left leaves the same in a slot
recovered_slot-recovered : (slots : ℕ) (image : List ℕ) (i : ℕ) → length image ≡ image_len slots → i < slots
    → recovered_slot slots (recovered slots image) i ≡ recovered_slot slots image i
unfolding recovered
recovered_slot-recovered slots image i h within =
    slot_of_table slots (viewed_header slots image) (flat_map (recovered_slot slots image) (numbers_below slots)) i
    (head_block slots image h)
    ∙ numbered_block (recovered_slot slots image) slots i (λ k lt. length-recovered_slot slots image k h lt) within

-- ---- scrubbing

-- a scrubbed slot keeps its length
length-scrubbed_block : (bytes : List ℕ) → length bytes ≡ 4096 → length (scrubbed_block bytes) ≡ 4096
unfolding scrubbed_block
length-scrubbed_block bytes h = either (slice_index bytes 0 == 0)
  where
    either : (b : Bool) → length (if b then zeros 4096 else bytes) ≡ 4096
    either true = length-replicate {A = ℕ} 4096 0
    either false = h

-- scrubbing a slot twice is scrubbing it once
scrubbed_block-twice : (bytes : List ℕ) → scrubbed_block (scrubbed_block bytes) ≡ scrubbed_block bytes
unfolding scrubbed_block
scrubbed_block-twice bytes = either (slice_index bytes 0 == 0) refl
  where
    either : (b : Bool) → (slice_index bytes 0 == 0) ≡ b
        → (if slice_index (if b then zeros 4096 else bytes) 0 ==
        0 then zeros 4096 else (if b then zeros 4096 else bytes)) ≡ (if b then zeros 4096 else bytes)
    either true e = refl
    either false e = ap (λ b. if b then zeros 4096 else bytes) e

-- a slot whose byte 0 isn't 0 stays
scrubbed_block-kept : (bytes : List ℕ) → (slice_index bytes 0 == 0) ≡ false → scrubbed_block bytes ≡ bytes
unfolding scrubbed_block
scrubbed_block-kept bytes e = ap (λ b. if b then zeros 4096 else bytes) e

-- what a table has in a slot stays
scrubbed_block-slot : (slot : Option Page) → scrubbed_block (slot_bytes slot) ≡ slot_bytes slot
unfolding scrubbed_block slot_bytes page_bytes zero_filled
scrubbed_block-slot None = refl
scrubbed_block-slot (Some page) = refl

-- what scrubbing leaves in a slot is a block
length-scrubbed_slot : (slots : ℕ) (image : List ℕ) (i : ℕ) → length image ≡ image_len slots → i < slots
    → length (scrubbed_slot slots image i) ≡ 4096
unfolding scrubbed_slot
length-scrubbed_slot slots image i h within =
    length-scrubbed_block (recovered_slot slots image i) (length-recovered_slot slots image i h within)

-- scrubbing keeps the length of an image
pub length-scrubbed : (slots : ℕ) (image : List ℕ) → length image ≡ image_len slots
    → length (scrubbed slots image) ≡ image_len slots
unfolding scrubbed
length-scrubbed slots image h =
    length-areas slots (viewed_header slots image) (flat_map (scrubbed_slot slots image) (numbers_below slots))
    (head_block slots image h)
    (length-flat_map_same (scrubbed_slot slots image) 4096 (numbers_below slots)
    (AllByRecursion-numbers_from (λ i. length (scrubbed_slot slots image i) ≡ 4096) 0 slots
    (λ i lt. length-scrubbed_slot slots image i h (omega arith)))
    ∙ ap (λ n. 4096 * n) (length-numbers_from 0 slots))

-- what scrubbing leaves in a slot stands in the scrubbed image
pub slot_of_scrubbed : (slots : ℕ) (image : List ℕ) (i : ℕ) → length image ≡ image_len slots → i < slots
    → bytes_at (scrubbed slots image) (table_at slots i) 4096 ≡ scrubbed_slot slots image i
unfolding scrubbed
slot_of_scrubbed slots image i h within =
    block_of_table slots (viewed_header slots image) (flat_map (scrubbed_slot slots image) (numbers_below slots)) i
    (head_block slots image h)
    ∙ numbered_block (scrubbed_slot slots image) slots i (λ k lt. length-scrubbed_slot slots image k h lt) within

-- recovery leaves it so
recovered_slot-scrubbed : (slots : ℕ) (image : List ℕ) (i : ℕ) → length image ≡ image_len slots → i < slots
    → recovered_slot slots (scrubbed slots image) i ≡ scrubbed_slot slots image i
unfolding scrubbed
recovered_slot-scrubbed slots image i h within =
    slot_of_table slots (viewed_header slots image) (flat_map (scrubbed_slot slots image) (numbers_below slots)) i
    (head_block slots image h)
    ∙ numbered_block (scrubbed_slot slots image) slots i (λ k lt. length-scrubbed_slot slots image k h lt) within

-- images with one header and one table are one image
same_areas : (slots : ℕ) (front head table rest : List ℕ) → front ≡ head → table ≡ rest
    → front ++ zeros (journal_len slots) ++ table ≡ head ++ zeros (journal_len slots) ++ rest
same_areas slots front head table rest p q = λ i. p i ++ zeros (journal_len slots) ++ q i

-- scrubbing an image is scrubbing what recovery leaves of it
pub scrubbed-recovered : (slots : ℕ) (image : List ℕ) → length image ≡ image_len slots
    → scrubbed slots (recovered slots image) ≡ scrubbed slots image
unfolding scrubbed scrubbed_slot
scrubbed-recovered slots image h =
    same_areas slots (viewed_header slots (recovered slots image)) (viewed_header slots image) _ _
    (viewed_header-recovered slots image h)
    (numbered_same (λ i. scrubbed_block (recovered_slot slots (recovered slots image) i))
    (λ i. scrubbed_block (recovered_slot slots image i)) slots
    (λ i within. ap scrubbed_block (recovered_slot-recovered slots image i h within)))

-- the areas that scrubbing leaves
scrubbed_areas : (slots : ℕ) (image : List ℕ)
    → scrubbed slots image ≡ viewed_header slots image ++ zeros (journal_len slots)
    ++ flat_map (scrubbed_slot slots image) (numbers_below slots)
unfolding scrubbed
scrubbed_areas slots image = refl

-- scrubbing leaves the header as it is read, too
pub take-scrubbed : (slots : ℕ) (image : List ℕ) → length image ≡ image_len slots
    → take 4096 (scrubbed slots image) ≡ viewed_header slots image
take-scrubbed slots image h =
    ap (take 4096) (scrubbed_areas slots image)
    ∙ take_head 4096 (journal_len slots) (viewed_header slots image)
    (flat_map (scrubbed_slot slots image) (numbers_below slots)) (head_block slots image h)

-- and it is read as it stands
viewed_header-scrubbed : (slots : ℕ) (image : List ℕ) → length image ≡ image_len slots
    → viewed_header slots (scrubbed slots image) ≡ viewed_header slots image
viewed_header-scrubbed slots image h = ap (viewed_header slots) (scrubbed_areas slots image)
    ∙ viewed_header-of_areas slots (viewed_header slots image)
    (flat_map (scrubbed_slot slots image) (numbers_below slots)) (head_block slots image h)

-- scrubbing twice is scrubbing once
pub scrubbed-scrubbed : (slots : ℕ) (image : List ℕ) → length image ≡ image_len slots
    → scrubbed slots (scrubbed slots image) ≡ scrubbed slots image
unfolding scrubbed_slot
scrubbed-scrubbed slots image h =
    scrubbed_areas slots (scrubbed slots image)
    ∙ same_areas slots (viewed_header slots (scrubbed slots image)) (viewed_header slots image) _ _
    (viewed_header-scrubbed slots image h)
    (numbered_same (λ i. scrubbed_block (recovered_slot slots (scrubbed slots image) i))
    (λ i. scrubbed_block (recovered_slot slots image i)) slots
    (λ i within. ap scrubbed_block (recovered_slot-scrubbed slots image i h within)
    ∙ scrubbed_block-twice (recovered_slot slots image i)))
    ∙ sym (scrubbed_areas slots image)

-- what scrubbing left is its own recovery
pub recovered-scrubbed : (slots : ℕ) (image : List ℕ) → length image ≡ image_len slots
    → recovered slots (scrubbed slots image) ≡ scrubbed slots image
recovered-scrubbed slots image h =
    recovered_areas slots (scrubbed slots image)
    ∙ same_areas slots (viewed_header slots (scrubbed slots image)) (viewed_header slots image) _ _
    (viewed_header-scrubbed slots image h)
    (numbered_same (recovered_slot slots (scrubbed slots image)) (scrubbed_slot slots image) slots
    (λ i within. recovered_slot-scrubbed slots image i h within))
    ∙ sym (scrubbed_areas slots image)

-- a slot whose byte 0 isn't 0 is as recovery leaves it
pub scrubbed_slot-kept : (slots : ℕ) (image : List ℕ) (i : ℕ) → (slice_index (recovered_slot slots image i) 0 ≡ 0 → ⊥)
    → scrubbed_slot slots image i ≡ recovered_slot slots image i
unfolding scrubbed_slot
scrubbed_slot-kept slots image i some =
    scrubbed_block-kept (recovered_slot slots image i) (ne_eqb (slice_index (recovered_slot slots image i) 0) 0 some)

-- and one whose byte 0 is 0 is zero
pub scrubbed_slot-zero : (slots : ℕ) (image : List ℕ) (i : ℕ) → slice_index (recovered_slot slots image i) 0 ≡ 0
    → scrubbed_slot slots image i ≡ zeros 4096
unfolding scrubbed_slot scrubbed_block
scrubbed_slot-zero slots image i none = ap (λ b. if b == 0 then zeros 4096 else recovered_slot slots image i) none

-- scrubbing leaves a layout as it is
pub scrubbed-layout : (t : Tree) (p : Parameters) → IsParameters p → IsTree t → Fits t p
    → scrubbed p.slots (layout t p) ≡ layout t p
unfolding layout draw_of scrubbed scrubbed_slot table_bytes
scrubbed-layout t p is tree fits =
    same_areas p.slots (viewed_header p.slots (header p ++ zeros (journal_len p.slots) ++ bytes)) (header p) _ bytes
    (viewed_header-of_areas p.slots (header p) bytes (length-header p is))
    (numbered_same (λ i. scrubbed_block (recovered_slot p.slots (header p ++ zeros (journal_len p.slots) ++ bytes) i))
    (λ i. take 4096 (drop (4096 * i) bytes)) p.slots kept ∙ runs_join 4096 0 p.slots bytes (whole ∙ omega arith))
  where
    table : Table
    table = place (draw_of p) (pages t p)

    bytes : List ℕ
    bytes = flat_map slot_bytes table

    whole : length bytes ≡ 4096 * p.slots
    whole = length-place_bytes (draw_of p) (pages t p)
        (IsLawful-draw_of p is) fits.room (tree_pages_are_pages t p is tree fits)

    block : (i : ℕ) → i < p.slots → take 4096 (drop (4096 * i) bytes) ≡ slot_bytes (get_or table i None)
    block i within = block_of_flat_map slot_bytes 4096 table i None
        (all_weaker IsSlot (λ slot. length (slot_bytes slot) ≡ 4096) length-slot_bytes table
        (slots-place (draw_of p) (pages t p) (IsLawful-draw_of p is) fits.room (tree_pages_are_pages t p is tree fits)))
        (omega (arith, length-place (draw_of p) (pages t p)))

    kept : (i : ℕ) → i < p.slots
        → scrubbed_block (recovered_slot p.slots (header p ++ zeros (journal_len p.slots) ++ bytes) i)
        ≡ take 4096 (drop (4096 * i) bytes)
    kept i within =
        ap scrubbed_block (slot_of_table p.slots (header p) bytes i (length-header p is) ∙ block i within)
        ∙ scrubbed_block-slot (get_or table i None) ∙ sym (block i within)
