-- The lengths of blocks and images, and that a layout is its own recovery.
use Rattle.std.proofs.Common.{◌≡◌, ℕ, zero, suc, ◌+◌, ◌-◌, ◌*◌, ◌<◌, ◌≤◌, List, [], ◌∷◌, ◌++◌, Bool, true, false, not}
use Rattle.std.proofs.Common.{◌&&◌, Option, Some, None, length, take, drop, get_or, slice_set, refl, ap, sym, ◌∙◌}
use Rattle.std.proofs.Common.{subst, if◌then◌else◌, ◌==◌, arith, append_assoc, length-append, length-set}
use Rattle.std.specs.Int.{w32, to_be_bytes}
use Rattle.std.specs.List.{flat_map, AllByRecursion}
use Rattle.std.proofs.lemmas.List.{length-replicate, set-set, drop_all, drop-drop, drop_at, take_at, take-append-drop}
use Rattle.std.proofs.lemmas.List.{get_or_at, length-take, length-drop, length-take-le}
use Rattle.std.proofs.lemmas.List.Elements.{All-from_recursion, recursion_from_All}
use Rattle.std.proofs.lemmas.List.Sorted.{All-permutation}
use Rattle.store_model.specs.declared.version.Version.{Version}
use Rattle.store_model.specs.declared.version.Version.TheVariants.{Two}
use Rattle.store_model.specs.Lists.{zeros, zero_filled, numbers_from}
use Rattle.store_model.specs.Parameters.{Parameters, IsParameters, with_version, image_len, shadow_at, table_at}
use Rattle.store_model.specs.Trees.{Tree, IsTree}
use Rattle.store_model.specs.Draws.{Draw, IsLawful, draw_of}
use Rattle.store_model.specs.Labels.{Lead, Label, IsLead, IsLabel, lead_bytes, label_bytes}
use Rattle.store_model.specs.Labels.Lead.{Start, Leader}
use Rattle.store_model.specs.Pages.{Cell, IsCell, IsCellValue, Page, IsPage, Fits, pages}
use Rattle.store_model.specs.Placement.{Table, place, pages_in}
use Rattle.store_model.specs.Images.{version_byte, header, value_bytes, cell_bytes, page_bytes, slot_bytes, table_bytes}
use Rattle.store_model.specs.Images.{journal_len, layout, bytes_at, is_flag_set, is_marked, viewed_header}
use Rattle.store_model.specs.Images.{recovered_slot, recovered, Represents}
use Rattle.store_model.proofs.ListsLemmas.{all_weaker}
use Rattle.store_model.proofs.PagesLemmasSizes.{tree_pages_are_pages}
use Rattle.store_model.proofs.PlacementLemmas.{length-numbers_from, length-place, IsPermutation-place}
use Rattle.store_model.proofs.PlacementLemmasDraws.{IsLawful-draw_of}

-- what is zero-filled has the length that it is filled to
pub length-zero_filled : (n : ℕ) (xs : List ℕ) → length xs ≤ n → length (zero_filled n xs) ≡ n
unfolding zero_filled
length-zero_filled n xs h =
    omega (arith, length-append xs (zeros (n - length xs)), length-replicate {A = ℕ} (n - length xs) 0)

-- parameters in their range are so under each version
pub IsParameters-with_version : (p : Parameters) (version : Version) → IsParameters p
    → IsParameters (with_version p version)
IsParameters-with_version p version valid = record {
  some_slot = valid.some_slot;
  slots_in_range = valid.slots_in_range;
  some_level = valid.some_level;
  height_in_range = valid.height_in_range;
  seed_length = valid.seed_length;
  seed_bytes = valid.seed_bytes;
}

-- the header under a version has its byte, and is else the same
pub header-with_version : (p : Parameters) (version : Version)
    → slice_set (header p) 14 (version_byte version) ≡ header (with_version p version)
unfolding header zero_filled
header-with_version p version = refl

-- a header is a block
pub length-header : (p : Parameters) → IsParameters p → length (header p) ≡ 4096
unfolding header
length-header p is = length-zero_filled 4096 _ (omega (arith, is.seed_length))

-- what leads a group takes 125 bytes of a label
pub length-lead_bytes : (l : Lead) → IsLead l → length (lead_bytes l) ≡ 125
length-lead_bytes Start is = refl
length-lead_bytes (Leader k) is = ap suc is.0

-- a label has 130 bytes
pub length-label_bytes : (l : Label) → IsLabel l → length (label_bytes l) ≡ 130
unfolding label_bytes
length-label_bytes l is =
    omega (arith, length-append (lead_bytes l.lead) (to_be_bytes w32 l.index), length-lead_bytes l.lead is.lead)

-- what joins pieces of at most n elements each
length-flat_map-le : {X : Type 0} (f : X → List ℕ) (n : ℕ) (xs : List X) → AllByRecursion (λ x. length (f x) ≤ n) xs
    → length (flat_map f xs) ≤ length xs * n
length-flat_map-le f n [] all = omega arith
length-flat_map-le f n (x ∷ xs) all =
    omega (arith, length-append (f x) (flat_map f xs), length-flat_map-le f n xs all.1, all.0)

-- what joins pieces of n elements each
pub length-flat_map_same : {X : Type 0} (f : X → List ℕ) (n : ℕ) (xs : List X)
    → AllByRecursion (λ x. length (f x) ≡ n) xs → length (flat_map f xs) ≡ n * length xs
length-flat_map_same f n [] all = omega arith
length-flat_map_same f n (x ∷ xs) all =
    omega (arith, length-append (f x) (flat_map f xs), length-flat_map_same f n xs all.1, all.0)

-- the bytes that a cell of a level needs at most
abbrev cell_room : ℕ → ℕ
cell_room level = if level == 0 then 382 else 124

-- each level leaves room for a key
cell_room_above : (b : Bool) → 124 ≤ (if b then 382 else 124)
cell_room_above true = omega arith
cell_room_above false = omega arith

-- a key and the value of a level need no more
length-value_bytes : (level : ℕ) (value : Option (List ℕ)) → IsCellValue level value
    → 124 + length (value_bytes value) ≤ cell_room level
length-value_bytes level None is = cell_room_above (level == 0)
length-value_bytes level (Some v) is =
    subst (λ n. 124 + length (value_bytes (Some v)) ≤ cell_room n) (sym is.0)
    (omega (arith, length-zero_filled 256 v is.1.1))

-- a cell needs no more
length-cell_bytes : (level : ℕ) (cell : Cell) → IsCell level cell → length (cell_bytes cell) ≤ cell_room level
unfolding cell_bytes
length-cell_bytes level cell is =
    omega (
      arith,
      length-append cell.key (value_bytes cell.value),
      is.key_length,
      length-value_bytes level cell.value is.value,
    )

-- as many cells as a page of a level may hold leave room for its label and their count
cells_fit : (b : Bool) (n : ℕ) → n ≤ (if b then 10 else 31) → n * (if b then 382 else 124) ≤ 3964
cells_fit true n h = omega arith
cells_fit false n h = omega arith

-- a page is a block
pub length-page_bytes : (page : Page) → IsPage page → length (page_bytes page) ≡ 4096
unfolding page_bytes
length-page_bytes page is = length-zero_filled 4096 _ (omega (
  arith,
  length-append (label_bytes page.label) (length page.cells ∷ flat_map cell_bytes page.cells),
  length-label_bytes page.label is.label,
  length-flat_map-le cell_bytes (cell_room page.label.level)
      page.cells (all_weaker _ _ (length-cell_bytes page.label.level) page.cells is.cells),
  cells_fit (page.label.level == 0) (length page.cells) is.room,
))

-- what a slot may hold: nothing, or a page
abbrev pub IsSlot : Option Page → Type 0
IsSlot None = Unit {0}
IsSlot (Some page) = IsPage page

-- a slot is a block
pub length-slot_bytes : (slot : Option Page) → IsSlot slot → length (slot_bytes slot) ≡ 4096
unfolding slot_bytes
length-slot_bytes None is = length-replicate {A = ℕ} 4096 0
length-slot_bytes (Some page) is = length-page_bytes page is

-- where each page of a table is a page, each slot is a slot
pub AllByRecursion-slots : (table : Table) → AllByRecursion IsPage (pages_in table) → AllByRecursion IsSlot table
unfolding pages_in
AllByRecursion-slots [] all = tt
AllByRecursion-slots (None ∷ table) all = (tt, AllByRecursion-slots table all)
AllByRecursion-slots (Some page ∷ table) all = (all.0, AllByRecursion-slots table all.1)

-- each slot of a tree's table is a slot
pub slots-place : (d : Draw) (ps : List Page) → IsLawful d → length ps ≤ d.slots → AllByRecursion IsPage ps
    → AllByRecursion IsSlot (place d ps)
slots-place d ps law room all = AllByRecursion-slots (place d ps)
    (recursion_from_All IsPage (pages_in (place d ps))
    (All-permutation IsPage ps (pages_in (place d ps)) (IsPermutation-place d ps law room)
    (All-from_recursion IsPage ps all)))

-- a table of slots is as many blocks
pub length-table_bytes : (table : Table) → AllByRecursion IsSlot table
    → length (table_bytes table) ≡ 4096 * length table
unfolding table_bytes
length-table_bytes table all = length-flat_map_same slot_bytes 4096 table
    (all_weaker IsSlot _ length-slot_bytes table all)

-- the table of a tree is as many blocks as it has slots
pub length-place_bytes : (d : Draw) (ps : List Page) → IsLawful d → length ps ≤ d.slots → AllByRecursion IsPage ps
    → length (table_bytes (place d ps)) ≡ 4096 * d.slots
length-place_bytes d ps law room all = length-table_bytes (place d ps) (slots-place d ps law room all)
    ∙ ap (λ n. 4096 * n) (length-place d ps)

-- a header, zeros and a table make an image's length
pub length-areas : (slots : ℕ) (head table : List ℕ) → length head ≡ 4096 → length table ≡ 4096 * slots
    → length (head ++ zeros (journal_len slots) ++ table) ≡ image_len slots
unfolding journal_len image_len
length-areas slots head table h t =
    omega (
      arith,
      length-append (head ++ zeros (journal_len slots)) table,
      length-append head
          (zeros (journal_len slots)),
      length-replicate {A = ℕ} (journal_len slots) 0,
    )

-- a layout has the length of an image
pub length-layout : (t : Tree) (p : Parameters) → IsParameters p → IsTree t → Fits t p
    → length (layout t p) ≡ image_len p.slots
unfolding layout draw_of
length-layout t p is tree fits = length-areas p.slots (header p) (table_bytes (place (draw_of p) (pages t p)))
    (length-header p is) (length-place_bytes (draw_of p) (pages t p)
    (IsLawful-draw_of p is) fits.room (tree_pages_are_pages t p is tree fits))

-- runs of n elements, one after another from a run on, make the list from there on
pub runs_join : (n first count : ℕ) (xs : List ℕ) → length xs ≡ n * (first + count)
    → flat_map (λ i. take n (drop (n * i) xs)) (numbers_from first count) ≡ drop (n * first) xs
unfolding numbers_from
runs_join n first zero xs h = sym (drop_all (n * first) xs (omega arith))
runs_join n first (suc count) xs h =
    let rest : flat_map (λ i. take n (drop (n * i) xs)) (numbers_from (suc first) count) ≡ drop (n * suc first) xs =
    runs_join n (suc first) count xs (omega arith) in
    let next : n * suc first ≡ n * first + n = omega arith in
    ap (λ (ys : List ℕ). take n (drop (n * first) xs) ++ ys)
    (rest ∙ ap (λ m. drop m xs) next ∙ sym (drop-drop n (n * first) xs)) ∙ take-append-drop n (drop (n * first) xs)

-- the element that follows a list, where zeros follow it
zero_behind : (n m : ℕ) (head rest : List ℕ) → length head ≡ n → 0 < m → get_or (head ++ zeros m ++ rest) n 0 ≡ 0
zero_behind n zero head rest h some = absurd (omega arith)
zero_behind n (suc m) head rest h some = ap (λ (xs : List ℕ). get_or xs n 0) (append_assoc head (0 ∷ zeros m) rest)
    ∙ get_or_at head 0 (zeros m ++ rest) 0 n h

-- what stands in front of zeros and a table
pub take_head : (n m : ℕ) (head rest : List ℕ) → length head ≡ n → take n (head ++ zeros m ++ rest) ≡ head
take_head n m head rest h = ap (take n) (append_assoc head (zeros m) rest) ∙ take_at head (zeros m ++ rest) n h

-- what stands m behind the front of a list
pub drop_past : (front rest : List ℕ) (n m at : ℕ) → length front ≡ n → at ≡ n + m
    → drop at (front ++ rest) ≡ drop m rest
drop_past front rest n m at h e = ap (λ (k : ℕ). drop k (front ++ rest)) e ∙ sym (drop-drop m n (front ++ rest))
    ∙ ap (drop m) (drop_at front rest n h)

-- there are bytes between header and table
pub journal_some : (slots : ℕ) → 0 < journal_len slots
unfolding journal_len
journal_some slots = omega arith

-- the slots stand behind the header and what follows it
table_at_is : (slots i : ℕ) → table_at slots i ≡ 4096 + journal_len slots + 4096 * i
unfolding table_at journal_len
table_at_is slots i = omega arith

-- an image with zeros behind its header is not raised
pub not_raised : (m : ℕ) (head rest : List ℕ) → length head ≡ 4096 → 0 < m
    → is_flag_set (head ++ zeros m ++ rest) ≡ false
unfolding is_flag_set
not_raised m head rest h some = ap (λ (b : ℕ). not (b == 0)) (zero_behind 4096 m head rest h some)

-- the header of an image that is not raised is read as it stands
pub viewed_header-at_rest : (slots : ℕ) (image : List ℕ) → is_flag_set image ≡ false
    → viewed_header slots image ≡ take 4096 image
unfolding viewed_header
viewed_header-at_rest slots image rest =
    ap (λ (b : Bool). if b && is_marked image slots then slice_set (take 4096 image) 14 2 else take 4096 image) rest

-- so is that of an image with zeros behind its header
pub viewed_header-of_areas : (slots : ℕ) (head table : List ℕ) → length head ≡ 4096
    → viewed_header slots (head ++ zeros (journal_len slots) ++ table) ≡ head
viewed_header-of_areas slots head table h =
    viewed_header-at_rest slots (head ++ zeros (journal_len slots) ++ table)
    (not_raised (journal_len slots) head table h (journal_some slots))
    ∙ take_head 4096 (journal_len slots) head table h

-- where the flag and the mark behind the last slot's are set, a header of any version is read as that of version 2
pub viewed_header-upgraded : (image : List ℕ) (p : Parameters) (byte : ℕ) → is_flag_set image ≡ true
    → is_marked image p.slots ≡ true → take 4096 image ≡ slice_set (header p) 14 byte
    → viewed_header p.slots image ≡ header (with_version p Two)
unfolding viewed_header
viewed_header-upgraded image p byte set marked e =
    (λ i. if set i && marked i then slice_set (take 4096 image) 14 2 else take 4096 image)
    ∙ ap (λ (head : List ℕ). slice_set head 14 2) e ∙ set-set (header p) 14 byte 2 ∙ header-with_version p Two

-- however it is read, a header is a block
pub length-viewed_header : (slots : ℕ) (image : List ℕ) → 4096 ≤ length image
    → length (viewed_header slots image) ≡ 4096
unfolding viewed_header
length-viewed_header slots image h = either (is_flag_set image && is_marked image slots)
  where
    either : (b : Bool) → length (if b then slice_set (take 4096 image) 14 2 else take 4096 image) ≡ 4096
    either true = length-set (take 4096 image) 14 2 ∙ length-take-le 4096 image h
    either false = length-take-le 4096 image h

-- recovery of an image that is not raised leaves each slot as it is
pub recovered_slot-at_rest : (slots : ℕ) (image : List ℕ) (i : ℕ) → is_flag_set image ≡ false
    → recovered_slot slots image i ≡ bytes_at image (table_at slots i) 4096
unfolding recovered_slot
recovered_slot-at_rest slots image i rest =
    ap (λ (b : Bool). bytes_at image (if b && is_marked image i then shadow_at slots i else table_at slots i) 4096) rest

-- slot i of an image is block i of its table
pub block_of_table : (slots : ℕ) (head table : List ℕ) (i : ℕ) → length head ≡ 4096
    → bytes_at (head ++ zeros (journal_len slots) ++ table) (table_at slots i) 4096 ≡ take 4096 (drop (4096 * i) table)
block_of_table slots head table i h =
    ap (take 4096) (drop_past (head ++ zeros (journal_len slots)) table (4096 + journal_len slots) (4096 * i)
    (table_at slots i)
    (omega (arith, length-append head (zeros (journal_len slots)), length-replicate {A = ℕ} (journal_len slots) 0))
    (table_at_is slots i))

-- and so is what recovery leaves of it, with zeros between header and table
pub slot_of_table : (slots : ℕ) (head table : List ℕ) (i : ℕ) → length head ≡ 4096
    → recovered_slot slots (head ++ zeros (journal_len slots) ++ table) i ≡ take 4096 (drop (4096 * i) table)
slot_of_table slots head table i h =
    recovered_slot-at_rest slots (head ++ zeros (journal_len slots) ++ table) i
    (not_raised (journal_len slots) head table h (journal_some slots)) ∙ block_of_table slots head table i h

-- recovery leaves an image with zeros between its header and its table as it is
pub recovered-at_rest : (slots : ℕ) (head table : List ℕ) → length head ≡ 4096 → length table ≡ 4096 * slots
    → recovered slots (head ++ zeros (journal_len slots) ++ table) ≡ head ++ zeros (journal_len slots) ++ table
unfolding recovered
recovered-at_rest slots head table h t =
    let front : viewed_header slots (head ++ zeros (journal_len slots) ++ table) ≡ head =
    viewed_header-of_areas slots head table h in
    let back : flat_map (λ n. take 4096 (drop (4096 * n) table)) (numbers_from 0 slots) ≡ table =
    runs_join 4096 0 slots table (omega arith) in
    let slots_are : flat_map (recovered_slot slots (head ++ zeros (journal_len slots) ++ table)) (numbers_from 0 slots)
    ≡ table = (λ i. flat_map (λ n. slot_of_table slots head table n h i) (numbers_from 0 slots)) ∙ back in
    λ i. front i ++ zeros (journal_len slots) ++ slots_are i

-- a layout is its own recovery
pub recovered-layout : (t : Tree) (p : Parameters) → IsParameters p → IsTree t → Fits t p
    → recovered p.slots (layout t p) ≡ layout t p
unfolding layout draw_of
recovered-layout t p is tree fits = recovered-at_rest p.slots (header p) (table_bytes (place (draw_of p) (pages t p)))
    (length-header p is) (length-place_bytes (draw_of p) (pages t p)
    (IsLawful-draw_of p is) fits.room (tree_pages_are_pages t p is tree fits))

-- a layout begins with its header
pub header-layout : (t : Tree) (p : Parameters) → IsParameters p → take 4096 (layout t p) ≡ header p
unfolding layout
header-layout t p is = take_head 4096 (journal_len p.slots) (header p)
    (table_bytes (place (draw_of p) (pages t p))) (length-header p is)

-- which is read as it stands
pub viewed_header-layout : (t : Tree) (p : Parameters) → IsParameters p → viewed_header p.slots (layout t p) ≡ header p
unfolding layout
viewed_header-layout t p is = viewed_header-of_areas p.slots (header p)
    (table_bytes (place (draw_of p) (pages t p))) (length-header p is)

-- so a layout represents its tree
pub Represents-layout : (t : Tree) (p : Parameters) → IsParameters p → IsTree t → Fits t p → Represents (layout t p) t p
Represents-layout t p is tree fits = record {
  names = record { in_range = is; header_is = viewed_header-layout t p is };
  length_is = length-layout t p is tree fits;
  tree = tree;
  fits = fits;
  layout_is = recovered-layout t p is tree fits;
}

-- an image that represents a tree represents it once recovered
pub Represents-recovered : (image : List ℕ) (t : Tree) (p : Parameters) → Represents image t p
    → Represents (recovered p.slots image) t p
Represents-recovered image t p r = subst (λ (x : List ℕ). Represents x t p) (sym r.layout_is)
    (Represents-layout t p r.names.in_range r.tree r.fits)

-- bytes that lie in an image are as many as are asked for
length-bytes_at : (image : List ℕ) (at n : ℕ) → at + n ≤ length image → length (bytes_at image at n) ≡ n
length-bytes_at image at n h = omega (arith, length-take n (drop at image), length-drop at image)

-- a shadow block lies in the image
shadow_in_image : (slots i : ℕ) → i < slots → shadow_at slots i + 4096 ≤ image_len slots
unfolding shadow_at image_len
shadow_in_image slots i h = omega arith

-- a slot lies in the image
table_in_image : (slots i : ℕ) → i < slots → table_at slots i + 4096 ≤ image_len slots
unfolding table_at image_len
table_in_image slots i h = omega arith

-- what recovery leaves in a slot is a block
pub length-recovered_slot : (slots : ℕ) (image : List ℕ) (i : ℕ) → length image ≡ image_len slots → i < slots
    → length (recovered_slot slots image i) ≡ 4096
unfolding recovered_slot
length-recovered_slot slots image i h lt = either (is_flag_set image && is_marked image i)
  where
    either : (b : Bool) → length (bytes_at image (if b then shadow_at slots i else table_at slots i) 4096) ≡ 4096
    either true = length-bytes_at image (shadow_at slots i) 4096 (omega (arith, shadow_in_image slots i lt))
    either false = length-bytes_at image (table_at slots i) 4096 (omega (arith, table_in_image slots i lt))

-- what holds of each number of a range holds of each of its list
pub AllByRecursion-numbers_from : (P : ℕ → Type 0) (first count : ℕ) → ((i : ℕ) → i < first + count → P i)
    → AllByRecursion P (numbers_from first count)
unfolding numbers_from
AllByRecursion-numbers_from P first zero f = tt
AllByRecursion-numbers_from P first (suc count) f =
    (f first (omega arith), AllByRecursion-numbers_from P (suc first) count (λ i h. f i (omega arith)))

-- the slots that recovery leaves are as many blocks
pub length-recovered_slots : (slots : ℕ) (image : List ℕ) → length image ≡ image_len slots
    → length (flat_map (recovered_slot slots image) (numbers_from 0 slots)) ≡ 4096 * slots
length-recovered_slots slots image h =
    length-flat_map_same (recovered_slot slots image) 4096 (numbers_from 0 slots)
    (AllByRecursion-numbers_from (λ i. length (recovered_slot slots image i) ≡ 4096) 0 slots
    (λ i lt. length-recovered_slot slots image i h (omega arith)))
    ∙ ap (λ n. 4096 * n) (length-numbers_from 0 slots)

-- the header lies in the image
pub header_in_image : (slots : ℕ) → 4096 ≤ image_len slots
unfolding image_len
header_in_image slots = omega arith

-- recovery keeps the length of an image
pub length-recovered : (slots : ℕ) (image : List ℕ) → length image ≡ image_len slots
    → length (recovered slots image) ≡ image_len slots
unfolding recovered
length-recovered slots image h = length-areas slots (viewed_header slots image)
    (flat_map (recovered_slot slots image) (numbers_from 0 slots))
    (length-viewed_header slots image (omega (arith, header_in_image slots))) (length-recovered_slots slots image h)

-- the areas that recovery leaves
pub recovered_areas : (slots : ℕ) (image : List ℕ)
    → recovered slots image ≡ viewed_header slots image ++ zeros (journal_len slots)
    ++ flat_map (recovered_slot slots image) (numbers_from 0 slots)
unfolding recovered
recovered_areas slots image = refl

-- recovery of what recovery left leaves the same
pub recovered-recovered : (slots : ℕ) (image : List ℕ) → length image ≡ image_len slots
    → recovered slots (recovered slots image) ≡ recovered slots image
recovered-recovered slots image h =
    ap (recovered slots) (recovered_areas slots image)
    ∙ recovered-at_rest slots (viewed_header slots image) (flat_map (recovered_slot slots image) (numbers_from 0 slots))
    (length-viewed_header slots image (omega (arith, header_in_image slots))) (length-recovered_slots slots image h)
    ∙ sym (recovered_areas slots image)
