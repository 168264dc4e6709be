-- A page with one cell more: where the cell's key stands, and what becomes of the bytes.
use Rattle.std.proofs.Common.{◌≡◌, ℕ, zero, suc, ◌+◌, ◌-◌, ◌*◌, ◌≤◌, ◌<◌, List, [], ◌∷◌, ◌++◌, map, length, take, drop}
use Rattle.std.proofs.Common.{set, slice_index, Less, sym, ap, ap₂, subst, ◌∙◌, arith, append_assoc, length-append}
use Rattle.std.specs.Prelude.{slice_get, IfSome}
use Rattle.std.specs.List.{flat_map, AllByRecursion}
use Rattle.std.specs.List.Sorted.{IsStrictlySortedBy}
use Rattle.std.specs.Cmp.Lexicographic.{nat_list_cmp_total}
use Rattle.std.proofs.lemmas.Grind.{flat_map-append}
use Rattle.std.proofs.lemmas.List.{take_at, drop_at, set_at, take_all, take-append-drop, take-append-le, drop-take}
use Rattle.std.proofs.lemmas.List.{drop-drop, drop-replicate, length-take-le, length-drop, map-append, append-nil}
use Rattle.std.proofs.Common.{take-take}
use borrow.Rule.Slice.PartMut.{put_mid}
use Rattle.store_model.specs.Lists.{zeros, zero_filled}
use Rattle.store_model.specs.Paths.{key_cmp}
use Rattle.store_model.specs.Labels.{Label, label_bytes}
use Rattle.store_model.specs.Pages.{Cell, Page, page_room, IsCell, IsPage}
use Rattle.store_model.specs.Images.{cell_bytes, page_bytes}
use Rattle.store_model.proofs.ListsLemmas.{IsBelow, all_weaker, all_with, all_append, all_back, rising_append}
use Rattle.store_model.proofs.ListsLemmas.{rising_cons, rising_head, rising_tail, rising_front, rising_back}
use Rattle.store_model.proofs.ImagesLemmas.{length-label_bytes}
use Rattle.node_pages.specs.CellAreas.{cell_size}
use Rattle.node_pages.specs.PageSlots.{page_in, IsSlotOf}
use Rattle.node_pages.specs.Insertions.{TakesCell, with_cell}
use Rattle.node_pages.proofs.CellBytes.{length-cell_bytes, length-cells_bytes}
use Rattle.node_pages.proofs.Filled.{length-zeros, put_mid_to_end}
use Rattle.node_pages.proofs.Packed.{front_bytes, halves, between_bytes, front_each, back_each}
use Rattle.node_pages.proofs.PageBytes.{page_parts, parts_of_page, count_of_parts, area_of_parts}

-- ---- the place of a key

-- the keys of cells
abbrev pub keys : List Cell → List (List ℕ)
keys cells = map (λ c. c.key) cells

-- the keys up to one that is below another
pub all_below : (i : ℕ) (cells : List Cell) (last key : List ℕ) → IsStrictlySortedBy key_cmp (keys cells)
    → i < length cells → IfSome (slice_get cells i) (λ cell. cell.key ≡ last) → key_cmp last key ≡ Less
    → AllByRecursion (λ k. key_cmp k key ≡ Less) (keys (take (suc i) cells))
all_below i [] last key rising within found less = absurd (omega arith)
all_below zero (c ∷ cells) last key rising within found less = (subst (λ k. key_cmp k key ≡ Less) (sym found) less, tt)
all_below (suc i) (c ∷ []) last key rising within found less = absurd (omega arith)
all_below (suc i) (c ∷ d ∷ cells) last key rising within found less =
    let rest = all_below i (d ∷ cells) last key (rising_tail key_cmp c.key (keys (d ∷ cells)) rising)
    (omega arith) found less in
    (nat_list_cmp_total.trans c.key d.key key (rising_head key_cmp c.key (keys (d ∷ cells)) rising).0 rest.0, rest)

-- the last of keys that are below another
pub last_below : (i : ℕ) (cells : List Cell) (last key : List ℕ) → i < length cells
    → IfSome (slice_get cells i) (λ cell. cell.key ≡ last)
    → AllByRecursion (λ k. key_cmp k key ≡ Less) (keys (take (suc i) cells))
    → key_cmp last key ≡ Less
last_below i [] last key within found all = absurd (omega arith)
last_below zero (c ∷ cells) last key within found all = subst (λ k. key_cmp k key ≡ Less) found all.0
last_below (suc i) (c ∷ cells) last key within found all = last_below i cells last key (omega arith) found all.1

-- the keys from one on that is above another
pub all_above : (i : ℕ) (cells : List Cell) (first key : List ℕ) → IsStrictlySortedBy key_cmp (keys cells)
    → i < length cells → IfSome (slice_get cells i) (λ cell. cell.key ≡ first) → key_cmp key first ≡ Less
    → AllByRecursion (λ k. key_cmp key k ≡ Less) (keys (drop i cells))
all_above i [] first key rising within found less = absurd (omega arith)
all_above zero (c ∷ cells) first key rising within found less =
    let here : key_cmp key c.key ≡ Less = subst (λ k. key_cmp key k ≡ Less) (sym found) less in (
      here,
      all_weaker (λ k. key_cmp c.key k ≡ Less) (λ k. key_cmp key k ≡ Less)
          (λ k h. nat_list_cmp_total.trans key c.key k here h) (keys cells)
          (rising_head key_cmp c.key (keys cells) rising),
    )
all_above (suc i) (c ∷ cells) first key rising within found less =
    all_above i cells first key (rising_tail key_cmp c.key (keys cells) rising) (omega arith) found less

-- the first of keys that are above another
pub first_above : (i : ℕ) (cells : List Cell) (first key : List ℕ) → i < length cells
    → IfSome (slice_get cells i) (λ cell. cell.key ≡ first)
    → AllByRecursion (λ k. key_cmp key k ≡ Less) (keys (drop i cells))
    → key_cmp key first ≡ Less
first_above i [] first key within found all = absurd (omega arith)
first_above zero (c ∷ cells) first key within found all = subst (λ k. key_cmp key k ≡ Less) found all.0
first_above (suc i) (c ∷ cells) first key within found all = first_above i cells first key (omega arith) found all

-- of keys that rise each is below those behind it
below_back : (xs ys : List (List ℕ)) → IsStrictlySortedBy key_cmp (xs ++ ys) → IsBelow key_cmp xs ys
unfolding IsStrictlySortedBy
below_back [] ys h = tt
below_back (x ∷ xs) ys h = (all_back (λ y. key_cmp x y ≡ Less) xs ys h.0, below_back xs ys h.1)

-- the keys of cells in two parts
pub rising_halves : (n : ℕ) (cells : List Cell) → IsStrictlySortedBy key_cmp (keys cells)
    → IsStrictlySortedBy key_cmp (keys (take n cells) ++ keys (drop n cells))
rising_halves n cells = subst (IsStrictlySortedBy key_cmp)
    (ap keys (sym (take-append-drop n cells)) ∙ map-append (λ (c : Cell). c.key) (take n cells) (drop n cells))

-- a key put between keys that rise
pub put_between : (key : List ℕ) (xs ys : List (List ℕ)) → IsStrictlySortedBy key_cmp (xs ++ ys)
    → AllByRecursion (λ k. key_cmp k key ≡ Less) xs → AllByRecursion (λ k. key_cmp key k ≡ Less) ys
    → IsStrictlySortedBy key_cmp (xs ++ key ∷ ys)
put_between key xs ys rising low high =
    rising_append key_cmp xs (key ∷ ys) (rising_front key_cmp xs ys rising)
    (rising_cons key_cmp key ys high (rising_back key_cmp xs ys rising))
    (all_with (λ x. key_cmp x key ≡ Less) (λ x. AllByRecursion (λ y. key_cmp x y ≡ Less) ys)
    (λ x. AllByRecursion (λ y. key_cmp x y ≡ Less) (key ∷ ys)) (λ x p q. (p, q)) xs low (below_back xs ys rising))

-- and what stands on its two sides
pub stands_above : (key : List ℕ) (xs ys : List (List ℕ)) → IsStrictlySortedBy key_cmp (xs ++ key ∷ ys)
    → AllByRecursion (λ k. key_cmp k key ≡ Less) xs
stands_above key xs ys rising = all_weaker (λ x. AllByRecursion (λ y. key_cmp x y ≡ Less) (key ∷ ys))
    (λ x. key_cmp x key ≡ Less) (λ x h. h.0) xs (below_back xs (key ∷ ys) rising)

pub stands_below : (key : List ℕ) (xs ys : List (List ℕ)) → IsStrictlySortedBy key_cmp (xs ++ key ∷ ys)
    → AllByRecursion (λ k. key_cmp key k ≡ Less) ys
stands_below key xs ys rising = rising_head key_cmp key ys (rising_back key_cmp xs (key ∷ ys) rising)

-- ---- the page

-- the keys of the page with the cell
keys_with : (page : Page) (at : ℕ) (cell : Cell)
    → keys (with_cell page at cell).cells ≡ keys (take at page.cells) ++ cell.key ∷ keys (drop at page.cells)
keys_with page at cell = map-append (λ (c : Cell). c.key) (take at page.cells) (cell ∷ drop at page.cells)

-- and how many cells it has
length-with_cell : (page : Page) (at : ℕ) (cell : Cell) → at ≤ length page.cells
    → length (with_cell page at cell).cells ≡ length page.cells + 1
length-with_cell page at cell within =
    omega (
      arith,
      length-append (take at page.cells) (cell ∷ drop at page.cells),
      length-take-le at page.cells within,
      length-drop at page.cells,
    )

-- a page takes a cell where it has room for it and the key stands between its neighbours
pub takes_from : (page : Page) (at : ℕ) (cell : Cell) → IsPage page → at ≤ length page.cells
    → length page.cells < page_room page.label.level → IsCell page.label.level cell
    → IsStrictlySortedBy key_cmp (keys (take at page.cells) ++ cell.key ∷ keys (drop at page.cells))
    → TakesCell page at cell
takes_from page at cell is within room is_cell rising =
    let long = length-with_cell page at cell within in
    record {
      within = within;
      valid = record {
        label = is.label;
        some_cell = omega (arith, long);
        room = omega (arith, long);
        cells = all_append (IsCell page.label.level) (take at page.cells) (cell ∷ drop at page.cells)
            (front_each page.label.level at page.cells is.cells)
            (is_cell, back_each page.label.level at page.cells is.cells);
        rising = subst (IsStrictlySortedBy key_cmp) (sym (keys_with page at cell)) rising;
      };
    }

-- and only there
pub taken_room : (page : Page) (at : ℕ) (cell : Cell) → TakesCell page at cell
    → length page.cells < page_room page.label.level
taken_room page at cell takes = omega (arith, takes.valid.room, length-with_cell page at cell takes.within)

pub taken_cell : (page : Page) (at : ℕ) (cell : Cell) → TakesCell page at cell → IsCell page.label.level cell
taken_cell page at cell takes =
    (all_back (IsCell page.label.level) (take at page.cells) (cell ∷ drop at page.cells) takes.valid.cells).0

pub taken_between : (page : Page) (at : ℕ) (cell : Cell) → TakesCell page at cell
    → IsStrictlySortedBy key_cmp (keys (take at page.cells) ++ cell.key ∷ keys (drop at page.cells))
taken_between page at cell takes = subst (IsStrictlySortedBy key_cmp) (keys_with page at cell) takes.valid.rising

-- ---- the bytes

regroup : (a b c d : List ℕ) → a ++ (b ++ (c ++ d)) ≡ a ++ b ++ c ++ d
regroup a b c d = sym (append_assoc (a ++ b) c d ∙ append_assoc a b (c ++ d))

-- a write over the part behind a front
part_written : (front part rest new : List ℕ) (n k : ℕ) → length front ≡ n → length part ≡ k
    → put_mid n k (front ++ (part ++ rest)) new ≡ front ++ (new ++ rest)
part_written front part rest new n k front_long part_long =
    ap₂ (λ (xs ys : List ℕ). xs ++ (new ++ ys)) (take_at front (part ++ rest) n front_long)
    (ap (drop k) (drop_at front (part ++ rest) n front_long) ∙ drop_at part rest k part_long)

-- bytes moved up, and zeros written in their place
pub room_made : (area moved blank : List ℕ) (from end size k : ℕ) → from ≤ end → end + size ≤ length area → k ≡ size
    → moved ≡ take (from + size) area ++ take (end - from) (drop from area) ++ drop (from + size + (end - from)) area
    → blank ≡ zeros size
    → put_mid from k moved blank ≡ take from area ++ zeros size ++ drop from (take end area) ++ drop (end + size) area
room_made area moved blank from end size k order room k_is moved_is blank_is =
    let head = take (from + size) area in
    let middle = take (end - from) (drop from area) in
    let rest = drop (from + size + (end - from)) area in
    let up_to : from + (end - from) ≡ end = omega arith in
    let behind : from + size + (end - from) ≡ end + size = omega arith in
    let middle_is : middle ≡ drop from (take end area) =
    sym (drop-take from (end - from) area) ∙ ap (λ n. drop from (take n area)) up_to in
    let head_long : length head ≡ from + size = length-take-le (from + size) area (omega arith) in
    let front_is : take from (head ++ (middle ++ rest)) ≡ take from area =
    take-append-le from head (middle ++ rest) (omega arith) ∙ take-take from (from + size) area (omega arith) in
    let back_is : drop k (drop from (head ++ (middle ++ rest))) ≡ middle ++ rest =
    drop-drop k from (head ++ (middle ++ rest)) ∙ drop_at head (middle ++ rest) (from + k) (omega arith) in
    ap (λ (xs : List ℕ). put_mid from k xs blank) (moved_is ∙ append_assoc head middle rest)
    ∙ ap₂ (λ (xs ys : List ℕ). xs ++ (blank ++ ys)) front_is back_is
    ∙ ap₂ (λ (xs ys : List ℕ). take from area ++ (xs ++ ys)) blank_is
    (ap₂ (λ (xs ys : List ℕ). xs ++ ys) middle_is (ap (λ n. drop n area) behind))
    ∙ regroup (take from area) (zeros size) (drop from (take end area)) (drop (end + size) area)

-- the room that was made is as long as it was to be
pub opened_room : (area opened : List ℕ) (from end size k : ℕ) → from ≤ end → end + size ≤ length area → k ≡ size
    → opened ≡ take from area ++ zeros size ++ drop from (take end area) ++ drop (end + size) area
    → length (take k (drop from opened)) ≡ size
opened_room area opened from end size k order room k_is opened_is =
    let front = take from area in
    let rest = drop from (take end area) ++ drop (end + size) area in
    let split : opened ≡ front ++ (zeros size ++ rest) =
    opened_is ∙ sym (regroup front (zeros size) (drop from (take end area)) (drop (end + size) area)) in
    let behind : drop from opened ≡ zeros size ++ rest =
    ap (drop from) split ∙ drop_at front (zeros size ++ rest) from (length-take-le from area (omega arith)) in
    ap (λ (xs : List ℕ). length (take k xs)) behind
    ∙ ap length (take_at (zeros size) rest k (length-zeros size ∙ sym k_is)) ∙ length-zeros size

-- zeros that are filled up are written over
pub filled_whole : (n : ℕ) (bytes : List ℕ) → length bytes ≡ n → zero_filled n bytes ≡ bytes
unfolding zero_filled
filled_whole n bytes long = let none : n - length bytes ≡ 0 = omega arith
    in ap (λ m. bytes ++ zeros m) none ∙ append-nil bytes

-- a cell written over those zeros
pub cell_put : (front middle rest opened written bytes : List ℕ) (from size k : ℕ) → length front ≡ from → k ≡ size
    → opened ≡ front ++ zeros size ++ middle ++ rest → written ≡ bytes
    → put_mid from k opened written ≡ front ++ bytes ++ middle ++ rest
cell_put front middle rest opened written bytes from size k long k_is opened_is written_is =
    ap (λ (xs : List ℕ). put_mid from k xs written) (opened_is ∙ sym (regroup front (zeros size) middle rest))
    ∙ part_written front (zeros size) (middle ++ rest) written from k long (length-zeros size ∙ sym k_is)
    ∙ ap (λ (xs : List ℕ). front ++ (xs ++ (middle ++ rest))) written_is
    ∙ regroup front bytes middle rest

-- the area of a page's cells with the cell put in
inserted_area : (level at : ℕ) (cells : List Cell) (cell : Cell) (area : List ℕ) → AllByRecursion (IsCell level) cells
    → IsCell level cell → at ≤ length cells
    → area ≡ flat_map cell_bytes cells ++ zeros (3964 - length (flat_map cell_bytes cells))
    → take (cell_size level * at) area ++ cell_bytes cell
    ++ drop (cell_size level * at) (take (cell_size level * length cells) area)
    ++ drop (cell_size level * length cells + cell_size level) area
    ≡ zero_filled 3964 (flat_map cell_bytes (take at cells ++ cell ∷ drop at cells))
unfolding zero_filled
inserted_area level at cells cell area each is within area_is =
    let size = cell_size level in
    let flat = flat_map cell_bytes cells in
    let front = flat_map cell_bytes (take at cells) in
    let back = flat_map cell_bytes (drop at cells) in
    let bytes = cell_bytes cell in
    let left = 3964 - length flat in
    let front_is : take (size * at) area ≡ front =
    ap (take (size * at)) area_is ∙ front_bytes level at cells (zeros left) each within in
    let back_is : drop (size * at) (take (size * length cells) area) ≡ back =
    ap (λ (xs : List ℕ). drop (size * at) (take (size * length cells) xs)) area_is
    ∙ between_bytes level at (length cells) cells (zeros left) each within (omega arith)
    ∙ ap (λ xs. flat_map cell_bytes (drop at xs)) (take_all (length cells) cells (omega arith)) in
    let rest_is : drop (size * length cells + size) area ≡ zeros (left - size) =
    ap (drop (size * length cells + size)) area_is ∙ sym (drop-drop size (size * length cells) (flat ++ zeros left))
    ∙ ap (drop size) (drop_at flat (zeros left) (size * length cells) (length-cells_bytes level cells each))
    ∙ drop-replicate size left 0 in
    let made : flat_map cell_bytes (take at cells ++ cell ∷ drop at cells) ≡ front ++ bytes ++ back =
    flat_map-append cell_bytes (take at cells) (cell ∷ drop at cells) ∙ sym (append_assoc front bytes back) in
    let fill : left - size ≡ 3964 - length (flat_map cell_bytes (take at cells ++ cell ∷ drop at cells)) =
    omega (
      arith,
      ap length made,
      length-append (front ++ bytes) back,
      length-append front bytes,
      length-cell_bytes level cell is,
      ap length (halves at cells),
      length-append front back,
    ) in
    ap₂ (λ (xs ys : List ℕ). xs ++ bytes ++ ys ++ drop (size * length cells + size) area) front_is back_is
    ∙ ap₂ (λ (xs ys : List ℕ). xs ++ ys) (sym made) (rest_is ∙ ap zeros fill)

-- the slot once the cell is counted and put in
pub slot_with : (label : Label) (slot area written : List ℕ) (at from end size : ℕ) (cell : Cell) → IsSlotOf label slot
    → length slot ≡ 4096 → at ≤ slice_index slot 131 → IsCell label.level cell
    → area ≡ drop 132 slot → size ≡ cell_size label.level → from ≡ size * at → end ≡ size * slice_index slot 131
    → written ≡ take from area ++ cell_bytes cell ++ drop from (take end area)
    ++ drop (end + cell_size label.level) area
    → put_mid 132 3964 (set slot 131 (slice_index slot 131 + 1)) written
    ≡ page_bytes (with_cell (page_in label slot) at cell)
unfolding zero_filled
slot_with label slot area written at from end size cell holds long within is area_is size_is from_is end_is written_is =
    let page = page_in label slot in
    let valid = holds.page.label in
    let level = label.level in
    let parts = parts_of_page page slot valid holds.bytes in
    let front = 1 ∷ label_bytes label in
    let v = slice_index slot 131 + 1 in
    let cells_area = zero_filled 3964 (flat_map cell_bytes page.cells) in
    let count_is : slice_index slot 131 ≡ length page.cells = count_of_parts _ _ _ slot parts in
    let behind : drop 132 slot ≡ cells_area = area_of_parts _ _ _ slot parts in
    let front_long : length front ≡ 131 = ap suc (length-label_bytes label valid) in
    let counted : set slot 131 v ≡ (front ++ v ∷ []) ++ cells_area =
    ap (λ (xs : List ℕ). set xs 131 v) parts.whole ∙ set_at front (length page.cells) cells_area v 131 front_long
    ∙ sym (append_assoc front (v ∷ []) cells_area) in
    let from_at : from ≡ cell_size level * at = from_is ∙ ap (λ n. n * at) size_is in
    let end_at : end ≡ cell_size level * length page.cells = end_is ∙ ap₂ (λ m n. m * n) size_is count_is in
    let put : written ≡ zero_filled 3964 (flat_map cell_bytes (with_cell page at cell).cells) =
    written_is ∙ ap₂ (λ m n. take m area ++ cell_bytes cell ++ drop m (take n area) ++ drop (n + cell_size level) area)
    from_at end_at
    ∙ inserted_area level at page.cells cell area holds.page.cells is (omega arith) (area_is ∙ behind) in
    ap (λ (xs : List ℕ). put_mid 132 3964 xs written) counted
    ∙ put_mid_to_end (front ++ v ∷ []) cells_area written 132 3964
    (omega (arith, length-append front (v ∷ []), front_long))
    (omega (arith, ap length behind, length-drop 132 slot))
    ∙ append_assoc front (v ∷ []) written
    ∙ ap₂ (λ n (xs : List ℕ). front ++ (n ∷ xs))
    (ap (λ n. n + 1) count_is ∙ sym (length-with_cell page at cell (omega arith))) put
    ∙ sym (page_parts (with_cell page at cell) valid)
