-- Cells packed one behind the other: where some of them lie, and what stands there.
use Rattle.std.proofs.Common.{◌≡◌, ℕ, zero, suc, ◌+◌, ◌-◌, ◌*◌, ◌≤◌, ◌<◌, List, [], ◌∷◌, ◌++◌, length, take, drop, set}
use Rattle.std.proofs.Common.{Some, refl, sym, ap, ap₂, subst, ◌∙◌, arith, append_assoc, length-append, mul-le-mul_left}
use Rattle.std.specs.Prelude.{slice_get, IfSome}
use Rattle.std.specs.List.{flat_map, AllByRecursion}
use Rattle.std.proofs.lemmas.Grind.{flat_map-append}
use Rattle.std.proofs.lemmas.List.{take_at, drop_at, set_at, take-append-drop, append-nil, length-take-le}
use Rattle.std.proofs.lemmas.List.{drop-replicate}
use borrow.Rule.Slice.PartMut.{put_mid}
use Rattle.store_model.specs.Lists.{zeros, zero_filled}
use Rattle.store_model.specs.Labels.{Label, IsLabel, label_bytes}
use Rattle.store_model.specs.Pages.{Cell, Page, page_room, IsCell}
use Rattle.store_model.specs.Images.{cell_bytes, page_bytes}
use Rattle.store_model.proofs.ListsLemmas.{all_front, all_back}
use Rattle.store_base.specs.Keys.{IsKey}
use Rattle.store_model.proofs.ImagesLemmas.{length-label_bytes}
use Rattle.node_pages.specs.CellAreas.{cell_size, SpellsCell}
use Rattle.node_pages.specs.PageSlots.{cell_in, cells_in, page_in, IsSlotOf, ArePacked}
use Rattle.node_pages.proofs.CellBytes.{length-cell_bytes, length-cells_bytes, cell_in-cell_bytes}
use Rattle.node_pages.proofs.CellBytes.{SpellsCell-cell_bytes}
use Rattle.node_pages.proofs.PageBytes.{length-cells_in, cells_fit, page_parts, parts_of_page, area_of_parts}

-- ---- a part of the bytes

pub front_each : (level n : ℕ) (cells : List Cell) → AllByRecursion (IsCell level) cells
    → AllByRecursion (IsCell level) (take n cells)
front_each level n cells each = all_front (IsCell level) (take n cells) (drop n cells)
    (subst (AllByRecursion (IsCell level)) (sym (take-append-drop n cells)) each)

pub back_each : (level n : ℕ) (cells : List Cell) → AllByRecursion (IsCell level) cells
    → AllByRecursion (IsCell level) (drop n cells)
back_each level n cells each = all_back (IsCell level) (take n cells) (drop n cells)
    (subst (AllByRecursion (IsCell level)) (sym (take-append-drop n cells)) each)

length-front : (level n : ℕ) (cells : List Cell) → AllByRecursion (IsCell level) cells → n ≤ length cells
    → length (flat_map cell_bytes (take n cells)) ≡ cell_size level * n
length-front level n cells each within = length-cells_bytes level (take n cells) (front_each level n cells each)
    ∙ ap (λ k. cell_size level * k) (length-take-le n cells within)

pub halves : (n : ℕ) (cells : List Cell) → flat_map cell_bytes cells ≡ flat_map cell_bytes (take n cells)
    ++ flat_map cell_bytes (drop n cells)
halves n cells = ap (flat_map cell_bytes) (sym (take-append-drop n cells))
    ∙ flat_map-append cell_bytes (take n cells) (drop n cells)

-- the bytes of the first cells
pub front_bytes : (level n : ℕ) (cells : List Cell) (rest : List ℕ) → AllByRecursion (IsCell level) cells
    → n ≤ length cells → take (cell_size level * n) (flat_map cell_bytes cells ++ rest)
    ≡ flat_map cell_bytes (take n cells)
front_bytes level n cells rest each within =
    let front = flat_map cell_bytes (take n cells) in
    let back = flat_map cell_bytes (drop n cells) in
    ap (take (cell_size level * n)) (ap (λ (xs : List ℕ). xs ++ rest) (halves n cells) ∙ append_assoc front back rest)
    ∙ take_at front (back ++ rest) (cell_size level * n) (length-front level n cells each within)

-- the bytes of the last cells
back_bytes : (level n : ℕ) (cells : List Cell) → AllByRecursion (IsCell level) cells → n ≤ length cells
    → drop (cell_size level * n) (flat_map cell_bytes cells) ≡ flat_map cell_bytes (drop n cells)
back_bytes level n cells each within =
    ap (drop (cell_size level * n)) (halves n cells)
    ∙ drop_at (flat_map cell_bytes (take n cells)) (flat_map cell_bytes (drop n cells)) (cell_size level * n)
    (length-front level n cells each within)

-- the bytes of cells from one number up to another, whatever stands behind them all
pub between_bytes : (level first past : ℕ) (cells : List Cell) (rest : List ℕ) → AllByRecursion (IsCell level) cells
    → first ≤ past → past ≤ length cells
    → drop (cell_size level * first) (take (cell_size level * past) (flat_map cell_bytes cells ++ rest))
    ≡ flat_map cell_bytes (drop first (take past cells))
between_bytes level first past cells rest each order within =
    ap (drop (cell_size level * first)) (front_bytes level past cells rest each within)
    ∙ back_bytes level first (take past cells) (front_each level past cells each)
    (omega (arith, order, length-take-le past cells within))

-- so many of the cells are within the bytes
pub front_within : (level past : ℕ) (cells : List Cell) (rest : List ℕ) → AllByRecursion (IsCell level) cells
    → past ≤ length cells → cell_size level * past ≤ length (flat_map cell_bytes cells ++ rest)
front_within level past cells rest each within =
    let more : cell_size level * past ≤ cell_size level * length cells = mul-le-mul_left (cell_size level) within in
    omega (arith, more, length-append (flat_map cell_bytes cells) rest, length-cells_bytes level cells each)

-- ---- one cell

one_of : (level i : ℕ) (cells : List Cell) → AllByRecursion (IsCell level) cells → i < length cells
    → (cell : Cell) × (slice_get cells i ≡ Some cell) × (drop i (take (i + 1) cells) ≡ cell ∷ []) × IsCell level cell
one_of level i [] each below = absurd (omega arith)
one_of level zero (cell ∷ cells) each below = (cell, refl, refl, each.0)
one_of level (suc i) (cell ∷ cells) each below =
    let rest = one_of level i cells each.1 (omega arith) in
    let next : suc i + 1 ≡ suc (i + 1) = omega arith in
    (rest.0, rest.1, ap (λ n. drop (suc i) (take n (cell ∷ cells))) next ∙ rest.2, rest.3)

-- bytes are those of cell i
pub record IsCellAt (level i : ℕ) (cells : List Cell) (bytes : List ℕ) : Type 0 where
  pub long : length bytes ≡ cell_size level
  pub spells : SpellsCell level bytes
  pub got : slice_get cells i ≡ Some (cell_in level bytes)
  pub valid : IsCell level (cell_in level bytes)

pub cell_at : (level i : ℕ) (cells : List Cell) (bytes : List ℕ) → AllByRecursion (IsCell level) cells
    → i < length cells → bytes ≡ flat_map cell_bytes (drop i (take (i + 1) cells)) → IsCellAt level i cells bytes
cell_at level i cells bytes each below bytes_are =
    let one = one_of level i cells each below in
    let here : cell_bytes one.0 ≡ bytes =
    sym (bytes_are ∙ ap (flat_map cell_bytes) one.2 ∙ append-nil (cell_bytes one.0)) in
    let read : one.0 ≡ cell_in level bytes = sym (cell_in-cell_bytes level one.0 one.3) ∙ ap (cell_in level) here in
    record {
      long = ap length (sym here) ∙ length-cell_bytes level one.0 one.3;
      spells = subst (SpellsCell level) here (SpellsCell-cell_bytes level one.0 one.3);
      got = one.1 ∙ ap Some read;
      valid = subst (IsCell level) read one.3;
    }

-- the key of cell i: that it is the cell's, and a key
pub key_at : (level i : ℕ) (cells : List Cell) (bytes key : List ℕ) → IsCellAt level i cells bytes
    → key ≡ take 124 bytes → IfSome (slice_get cells i) (λ cell. cell.key ≡ key) × IsKey key
unfolding cell_in
key_at level i cells bytes key at key_is = (
  subst (λ o. IfSome o (λ (cell : Cell). cell.key ≡ key)) (sym at.got) (sym key_is),
  subst IsKey (sym key_is)
      (at.valid.key_length, at.valid.key_bytes),
)

pub packed_length : (level count : ℕ) (bytes : List ℕ) → ArePacked level count bytes
    → length bytes ≡ cell_size level * count
packed_length level count bytes packed = ap length (sym packed.spelled)
    ∙ length-cells_bytes level (cells_in level count bytes) packed.each
    ∙ ap (λ n. cell_size level * n) (length-cells_in level count bytes)

-- so many as a page of the level may have fit into its slot
pub packed_fits : (level count : ℕ) (bytes : List ℕ) → ArePacked level count bytes
    → count ≤ page_room level → length bytes ≤ 3964
packed_fits level count bytes packed room =
    omega (arith, packed_length level count bytes packed, cells_fit level count room)

-- ---- the cells of a slot

unfolded_area : (page : Page) (slot : List ℕ) → IsLabel page.label → page_bytes page ≡ slot
    → drop 132 slot ≡ flat_map cell_bytes page.cells ++ zeros (3964 - length (flat_map cell_bytes page.cells))
unfolding zero_filled
unfolded_area page slot valid spells = area_of_parts _ _ _ slot (parts_of_page page slot valid spells)

-- a part of the cells of a page, in its slot
pub slot_between : (label : Label) (slot area : List ℕ) (first past : ℕ) → IsSlotOf label slot → area ≡ drop 132 slot
    → first ≤ past → past ≤ length (page_in label slot).cells
    → (cell_size label.level * past ≤ length area)
    × (drop (cell_size label.level * first) (take (cell_size label.level * past) area)
    ≡ flat_map cell_bytes (drop first (take past (page_in label slot).cells)))
slot_between label slot area first past holds area_is order within =
    let page = page_in label slot in
    let flat = flat_map cell_bytes page.cells in
    let fill = zeros (3964 - length flat) in
    let whole : area ≡ flat ++ fill = area_is ∙ unfolded_area page slot holds.page.label holds.bytes in (
      subst (λ (xs : List ℕ). cell_size label.level * past ≤ length xs) (sym whole)
          (front_within label.level past page.cells fill holds.page.cells within),
      ap (λ (xs : List ℕ). drop (cell_size label.level * first) (take (cell_size label.level * past) xs)) whole
          ∙ between_bytes label.level first past page.cells fill holds.page.cells order within,
    )

-- the page of a label and cells
abbrev pub page_with : Label → List Cell → Page
page_with label cells = record { label = label; cells = cells }

-- the slot of a page with no cell, once cells are counted and written behind the count
pub filled_slot : (label : Label) (cells : List Cell) (slot run : List ℕ) (count k : ℕ) → IsLabel label
    → slot ≡ page_bytes (page_with label []) → run ≡ flat_map cell_bytes cells → count ≡ length cells → k ≡ length run
    → put_mid 132 k (set slot 131 count) run ≡ page_bytes (page_with label cells)
unfolding zero_filled
filled_slot label cells slot run count k valid empty run_is count_is k_is =
    let front = 1 ∷ label_bytes label in
    let long : length front ≡ 131 = ap suc (length-label_bytes label valid) in
    let counted : set slot 131 count ≡ front ++ (count ∷ zeros 3964) =
    ap (λ (xs : List ℕ). set xs 131 count) (empty ∙ page_parts (page_with label []) valid)
    ∙ set_at front 0 (zeros 3964) count 131 long in
    let regrouped : set slot 131 count ≡ (front ++ count ∷ []) ++ zeros 3964 =
    counted ∙ sym (append_assoc front (count ∷ []) (zeros 3964)) in
    let longer : length (front ++ count ∷ []) ≡ 132 = omega (arith, length-append front (count ∷ []), long) in
    let behind : drop k (drop 132 ((front ++ count ∷ []) ++ zeros 3964)) ≡ zeros (3964 - length run) =
    ap (drop k) (drop_at (front ++ count ∷ []) (zeros 3964) 132 longer) ∙ drop-replicate k 3964 0
    ∙ ap (λ n. zeros (3964 - n)) k_is in
    ap (λ (xs : List ℕ). put_mid 132 k xs run) regrouped
    ∙ ap₂ (λ (xs ys : List ℕ). xs ++ (run ++ ys)) (take_at (front ++ count ∷ []) (zeros 3964) 132 longer) behind
    ∙ append_assoc front (count ∷ []) (run ++ zeros (3964 - length run))
    ∙ ap₂ (λ n (xs : List ℕ). front ++ (n ∷ (xs ++ zeros (3964 - length xs)))) count_is run_is
    ∙ sym (page_parts (page_with label cells) valid)

-- cell i of a page, in its slot
pub page_cell_at : (label : Label) (slot : List ℕ) (i level : ℕ) (cell : List ℕ) (page : Page) → IsSlotOf label slot
    → page_in label slot ≡ page → level ≡ label.level → i < length page.cells
    → cell ≡ flat_map cell_bytes (drop i (take (i + 1) page.cells)) → IsCellAt level i page.cells cell
page_cell_at label slot i level cell page holds is level_is =
    subst (λ (p : Page). i < length p.cells → cell ≡ flat_map cell_bytes (drop i (take (i + 1) p.cells))
    → IsCellAt level i p.cells cell) is
    (cell_at level i (page_in label slot).cells cell
    (subst (λ n. AllByRecursion (IsCell n) (page_in label slot).cells) (sym level_is) holds.page.cells))
