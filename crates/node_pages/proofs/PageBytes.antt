-- Pages and their slots: what stands where in a slot, and that a slot is one page's alone.
use Rattle.std.proofs.Common.{◌≡◌, ℕ, zero, suc, ◌+◌, ◌-◌, ◌*◌, ◌≤◌, ◌<◌, Bool, List, [], ◌∷◌, ◌++◌, map, length, take}
use Rattle.std.proofs.Common.{drop, set, slice_index, refl, sym, ap, ap₂, subst, ◌∙◌, arith, append_assoc}
use Rattle.std.proofs.Common.{length-append, cond, true, false, ◌==◌, Less, mul-suc, take-add}
use Rattle.std.specs.List.{flat_map, AllByRecursion}
use Rattle.std.specs.List.Sorted.{IsStrictlySortedBy}
use Rattle.std.specs.Cmp.Lexicographic.{nat_list_cmp_total}
use Rattle.std.proofs.lemmas.List.{take_at, drop_at, get_or_at, append-nil, length-take-le, length-drop, drop-drop}
use Rattle.std.proofs.lemmas.List.{take-take, take-append-drop, drop_more, length_push, set_split, drop-set-lt}
use Rattle.store_model.specs.Lists.{IsBytes, zeros, zero_filled}
use Rattle.store_model.specs.Paths.{key_cmp}
use Rattle.store_model.specs.Labels.{Label, IsLabel, label_bytes}
use Rattle.store_model.specs.Pages.{Cell, Page, page_room, IsCell, IsPage}
use Rattle.store_model.specs.Images.{value_bytes, cell_bytes, page_bytes}
use Rattle.store_model.proofs.ListsLemmas.{all_weaker, all_append, rising_nil, rising_cons, rising_head, rising_tail}
use Rattle.store_model.proofs.ImagesLemmas.{length-label_bytes}
use Rattle.store_model.proofs.TreesLemmasBytes.{labels_same}
use borrow.Rule.Slice.PartMut.{put_mid}
use Rattle.store_base.proofs.Orders.{IsBytes-take, IsBytes-drop}
use Rattle.node_pages.specs.CellAreas.{cell_size, SpellsCell, SpellsRising, SpellsCells}
use Rattle.node_pages.specs.PageSlots.{appended, cell_in, cells_in, page_in, IsSlotOf}
use Rattle.node_pages.proofs.Filled.{zero_filled-append, length-zeros, put_mid_to_end, written_behind}
use Rattle.node_pages.proofs.CellBytes.{length-cell_bytes, length-cells_bytes, cell_read, cells_in-cell_bytes}
use Rattle.node_pages.proofs.CellBytes.{SpellsCell-cell_bytes}
use Rattle.node_pages.proofs.CellLists.{key_within}

pub length-cells_in : (level count : ℕ) (bytes : List ℕ) → length (cells_in level count bytes) ≡ count
unfolding cells_in
length-cells_in level zero bytes = refl
length-cells_in level (suc count) bytes = ap suc (length-cells_in level count (drop (cell_size level) bytes))

-- what is read of bytes that spell cells
pub record AreRead (level : ℕ) (last : List ℕ) (cells : List Cell) (bytes : List ℕ) : Type 0 where
  pub each : AllByRecursion (IsCell level) cells
  pub above : AllByRecursion (λ k. key_cmp last k ≡ Less) (map (λ c. c.key) cells)
  pub rising : IsStrictlySortedBy key_cmp (map (λ c. c.key) cells)
  pub spelled : flat_map cell_bytes cells ≡ bytes

cells_are_read : (level count : ℕ) (last bytes : List ℕ) → cell_size level * count ≤ length bytes → IsBytes bytes
    → SpellsRising level last count bytes
    → AreRead level last (cells_in level count bytes) (take (cell_size level * count) bytes)
unfolding SpellsRising cells_in cell_in
cells_are_read level zero last bytes room fits spells = record {
  each = tt;
  above = tt;
  rising = rising_nil key_cmp;
  spelled = ap (λ n. take n bytes) (let none : 0 ≡ cell_size level * 0 = omega arith in none);
}
cells_are_read level (suc count) last bytes room fits spells =
    let size = cell_size level in
    let first_room : size ≤ length bytes = omega (arith, room, mul-suc size count) in
    let first_long : length (take size bytes) ≡ size = length-take-le size bytes first_room in
    let first = cell_read level (take size bytes) first_long (IsBytes-take size bytes fits) spells.0 in
    let key_is : take 124 (take size bytes) ≡ take 124 bytes = take-take 124 size bytes (key_within level) in
    let rest = cells_are_read level count (take 124 bytes) (drop size bytes)
    (omega (arith, room, mul-suc size count, length-drop size bytes)) (IsBytes-drop size bytes fits) spells.2 in
    let below : key_cmp last (take 124 (take size bytes)) ≡ Less =
    subst (λ k. key_cmp last k ≡ Less) (sym key_is) spells.1 in
    let all_above = all_weaker (λ k. key_cmp (take 124 bytes) k ≡ Less) (λ k. key_cmp last k ≡ Less)
    (λ k h. nat_list_cmp_total.trans last (take 124 bytes) k spells.1 h)
    (map (λ (c : Cell). c.key) (cells_in level count (drop size bytes))) rest.above in
    record {
      each = (first.0, rest.each);
      above = (below, all_above);
      rising = rising_cons key_cmp (take 124 (take size bytes))
          (map (λ (c : Cell). c.key) (cells_in level count (drop size bytes)))
          (subst (λ k. AllByRecursion (λ x. key_cmp k x ≡ Less)
          (map (λ (c : Cell). c.key) (cells_in level count (drop size bytes)))) (sym key_is) rest.above) rest.rising;
      spelled = ap₂ (λ (xs ys : List ℕ). xs ++ ys) first.1 rest.spelled ∙ sym (take-add size (size * count) bytes)
          ∙ ap (λ n. take n bytes) (let sum : size + size * count ≡ size * suc count = omega arith in sum);
    }

key_of_bytes : (level : ℕ) (cell : Cell) → IsCell level cell → take 124 (cell_bytes cell) ≡ cell.key
unfolding cell_bytes
key_of_bytes level cell is = take_at cell.key (value_bytes cell.value) 124 is.key_length

-- cells of a level whose keys rise are spelled by their bytes
cells_are_spelled : (level : ℕ) (last : List ℕ) (cells : List Cell) (rest : List ℕ)
    → AllByRecursion (IsCell level) cells → AllByRecursion (λ k. key_cmp last k ≡ Less) (map (λ c. c.key) cells)
    → IsStrictlySortedBy key_cmp (map (λ c. c.key) cells)
    → SpellsRising level last (length cells) (flat_map cell_bytes cells ++ rest)
unfolding SpellsRising
cells_are_spelled level last [] rest each above rising = tt
cells_are_spelled level last (cell ∷ cells) rest each above rising =
    let size = cell_size level in
    let long = length-cell_bytes level cell each.0 in
    let behind = flat_map cell_bytes cells ++ rest in
    let regrouped : flat_map cell_bytes (cell ∷ cells) ++ rest ≡ cell_bytes cell ++ behind =
    append_assoc (cell_bytes cell) (flat_map cell_bytes cells) rest in
    let first_is : take size (cell_bytes cell ++ behind) ≡ cell_bytes cell =
    take_at (cell_bytes cell) behind size long in
    let rest_is : drop size (cell_bytes cell ++ behind) ≡ behind = drop_at (cell_bytes cell) behind size long in
    let key_is : take 124 (cell_bytes cell ++ behind) ≡ cell.key =
    sym (take-take 124 size (cell_bytes cell ++ behind) (key_within level)) ∙ ap (take 124) first_is
    ∙ key_of_bytes level cell each.0 in
    let P : List ℕ → Type 0 = λ bytes. SpellsCell level (take size bytes) × (key_cmp last (take 124 bytes) ≡ Less)
    × SpellsRising level (take 124 bytes) (length cells) (drop size bytes) in
    subst P (sym regrouped) (
      subst (SpellsCell level) (sym first_is) (SpellsCell-cell_bytes level cell each.0),
      subst (λ k. key_cmp last k ≡ Less) (sym key_is) above.0,
      subst (λ k. SpellsRising level k (length cells) (drop size (cell_bytes cell ++ behind))) (sym key_is)
          (subst (SpellsRising level cell.key (length cells)) (sym rest_is)
          (cells_are_spelled level cell.key cells rest
          each.1 (rising_head key_cmp cell.key (map (λ (c : Cell). c.key) cells) rising)
          (rising_tail key_cmp cell.key (map (λ (c : Cell). c.key) cells) rising))),
    )

-- ---- pages

zeros-suc : (n m : ℕ) → n ≡ suc m → zeros n ≡ 0 ∷ zeros m
zeros-suc n m e = ap zeros e

zero_filled-cons : (n x : ℕ) (xs : List ℕ) → zero_filled (suc n) (x ∷ xs) ≡ x ∷ zero_filled n xs
unfolding zero_filled
zero_filled-cons n x xs = let same : suc n - suc (length xs) ≡ n - length xs = omega arith
    in ap (λ m. x ∷ (xs ++ zeros m)) same

-- a page's bytes: 1 and the label, the number of cells, the cells and zeros
pub page_parts : (page : Page) → IsLabel page.label
    → page_bytes page ≡ (1 ∷ label_bytes page.label)
    ++ (length page.cells ∷ zero_filled 3964 (flat_map cell_bytes page.cells))
unfolding page_bytes
page_parts page is =
    let front = 1 ∷ label_bytes page.label in
    let left : 4096 - length front ≡ suc 3964 = omega (arith, length-label_bytes page.label is) in
    zero_filled-append 4096 front (length page.cells ∷ flat_map cell_bytes page.cells)
    ∙ ap (λ (xs : List ℕ). front ++ xs)
    (ap (λ n. zero_filled n (length page.cells ∷ flat_map cell_bytes page.cells)) left
    ∙ zero_filled-cons 3964 (length page.cells) (flat_map cell_bytes page.cells))

-- a slot in its parts: byte 0, the label, the count, and the area of the cells
pub record HasParts (label : Label) (count : ℕ) (area slot : List ℕ) : Type 0 where
  pub whole : slot ≡ (1 ∷ label_bytes label) ++ (count ∷ area)
  pub valid : IsLabel label

pub count_of_parts : (label : Label) (count : ℕ) (area slot : List ℕ) → HasParts label count area slot
    → slice_index slot 131 ≡ count
count_of_parts label count area slot h = ap (λ (xs : List ℕ). slice_index xs 131) h.whole
    ∙ get_or_at (1 ∷ label_bytes label) count area 0 131 (ap suc (length-label_bytes label h.valid))

pub area_of_parts : (label : Label) (count : ℕ) (area slot : List ℕ)
    → HasParts label count area slot → drop 132 slot ≡ area
area_of_parts label count area slot h =
    ap (drop 132) (h.whole ∙ sym (append_assoc (1 ∷ label_bytes label) (count ∷ []) area))
    ∙ drop_at ((1 ∷ label_bytes label) ++ count ∷ []) area 132
    (omega (arith, length-append (1 ∷ label_bytes label) (count ∷ []), length-label_bytes label h.valid))

pub label_of_parts : (label : Label) (count : ℕ) (area slot : List ℕ) → HasParts label count area slot
    → take 130 (drop 1 slot) ≡ label_bytes label
label_of_parts label count area slot h = ap (λ (xs : List ℕ). take 130 (drop 1 xs)) h.whole
    ∙ take_at (label_bytes label) (count ∷ area) 130 (length-label_bytes label h.valid)

pub first_of_parts : (label : Label) (count : ℕ) (area slot : List ℕ) → HasParts label count area slot
    → slice_index slot 0 ≡ 1
first_of_parts label count area slot h = ap (λ (xs : List ℕ). slice_index xs 0) h.whole

-- a slot of 4,096 bytes has these parts where byte 0 is 1 and the label's bytes stand behind it
pub parts_of_slot : (label : Label) (slot : List ℕ) → length slot ≡ 4096 → slice_index slot 0 ≡ 1 → IsLabel label
    → label_bytes label ≡ take 130 (drop 1 slot) → HasParts label (slice_index slot 131) (drop 132 slot) slot
parts_of_slot label slot long first valid label_is =
    let zero_is : slot ≡ slice_index slot 0 ∷ drop 1 slot = drop_more slot 0 0 (omega arith) in
    let count_is : drop 131 slot ≡ slice_index slot 131 ∷ drop 132 slot = drop_more slot 131 0 (omega arith) in
    let behind : drop 130 (drop 1 slot) ≡ slice_index slot 131 ∷ drop 132 slot = drop-drop 130 1 slot ∙ count_is in
    record {
      whole = zero_is ∙ ap (λ n. n ∷ drop 1 slot) first
          ∙ ap (λ (xs : List ℕ). 1 ∷ xs) (sym (take-append-drop 130 (drop 1 slot))
          ∙ ap₂ (λ (xs ys : List ℕ). xs ++ ys) (sym label_is) behind);
      valid = valid;
    }

-- the page of a label and cells
abbrev page_with : Label → List Cell → Page
page_with label cells = record { label = label; cells = cells }

-- as many cells as a page may have fit behind its count
pub cells_fit : (level count : ℕ) → count ≤ page_room level → cell_size level * count ≤ 3964
cells_fit zero count h = omega arith
cells_fit (suc level) count h = either (suc level == 0) h
  where
    either : (b : Bool) → count ≤ cond b 10 31 → 124 * count ≤ 3964
    either true h = omega arith
    either false h = omega arith

-- the empty string is below each key
keys_above_nothing : (level : ℕ) (cells : List Cell) → AllByRecursion (IsCell level) cells
    → AllByRecursion (λ k. key_cmp [] k ≡ Less) (map (λ c. c.key) cells)
keys_above_nothing level [] each = tt
keys_above_nothing level (cell ∷ cells) each =
    (above cell.key (each.0).key_length, keys_above_nothing level cells each.1)
  where
    above : (k : List ℕ) → length k ≡ 124 → key_cmp [] k ≡ Less
    above [] long = absurd (omega arith)
    above (b ∷ k) long = refl

-- a front with zeros behind it is zero-filled
filled_is : (n : ℕ) (area front : List ℕ) → n ≤ length area → front ≡ take n area
    → drop n area ≡ zeros (length (drop n area)) → zero_filled (length area) front ≡ area
unfolding zero_filled
filled_is n area front fits front_is blank =
    let long : length area - length front ≡ length (drop n area) =
    omega (arith, length-drop n area, ap length front_is, length-take-le n area fits) in
    ap₂ (λ (xs ys : List ℕ). xs ++ ys) front_is (ap zeros long ∙ sym blank) ∙ take-append-drop n area

-- what holds of the cells of a page and their bytes
pub parts_of_page : (page : Page) (slot : List ℕ) → IsLabel page.label → page_bytes page ≡ slot
    → HasParts page.label (length page.cells) (zero_filled 3964 (flat_map cell_bytes page.cells)) slot
parts_of_page page slot valid spells = record { whole = sym spells ∙ page_parts page valid; valid = valid }

-- a slot that spells a page is read as that page
pub page_in-page_bytes : (page : Page) (slot : List ℕ) → IsLabel page.label
    → AllByRecursion (IsCell page.label.level) page.cells → page_bytes page ≡ slot → page_in page.label slot ≡ page
unfolding zero_filled
page_in-page_bytes page slot valid each spells =
    let parts = parts_of_page page slot valid spells in
    let cells = ap₂ (cells_in page.label.level) (count_of_parts _ _ _ slot parts) (area_of_parts _ _ _ slot parts)
    ∙ cells_in-cell_bytes page.label.level page.cells (zeros (3964 - length (flat_map cell_bytes page.cells))) each
    in
    λ i. page_with page.label (cells i)

-- so it is a slot of the page's label
pub IsSlotOf-page_bytes : (page : Page) (slot : List ℕ) → IsPage page → page_bytes page ≡ slot
    → IsSlotOf page.label slot
IsSlotOf-page_bytes page slot is spells =
    let same = page_in-page_bytes page slot is.label is.cells spells in
    record { page = subst IsPage (sym same) is; bytes = ap page_bytes same ∙ spells }

-- what is decoded is a page, and its bytes are the slot's
pub page_read : (label : Label) (slot : List ℕ) → length slot ≡ 4096 → IsBytes slot → slice_index slot 0 ≡ 1
    → IsLabel label → label_bytes label ≡ take 130 (drop 1 slot)
    → SpellsCells label.level (slice_index slot 131) (drop 132 slot) → IsSlotOf label slot
page_read label slot long fits first valid label_is spells =
    let level = label.level in
    let count = slice_index slot 131 in
    let area = drop 132 slot in
    let area_long : length area ≡ 3964 = omega (arith, length-drop 132 slot) in
    let cells = cells_in level count area in
    let counted = length-cells_in level count area in
    let room : cell_size level * count ≤ length area =
    subst (λ n. cell_size level * count ≤ n) (sym area_long) (cells_fit level count spells.room) in
    let read = cells_are_read level count [] area room (IsBytes-drop 132 slot fits) spells.rising in
    let page : IsPage (page_with label cells) = record {
      label = valid;
      some_cell = subst (λ n. 1 ≤ n) (sym counted) spells.some;
      room = subst (λ n. n ≤ page_room level) (sym counted) spells.room;
      cells = read.each;
      rising = read.rising;
    } in
    let filled : zero_filled 3964 (flat_map cell_bytes cells) ≡ area =
    ap (λ n. zero_filled n (flat_map cell_bytes cells)) (sym area_long)
    ∙ filled_is (cell_size level * count) area (flat_map cell_bytes cells) room read.spelled spells.rest in
    record {
      page = page;
      bytes = page_parts (page_with label cells) valid
          ∙ ap₂ (λ n (xs : List ℕ). (1 ∷ label_bytes label) ++ (n ∷ xs)) counted filled
          ∙ sym (parts_of_slot label slot long first valid label_is).whole;
    }

-- a slot that spells a page spells its cells
pub cells_spelled : (page : Page) (slot : List ℕ) → IsPage page → page_bytes page ≡ slot
    → SpellsCells page.label.level (slice_index slot 131) (drop 132 slot)
unfolding zero_filled
cells_spelled page slot is spells =
    let level = page.label.level in
    let flat = flat_map cell_bytes page.cells in
    let fill = 3964 - length flat in
    let parts = parts_of_page page slot is.label spells in
    let long : length flat ≡ cell_size level * length page.cells = length-cells_bytes level page.cells is.cells in
    let behind : drop (cell_size level * length page.cells) (flat ++ zeros fill) ≡ zeros fill =
    drop_at flat (zeros fill) (cell_size level * length page.cells) long in
    let whole : SpellsCells level (length page.cells) (flat ++ zeros fill) = record {
      some = is.some_cell;
      room = is.room;
      rising = cells_are_spelled level [] page.cells (zeros fill)
          is.cells (keys_above_nothing level page.cells is.cells) is.rising;
      rest = behind ∙ ap zeros (sym (length-zeros fill) ∙ ap length (sym behind));
    } in
    let counted : SpellsCells level (slice_index slot 131) (flat ++ zeros fill) =
    subst (λ n. SpellsCells level n (flat ++ zeros fill)) (sym (count_of_parts _ _ _ slot parts)) whole in
    subst (SpellsCells level (slice_index slot 131)) (sym (area_of_parts _ _ _ slot parts)) counted

-- a page has one spelling, and a spelling is one page's
pub page_bytes-same : (a b : Page) → IsPage a → IsPage b → page_bytes a ≡ page_bytes b → a ≡ b
page_bytes-same a b a_is b_is same =
    let a_parts = parts_of_page a (page_bytes b) a_is.label same in
    let b_parts = parts_of_page b (page_bytes b) b_is.label refl in
    let label : a.label ≡ b.label =
    labels_same a.label b.label a_is.label b_is.label (sym (label_of_parts _ _ _ _ a_parts)
    ∙ label_of_parts _ _ _ _ b_parts) in
    sym (page_in-page_bytes a (page_bytes b) a_is.label a_is.cells same)
    ∙ ap (λ (l : Label). page_in l (page_bytes b)) label
    ∙ page_in-page_bytes b (page_bytes b) b_is.label b_is.cells refl

-- what a slot that spells a page shows: byte 0, the label's bytes, its cells
pub record Shows (page : Page) (slot : List ℕ) : Type 0 where
  pub first : slice_index slot 0 ≡ 1
  pub label_bytes_are : label_bytes page.label ≡ take 130 (drop 1 slot)
  pub cells : SpellsCells page.label.level (slice_index slot 131) (drop 132 slot)
  pub read : page_in page.label slot ≡ page

pub shown : (page : Page) (slot : List ℕ) → IsPage page → page_bytes page ≡ slot → Shows page slot
shown page slot is spells =
    let parts = parts_of_page page slot is.label spells in
    record {
      first = first_of_parts _ _ _ slot parts;
      label_bytes_are = sym (label_of_parts _ _ _ slot parts);
      cells = cells_spelled page slot is spells;
      read = page_in-page_bytes page slot is.label is.cells spells;
    }

-- ---- one cell more

-- behind the cells of a page stand zeros
pub blank_behind : (page : Page) (slot : List ℕ) → IsLabel page.label
    → AllByRecursion (IsCell page.label.level) page.cells → page_bytes page ≡ slot
    → drop (cell_size page.label.level * slice_index slot 131) (drop 132 slot)
    ≡ zeros (3964 - cell_size page.label.level * slice_index slot 131)
unfolding zero_filled
blank_behind page slot valid each spells =
    let parts = parts_of_page page slot valid spells in
    let flat = flat_map cell_bytes page.cells in
    let long : length flat ≡ cell_size page.label.level * slice_index slot 131 =
    length-cells_bytes page.label.level page.cells each
    ∙ ap (λ n. cell_size page.label.level * n) (sym (count_of_parts _ _ _ slot parts)) in
    ap (drop (cell_size page.label.level * slice_index slot 131)) (area_of_parts _ _ _ slot parts)
    ∙ drop_at flat (zeros (3964 - length flat)) (cell_size page.label.level * slice_index slot 131) long
    ∙ ap (λ n. zeros (3964 - n)) long

flat_map-push : (cells : List Cell) (cell : Cell)
    → flat_map cell_bytes (cells ++ cell ∷ []) ≡ flat_map cell_bytes cells ++ cell_bytes cell
flat_map-push [] cell = append-nil (cell_bytes cell)
flat_map-push (x ∷ cells) cell = ap (λ (xs : List ℕ). cell_bytes x ++ xs) (flat_map-push cells cell)
    ∙ sym (append_assoc (cell_bytes x) (flat_map cell_bytes cells) (cell_bytes cell))

-- the slot of a page with one more cell
pub page_bytes-push : (page : Page) (slot : List ℕ) (cell : Cell) → IsLabel page.label
    → AllByRecursion (IsCell page.label.level) page.cells → page_bytes page ≡ slot
    → page_bytes (record { label = page.label; cells = page.cells ++ cell ∷ [] })
    ≡ appended page.label.level slot (cell_bytes cell)
unfolding zero_filled
page_bytes-push page slot cell valid each spells =
    let parts = parts_of_page page slot valid spells in
    let level = page.label.level in
    let flat = flat_map cell_bytes page.cells in
    let front = 1 ∷ label_bytes page.label in
    let count_is = count_of_parts _ _ _ slot parts in
    let before : length flat ≡ cell_size level * slice_index slot 131 =
    length-cells_bytes level page.cells each ∙ ap (λ n. cell_size level * n) (sym count_is) in
    let front_is : take 131 slot ≡ front = ap (take 131) parts.whole
    ∙ take_at front (length page.cells ∷ zero_filled 3964 flat) 131 (ap suc (length-label_bytes page.label valid))
    in
    let cells_are : take (cell_size level * slice_index slot 131) (drop 132 slot) ≡ flat =
    ap (take (cell_size level * slice_index slot 131)) (area_of_parts _ _ _ slot parts)
    ∙ take_at flat (zeros (3964 - length flat)) (cell_size level * slice_index slot 131) before in
    let counted : length (page.cells ++ cell ∷ []) ≡ slice_index slot 131 + 1 =
    length_push page.cells cell ∙ ap (λ n. n + 1) (sym count_is) in
    let area_is : zero_filled 3964 (flat_map cell_bytes (page.cells ++ cell ∷ []))
    ≡ flat ++ zero_filled (3964 - cell_size level * slice_index slot 131) (cell_bytes cell) =
    ap (zero_filled 3964) (flat_map-push page.cells cell) ∙ zero_filled-append 3964 flat (cell_bytes cell)
    ∙ ap (λ n. flat ++ zero_filled (3964 - n) (cell_bytes cell)) before in
    page_parts (page_with page.label (page.cells ++ cell ∷ [])) valid
    ∙ ap₂ (λ n (xs : List ℕ). front ++ (n ∷ xs)) counted area_is
    ∙ ap₂ (λ (xs ys : List ℕ). xs
    ++ ((slice_index slot 131 + 1)
    ∷ (ys ++ zero_filled (3964 - cell_size level * slice_index slot 131) (cell_bytes cell))))
    (sym front_is) (sym cells_are)

-- what a write of the count and of the cell leaves
pub appended_is : (slot written : List ℕ) (level at k : ℕ) (bytes : List ℕ) → length slot ≡ 4096
    → at ≡ 132 + cell_size level * slice_index slot 131 → at ≤ 4096 → 4096 - at ≤ k
    → written ≡ zero_filled (3964 - cell_size level * slice_index slot 131) bytes
    → put_mid at k (set slot 131 (slice_index slot 131 + 1)) written ≡ appended level slot bytes
appended_is slot written level at k bytes long at_is at_fits all written_is =
    let n = cell_size level * slice_index slot 131 in
    let v = slice_index slot 131 + 1 in
    let area = drop 132 slot in
    let front = take 131 slot ++ (v ∷ take n area) in
    let area_long : length area ≡ 3964 = omega (arith, length-drop 132 slot) in
    let counted : set slot 131 v ≡ take 131 slot ++ (v ∷ area) = set_split slot 131 v (omega arith) in
    let whole : set slot 131 v ≡ front ++ drop n area =
    counted ∙ ap (λ (xs : List ℕ). take 131 slot ++ (v ∷ xs)) (sym (take-append-drop n area))
    ∙ sym (append_assoc (take 131 slot) (v ∷ take n area) (drop n area)) in
    let front_long : length front ≡ at =
    omega (
      arith,
      length-append (take 131 slot) (v ∷ take n area),
      length-take-le 131 slot
          (omega arith),
      length-take-le n area (omega arith),
    ) in
    ap (λ (xs : List ℕ). put_mid at k xs written) whole
    ∙ put_mid_to_end front (drop n area) written at k front_long (omega (arith, length-drop n area))
    ∙ ap (λ (xs : List ℕ). front ++ xs) written_is
    ∙ append_assoc (take 131 slot) (v ∷ take n area) (zero_filled (3964 - n) bytes)

-- where the cell is written stand zeros
pub blank_at : (slot : List ℕ) (level at : ℕ) → at ≡ 132 + cell_size level * slice_index slot 131
    → drop (cell_size level * slice_index slot 131) (drop 132 slot)
    ≡ zeros (3964 - cell_size level * slice_index slot 131)
    → drop at (set slot 131 (slice_index slot 131 + 1)) ≡ zeros (3964 - cell_size level * slice_index slot 131)
blank_at slot level at at_is blank =
    drop-set-lt at slot 131 (slice_index slot 131 + 1) (omega arith) ∙ ap (λ n. drop n slot) at_is
    ∙ sym (drop-drop (cell_size level * slice_index slot 131) 132 slot) ∙ blank

-- ---- a page with no cell yet

-- the front of a page, written over zeros
pub begun_is : (label : Label) (blank bytes : List ℕ) → IsLabel label → blank ≡ zeros (length blank)
    → length blank ≡ 4096 → bytes ≡ label_bytes label
    → put_mid 1 130 (set blank 0 1) bytes ≡ page_bytes (record { label = label; cells = [] })
unfolding zero_filled
begun_is label blank bytes valid blank_is long bytes_are =
    let front = 1 ∷ label_bytes label in
    let first : set blank 0 1 ≡ (1 ∷ []) ++ drop 1 blank = set_split blank 0 1 (omega arith) in
    let bytes_long : length bytes ≡ 130 = ap length bytes_are ∙ length-label_bytes label valid in
    let behind : 4096 - length front ≡ suc 3964 = omega (arith, length-label_bytes label valid) in
    ap (λ (xs : List ℕ). put_mid 1 130 xs bytes) first
    ∙ written_behind blank (1 ∷ []) bytes 1 130 blank_is refl bytes_long
    ∙ ap₂ (λ n (xs : List ℕ). zero_filled n (1 ∷ xs)) long bytes_are
    ∙ ap (λ (xs : List ℕ). front ++ xs) (zeros-suc (4096 - length front) 3964 behind)
    ∙ sym (page_parts (page_with label []) valid)

-- a page with one cell more, and its slot
pub record IsGrown (page : Page) (cell : Cell) (slot : List ℕ) : Type 0 where
  pub page_is : IsPage (record { label = page.label; cells = page.cells ++ cell ∷ [] })
  pub holds : IsSlotOf page.label slot
  pub read : page_in page.label slot ≡ record { label = page.label; cells = page.cells ++ cell ∷ [] }

pub grown : (page : Page) (old new : List ℕ) (cell : Cell) → IsLabel page.label
    → AllByRecursion (IsCell page.label.level) page.cells → page_bytes page ≡ old → IsCell page.label.level cell
    → length page.cells < page_room page.label.level
    → IsStrictlySortedBy key_cmp (map (λ c. c.key) (page.cells ++ cell ∷ []))
    → new ≡ appended page.label.level old (cell_bytes cell) → IsGrown page cell new
grown page old new cell valid each spells is room rising new_is =
    let more = page_with page.label (page.cells ++ cell ∷ []) in
    let counted = length_push page.cells cell in
    let page_is : IsPage more = record {
      label = valid;
      some_cell = omega (arith, counted);
      room = omega (arith, counted);
      cells = all_append (IsCell page.label.level) page.cells (cell ∷ []) each (is, tt);
      rising = rising;
    } in
    let bytes : page_bytes more ≡ new = page_bytes-push page old cell valid each spells ∙ sym new_is in
    record {
      page_is = page_is;
      holds = IsSlotOf-page_bytes more new page_is bytes;
      read = page_in-page_bytes more new valid page_is.cells bytes;
    }

-- how many cells a slot counts
pub count_in_slot : (page : Page) (slot : List ℕ) → IsLabel page.label → page_bytes page ≡ slot
    → slice_index slot 131 ≡ length page.cells
count_in_slot page slot valid spells = count_of_parts _ _ _ slot (parts_of_page page slot valid spells)

-- ---- the front of a slot: 1 and a label

-- a page's slot begins with 1 and its label
pub front_shown : (page : Page) (slot : List ℕ) → IsPage page → page_bytes page ≡ slot
    → take 131 slot ≡ 1 ∷ label_bytes page.label
front_shown page slot is spells =
    let parts = parts_of_page page slot is.label spells in
    ap (take 131) parts.whole ∙ take_at (1 ∷ label_bytes page.label)
    (length page.cells ∷ zero_filled 3964 (flat_map cell_bytes page.cells)) 131
    (ap suc (length-label_bytes page.label is.label))

-- what stands at byte 0 and behind it
pub front_read : (label : Label) (slot : List ℕ) → IsLabel label → take 131 slot ≡ 1 ∷ label_bytes label
    → (slice_index slot 0 ≡ 1) × (label_bytes label ≡ take 130 (drop 1 slot))
front_read label [] valid front = absurd (let long = ap length front in omega arith)
front_read label (b ∷ slot) valid front = (ap (λ (xs : List ℕ). slice_index xs 0) front, sym (ap (drop 1) front))

-- and the other way round
pub front_is : (slot bytes : List ℕ) → 131 ≤ length slot → slice_index slot 0 ≡ 1 → bytes ≡ take 130 (drop 1 slot)
    → take 131 slot ≡ 1 ∷ bytes
front_is [] bytes long first bytes_are = absurd (omega arith)
front_is (b ∷ slot) bytes long first bytes_are = ap₂ (λ x (xs : List ℕ). x ∷ xs) first (sym bytes_are)
