-- Lists of cells packed one behind the other, and the pages that are cut from them.
use Rattle.std.proofs.Common.{◌≡◌, ℕ, zero, suc, ◌+◌, ◌-◌, ◌*◌, ◌≤◌, ◌<◌, List, [], ◌∷◌, ◌++◌, length, take, drop, Some}
use Rattle.std.proofs.Common.{refl, sym, ap, ap₂, subst, ◌∙◌, arith, length-append, map}
use Rattle.std.specs.Prelude.{slice_get}
use Rattle.std.specs.List.{flat_map, AllByRecursion}
use Rattle.std.specs.List.Sorted.{IsStrictlySortedBy}
use Rattle.std.proofs.lemmas.Grind.{flat_map-append}
use Rattle.std.proofs.lemmas.List.{take_at, append-nil, length-drop, length-take-le}
use Rattle.store_model.specs.Lists.{zeros, zero_filled, runs}
use Rattle.store_model.specs.Paths.{key_cmp}
use Rattle.store_model.specs.Labels.{Lead, Label, IsLabel}
use Rattle.store_model.specs.Pages.{Cell, Page, page_room, IsCell, IsPage}
use Rattle.store_model.specs.Images.{cell_bytes}
use Rattle.store_model.proofs.ListsLemmas.{all_append}
use Rattle.node_pages.specs.CellAreas.{cell_size}
use Rattle.node_pages.specs.PageSlots.{cells_in, ArePacked}
use Rattle.node_pages.specs.Cells.{CellList, IsCellList, list_in}
use Rattle.node_pages.proofs.CellBytes.{length-cells_bytes, cells_in-cell_bytes}
use Rattle.node_pages.specs.LastPages.{pages_from}
use Rattle.node_pages.proofs.Runs.{run_within, run_is_page, page_at}
use Rattle.node_pages.proofs.PageBytes.{length-cells_in}
use Rattle.node_pages.proofs.Packed.{front_each, back_each, between_bytes, front_within, IsCellAt, cell_at, page_with}

-- ---- lists of packed cells

-- the bytes of cells are read as these
pub packed_read : (level count : ℕ) (cells : List Cell) (bytes : List ℕ) → AllByRecursion (IsCell level) cells
    → bytes ≡ flat_map cell_bytes cells → count ≡ length cells → cells_in level count bytes ≡ cells
packed_read level count cells bytes each bytes_are count_is =
    ap₂ (cells_in level) count_is (bytes_are ∙ sym (append-nil (flat_map cell_bytes cells)))
    ∙ cells_in-cell_bytes level cells [] each

pub packed_by : (level count : ℕ) (cells : List Cell) (bytes : List ℕ) → level < 256 → count < 4294967296
    → AllByRecursion (IsCell level) cells → bytes ≡ flat_map cell_bytes cells → count ≡ length cells
    → ArePacked level count bytes
packed_by level count cells bytes low few each bytes_are count_is =
    let read = packed_read level count cells bytes each bytes_are count_is in
    record {
      low = low;
      few = few;
      each = subst (AllByRecursion (IsCell level)) (sym read) each;
      spelled = ap (flat_map cell_bytes) read ∙ sym bytes_are;
    }

-- the list that they are
pub listed : (level count : ℕ) (bytes : List ℕ) (list : CellList) → list_in level count bytes ≡ list
    → length list.cells ≡ count
listed level count bytes list is = ap (λ (l : CellList). length l.cells) (sym is) ∙ length-cells_in level count bytes

pub list_valid : (level count : ℕ) (bytes : List ℕ) (list : CellList) → ArePacked level count bytes
    → list_in level count bytes ≡ list → IsCellList list
list_valid level count bytes list packed is =
    subst IsCellList is (record {
      level = packed.low;
      each = packed.each;
      few = omega (arith, packed.few, length-cells_in level count bytes);
    })

-- cell i of the list
pub list_cell_at : (level count i : ℕ) (bytes cell : List ℕ) (list : CellList) → ArePacked level count bytes
    → list_in level count bytes ≡ list → i < length list.cells
    → cell ≡ flat_map cell_bytes (drop i (take (i + 1) list.cells)) → IsCellAt level i list.cells cell
list_cell_at level count i bytes cell list packed is =
    subst (λ (l : CellList). i < length l.cells → cell ≡ flat_map cell_bytes (drop i (take (i + 1) l.cells))
    → IsCellAt level i l.cells cell) is (cell_at level i (cells_in level count bytes) cell packed.each)

-- where a run of it begins
pub list_run_within : (level count room index : ℕ) (bytes : List ℕ) (list : CellList) → list_in level count bytes ≡ list
    → room ≡ page_room level → index < length (runs (page_room list.level) list.cells) → room * index < count
list_run_within level count room index bytes list is room_is within =
    let cells = cells_in level count bytes in
    let here = run_within level index cells
    (subst (λ (l : CellList). index < length (runs (page_room l.level) l.cells)) (sym is) within) in
    subst (λ n. n * index < count) (sym room_is)
    (subst (λ n. page_room level * index < n) (length-cells_in level count bytes) here)

-- some cells more behind those that are packed
pub packed_more : (level count more : ℕ) (bytes news : List ℕ) (cells : List Cell) → ArePacked level count bytes
    → AllByRecursion (IsCell level) cells → news ≡ bytes ++ flat_map cell_bytes cells
    → more ≡ count + length cells → more < 4294967296
    → ArePacked level more news × (cells_in level more news ≡ cells_in level count bytes ++ cells)
packed_more level count more bytes news cells packed each news_are more_is few =
    let olds = cells_in level count bytes in
    let whole = all_append (IsCell level) olds cells packed.each each in
    let spelled : news ≡ flat_map cell_bytes (olds ++ cells) =
    news_are ∙ ap (λ (xs : List ℕ). xs ++ flat_map cell_bytes cells) (sym packed.spelled)
    ∙ sym (flat_map-append cell_bytes olds cells) in
    let counted : more ≡ length (olds ++ cells) =
    omega (arith, more_is, length-append olds cells, length-cells_in level count bytes) in (
      packed_by level more (olds ++ cells) news packed.low few whole spelled counted,
      packed_read level more
          (olds ++ cells) news whole spelled counted,
    )

-- the list with some cells more
pub list_more : (level count more : ℕ) (bytes news : List ℕ) (cells : List Cell) (list : CellList)
    → ArePacked level count bytes → list_in level count bytes ≡ list → AllByRecursion (IsCell list.level) cells
    → news ≡ bytes ++ flat_map cell_bytes cells → more ≡ count + length cells → more < 4294967296
    → ArePacked level more news × (list_in level more news ≡ record { level = list.level; cells = list.cells ++ cells })
list_more level count more bytes news cells list packed is each news_are more_is few =
    let here = packed_more level count more bytes news cells packed
    (subst (λ (l : CellList). AllByRecursion (IsCell l.level) cells) (sym is) each) news_are more_is few in (
      here.0,
      ap (λ (cs : List Cell). record { level = level; cells = cs }) here.1
          ∙ ap (λ (l : CellList). record { level = l.level; cells = l.cells ++ cells }) is,
    )

pub list_push : (level count more : ℕ) (bytes news : List ℕ) (cell : Cell) (list : CellList)
    → ArePacked level count bytes → list_in level count bytes ≡ list → IsCell list.level cell
    → news ≡ bytes ++ cell_bytes cell → more ≡ count + 1 → more < 4294967296
    → ArePacked level more news × (list_in level more news ≡ record {
      level = list.level;
      cells = list.cells ++ cell ∷ [];
    })
list_push level count more bytes news cell list packed is valid news_are more_is few =
    list_more level count more bytes news (cell ∷ []) list packed is (valid, tt)
    (news_are ∙ ap (λ (xs : List ℕ). bytes ++ xs) (sym (append-nil (cell_bytes cell)))) more_is few

-- a part of packed cells
pub packed_between : (level count first past : ℕ) (bytes : List ℕ) → ArePacked level count bytes
    → first ≤ past → past ≤ count
    → drop (cell_size level * first) (take (cell_size level * past) bytes)
    ≡ flat_map cell_bytes (drop first (take past (cells_in level count bytes)))
packed_between level count first past bytes packed order within =
    ap (λ (xs : List ℕ). drop (cell_size level * first) (take (cell_size level * past) xs))
    (sym (append-nil (flat_map cell_bytes (cells_in level count bytes)) ∙ packed.spelled))
    ∙ between_bytes level first past (cells_in level count bytes) [] packed.each order
    (omega (arith, within, length-cells_in level count bytes))

pub packed_within : (level count past : ℕ) (bytes : List ℕ) → ArePacked level count bytes → past ≤ count
    → cell_size level * past ≤ length bytes
packed_within level count past bytes packed within =
    subst (λ (xs : List ℕ). cell_size level * past ≤ length xs)
    (append-nil (flat_map cell_bytes (cells_in level count bytes)) ∙ packed.spelled)
    (front_within level past (cells_in level count bytes) []
    packed.each (omega (arith, within, length-cells_in level count bytes)))

-- the list of no cell
pub packed_none : (level : ℕ) (bytes : List ℕ) → level < 256 → bytes ≡ []
    → ArePacked level 0 bytes × (list_in level 0 bytes ≡ record { level = level; cells = [] })
packed_none level bytes low none = (
  packed_by level 0 [] bytes low (omega arith) tt none refl,
  ap (λ (cs : List Cell). record {
    level = level;
    cells = cs;
  }) (packed_read level 0 [] bytes tt none refl),
)

-- what is added behind bytes
pub added : (bytes news run : List ℕ) (cells : List Cell) → news ≡ bytes ++ run → run ≡ flat_map cell_bytes cells
    → news ≡ bytes ++ flat_map cell_bytes cells
added bytes news run cells news_are run_is = news_are ∙ ap (λ (xs : List ℕ). bytes ++ xs) run_is

-- what was written over zeros stands in front
pub front_of_filled : (n k : ℕ) (bytes : List ℕ) → length bytes ≡ k → take k (zero_filled n bytes) ≡ bytes
unfolding zero_filled
front_of_filled n k bytes long = take_at bytes (zeros (n - length bytes)) k long

-- a page of some cells of a list, made of their bytes
pub part_is : (label : Label) (first past count : ℕ) (cells : List Cell) (run : List ℕ)
    → IsPage (page_with label (drop first (take past cells))) → first ≤ past → past ≤ length cells
    → run ≡ flat_map cell_bytes (drop first (take past cells)) → count ≡ past - first → past < 4294967296
    → ArePacked label.level count run × (cells_in label.level count run ≡ drop first (take past cells))
part_is label first past count cells run is order within run_is count_is few =
    let part = drop first (take past cells) in
    let counted : count ≡ length part =
    omega (arith, count_is, length-drop first (take past cells), length-take-le past cells within) in (
      packed_by label.level count part run is.label.level (omega (arith, few, count_is)) is.cells run_is counted,
      packed_read label.level count part run is.cells run_is counted,
    )

-- ---- the pages of a list

-- the page of a run is one
pub run_page : (list : CellList) (label : Label) (lead : Lead) (number index : ℕ) → IsCellList list
    → IsStrictlySortedBy key_cmp (map (λ c. c.key) list.cells) → IsLabel label → label ≡ record {
      level = list.level;
      lead = lead;
      index = number;
    }
    → index < length (runs (page_room list.level) list.cells)
    → IsPage (page_with label (take (page_room list.level) (drop (page_room list.level * index) list.cells)))
run_page list label lead number index valid rising label_valid label_is within =
    let here = subst IsLabel label_is label_valid in
    let begins = run_within list.level index list.cells within in
    subst (λ l. IsPage (page_with l (take (page_room list.level) (drop (page_room list.level * index) list.cells))))
    (sym label_is)
    (run_is_page list.level lead number (page_room list.level * index) list.cells valid.each rising begins
    valid.level here.lead here.index)

size_cancel : (level a b : ℕ) → cell_size level * a ≡ cell_size level * b → a ≡ b
size_cancel zero a b same = omega arith
size_cancel (suc level) a b same = omega arith

-- cells of one level with the same bytes are the same
same_cells : (level : ℕ) (xs ys : List Cell) → AllByRecursion (IsCell level) xs → AllByRecursion (IsCell level) ys
    → flat_map cell_bytes xs ≡ flat_map cell_bytes ys → xs ≡ ys
same_cells level xs ys xs_each ys_each same =
    let long = size_cancel level (length xs) (length ys)
    (sym (length-cells_bytes level xs xs_each) ∙ ap length same ∙ length-cells_bytes level ys ys_each) in
    sym (packed_read level (length xs) xs (flat_map cell_bytes xs) xs_each refl refl)
    ∙ packed_read level (length xs) ys (flat_map cell_bytes xs) ys_each same long

-- a page with the label and the bytes of a run is the page of the run
pub page_of_bytes : (list : CellList) (lead : Lead) (first index : ℕ) (page : Page) → IsCellList list → IsPage page
    → index < length (runs (page_room list.level) list.cells)
    → flat_map cell_bytes page.cells ≡ flat_map cell_bytes
    (take (page_room list.level) (drop (page_room list.level * index) list.cells)) → page.label ≡ record {
      level = list.level;
      lead = lead;
      index = first + index;
    }
    → slice_get (pages_from list.level lead first list.cells) index ≡ Some page
page_of_bytes list lead first index page valid is within same label_is =
    let run = take (page_room list.level) (drop (page_room list.level * index) list.cells) in
    let run_each = front_each list.level (page_room list.level) (drop (page_room list.level * index) list.cells)
    (back_each list.level (page_room list.level * index) list.cells valid.each) in
    let page_each = subst (λ (l : Label). AllByRecursion (IsCell l.level) page.cells) label_is is.cells in
    page_at list.level lead first index list.cells (run_within list.level index list.cells within)
    ∙ ap Some (ap₂ page_with (sym label_is) (sym (same_cells list.level page.cells run page_each run_each same)))

-- and the page of a run has them
pub bytes_of_page : (list : CellList) (lead : Lead) (first index : ℕ) (page : Page)
    → index < length (runs (page_room list.level) list.cells)
    → slice_get (pages_from list.level lead first list.cells) index ≡ Some page
    → (flat_map cell_bytes page.cells ≡ flat_map cell_bytes
    (take (page_room list.level) (drop (page_room list.level * index) list.cells)))
    × (page.label ≡ record { level = list.level; lead = lead; index = first + index })
bytes_of_page list lead first index page within is =
    let one : (a b : Page) → Some a ≡ Some b → a ≡ b = λ a b e. cc in
    let same =
    one _ page (sym (page_at list.level lead first index list.cells (run_within list.level index list.cells within))
    ∙ is) in
    (ap (λ (p : Page). flat_map cell_bytes p.cells) (sym same), ap (λ (p : Page). p.label) (sym same))
