-- What one pair more makes of the pages of a level: its cell comes onto the last page, or onto a page of its own.
use Rattle.std.proofs.Common.{◌≡◌, ℕ, zero, suc, ◌+◌, ◌≤◌, ◌<◌, List, [], ◌∷◌, ◌++◌, length, take, drop, Bool, false}
use Rattle.std.proofs.Common.{cond, nat_lt, refl, sym, ap, ap₂, subst, ◌∙◌, arith, append-nil, inl, inr}
use Rattle.std.specs.List.{AllByRecursion, flat_map}
use Rattle.std.proofs.lemmas.Bool.{cases_lt, cases_eq, lt-ltb, le-ltb}
use Rattle.std.proofs.lemmas.List.{length-append, take_all, drop_all, take-append-le, drop-append-le, length-drop}
use Rattle.std.proofs.Math.Seq.{take-append_seam, drop-append_seam}
use Rattle.store_model.specs.Draws.{Draw}
use Rattle.store_model.specs.Pairs.{Pair}
use Rattle.store_model.specs.Labels.{Lead}
use Rattle.store_model.specs.Labels.Lead.{Start, Leader}
use Rattle.store_model.specs.Pages.{Cell, Page, page_room, cell_on, leads_group, lead_of, groups, level_pages}
use Rattle.store_model.proofs.ListsLemmas.{all_weaker}
use Rattle.store_model.proofs.ListsLemmasCuts.{IsUncut, cut_before_is_uncut}
use Rattle.store_model.proofs.PagesLemmas.{some_room}
use Rattle.store_model.proofs.PagesLemmasOrder.{cell_on-key}
use Rattle.std.proofs.lemmas.List.Concat.{flat_map-append}
use Rattle.node_pages.specs.LastPages.{page_of_run, pages_from}
use Rattle.node_pages.proofs.Runs.{all_pages, next_page, no_page}
use Rattle.layout_scratch.proofs.LastGroup.{onto_last}
use Rattle.layout_scratch.proofs.LevelPages.{pages_of_group}
use Rattle.layout_scratch.proofs.OneMoreKey.{groups_below, groups_at}

-- the page with one cell more, and the page behind it in its group with that cell alone
abbrev pub fuller : Page → Cell → Page
fuller page cell = record { label = page.label; cells = page.cells ++ cell ∷ [] }

abbrev pub behind : Page → Cell → Page
behind page cell = record {
  label = record { level = page.label.level; lead = page.label.lead; index = page.label.index + 1 };
  cells = cell ∷ [];
}

-- pages with one cell more: on the last one where that has room, and else on one behind it
unfoldable pub with_cell : ℕ → List Page → Cell → List Page
with_cell level [] cell = page_of_run level Start 0 (cell ∷ []) ∷ []
with_cell level (page ∷ []) cell =
    cond (nat_lt (length page.cells) (page_room level)) (fuller page cell ∷ []) (page ∷ behind page cell ∷ [])
with_cell level (page ∷ next ∷ pages) cell = page ∷ with_cell level (next ∷ pages) cell

with_cell-cons : (level : ℕ) (page : Page) (pages : List Page) (cell : Cell) → 1 ≤ length pages
    → with_cell level (page ∷ pages) cell ≡ page ∷ with_cell level pages cell
unfolding with_cell
with_cell-cons level page [] cell some = absurd (omega arith)
with_cell-cons level page (next ∷ pages) cell some = refl

pub with_cell-append : (level : ℕ) (before pages : List Page) (cell : Cell) → 1 ≤ length pages
    → with_cell level (before ++ pages) cell ≡ before ++ with_cell level pages cell
with_cell-append level [] pages cell some = refl
with_cell-append level (page ∷ before) pages cell some =
    with_cell-cons level page (before ++ pages) cell (omega (arith, length-append before pages))
    ∙ ap (λ ps. page ∷ ps) (with_cell-append level before pages cell some)

-- ---- one group

-- cells that one page has room for
one_page : (level : ℕ) (lead : Lead) (index : ℕ) (cells : List Cell) → 1 ≤ length cells
    → length cells ≤ page_room level → pages_from level lead index cells ≡ page_of_run level lead index cells ∷ []
one_page level lead index cells some fits =
    next_page level lead index cells some
    ∙ ap₂ (λ run rest. page_of_run level lead index run ∷ rest) (take_all (page_room level) cells fits)
    (no_page level lead (index + 1) (drop (page_room level) cells) (drop_all (page_room level) cells fits))

pub some_page : (level : ℕ) (lead : Lead) (index : ℕ) (cells : List Cell) → 1 ≤ length cells
    → 1 ≤ length (pages_from level lead index cells)
some_page level lead index cells some =
    subst (λ (ps : List Page). 1 ≤ length ps) (sym (next_page level lead index cells some)) (omega arith)

-- the last page takes it
onto_page : (level : ℕ) (lead : Lead) (index : ℕ) (cells : List Cell) (cell : Cell) → 1 ≤ length cells
    → length cells < page_room level
    → pages_from level lead index (cells ++ cell ∷ []) ≡ with_cell level (pages_from level lead index cells) cell
unfolding with_cell
onto_page level lead index cells cell some room =
    let page = page_of_run level lead index cells in
    let long = length-append cells (cell ∷ []) in
    one_page level lead index (cells ++ cell ∷ []) (omega arith) (omega arith)
    ∙ ap (λ b. cond b (fuller page cell ∷ []) (page ∷ behind page cell ∷ []))
    (sym (lt-ltb (length cells) (page_room level) room))
    ∙ sym (ap (λ ps. with_cell level ps cell) (one_page level lead index cells some (omega arith)))

-- the last page is full
behind_page : (level : ℕ) (lead : Lead) (index : ℕ) (cells : List Cell) (cell : Cell) → 1 ≤ length cells
    → length cells ≡ page_room level
    → pages_from level lead index (cells ++ cell ∷ []) ≡ with_cell level (pages_from level lead index cells) cell
unfolding with_cell
behind_page level lead index cells cell some full =
    let page = page_of_run level lead index cells in
    let long = length-append cells (cell ∷ []) in
    let front : take (page_room level) (cells ++ cell ∷ []) ≡ cells =
    ap (λ n. take n (cells ++ cell ∷ [])) (sym full) ∙ take-append_seam cells (cell ∷ []) in
    let rest : drop (page_room level) (cells ++ cell ∷ []) ≡ cell ∷ [] =
    ap (λ n. drop n (cells ++ cell ∷ [])) (sym full) ∙ drop-append_seam cells (cell ∷ []) in
    let room = some_room level in
    next_page level lead index (cells ++ cell ∷ []) (omega arith)
    ∙ ap₂ (λ run ps. page_of_run level lead index run ∷ ps) front
    (ap (pages_from level lead (index + 1)) rest
    ∙ one_page level lead (index + 1) (cell ∷ []) (omega arith) (omega arith))
    ∙ ap (λ b. cond b (fuller page cell ∷ []) (page ∷ behind page cell ∷ []))
    (sym (le-ltb (length cells) (page_room level) (omega arith)))
    ∙ sym (ap (λ ps. with_cell level ps cell) (one_page level lead index cells some (omega arith)))

-- the first pages stay
pages_more : (k level : ℕ) (lead : Lead) (index : ℕ) (cells : List Cell) (cell : Cell) → length cells ≤ k
    → 1 ≤ length cells
    → pages_from level lead index (cells ++ cell ∷ []) ≡ with_cell level (pages_from level lead index cells) cell
pages_more zero level lead index cells cell few some = absurd (omega arith)
pages_more (suc k) level lead index cells cell few some = elim (cases_lt (length cells) (page_room level)) [
  | inl room ↦ onto_page level lead index cells cell some room
  | inr high ↦ elim (cases_eq (length cells) (page_room level)) [
    | inl full ↦ behind_page level lead index cells cell some full
    | inr more ↦
        let n = page_room level in
        let room = some_room level in
        let over : n < length cells = omega (arith, more) in
        let left = length-drop n cells in
        let long = length-append cells (cell ∷ []) in
        let page = page_of_run level lead index (take n cells) in
        let rest = pages_from level lead (index + 1) (drop n cells) in
        next_page level lead index (cells ++ cell ∷ []) (omega arith)
        ∙ ap₂ (λ run ps. page_of_run level lead index run ∷ ps) (take-append-le n cells (cell ∷ []) high)
        (ap (pages_from level lead (index + 1)) (drop-append-le n cells (cell ∷ []) high)
        ∙ pages_more k level lead (index + 1) (drop n cells) cell (omega arith) (omega arith))
        ∙ sym (with_cell-cons level page rest cell
        (some_page level lead (index + 1) (drop n cells) (omega arith)))
        ∙ sym (ap (λ ps. with_cell level ps cell) (next_page level lead index cells some))
  ]
]

-- ---- one level

group_more : (d : Draw) (level : ℕ) (part : List Cell) (cell : Cell) → 1 ≤ length part
    → pages_of_group d level (part ++ cell ∷ []) ≡ with_cell level (pages_of_group d level part) cell
unfolding lead_of
group_more d level [] cell some = absurd (omega arith)
group_more d level (first ∷ part) cell some =
    let lead = lead_of d level (first ∷ part) in
    sym (all_pages level lead (first ∷ (part ++ cell ∷ [])))
    ∙ pages_more (length (first ∷ part)) level lead 0 (first ∷ part) cell (omega arith) some
    ∙ ap (λ ps. with_cell level ps cell) (all_pages level lead (first ∷ part))

some_group_page : (d : Draw) (level : ℕ) (part : List Cell) → 1 ≤ length part
    → 1 ≤ length (pages_of_group d level part)
some_group_page d level part some =
    subst (λ (ps : List Page). 1 ≤ length ps) (all_pages level (lead_of d level part) part)
    (some_page level (lead_of d level part) 0 part some)

-- the page of a group of one cell
pub one_cell : (d : Draw) (level : ℕ) (cell : Cell)
    → pages_of_group d level (cell ∷ []) ≡ page_of_run level (lead_of d level (cell ∷ [])) 0 (cell ∷ []) ∷ []
one_cell d level cell =
    let room = some_room level in
    sym (all_pages level (lead_of d level (cell ∷ [])) (cell ∷ []))
    ∙ one_page level (lead_of d level (cell ∷ [])) 0 (cell ∷ []) (omega arith) (omega arith)

groups_more : (d : Draw) (level : ℕ) (parts : List (List Cell)) (cell : Cell)
    → AllByRecursion (λ part. 1 ≤ length part) parts → leads_group d level cell ≡ false
    → flat_map (pages_of_group d level) (onto_last parts cell)
    ≡ with_cell level (flat_map (pages_of_group d level) parts) cell
unfolding onto_last with_cell lead_of
groups_more d level [] cell all follows =
    append-nil (pages_of_group d level (cell ∷ [])) ∙ one_cell d level cell
    ∙ ap (λ (b : Bool). page_of_run level (cond b (Leader cell.key) Start) 0 (cell ∷ []) ∷ []) follows
groups_more d level (part ∷ []) cell all follows =
    append-nil (pages_of_group d level (part ++ cell ∷ [])) ∙ group_more d level part cell all.0
    ∙ ap (λ ps. with_cell level ps cell) (sym (append-nil (pages_of_group d level part)))
groups_more d level (part ∷ next ∷ parts) cell all follows =
    let more = flat_map (pages_of_group d level) parts in
    ap (λ ps. pages_of_group d level part ++ ps) (groups_more d level (next ∷ parts) cell all.1 follows)
    ∙ sym (with_cell-append level (pages_of_group d level part) (pages_of_group d level next ++ more) cell
    (omega (
      arith,
      length-append (pages_of_group d level next) more,
      some_group_page d level next all.1.0,
    )))

-- a part of a list that is cut is not empty
some_cells : (cuts : Cell → Bool) (part : List Cell) → IsUncut cuts part → 1 ≤ length part
some_cells cuts [] uncut = absurd uncut
some_cells cuts (cell ∷ part) uncut = omega arith

some_groups : (d : Draw) (s : List Pair) (level : ℕ) → AllByRecursion (λ part. 1 ≤ length part) (groups d s level)
unfolding groups
some_groups d s level =
    all_weaker (IsUncut (leads_group d level)) (λ part. 1 ≤ length part) (some_cells (leads_group d level)) _
    (cut_before_is_uncut (leads_group d level) _)

-- whether the list of a level is cut before the cell of a pair
pub leads_by_top : (d : Draw) (level : ℕ) (y : Pair)
    → leads_group d level (cell_on level y) ≡ nat_lt level (d.level y.0)
leads_by_top d level y = ap (λ k. nat_lt level (d.level k)) (cell_on-key level y)

-- the highest level on which the key stands: its cell comes onto the last page, or behind it
pub level_more : (d : Draw) (s : List Pair) (y : Pair) (level : ℕ) → level ≡ d.level y.0
    → level_pages d (s ++ y ∷ []) level ≡ with_cell level (level_pages d s level) (cell_on level y)
unfolding level_pages
level_more d s y level top =
    ap (flat_map (pages_of_group d level)) (groups_at d s y level top)
    ∙ groups_more d level (groups d s level) (cell_on level y) (some_groups d s level)
    (leads_by_top d level y ∙ le-ltb level (d.level y.0) (omega arith))

-- a level below it: the cell begins a group
pub level_new : (d : Draw) (s : List Pair) (y : Pair) (level : ℕ) → level < d.level y.0
    → level_pages d (s ++ y ∷ []) level ≡ level_pages d s level
    ++ page_of_run level (lead_of d level (cell_on level y ∷ [])) 0 (cell_on level y ∷ []) ∷ []
unfolding level_pages
level_new d s y level low =
    let pages_of : List Cell → List Page = pages_of_group d level in
    ap (flat_map pages_of) (groups_below d s y level low)
    ∙ flat_map-append pages_of (groups d s level) ((cell_on level y ∷ []) ∷ [])
    ∙ ap (λ ps. flat_map pages_of (groups d s level) ++ ps)
    (append-nil (pages_of (cell_on level y ∷ [])) ∙ one_cell d level (cell_on level y))
