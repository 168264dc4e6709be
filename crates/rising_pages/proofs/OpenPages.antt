-- The open page of a level, one pair on.
use Rattle.std.proofs.Common.{◌≡◌, ℕ, ◌+◌, ◌≤◌, ◌<◌, List, [], ◌∷◌, ◌++◌, length, take, Bool, true, false}
use Rattle.std.proofs.Common.{Option, Some, None, cond, nat_lt, refl, sym, ap, ap₂, subst, ◌∙◌, arith, append-nil}
use Rattle.std.proofs.Common.{append_assoc, inl, inr, ◌⊎◌}
use Rattle.std.specs.List.{AllByRecursion, flat_map}
use Rattle.std.specs.List.Sorted.{IsStrictlySortedBy}
use Rattle.std.proofs.lemmas.Bool.{cases_lt, lt-ltb, le-ltb}
use Rattle.std.proofs.lemmas.List.{length-append}
use Rattle.std.proofs.lemmas.List.Concat.{flat_map-append}
use Rattle.std.proofs.Math.Seq.{take-append_seam}
use Rattle.store_model.specs.Paths.{key_cmp}
use Rattle.store_model.specs.Draws.{Draw}
use Rattle.store_model.specs.Pairs.{Pair}
use Rattle.store_model.specs.Labels.Lead.{Start, Leader}
use Rattle.store_model.specs.Pages.{Cell, Page, IsPage, page_room, cell_on, level_list, lead_of, level_pages}
use Rattle.store_model.proofs.ListsLemmas.{all_back, rising_back, rising_to_map}
use Rattle.store_model.proofs.PagesLemmas.{cells_of_level}
use Rattle.store_model.proofs.PagesLemmasOrder.{cell_cmp, cell_on-key, rising_level_list}
use Rattle.store_model.proofs.PagesLemmasSizes.{level_pages_are_pages}
use Rattle.store_model.proofs.PagesLemmasSplits.{level_list-append, level_list-there, level_pages-above}
use Rattle.store_model.proofs.TreesLemmasLayouts.{pages_on_level}
use Rattle.node_pages.specs.LastPages.{page_of_run}
use Rattle.rising_pages.specs.Ends.{all_but_last, last_of, list_of}
use Rattle.rising_pages.specs.OpenPages.{closed_pages, open_page, ClosedStay, StandsBehind, Comes, HasCome}
use Rattle.rising_pages.proofs.Ends.{ends_whole, no_last, with_last, last_of-push, all_but_last-push}
use Rattle.rising_pages.proofs.MoreCells.{fuller, behind, with_cell, with_cell-append, level_more, level_new}
use Rattle.rising_pages.proofs.MoreCells.{leads_by_top}

-- the level of the pair's key is that of the cell's
pub top_of_cell : (d : Draw) (level top : ℕ) (s : List Pair) (y : Pair) (held : Option Page) (cell : Cell)
    → Comes d level top s y held cell → top ≡ d.level cell.key
top_of_cell d level top s y held cell comes =
    comes.top_is ∙ ap d.level (sym (ap (λ c. c.key) comes.cell_is ∙ cell_on-key level y))

-- ---- where the cell of a pair comes

-- the pages with one behind them
came_behind : (d : Draw) (level : ℕ) (s : List Pair) (y : Pair) (page : Page)
    → level_pages d (s ++ y ∷ []) level ≡ level_pages d s level ++ page ∷ []
    → HasCome d level s y (Some page) (open_page d s level)
came_behind d level s y page is = record {
  last_is = sym (ap last_of is ∙ last_of-push (level_pages d s level) page);
  closed_is = ap all_but_last is ∙ all_but_last-push (level_pages d s level) page
      ∙ sym (ends_whole (level_pages d s level));
}

-- the last page is another one
came_onto : (d : Draw) (level : ℕ) (s : List Pair) (y : Pair) (page : Page)
    → level_pages d (s ++ y ∷ []) level ≡ closed_pages d s level ++ page ∷ []
    → HasCome d level s y (Some page) None
came_onto d level s y page is = record {
  last_is = sym (ap last_of is ∙ last_of-push (closed_pages d s level) page);
  closed_is = ap all_but_last is ∙ all_but_last-push (closed_pages d s level) page
      ∙ sym (append-nil (closed_pages d s level));
}

-- the first page of a group or of a level
first_page : (d : Draw) (level : ℕ) (s : List Pair) (y : Pair) → level ≤ d.level y.0
    → (level < d.level y.0) ⊎ (level_pages d s level ≡ [])
    → level_pages d (s ++ y ∷ []) level ≡ level_pages d s level
    ++ page_of_run level (lead_of d level (cell_on level y ∷ [])) 0 (cell_on level y ∷ []) ∷ []
unfolding with_cell lead_of
first_page d level s y stands (inl low) = level_new d s y level low
first_page d level s y stands (inr none) = elim (cases_lt level (d.level y.0)) [
  | inl low ↦ level_new d s y level low
  | inr high ↦
      level_more d s y level (omega arith) ∙ ap (λ ps. with_cell level ps (cell_on level y)) none
      ∙ ap (λ (b : Bool). page_of_run level (cond b (Leader (cell_on level y).key) Start) 0 (cell_on level y ∷ []) ∷ [])
      (sym (leads_by_top d level y ∙ le-ltb level (d.level y.0) high))
      ∙ ap (λ ps. ps ++ page_of_run level (lead_of d level (cell_on level y ∷ [])) 0 (cell_on level y ∷ []) ∷ [])
      (sym none)
]

-- it begins a group, or the level
pub come_first : (d : Draw) (level top : ℕ) (s : List Pair) (y : Pair) (held : Option Page) (cell : Cell) (page : Page)
    → Comes d level top s y held cell → (level < top) ⊎ (held ≡ None)
    → page ≡ page_of_run level (lead_of d level (cell ∷ [])) 0 (cell ∷ []) → HasCome d level s y (Some page) held
come_first d level top s y held cell page comes begins is =
    let begins_there : (level < d.level y.0) ⊎ (level_pages d s level ≡ []) = elim begins [
      | inl low ↦ inl (omega (arith, comes.top_is))
      | inr none ↦ inr (no_last (level_pages d s level) (sym comes.last_is ∙ none))
    ] in
    let page_is : page ≡ page_of_run level (lead_of d level (cell_on level y ∷ [])) 0 (cell_on level y ∷ []) =
    is ∙ ap (λ c. page_of_run level (lead_of d level (c ∷ [])) 0 (c ∷ [])) comes.cell_is in
    subst (λ o. HasCome d level s y (Some page) o) (sym comes.last_is)
    (came_behind d level s y page
    (first_page d level s y (omega (arith, comes.top_is, comes.stands)) begins_there
    ∙ ap (λ p. level_pages d s level ++ p ∷ []) (sym page_is)))

-- on the highest level of its key, behind the last page
at_top : (d : Draw) (level top : ℕ) (s : List Pair) (y : Pair) (last : Page) (cell : Cell)
    → Comes d level top s y (Some last) cell → top ≤ level
    → level_pages d (s ++ y ∷ []) level ≡ closed_pages d s level
    ++ cond (nat_lt (length last.cells) (page_room level)) (fuller last cell ∷ []) (last ∷ behind last cell ∷ [])
unfolding with_cell
at_top d level top s y last cell comes high =
    level_more d s y level (omega (arith, comes.top_is, comes.stands))
    ∙ ap₂ (with_cell level) (with_last (level_pages d s level) last (sym comes.last_is)) (sym comes.cell_is)
    ∙ with_cell-append level (closed_pages d s level) (last ∷ []) cell (omega arith)

-- it comes onto the last page
pub come_onto : (d : Draw) (level top : ℕ) (s : List Pair) (y : Pair) (last : Page) (cell : Cell)
    → Comes d level top s y (Some last) cell → top ≤ level → length last.cells < page_room level
    → HasCome d level s y (Some (fuller last cell)) None
come_onto d level top s y last cell comes high room =
    came_onto d level s y (fuller last cell)
    (at_top d level top s y last cell comes high
    ∙ ap (λ b. closed_pages d s level ++ cond b (fuller last cell ∷ []) (last ∷ behind last cell ∷ []))
    (lt-ltb (length last.cells) (page_room level) room))

full_page : (d : Draw) (level top : ℕ) (s : List Pair) (y : Pair) (last : Page) (cell : Cell)
    → Comes d level top s y (Some last) cell → top ≤ level → page_room level ≤ length last.cells
    → level_pages d (s ++ y ∷ []) level ≡ level_pages d s level ++ behind last cell ∷ []
full_page d level top s y last cell comes high full =
    at_top d level top s y last cell comes high
    ∙ ap (λ b. closed_pages d s level ++ cond b (fuller last cell ∷ []) (last ∷ behind last cell ∷ []))
    (le-ltb (length last.cells) (page_room level) full)
    ∙ sym (append_assoc (closed_pages d s level) (last ∷ []) (behind last cell ∷ []))
    ∙ ap (λ ps. ps ++ behind last cell ∷ [])
    (sym (with_last (level_pages d s level) last (sym comes.last_is)))

-- it comes behind a full one
pub come_behind : (d : Draw) (level top : ℕ) (s : List Pair) (y : Pair) (last : Page) (cell : Cell)
    → Comes d level top s y (Some last) cell → top ≤ level → page_room level ≤ length last.cells
    → HasCome d level s y (Some (behind last cell)) (Some last)
come_behind d level top s y last cell comes high full =
    subst (λ o. HasCome d level s y (Some (behind last cell)) o) (sym comes.last_is)
    (came_behind d level s y (behind last cell) (full_page d level top s y last cell comes high full))

-- that page's number is one
pub number_behind : (d : Draw) (level top : ℕ) (s : List Pair) (y : Pair) (last : Page) (cell : Cell)
    → Comes d level top s y (Some last) cell → top ≤ level → page_room level ≤ length last.cells
    → last.label.index + 1 < 4294967296
number_behind d level top s y last cell comes high full =
    let long = length-append s (y ∷ []) in
    let pages = level_pages_are_pages d (s ++ y ∷ []) level comes.low (record {
      pairs = comes.pairs;
      few = omega (arith, comes.few);
    }) in
    (all_back IsPage (level_pages d s level) (behind last cell ∷ [])
    (subst (AllByRecursion IsPage) (full_page d level top s y last cell comes high full) pages)).0.label.index

-- ---- the cell stands behind those of the page

pub stands_behind : (d : Draw) (level top : ℕ) (s : List Pair) (y : Pair) (held : Option Page) (cell : Cell)
    → Comes d level top s y held cell → StandsBehind held level cell
unfolding level_list
stands_behind d level top s y None cell comes = tt
stands_behind d level top s y (Some page) cell comes =
    let pages_are = with_last (level_pages d s level) page (sym comes.last_is) in
    let cells_of : Page → List Cell = λ p. p.cells in
    let before = flat_map cells_of (closed_pages d s level) in
    let on_level = (all_back (λ (p : Page). p.label.level ≡ level) (closed_pages d s level) (page ∷ [])
    (subst (AllByRecursion (λ (p : Page). p.label.level ≡ level)) pages_are (pages_on_level d s level))).0 in
    let cells_are : level_list d s level ≡ before ++ page.cells =
    sym (cells_of_level d s level) ∙ ap (flat_map cells_of) pages_are
    ∙ flat_map-append cells_of (closed_pages d s level) (page ∷ [])
    ∙ ap (λ cs. before ++ cs) (append-nil page.cells) in
    let all_are : level_list d (s ++ y ∷ []) level ≡ before ++ (page.cells ++ cell ∷ []) =
    level_list-append d s (y ∷ []) level
    ∙ ap₂ (λ us vs. us ++ vs) cells_are
    (level_list-there d y [] level (omega (arith, comes.top_is, comes.stands))
    ∙ ap (λ c. c ∷ []) (sym comes.cell_is))
    ∙ append_assoc before page.cells (cell ∷ []) in
    let rising = subst (IsStrictlySortedBy cell_cmp) all_are
    (rising_level_list d (s ++ y ∷ []) level comes.pairs.sorted) in (
      on_level,
      rising_to_map key_cmp (λ (c : Cell). c.key) (page.cells ++ cell ∷ [])
          (rising_back cell_cmp before (page.cells ++ cell ∷ []) rising),
    )

-- ---- the closed pages stay

-- one pair on, the closed pages are the first of those that are closed then
closed_step : (d : Draw) (s : List Pair) (y : Pair) (level : ℕ)
    → (more : List Page) × (closed_pages d (s ++ y ∷ []) level ≡ closed_pages d s level ++ more)
unfolding with_cell all_but_last
closed_step d s y level = elim (cases_lt (d.level y.0) level) [
  | inl absent ↦ (
    [],
    ap all_but_last (level_pages-above d s y [] level absent ∙ ap (λ t. level_pages d t level) (append-nil s))
        ∙ sym (append-nil (closed_pages d s level)),
  )
  | inr stands ↦ by_last (open_page d s level) refl stands
]
  where
    by_room : (last : Page) (cell : Cell) (b : Bool)
        → level_pages d (s ++ y ∷ []) level
        ≡ closed_pages d s level ++ cond b (fuller last cell ∷ []) (last ∷ behind last cell ∷ [])
        → (more : List Page) × (closed_pages d (s ++ y ∷ []) level ≡ closed_pages d s level ++ more)
    by_room last cell true is = (
      [],
      ap all_but_last is ∙ all_but_last-push (closed_pages d s level) (fuller last cell)
          ∙ sym (append-nil (closed_pages d s level)),
    )
    by_room last cell false is = (
      last ∷ [],
      ap all_but_last (is ∙ sym (append_assoc (closed_pages d s level) (last ∷ []) (behind last cell ∷ [])))
          ∙ all_but_last-push (closed_pages d s level ++ last ∷ []) (behind last cell),
    )

    at_level : (last : Page) → open_page d s level ≡ Some last → level ≡ d.level y.0
        → (more : List Page) × (closed_pages d (s ++ y ∷ []) level ≡ closed_pages d s level ++ more)
    at_level last is top =
        let cell = cell_on level y in
        let pages_are : level_pages d (s ++ y ∷ []) level ≡ closed_pages d s level
        ++ cond (nat_lt (length last.cells) (page_room level)) (fuller last cell ∷ []) (last ∷ behind last cell ∷ []) =
        level_more d s y level top
        ∙ ap (λ ps. with_cell level ps cell) (with_last (level_pages d s level) last is)
        ∙ with_cell-append level (closed_pages d s level) (last ∷ []) cell (omega arith) in
        by_room last cell (nat_lt (length last.cells) (page_room level)) pages_are

    by_last : (o : Option Page) → open_page d s level ≡ o → level ≤ d.level y.0
        → (more : List Page) × (closed_pages d (s ++ y ∷ []) level ≡ closed_pages d s level ++ more)
    by_last None is stands =
        let none = no_last (level_pages d s level) is in (
          closed_pages d (s ++ y ∷ []) level,
          ap (λ (ps : List Page). all_but_last ps ++ closed_pages d (s ++ y ∷ []) level) (sym none),
        )
    by_last (Some last) is stands = elim (cases_lt level (d.level y.0)) [
      | inl low ↦ (
        last ∷ [],
        ap all_but_last (level_new d s y level low) ∙ all_but_last-push (level_pages d s level) _
            ∙ with_last (level_pages d s level) last is,
      )
      | inr high ↦ at_level last is (omega arith)
    ]

-- and so they are however many pairs come
closed_grow : (d : Draw) (s t : List Pair) (level : ℕ)
    → (more : List Page) × (closed_pages d (s ++ t) level ≡ closed_pages d s level ++ more)
closed_grow d s [] level = (
  [],
  ap (λ r. closed_pages d r level) (append-nil s) ∙ sym (append-nil (closed_pages d s level)),
)
closed_grow d s (y ∷ t) level =
    let (first, first_is) = closed_step d s y level in
    let (more, more_is) = closed_grow d (s ++ y ∷ []) t level in (
      first ++ more,
      ap (λ r. closed_pages d r level) (sym (append_assoc s (y ∷ []) t)) ∙ more_is ∙ ap (λ ps. ps ++ more) first_is
          ∙ append_assoc (closed_pages d s level) first more,
    )

pub closed_stay : (d : Draw) (s t : List Pair) (level : ℕ) → ClosedStay d s t level
closed_stay d s t level =
    let closed = closed_pages d s level in
    let (more, more_is) = closed_grow d s t level in
    let whole : level_pages d (s ++ t) level ≡ closed ++ (more ++ list_of (open_page d (s ++ t) level)) =
    sym (ends_whole (level_pages d (s ++ t) level))
    ∙ ap (λ ps. ps ++ list_of (open_page d (s ++ t) level)) more_is
    ∙ append_assoc closed more (list_of (open_page d (s ++ t) level)) in
    ap (take (length closed)) whole ∙ take-append_seam closed (more ++ list_of (open_page d (s ++ t) level))
