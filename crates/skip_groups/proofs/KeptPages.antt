-- The first pages of a group that a change of a key leaves as they are: the cells behind them make the other pages.
use Rattle.std.proofs.Common.{◌≡◌, ℕ, zero, suc, ◌+◌, ◌-◌, ◌≤◌, List, [], ◌∷◌, ◌++◌, length, take, drop, Option, Some}
use Rattle.std.proofs.Common.{None, IfSome, Less, refl, sym, ap, ap₂, subst, ◌∙◌, append_assoc, arith}
use Rattle.std.specs.List.{AllByRecursion, flat_map, slice_get}
use Rattle.std.specs.List.Sorted.{IsStrictlySortedBy}
use Rattle.std.specs.Cmp.Lexicographic.{nat_list_cmp_total}
use Rattle.std.proofs.Math.Seq.{take-append_seam, drop-append_seam}
use Rattle.std.proofs.lemmas.List.{length-append, length-take, append-nil}
use Rattle.std.proofs.lemmas.List.Elements.{filter-append}
use Rattle.store_model.specs.Paths.{key_cmp}
use Rattle.store_model.specs.Labels.{Lead}
use Rattle.store_model.specs.Labels.Lead.{Leader}
use Rattle.store_model.specs.Pages.{Cell, Page, page_room, group_pages}
use Rattle.store_model.proofs.ListsLemmas.{all_flat_map, rising_head, rising_tail}
use Rattle.store_model.proofs.PagesLemmas.{some_room}
use Rattle.node_pages.specs.LastPages.{pages_from, page_of_run}
use Rattle.node_pages.proofs.Runs.{all_pages, next_page, no_page}
use Rattle.skip_groups.specs.Floors.{last_of, lead_from}
use Rattle.skip_groups.specs.GroupCells.{IsKept, EndsAbove, compares, side}
use Rattle.skip_groups.proofs.CellLists.{last_at}
use Rattle.skip_groups.proofs.Halving.{cell_at}
use Rattle.skip_groups.proofs.Sides.{side_all}

abbrev pub cells_of : List Page → List Cell
cells_of pages = flat_map (λ (page : Page). page.cells) pages

-- ---- the pages

module _ (level : ℕ) (lead : Lead) where
  abbrev HasNoRoom : Page → Type 0
  HasNoRoom page = page_room level ≤ length page.cells

  kept_front : (k first : ℕ) (group more : List Cell) → k ≤ length (pages_from level lead first group)
      → AllByRecursion HasNoRoom (take k (pages_from level lead first group))
      → take k (pages_from level lead first group) ++ pages_from level lead (first + k) more
      ≡ pages_from level lead first (cells_of (take k (pages_from level lead first group)) ++ more)
  kept_front zero first group more within full = let same : first + 0 ≡ first = omega arith
      in ap (λ n. pages_from level lead n more) same
  kept_front (suc k) first [] more within full =
      absurd (let none = ap length (no_page level lead first [] refl) in omega arith)
  kept_front (suc k) first (c ∷ cells) more within full =
      let n = page_room level in
      let group = c ∷ cells in
      let page = page_of_run level lead first (take n group) in
      let rest = pages_from level lead (first + 1) (drop n group) in
      let next : pages_from level lead first group ≡ page ∷ rest = next_page level lead first group (omega arith) in
      let whole : AllByRecursion HasNoRoom (page ∷ take k rest) =
      subst (λ ps. AllByRecursion HasNoRoom (take (suc k) ps)) next full in
      let there : k ≤ length rest = omega (arith, ap length next, within) in
      let long : length (take n group) ≡ n = let l = length-take n group in let full_one = whole.0 in omega arith in
      let behind = cells_of (take k rest) ++ more in
      let all = take n group ++ behind in
      let some : 1 ≤ length all =
      omega (arith, length-append (take n group) behind, length-take n group, some_room level) in
      let front : take n all ≡ take n group =
      subst (λ m. take m all ≡ take n group) long (take-append_seam (take n group) behind) in
      let back : drop n all ≡ behind = subst (λ m. drop m all ≡ behind) long (drop-append_seam (take n group) behind) in
      let further : first + suc k ≡ first + 1 + k = omega arith in
      ap₂ (λ ps m. take (suc k) ps ++ pages_from level lead m more) next further
      ∙ ap (λ ps. page ∷ ps) (kept_front k (first + 1) (drop n group) more there whole.1)
      ∙ sym (next_page level lead first all some
      ∙ ap₂ (λ run cs. page_of_run level lead first run ∷ pages_from level lead (first + 1) cs) front back)
      ∙ ap (pages_from level lead first) (sym (append_assoc (take n group) (cells_of (take k rest)) more))
      ∙ ap (λ ps. pages_from level lead first (cells_of (take (suc k) ps) ++ more)) (sym next)

  -- pages that are full, and those of the cells behind them, are the pages of all these cells
  pub front_stays : (kept : ℕ) (olds : List Page) (group more : List Cell) → kept ≤ length olds
      → AllByRecursion HasNoRoom (take kept olds) → olds ≡ group_pages level lead group
      → take kept olds ++ pages_from level lead kept more ≡ group_pages level lead (cells_of (take kept olds) ++ more)
  front_stays kept olds group more within full are =
      let from : olds ≡ pages_from level lead 0 group = are ∙ sym (all_pages level lead group) in
      let place : kept ≡ 0 + kept = omega arith in
      ap₂ (λ ps n. take kept ps ++ pages_from level lead n more) from place
      ∙ kept_front kept 0 group more (subst (λ ps. kept ≤ length ps) from within)
      (subst (λ ps. AllByRecursion HasNoRoom (take kept ps)) from full)
      ∙ ap (λ ps. pages_from level lead 0 (cells_of (take kept ps) ++ more)) (sym from)
      ∙ all_pages level lead (cells_of (take kept olds) ++ more)

-- ---- the cells

-- where the last of cells that rise is below a key, all are
pub below_last : (key last : List ℕ) (cells : List Cell)
    → IsStrictlySortedBy (λ (a b : Cell). key_cmp a.key b.key) cells
    → IfSome (slice_get cells (length cells - 1)) (λ c. c.key ≡ last) → key_cmp last key ≡ Less
    → AllByRecursion (λ c. key_cmp c.key key ≡ Less) cells
below_last key last [] rising is less = tt
below_last key last (c ∷ []) rising is less = (ap (λ k. key_cmp k key) is ∙ less, tt)
below_last key last (c ∷ d ∷ cells) rising is less =
    let cmp = λ (a b : Cell). key_cmp a.key b.key in
    let here : length (c ∷ d ∷ cells) - 1 ≡ suc (length (d ∷ cells) - 1) = omega arith in
    let rest = below_last key last (d ∷ cells) (rising_tail cmp c (d ∷ cells) rising)
    (subst (λ n. IfSome (slice_get (c ∷ d ∷ cells) n) (λ (x : Cell). x.key ≡ last)) here is) less in
    (nat_list_cmp_total.trans c.key d.key key (rising_head cmp c (d ∷ cells) rising).0 rest.0, rest)

-- cells that end with one that is not below a key
pub ends_above : (key last : List ℕ) (cells : List Cell) → 1 ≤ length cells
    → IfSome (slice_get cells (length cells - 1)) (λ c. c.key ≡ last)
    → (key_cmp last key ≡ Less → ⊥) → EndsAbove key cells
ends_above key last [] some is above = absurd (omega arith)
ends_above key last (c ∷ []) some is above = record {
  before = [];
  last = c;
  parts = refl;
  above = λ less. above (ap (λ k. key_cmp k key) (sym is) ∙ less);
}
ends_above key last (c ∷ d ∷ cells) some is above =
    let here : length (c ∷ d ∷ cells) - 1 ≡ suc (length (d ∷ cells) - 1) = omega arith in
    let rest = ends_above key last (d ∷ cells) (omega arith)
    (subst (λ n. IfSome (slice_get (c ∷ d ∷ cells) n) (λ (x : Cell). x.key ≡ last)) here is) above in
    record { before = c ∷ rest.before; last = rest.last; parts = ap (λ xs. c ∷ xs) rest.parts; above = rest.above }

-- the cells of pages that stay
pub kept_below : (level : ℕ) (key : List ℕ) (pages : List Page) → AllByRecursion (IsKept level key) pages
    → AllByRecursion (λ c. key_cmp c.key key ≡ Less) (cells_of pages)
kept_below level key pages all = all_flat_map (IsKept level key) (λ c. key_cmp c.key key ≡ Less)
    (λ (page : Page). page.cells) (λ page is. is.below) pages all

module _ (key : List ℕ) (front : List Cell) (below : AllByRecursion (λ c. key_cmp c.key key ≡ Less) front) where
  pub low_behind : (cells : List Cell) → side Less key (front ++ cells) ≡ front ++ side Less key cells
  low_behind cells = filter-append (compares Less key) front cells
      ∙ ap (λ xs. xs ++ side Less key cells) (side_all Less key front below)

last_append : (xs ys : List Cell) (y : Cell) → last_of ys ≡ Some y → last_of (xs ++ ys) ≡ Some y
unfolding last_of
last_append [] ys y e = e
last_append (x ∷ []) [] y e = absurd (cc)
last_append (x ∷ []) (z ∷ ys) y e = e
last_append (x ∷ w ∷ xs) ys y e = last_append (w ∷ xs) ys y e

-- what leads on from cells behind others
pub lead_on : (front cells : List Cell) (lead : Lead)
    → lead_from (last_of cells) (lead_from (last_of front) lead) ≡ lead_from (last_of (front ++ cells)) lead
unfolding last_of
lead_on front cells lead = by_last (last_of cells) refl
  where
    none : (xs : List Cell) → last_of xs ≡ None → xs ≡ []
    none [] e = refl
    none (x ∷ []) e = absurd (cc)
    none (x ∷ y ∷ xs) e = let rest : y ∷ xs ≡ [] = none (y ∷ xs) e in absurd (cc)

    by_last : (o : Option Cell) → last_of cells ≡ o
        → lead_from (last_of cells) (lead_from (last_of front) lead) ≡ lead_from (last_of (front ++ cells)) lead
    by_last None e = ap (λ o. lead_from o (lead_from (last_of front) lead)) e
        ∙ ap (λ xs. lead_from (last_of xs) lead) (sym (ap (λ xs. front ++ xs) (none cells e) ∙ append-nil front))
    by_last (Some c) e = ap (λ o. lead_from o (lead_from (last_of front) lead)) e
        ∙ ap (λ o. lead_from o lead) (sym (last_append front cells c e))

-- the last cell of pages
last_cell : (pages : List Page) (page : Page) (cell : Cell) → slice_get pages (length pages - 1) ≡ Some page
    → last_of page.cells ≡ Some cell → last_of (cells_of pages) ≡ Some cell
last_cell [] page cell at last = absurd (cc)
last_cell (p ∷ []) page cell at last = let same : p ≡ page = cc
    in ap last_of (append-nil p.cells) ∙ ap (λ (q : Page). last_of q.cells) same ∙ last
last_cell (p ∷ q ∷ ps) page cell at last =
    let here : length (p ∷ q ∷ ps) - 1 ≡ suc (length (q ∷ ps) - 1) = omega arith in
    last_append p.cells (cells_of (q ∷ ps)) cell
    (last_cell (q ∷ ps) page cell (subst (λ n. slice_get (p ∷ q ∷ ps) n ≡ Some page) here at) last)

pub lead_of_pages : (pages : List Page) (page : Page) (key : List ℕ) (lead : Lead)
    → slice_get pages (length pages - 1) ≡ Some page → 1 ≤ length page.cells
    → IfSome (slice_get page.cells (length page.cells - 1)) (λ c. c.key ≡ key)
    → Leader key ≡ lead_from (last_of (cells_of pages)) lead
lead_of_pages pages page key lead at some is =
    let cell = cell_at page.cells (length page.cells - 1) (omega arith) in
    let same : cell.0.key ≡ key = subst (λ o. IfSome o (λ (c : Cell). c.key ≡ key)) cell.1 is in
    ap Leader (sym same) ∙ ap (λ o. lead_from o lead)
    (sym (last_cell pages page cell.0 at (last_at page.cells cell.0 cell.1)))
