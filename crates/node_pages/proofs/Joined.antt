-- The cells of pages, one after the other.
use Rattle.std.proofs.Common.{◌≡◌, ℕ, zero, suc, ◌+◌, ◌<◌, List, [], ◌∷◌, ◌++◌, length, get_or, map, take, cond, ◌==◌}
use Rattle.std.proofs.Common.{Some, refl, sym, ap, ◌∙◌, arith}
use Rattle.std.specs.List.{filter, flat_map, enumerate_from, slice_get}
use Rattle.std.proofs.lemmas.Bool.{eq-eqb, ne_eqb}
use Rattle.std.proofs.lemmas.List.{append-nil, take_all, take_more}
use Rattle.std.proofs.lemmas.List.Elements.{filter-append}
use Rattle.std.proofs.lemmas.Grind.{flat_map-append}
use Rattle.store_model.specs.Lists.{runs}
use Rattle.store_model.specs.Labels.{Lead}
use Rattle.store_model.specs.Pages.{Cell, Page, page_room, group_pages}
use Rattle.store_model.proofs.ListsLemmasCuts.{flat_map-map, flat_map-enumerate_from, flat_map-runs}
use Rattle.store_model.proofs.PagesLemmas.{some_room}
use Rattle.node_pages.specs.Cells.{CellList}
use Rattle.node_pages.specs.LastPages.{page_of_run}
use Rattle.node_pages.specs.Groups.{level_of_pages}

-- one element more
pub take_next : {X : Type 0} (xs : List X) (i : ℕ) (x : X) → slice_get xs i ≡ Some x
    → take (i + 1) xs ≡ take i xs ++ x ∷ []
take_next [] i x e = absurd (cc)
take_next {X = X} (y ∷ ys) zero x e = let same : (a b : X) → Some a ≡ Some b → a ≡ b = λ a b f. cc
    in ap (λ z. z ∷ []) (same y x e)
take_next (y ∷ ys) (suc i) x e = let next : suc i + 1 ≡ suc (i + 1) = omega arith
    in ap (λ n. take n (y ∷ ys)) next ∙ ap (λ rest. y ∷ rest) (take_next ys i x e)

-- the cells of the pages of one group are those of the group
pub cells_of_group : (level : ℕ) (lead : Lead) (cells : List Cell)
    → flat_map (λ page. page.cells) (group_pages level lead cells) ≡ cells
unfolding group_pages
cells_of_group level lead cells =
    flat_map-map (λ page. page.cells) (λ run. page_of_run level lead run.0 run.1)
    (enumerate_from 0 (runs (page_room level) cells))
    ∙ flat_map-enumerate_from (λ run. run) 0 (runs (page_room level) cells)
    ∙ flat_map-runs (page_room level) cells (some_room level)

-- the pages of a group are of its level
of_level : (level : ℕ) (lead : Lead) (pages : List (ℕ × List Cell))
    → filter (λ page. page.label.level == level) (map (λ run. page_of_run level lead run.0 run.1) pages)
    ≡ map (λ run. page_of_run level lead run.0 run.1) pages
of_level level lead [] = refl
of_level level lead (run ∷ runs) =
    let page = page_of_run level lead run.0 run.1 in
    let others = map (λ (r : ℕ × List Cell). page_of_run level lead r.0 r.1) runs in
    ap (λ b. cond b (page ∷ filter (λ (p : Page). p.label.level == level) others)
    (filter (λ (p : Page). p.label.level == level) others)) (eq-eqb level level refl)
    ∙ ap (λ ps. page ∷ ps) (of_level level lead runs)

pub group_of_level : (level : ℕ) (lead : Lead) (cells : List Cell)
    → filter (λ page. page.label.level == level) (group_pages level lead cells) ≡ group_pages level lead cells
unfolding group_pages
group_of_level level lead cells = of_level level lead (enumerate_from 0 (runs (page_room level) cells))

-- The cells of the first pages that are of the level, with one page more.
abbrev on_level : ℕ → List Page → List Cell
on_level level pages = flat_map (λ page. page.cells) (filter (λ page. page.label.level == level) pages)

more_on_level : (level : ℕ) (pages : List Page) (i : ℕ) (page : Page) → i < length pages → page ≡ get_or pages i page
    → on_level level (take (i + 1) pages) ≡ on_level level (take i pages) ++ on_level level (page ∷ [])
more_on_level level pages i page low is =
    ap (on_level level) (take_more pages i page low ∙ ap (λ p. take i pages ++ p ∷ []) (sym is))
    ∙ ap (flat_map (λ page. page.cells))
    (filter-append (λ page. page.label.level == level) (take i pages) (page ∷ []))
    ∙ flat_map-append (λ page. page.cells) (filter (λ page. page.label.level == level) (take i pages))
    (filter (λ page. page.label.level == level) (page ∷ []))

module _ (level : ℕ) (pages : List Page) (i : ℕ) (page : Page) (low : i < length pages)
    (is : page ≡ get_or pages i page) where
  pub joined_page : (before after : CellList) (count : ℕ) → page.label.level ≡ level → count ≡ length page.cells
      → before ≡ record { level = level; cells = on_level level (take i pages) }
      → after ≡ record before { cells = before.cells ++ take count page.cells } → after ≡ record {
        level = level;
        cells = on_level level (take (i + 1) pages);
      }
  joined_page before after count here all so_far then =
      let one : take count page.cells ≡ on_level level (page ∷ []) =
      take_all count page.cells (omega (arith, all))
      ∙ sym (ap (λ b. flat_map (λ page. page.cells) (cond b (page ∷ []) [])) (eq-eqb page.label.level level here)
      ∙ append-nil page.cells) in
      then ∙ ap (λ (l : CellList). record l { cells = l.cells ++ take count page.cells }) so_far
      ∙ ap (λ (cs : List Cell). record {
        level = level;
        cells = cs;
      }) (ap (λ cs. on_level level (take i pages) ++ cs) one
      ∙ sym (more_on_level level pages i page low is))

  pub passed_page : (before : CellList) → (page.label.level ≡ level → ⊥) → before ≡ record {
    level = level;
    cells = on_level level (take i pages);
  } → before ≡ record {
    level = level;
    cells = on_level level (take (i + 1) pages);
  }
  passed_page before other so_far =
      let none : on_level level (page ∷ []) ≡ [] =
      ap (λ b. flat_map (λ page. page.cells) (cond b (page ∷ []) [])) (ne_eqb page.label.level level other) in
      so_far ∙ ap (λ (cs : List Cell). record { level = level; cells = cs })
      (sym (more_on_level level pages i page low is ∙ ap (λ cs. on_level level (take i pages) ++ cs) none
      ∙ append-nil (on_level level (take i pages))))

-- the cells of the pages of one group that are of the level that they begin on are those of the group
joined_runs : (level : ℕ) (lead : Lead) (runs : List (ℕ × List Cell))
    → let pages = map (λ run. page_of_run level lead run.0 run.1) runs in
    on_level (level_of_pages pages) pages ≡ flat_map (λ page. page.cells) pages
unfolding level_of_pages
joined_runs level lead [] = refl
joined_runs level lead (run ∷ others) = ap (flat_map (λ page. page.cells)) (of_level level lead (run ∷ others))

pub joined_group : (level : ℕ) (lead : Lead) (cells : List Cell)
    → on_level (level_of_pages (group_pages level lead cells)) (group_pages level lead cells) ≡ cells
unfolding group_pages
joined_group level lead cells =
    joined_runs level lead (enumerate_from 0 (runs (page_room level) cells)) ∙ cells_of_group level lead cells
