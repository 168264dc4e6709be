-- The cells of a key set in a group, read page after page: each step.
use Rattle.std.proofs.Common.{◌≡◌, ◌⊎◌, inl, inr, ℕ, zero, suc, ◌+◌, ◌-◌, ◌<◌, ◌≤◌, ◌==◌, Bool, true, false, cond, List}
use Rattle.std.proofs.Common.{[], ◌∷◌, ◌++◌, length, Some, IfSome, Less, Equal, Greater, refl, sym, ap, subst, ◌∙◌}
use Rattle.std.proofs.Common.{append_assoc, arith}
use Rattle.std.specs.List.{slice_get}
use Rattle.std.proofs.lemmas.List.{length-append, append-nil}
use Rattle.std.proofs.lemmas.List.Elements.{filter-append}
use Rattle.std.proofs.lemmas.Grind.{flat_map-append}
use Rattle.store_base.specs.declared.label.Lead as declared
use Rattle.store_base.specs.Leads as leads
use Rattle.store_model.specs.Lists.{runs, run_count}
use Rattle.store_model.specs.Labels.{Lead}
use Rattle.store_model.specs.Labels.Lead.{Leader}
use Rattle.store_model.specs.Pages.{Cell, Page, page_room}
use Rattle.store_model.proofs.ListsLemmas.{all_append}
use Rattle.node_pages.specs.Cells.{CellList}
use Rattle.node_pages.proofs.Runs.{length-runs}
use Rattle.skip_groups.specs.declared.new_cells.NewCells.{NewCells}
use Rattle.skip_groups.specs.declared.new_cells.Step.{Step}
use Rattle.skip_groups.specs.declared.new_cells.Step.TheVariants.{More, Done, Same}
use Rattle.skip_groups.specs.Floors.{last_of}
use Rattle.skip_groups.specs.GroupCells.{AreCells, IsKept, IsFirstCell, IsMerged, compares, side, merged}
use Rattle.skip_groups.specs.NewCells.{cells_gathered, ComeIn, IsCellsSet, IsStepBehind, IsStep}
use Rattle.skip_groups.proofs.CellLists.{front_cells}
use Rattle.skip_groups.proofs.KeptPages.{lead_of_pages}

-- the cells of one page more
pub cells_push : (pages : List Page) (page : Page)
    → cells_gathered (pages ++ page ∷ []) ≡ cells_gathered pages ++ page.cells
cells_push pages page = flat_map-append (λ (p : Page). p.cells) pages (page ∷ [])
    ∙ ap (λ xs. cells_gathered pages ++ xs) (append-nil page.cells)

-- the page behind all others
pub page_at_end : (pages : List Page) (page : Page)
    → slice_get (pages ++ page ∷ []) (length (pages ++ page ∷ []) - 1) ≡ Some page
page_at_end [] page = refl
page_at_end (p ∷ []) page = refl
page_at_end (p ∷ q ∷ pages) page =
    let here : length (p ∷ q ∷ pages ++ page ∷ []) - 1 ≡ suc (length (q ∷ pages ++ page ∷ []) - 1) = omega arith in
    ap (slice_get (p ∷ q ∷ pages ++ page ∷ [])) here ∙ page_at_end (q ∷ pages) page

-- one number below another one, or not
pub below_or_not : (a b : ℕ) → (a < b) ⊎ (b ≤ a)
below_or_not zero zero = inr (omega arith)
below_or_not zero (suc b) = inl (omega arith)
below_or_not (suc a) zero = inr (omega arith)
below_or_not (suc a) (suc b) = elim (below_or_not a b) [ inl h ↦ inl (omega arith) | inr h ↦ inr (omega arith) ]

-- cells make a run
pub some_run : (level : ℕ) (cells : List Cell) → 1 ≤ length cells → 0 < length (runs (page_room level) cells)
some_run level cells some = omega (arith, length-runs level cells, one_run (level == 0) (length cells) some)
  where
    one_run : (b : Bool) (count : ℕ) → 1 ≤ count → 0 < run_count (cond b 10 31) count
    one_run true count is = omega arith
    one_run false count is = omega arith

-- what is known behind a page where others gave way
pub step_in : (level : ℕ) (lead : Lead) (page : Page) (made : NewCells) (step : Step) → 1 ≤ made.count
    → IsStepBehind level page step → IsStep level lead page made step
step_in level lead page made More some h = h
step_in level lead page made Done some h = (some, inl h)
step_in level lead page made Same some h = absurd h

module _ {level : ℕ} {lead : Lead} {key : List ℕ} {own : List Cell} where
  -- nothing is read
  pub set_none : (next : declared.Lead) (cells : CellList) → leads.model_lead next ≡ lead → cells.cells ≡ []
      → IsCellsSet level lead key own [] (record { next = next; kept = 0; count = 0; cells = cells })
  unfolding last_of
  set_none next cells leads none = record {
    stay = [];
    gone = [];
    parts = refl;
    kept_is = refl;
    count_is = refl;
    kept = tt;
    come = (leads, none);
    few = omega (arith, ap length none);
  }

  module _ {pages : List Page} (page : Page) {old : NewCells} (h : IsCellsSet level lead key own pages old) where
    -- where no page gives way yet, all stay
    all_stay : old.count ≡ 0 → (h.gone ≡ []) × (pages ≡ h.stay)
    all_stay none = by_gone h.gone refl
      where
        by_gone : (ps : List Page) → h.gone ≡ ps → (h.gone ≡ []) × (pages ≡ h.stay)
        by_gone [] e = (e, h.parts ∙ ap (λ qs. h.stay ++ qs) e ∙ append-nil h.stay)
        by_gone (p ∷ ps) e = absurd (omega (arith, none, h.count_is, ap length e))

    come_none : old.count ≡ 0 → ComeIn level lead key own h.stay [] old
    come_none none = subst (λ ps. ComeIn level lead key own h.stay ps old) (all_stay none).0 h.come

    -- one page more that stays
    pub set_stays : old.count ≡ 0 → IsKept level key page → (next : declared.Lead) (last : List ℕ)
        → leads.model_lead next ≡ Leader last → 1 ≤ length page.cells
        → IfSome (slice_get page.cells (length page.cells - 1)) (λ c. c.key ≡ last)
        → IsCellsSet level lead key own (pages ++ page ∷ []) (record {
          next = next;
          kept = old.kept + 1;
          count = old.count;
          cells = old.cells;
        })
    set_stays none is next last leads some ends =
        let stay = h.stay ++ page ∷ [] in
        record {
          stay = stay;
          gone = [];
          parts = ap (λ ps. ps ++ page ∷ []) (all_stay none).1 ∙ sym (append-nil stay);
          kept_is = omega (arith, h.kept_is, length-append h.stay (page ∷ []));
          count_is = none;
          kept = all_append (IsKept level key) h.stay (page ∷ []) h.kept (is, tt);
          come = (leads ∙ lead_of_pages stay page last lead (page_at_end h.stay page) some ends, (come_none none).1);
          few = omega (arith, ap length (come_none none).1);
        }

    -- the first one that gives way
    pub set_begins : old.count ≡ 0 → IsFirstCell level key page → (next : declared.Lead) (cells : CellList)
        → length cells.cells ≤ length own + (length page.cells + length page.cells)
        → (AreCells level (merged key page.cells own page.cells)
        → IsMerged (leads.model_lead old.next) key page.cells own page.cells (next, cells.cells))
        → IsCellsSet level lead key own (pages ++ page ∷ []) (record {
          next = next;
          kept = old.kept;
          count = 1;
          cells = cells;
        })
    set_begins none is next cells few made = record {
      stay = h.stay;
      gone = page ∷ [];
      parts = ap (λ ps. ps ++ page ∷ []) (all_stay none).1;
      kept_is = h.kept_is;
      count_is = refl;
      kept = h.kept;
      come = (
        is,
        λ valid. subst (λ l. IsMerged l key page.cells own (cells_gathered (page ∷ [])) (next, cells.cells))
            (come_none none).0 (made_of_page valid),
      );
      few = omega (arith, few, ap length (append-nil page.cells));
    }
      where
        made_of_page : AreCells level (merged key page.cells own (cells_gathered (page ∷ [])))
            → IsMerged (leads.model_lead old.next) key page.cells own (cells_gathered (page ∷ [])) (next, cells.cells)
        made_of_page = subst (λ xs. AreCells level (merged key page.cells own xs)
            → IsMerged (leads.model_lead old.next) key page.cells own xs (next, cells.cells))
            (sym (append-nil page.cells)) made

    -- one more behind it
    pub set_goes_on : 1 ≤ old.count → (cells : CellList)
        → length cells.cells ≤ length old.cells.cells + length page.cells
        → (AreCells level (old.cells.cells ++ side Greater key page.cells)
        → cells.cells ≡ old.cells.cells ++ side Greater key page.cells)
        → IsCellsSet level lead key own (pages ++ page ∷ []) (record {
          next = old.next;
          kept = old.kept;
          count = old.count + 1;
          cells = cells;
        })
    set_goes_on some cells few added = record {
      stay = h.stay;
      gone = h.gone ++ page ∷ [];
      parts = ap (λ ps. ps ++ page ∷ []) h.parts ∙ append_assoc h.stay h.gone (page ∷ []);
      kept_is = h.kept_is;
      count_is = omega (arith, h.count_is, length-append h.gone (page ∷ []));
      kept = h.kept;
      come = by_gone h.gone h.come (omega (arith, some, h.count_is));
      few = omega (
        arith,
        few,
        h.few,
        ap length (cells_push h.gone page),
        length-append (cells_gathered h.gone) page.cells,
      );
    }
      where
        by_gone : (gone : List Page) → ComeIn level lead key own h.stay gone old → 1 ≤ length gone
            → ComeIn level lead key own h.stay (gone ++ page ∷ []) (record {
              next = old.next;
              kept = old.kept;
              count = old.count + 1;
              cells = cells;
            })
        by_gone [] come has = absurd (omega arith)
        by_gone (first ∷ rest) come has = (
          come.0,
          λ valid.
              let lows = side Less key first.cells ++ side Equal key own in
              let here = cells_gathered (first ∷ rest) in
              let more = side Greater key page.cells in
              let parts : merged key first.cells own (cells_gathered (first ∷ rest ++ page ∷ []))
              ≡ merged key first.cells own here ++ more =
              ap (λ xs. lows ++ side Greater key xs) (cells_push (first ∷ rest) page)
              ∙ ap (λ xs. lows ++ xs) (filter-append (compares Greater key) here page.cells)
              ∙ sym (append_assoc lows (side Greater key here) more) in
              let all : AreCells level (merged key first.cells own here ++ more) = subst (AreCells level) parts valid in
              let made = come.1 (front_cells level (merged key first.cells own here) more all) in
              record {
                next = made.next;
                cells = added (subst (λ xs. AreCells level (xs ++ more)) (sym made.cells) all)
                    ∙ ap (λ xs. xs ++ more) made.cells ∙ sym parts;
              },
        )
