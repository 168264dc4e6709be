-- The cells of a group parted by a key, page after page: each step.
use Rattle.std.proofs.Common.{◌≡◌, ℕ, ◌+◌, ◌-◌, ◌≤◌, List, [], ◌∷◌, ◌++◌, length, IfSome, Ordering, Less, Greater, refl}
use Rattle.std.proofs.Common.{sym, ap, subst, ◌∙◌, append_assoc, arith}
use Rattle.std.specs.List.{slice_get}
use Rattle.std.proofs.lemmas.List.{length-append, append-nil}
use Rattle.std.proofs.lemmas.List.Elements.{filter-append}
use Rattle.store_base.specs.declared.label.Lead as declared
use Rattle.store_base.specs.Leads as leads
use Rattle.store_model.specs.Labels.{Lead}
use Rattle.store_model.specs.Labels.Lead.{Leader}
use Rattle.store_model.specs.Pages.{Cell, Page}
use Rattle.store_model.proofs.ListsLemmas.{all_append}
use Rattle.node_pages.specs.Cells.{CellList}
use Rattle.skip_groups.specs.declared.new_cells.NewCells.{NewCells}
use Rattle.skip_groups.specs.Floors.{last_of}
use Rattle.skip_groups.specs.GroupCells.{AreCells, IsKept, compares, side}
use Rattle.skip_groups.specs.GroupParts.{IsParted}
use Rattle.skip_groups.specs.NewCells.{cells_gathered}
use Rattle.skip_groups.proofs.CellLists.{front_cells}
use Rattle.skip_groups.proofs.KeptPages.{lead_of_pages}
use Rattle.skip_groups.proofs.NewCellsSteps.{cells_push, page_at_end}

-- the cells of one page more on a side of the key
side_push : (level : ℕ) (key : List ℕ) (order : Ordering) (before old new : List Cell) (gone : List Page) (page : Page)
    → (AreCells level (before ++ side order key (cells_gathered gone))
    → old ≡ before ++ side order key (cells_gathered gone))
    → (AreCells level (old ++ side order key page.cells) → new ≡ old ++ side order key page.cells)
    → AreCells level (before ++ side order key (cells_gathered (gone ++ page ∷ [])))
    → new ≡ before ++ side order key (cells_gathered (gone ++ page ∷ []))
side_push level key order before old new gone page made added valid =
    let front = before ++ side order key (cells_gathered gone) in
    let more = side order key page.cells in
    let parts : before ++ side order key (cells_gathered (gone ++ page ∷ [])) ≡ front ++ more =
    ap (λ xs. before ++ side order key xs) (cells_push gone page)
    ∙ ap (λ xs. before ++ xs) (filter-append (compares order key) (cells_gathered gone) page.cells)
    ∙ sym (append_assoc before (side order key (cells_gathered gone)) more) in
    let all = subst (AreCells level) parts valid in
    let is = made (front_cells level front more all) in
    added (subst (λ xs. AreCells level (xs ++ more)) (sym is) all) ∙ ap (λ xs. xs ++ more) is ∙ sym parts

module _ {level : ℕ} {lead : Lead} {key : List ℕ} {start : List Cell} where
  -- nothing is read
  pub part_none : (next : declared.Lead) (cells : CellList) → leads.model_lead next ≡ lead → cells.cells ≡ []
      → IsParted level lead key [] start (record { next = next; kept = 0; count = 0; cells = cells }) start
  unfolding last_of
  part_none next cells leads none = record {
    stay = [];
    gone = [];
    parts = refl;
    kept_is = refl;
    count_is = refl;
    kept = tt;
    next = leads;
    low = λ valid. none;
    high = λ valid. sym (append-nil start);
    few_low = omega (arith, ap length none);
    few_high = omega arith;
  }

  module _ {pages : List Page} (page : Page) {old : NewCells} {above : List Cell}
      (h : IsParted level lead key pages start old above) where
    -- where no page gives way yet, all stay
    none_gone : old.count ≡ 0 → h.gone ≡ []
    none_gone none = by_gone h.gone refl
      where
        by_gone : (ps : List Page) → h.gone ≡ ps → ps ≡ []
        by_gone [] e = refl
        by_gone (p ∷ ps) e = absurd (omega (arith, none, h.count_is, ap length e))

    -- one page more that stays
    pub part_stays : old.count ≡ 0 → IsKept level key page → (next : declared.Lead) (last : List ℕ)
        → leads.model_lead next ≡ Leader last → 1 ≤ length page.cells
        → IfSome (slice_get page.cells (length page.cells - 1)) (λ c. c.key ≡ last)
        → IsParted level lead key (pages ++ page ∷ []) start (record {
          next = next;
          kept = old.kept + 1;
          count = old.count;
          cells = old.cells;
        }) above
    part_stays none is next last leads some ends =
        let stay = h.stay ++ page ∷ [] in
        let gone = none_gone none in
        record {
          stay = stay;
          gone = h.gone;
          parts = ap (λ ps. ps ++ page ∷ []) (h.parts ∙ ap (λ ps. h.stay ++ ps) gone ∙ append-nil h.stay)
              ∙ sym (append-nil stay) ∙ ap (λ ps. stay ++ ps) (sym gone);
          kept_is = omega (arith, h.kept_is, length-append h.stay (page ∷ []));
          count_is = h.count_is;
          kept = all_append (IsKept level key) h.stay (page ∷ []) h.kept (is, tt);
          next = leads ∙ lead_of_pages stay page last lead (page_at_end h.stay page) some ends;
          low = h.low;
          high = h.high;
          few_low = h.few_low;
          few_high = h.few_high;
        }

    -- one that gives way
    pub part_gives : (low : CellList) (high : List Cell)
        → (AreCells level (old.cells.cells ++ side Less key page.cells)
        → low.cells ≡ old.cells.cells ++ side Less key page.cells)
        → (AreCells level (above ++ side Greater key page.cells) → high ≡ above ++ side Greater key page.cells)
        → length low.cells ≤ length old.cells.cells + length page.cells → length high ≤ length above + length page.cells
        → IsParted level lead key (pages ++ page ∷ []) start (record {
          next = old.next;
          kept = old.kept;
          count = old.count + 1;
          cells = low;
        }) high
    part_gives low high lows highs few_low few_high =
        record {
          stay = h.stay;
          gone = h.gone ++ page ∷ [];
          parts = ap (λ ps. ps ++ page ∷ []) h.parts ∙ append_assoc h.stay h.gone (page ∷ []);
          kept_is = h.kept_is;
          count_is = omega (arith, h.count_is, length-append h.gone (page ∷ []));
          kept = h.kept;
          next = h.next;
          low = side_push level key Less [] old.cells.cells low.cells h.gone page h.low lows;
          high = side_push level key Greater start above high h.gone page h.high highs;
          few_low =
              omega (
                arith,
                few_low,
                h.few_low,
                ap length
                    (cells_push h.gone page),
                length-append (cells_gathered h.gone) page.cells,
              );
          few_high =
              omega (
                arith,
                few_high,
                h.few_high,
                ap length
                    (cells_push h.gone page),
                length-append (cells_gathered h.gone) page.cells,
              );
        }
