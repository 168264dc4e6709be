-- The pages of a group read for the cells of a key that are set there.
use Rattle.std.proofs.Common.{◌≡◌, ◌⊎◌, inl, inr, ℕ, ◌+◌, ◌-◌, ◌<◌, ◌≤◌, List, [], ◌∷◌, ◌++◌, length, take, drop}
use Rattle.std.proofs.Common.{Option, Some, None, Ok, Less, Equal, Greater, refl, sym, ap, ap₂, subst, ◌∙◌}
use Rattle.std.proofs.Common.{append_assoc, arith}
use Rattle.std.specs.List.{slice_get}
use Rattle.std.proofs.lemmas.List.{length-append, append-nil, take_all, take-append-drop}
use Rattle.store_base.specs.declared.label.Lead as declared
use Rattle.store_base.specs.Leads as leads
use Rattle.store_model.specs.Labels.{Lead}
use Rattle.store_model.specs.Pages.{Cell, Page, page_room, group_pages}
use Rattle.store_model.specs.PageMaps.{page_at}
use Rattle.node_pages.specs.Cells.{CellList}
use Rattle.node_pages.specs.LastPages.{pages_from}
use Rattle.node_pages.specs.PagesState.{PagesState, IsPageGet}
use Rattle.node_pages.proofs.Joined.{cells_of_group, take_next}
use Rattle.node_pages.proofs.Runs.{next_page, no_page}
use Rattle.skip_groups.specs.declared.new_cells.NewCells.{NewCells}
use Rattle.skip_groups.specs.Groups.{label_of}
use Rattle.skip_groups.specs.declared.new_cells.Step.TheVariants.{Done, Same}
use Rattle.skip_groups.specs.Floors.{last_of, lead_from}
use Rattle.skip_groups.specs.GroupCells.{AreCells, side, merged}
use Rattle.skip_groups.specs.InsertPlaces.{IsInsertPlace, IsPlaceRead, with_place}
use Rattle.skip_groups.specs.NewCells.{cells_gathered, ComeIn, IsCellsSet, IsAlone, IsStep, IsEnd, IsMade, AreNew}
use Rattle.skip_groups.specs.NewCells.{IsNewCellsRead}
use Rattle.skip_groups.proofs.CellLists.{front_cells, back_cells}
use Rattle.skip_groups.proofs.GroupEnds.{last_page, within_room}
use Rattle.skip_groups.proofs.GroupSteps.{WalksTo, ends, goes_on}
use Rattle.skip_groups.proofs.MapChanges.{nothing_behind}
use Rattle.skip_groups.proofs.NewCellsMade.{cells_both, are_above, news_valid, made_to_end, made_alone, made_same}
use Rattle.skip_groups.proofs.NewCellsMade.{made_behind}
use Rattle.skip_groups.proofs.NewCellsSteps.{page_at_end, below_or_not, set_begins}

-- new cells whose parts are the same
same_made : (a b : NewCells) → b.next ≡ a.next → b.kept ≡ a.kept → b.count ≡ a.count → b.cells ≡ a.cells → a ≡ b
same_made a b next kept count cells =
    ap (λ x. record { next = x; kept = a.kept; count = a.count; cells = a.cells }) (sym next)
    ∙ ap (λ x. record { next = b.next; kept = x; count = a.count; cells = a.cells }) (sym kept)
    ∙ ap (λ x. record { next = b.next; kept = b.kept; count = x; cells = a.cells }) (sym count)
    ∙ ap (λ x. record { next = b.next; kept = b.kept; count = b.count; cells = x }) (sym cells)

module _ (level : ℕ) (lead : Lead) (key : List ℕ) (own cells : List Cell) where
  abbrev group : List Page
  group = group_pages level lead cells

  module _ (made : NewCells) (seen behind : List Page) (is : group ≡ seen ++ behind)
      (h : IsCellsSet level lead key own seen made) where
    counted : made.kept + made.count ≡ length seen
    counted = omega (arith, h.kept_is, h.count_is, ap length h.parts, length-append h.stay h.gone)

    some_within : made.kept + made.count ≤ length group
    some_within = omega (arith, counted, ap length is, length-append seen behind)

    are_few : length made.cells.cells ≤ length own + (length cells + length cells)
    are_few =
        let all : cells ≡ (cells_gathered h.stay ++ cells_gathered h.gone) ++ cells_gathered behind =
        sym (cells_of_group level lead cells) ∙ ap cells_gathered (is ∙ ap (λ ps. ps ++ behind) h.parts)
        ∙ cells_both (h.stay ++ h.gone) behind ∙ ap (λ xs. xs ++ cells_gathered behind) (cells_both h.stay h.gone)
        in
        omega (
          arith,
          h.few,
          ap length all,
          length-append (cells_gathered h.stay ++ cells_gathered h.gone)
              (cells_gathered behind),
          length-append (cells_gathered h.stay) (cells_gathered h.gone),
        )

    parted : (first : Page) (rest : List Page) → h.gone ≡ first ∷ rest → group ≡ h.stay ++ first ∷ (rest ++ behind)
    parted first rest e = is ∙ ap (λ ps. ps ++ behind) (h.parts ∙ ap (λ ps. h.stay ++ ps) e)
        ∙ append_assoc h.stay (first ∷ rest) behind

    comes : (first : Page) (rest : List Page) → h.gone ≡ first ∷ rest
        → ComeIn level lead key own h.stay (first ∷ rest) made
    comes first rest e = subst (λ ps. ComeIn level lead key own h.stay ps made) e h.come

    -- the last pages gave way
    pub new_to_end : 1 ≤ made.count → behind ≡ [] → AreNew level lead key own cells made
    new_to_end some none = record {
      within = some_within;
      few = are_few;
      become = λ rising valid. by_gone rising valid h.gone refl;
    }
      where
        by_gone : AreCells level cells → AreCells level (merged key cells own cells) → (ps : List Page) → h.gone ≡ ps
            → IsMade level lead key own cells made
        by_gone rising valid [] e = absurd (omega (arith, some, h.count_is, ap length e))
        by_gone rising valid (first ∷ rest) e =
            let come = comes first rest e in
            let parts = parted first rest e in
            let above = are_above level lead key own cells h.stay first (rest ++ behind) parts come.0 rising in
            made_to_end level lead key own cells h.stay first rest behind parts h.kept above made
            h.kept_is (come.1 (news_valid level lead key own cells h.stay first rest behind parts h.kept above
            valid)) (h.count_is ∙ ap length e) none

    -- none gives way behind those that were read
    pub new_behind : (other : NewCells) → IsEnd level key own made other → behind ≡ []
        → AreNew level lead key own cells other
    new_behind other e none = by_gone h.gone refl
      where
        by_gone : (ps : List Page) → h.gone ≡ ps → AreNew level lead key own cells other
        by_gone [] gone =
            let count_is : made.count ≡ 0 = h.count_is ∙ ap length gone in
            let come = subst (λ ps. ComeIn level lead key own h.stay ps made) gone h.come in
            let all : group ≡ h.stay = is ∙ ap₂ (λ ps qs. ps ++ qs)
            (h.parts ∙ ap (λ ps. h.stay ++ ps) gone ∙ append-nil h.stay) none ∙ append-nil h.stay in
            record {
              within = omega (arith, some_within, e.kept, e.count);
              few = omega (arith, e.few, ap length come.1);
              become = λ rising valid.
                  let lows = side Less key cells in
                  let same = side Equal key own in
                  let own_valid : AreCells level same =
                  back_cells level lows same (front_cells level (lows ++ same) (side Greater key cells) valid) in
                  made_behind level lead key own cells other h.stay all (e.kept ∙ h.kept_is)
                  (e.count ∙ count_is) h.kept (ap leads.model_lead e.next ∙ come.0)
                  (e.none count_is come.1 own_valid);
            }
        by_gone (first ∷ rest) gone =
            let some : 1 ≤ made.count = omega (arith, h.count_is, ap length gone) in
            subst (AreNew level lead key own cells)
            (same_made made other e.next e.kept e.count (e.some some)) (new_to_end some none)

    -- one page alone gave way
    module _ (before : List Page) (page : Page) (at_end : seen ≡ before ++ page ∷ []) (alone : IsAlone page made) where
      first_is : (first : Page) → h.gone ≡ first ∷ [] → page ≡ first
      first_is first e =
          let both : before ++ page ∷ [] ≡ h.stay ++ first ∷ [] = sym at_end ∙ h.parts ∙ ap (λ ps. h.stay ++ ps) e in
          same_page (sym (page_at_end before page) ∙ ap (λ ps. slice_get ps (length ps - 1)) both
          ∙ page_at_end h.stay first)
        where
          same_page : {a b : Page} → Some a ≡ Some b → a ≡ b
          same_page e = cc

      pub new_alone : page_room level ≤ length page.cells → AreNew level lead key own cells made
      new_alone full = record {
        within = some_within;
        few = are_few;
        become = λ rising valid. by_gone rising valid h.gone refl;
      }
        where
          by_gone : AreCells level cells → AreCells level (merged key cells own cells) → (ps : List Page) → h.gone ≡ ps
              → IsMade level lead key own cells made
          by_gone rising valid [] e = absurd (omega (arith, alone.one, h.count_is, ap length e))
          by_gone rising valid (first ∷ []) e =
              let come = comes first [] e in
              let parts = parted first [] e in
              let above = are_above level lead key own cells h.stay first behind parts come.0 rising in
              let long = ap (λ (p : Page). length p.cells) (first_is first e) in
              made_alone level lead key own cells h.stay first [] behind parts h.kept above made
              h.kept_is (come.1 (news_valid level lead key own cells h.stay first [] behind parts
              h.kept above valid)) refl
              (omega (arith, full, long)) (alone.long ∙ long) alone.one
          by_gone rising valid (first ∷ next ∷ rest) e = absurd (omega (arith, alone.one, h.count_is, ap length e))

      -- and became what it was
      pub new_same : slice_get (pages_from level lead made.kept made.cells.cells) 0 ≡ Some page → (none : CellList)
          → none.cells ≡ [] → AreNew level lead key own cells (record {
            next = made.next;
            kept = made.kept;
            count = 0;
            cells = none;
          })
      new_same there none empty = record {
        within = omega (arith, some_within);
        few = omega (arith, ap length empty);
        become = λ rising valid. by_gone rising valid h.gone refl;
      }
        where
          cells_are : (cs : List Cell) → made.cells.cells ≡ cs → length page.cells ≤ page_room level → cs ≡ page.cells
          cells_are [] e room =
              absurd (let gone = ap (λ ps. slice_get ps 0) (no_page level lead made.kept made.cells.cells e)
              in let clash : Some page ≡ None = sym there ∙ gone in cc)
          cells_are (x ∷ xs) e room =
              let first = ap (λ cs. slice_get (pages_from level lead made.kept cs) 0) e
              ∙ ap (λ ps. slice_get ps 0) (next_page level lead made.kept (x ∷ xs) (omega arith)) in
              let run : take (page_room level) (x ∷ xs) ≡ page.cells = run_is (sym first ∙ there) in
              sym (take_all (page_room level) (x ∷ xs) (omega (arith, ap length e, alone.long, room))) ∙ run
            where
              run_is : {a : Page} → Some a ≡ Some page → a.cells ≡ page.cells
              run_is {a} f = let same : a ≡ page = cc in ap (λ (p : Page). p.cells) same

          by_gone : AreCells level cells → AreCells level (merged key cells own cells) → (ps : List Page) → h.gone ≡ ps
              → IsMade level lead key own cells (record { next = made.next; kept = made.kept; count = 0; cells = none })
          by_gone rising valid [] e = absurd (omega (arith, alone.one, h.count_is, ap length e))
          by_gone rising valid (first ∷ []) e =
              let come = comes first [] e in
              let parts = parted first [] e in
              let above = are_above level lead key own cells h.stay first behind parts come.0 rising in
              let same = first_is first e in
              let room = subst (λ (p : Page). length p.cells ≤ page_room level) (sym same)
              (within_room level lead (length h.stay) cells first
              (ap (λ ps. slice_get ps (length h.stay)) parts ∙ seam h.stay)) in
              made_same level lead key own cells h.stay first [] behind parts h.kept above made
              h.kept_is (come.1 (news_valid level lead key own cells h.stay first [] behind parts
              h.kept above valid)) refl
              (cells_are made.cells.cells refl room ∙ ap (λ (p : Page). p.cells) same) none empty
            where
              seam : (xs : List Page) → slice_get (xs ++ first ∷ behind) (length xs) ≡ Some first
              seam [] = refl
              seam (x ∷ xs) = seam xs
          by_gone rising valid (first ∷ next ∷ rest) e = absurd (omega (arith, alone.one, h.count_is, ap length e))

-- ---- page after page

module _ (level : ℕ) (lead : Lead) (key : List ℕ) (own : List Cell) where
  -- so many pages of the group were read
  abbrev Sees : NewCells → ℕ → List Cell → Type 0
  Sees made index cells = IsCellsSet level lead key own (take index (group_pages level lead cells)) made

  abbrev pub AreSeen : PagesState → PagesState → ℕ → NewCells → Type 0
  AreSeen old now index made = WalksTo old level lead now index (Sees made index)

module _ {old now next : PagesState} {level : ℕ} {lead : Lead} {key : List ℕ} {own : List Cell} {index : ℕ}
    {made : NewCells} (w : AreSeen level lead key own old now index made) where
  seen_to : {answer : Option ℕ} {other : NewCells} {page : Option Page} → index < 4294967296
      → IsPageGet now next (label_of level lead index) (Ok page)
      → ((cells : List Cell) → Sees level lead key own made index cells
      → slice_get (group_pages level lead cells) index ≡ page → AreNew level lead key own cells other)
      → IsNewCellsRead old next level lead key own other (Ok answer)
  seen_to {other = other} below get found = ends w (λ cells. AreNew level lead key own cells other) below get found

  -- there is no further page
  pub seen_ends : {other : NewCells} → IsEnd level key own made other → index < 4294967296
      → IsPageGet now next (label_of level lead index) (Ok None)
      → IsNewCellsRead {T = Option ℕ} old next level lead key own other (Ok None)
  seen_ends {other = other} e below get = seen_to below get (λ cells seen none.
      let group = group_pages level lead cells in
      new_behind _ _ _ _ _ _ _ _ (sym (take-append-drop index group)) seen other e (nothing_behind index group none))

  -- a page was taken in
  module _ {page : Page} {other : NewCells} (set : (pages : List Page) → IsCellsSet level lead key own pages made
      → IsCellsSet level lead key own (pages ++ page ∷ []) other) (below : index < 4294967296)
      (get : IsPageGet now next (label_of level lead index) (Ok (Some page))) where
    with_page : (cells : List Cell) → Sees level lead key own made index cells
        → slice_get (group_pages level lead cells) index ≡ Some page → Sees level lead key own other (index + 1) cells
    with_page cells seen there = subst (λ ps. IsCellsSet level lead key own ps other)
        (sym (take_next (group_pages level lead cells) index page there))
        (set (take index (group_pages level lead cells)) seen)

    pub seen_more : page_room level ≤ length page.cells → AreSeen level lead key own old next (index + 1) other
    seen_more full = goes_on w full below get with_page

    pub seen_done : {answer : Option ℕ} → IsStep level lead page other Done
        → IsNewCellsRead old next level lead key own other (Ok answer)
    seen_done step = seen_to below get
        (λ cells seen there. by_step cells (with_page cells seen there) there step.1)
      where
        to_end : (cells : List Cell) → Sees level lead key own other (index + 1) cells
            → slice_get (group_pages level lead cells) index ≡ Some page → length page.cells < page_room level
            → AreNew level lead key own cells other
        to_end cells h there short =
            let group = group_pages level lead cells in
            new_to_end _ _ _ _ _ _ _ _ (sym (take-append-drop (index + 1) group)) h
            step.0 (nothing_behind (index + 1) group (last_page level lead index cells page there short))

        by_step : (cells : List Cell) → Sees level lead key own other (index + 1) cells
            → slice_get (group_pages level lead cells) index ≡ Some page
            → (length page.cells < page_room level) ⊎ IsAlone page other → AreNew level lead key own cells other
        by_step cells h there (inl short) = to_end cells h there short
        by_step cells h there (inr alone) =
            let group = group_pages level lead cells in
            elim (below_or_not (length page.cells) (page_room level)) [
              | inl short ↦ to_end cells h there short
              | inr full ↦ new_alone _ _ _ _ _ _ _ _ (sym (take-append-drop (index + 1) group)) h
                  (take index group) page (take_next group index page there) alone full
            ]

    -- nothing changes
    pub seen_same : IsStep level lead page other Same → {none : CellList} → none.cells ≡ []
        → IsNewCellsRead {T = Option ℕ} old next level lead key own (record {
          next = other.next;
          kept = other.kept;
          count = 0;
          cells = none;
        }) (Ok None)
    seen_same step {none} empty = seen_to below get (λ cells seen there.
        let group = group_pages level lead cells in
        new_same _ _ _ _ _ _ _ _ (sym (take-append-drop (index + 1) group)) (with_page cells seen there)
        (take index group) page (take_next group index page there) step.0 step.1 none empty)

  -- a page takes the key's cell
  pub seen_place : {page : Page} {at : ℕ} {ahead : declared.Lead} (place : IsInsertPlace level key own page at)
      → made.count ≡ 0 → made.kept ≡ index → leads.model_lead ahead
      ≡ lead_from (last_of (take at page.cells)) (leads.model_lead made.next)
      → index < 4294967296 → IsPageGet now next (label_of level lead index) (Ok (Some page))
      → IsPlaceRead {T = Option ℕ} old next level lead key own (record {
        next = ahead;
        kept = made.kept;
        count = made.count;
        cells = made.cells;
      }) at (Ok (Some at))
  seen_place {page = page} {at = at} {ahead = ahead} place none kept_is led below get =
      let other = with_place (record {
        next = ahead;
        kept = made.kept;
        count = made.count;
        cells = made.cells;
      }) page at place.cell in
      let few : length other.cells.cells ≤ length own + (length page.cells + length page.cells) =
      omega (
        arith,
        length-append (take at page.cells)
            (place.cell ∷ drop at page.cells),
        length-append (take at page.cells) (drop at page.cells),
        ap length
            (take-append-drop at page.cells),
        ap length place.own_is,
      ) in
      record {
        page = page;
        place = place;
        found = λ o.
            let g = get.observed (w.observed (w.hidden (get.hidden o))).observable in
            ap (λ m. page_at m (label_of level lead made.kept)) g.unchanged
            ∙ ap (λ n. page_at now.pages (label_of level lead n)) kept_is ∙ sym g.found;
        read = seen_done {other = other}
            (λ pages h. set_begins page h none (inl place.room) ahead other.cells few
            (λ valid. record {
              next = led ∙ ap (λ xs. lead_from (last_of xs) (leads.model_lead made.next)) place.low;
              cells = place.made;
            })) below get
            (omega arith, inl place.room);
      }
