-- The cells of a key set in a group: its pages read as far as they change, and then changed.
use Rattle.std.proofs.Common.{◌≡◌, inl, inr, ℕ, zero, suc, ◌+◌, ◌<◌, ◌≤◌, max, List, [], ◌∷◌, ◌++◌, length, take, drop}
use Rattle.std.proofs.Common.{get_or, ◌==◌, Bool, true, false, cond, Some, Result, Ok, Err, sym, ap, subst, ◌∙◌}
use Rattle.std.proofs.Common.{append_assoc, arith}
use Rattle.std.specs.List.{slice_get}
use Rattle.std.specs.FinMap as maps
use Rattle.std.proofs.Math.Seq.{take-append_seam}
use Rattle.std.proofs.lemmas.List.{length-append, length-take, length-drop, take-append-drop, take_all, drop_all}
use Rattle.std.proofs.lemmas.List.{append-nil}
use Rattle.store_base.specs.declared.label.Lead as declared
use Rattle.store_base.specs.declared.store_fault.Fault.{Fault}
use Rattle.store_base.specs.Faults.{disk_faults_after}
use Rattle.store_model.specs.Lists.{runs, run_count}
use Rattle.store_model.specs.Labels.{Lead, Label}
use Rattle.store_model.specs.Pages.{Cell, Page, page_room, group_pages}
use Rattle.store_model.specs.PageMaps.{IsPageMap, map_of_pages, page_at}
use Rattle.node_pages.specs.LastPages.{pages_from}
use Rattle.node_pages.specs.PagesState.{PagesState, IsObservable, HasPlace, IsCellInsert, most_pages}
use Rattle.node_pages.proofs.Runs.{length-pages_from, length-runs}
use Rattle.skip_groups.specs.declared.new_cells.NewCells.{NewCells}
use Rattle.skip_groups.specs.GroupCells.{merged}
use Rattle.skip_groups.specs.Groups.{label_of}
use Rattle.skip_groups.specs.InsertPlaces.{IsPlaceRead, with_place}
use Rattle.skip_groups.specs.GroupChanges.{changed_pages, IsCellRun, IsRunChange}
use Rattle.skip_levels.specs.CellChanges.{PagesHaveRoom, SetsCells}
use Rattle.skip_groups.specs.NewCells.{IsRenewed, IsNewCellsRead}
use Rattle.skip_groups.specs.Searches.{IsGroupWalk}
use Rattle.skip_groups.proofs.GroupEnds.{few_group_pages}
use Rattle.skip_groups.proofs.NewCellsSteps.{below_or_not}
use Rattle.skip_groups.proofs.GroupSteps.{same_count}
use Rattle.skip_groups.proofs.RunChanges.{run_inserts}

get_front : (xs ys : List Page) (i : ℕ) (page : Page) → slice_get xs i ≡ Some page → slice_get (xs ++ ys) i ≡ Some page
get_front [] ys i page e = absurd (cc)
get_front (x ∷ xs) ys zero page e = e
get_front (x ∷ xs) ys (suc i) page e = get_front xs ys i page e

get_behind : (xs ys : List Page) (k : ℕ) → slice_get (xs ++ ys) (length xs + k) ≡ slice_get ys k
get_behind [] ys k = let same : 0 + k ≡ k = omega arith in ap (slice_get ys) same
get_behind (x ∷ xs) ys k = let next : length (x ∷ xs) + k ≡ suc (length xs + k) = omega arith
    in ap (slice_get ((x ∷ xs) ++ ys)) next ∙ get_behind xs ys k

-- ---- the pages of the group

module _ {level : ℕ} {lead : Lead} {cells others : List Cell} {made : NewCells}
    (within : made.kept + made.count ≤ length (group_pages level lead cells))
    (m : IsRenewed level lead cells others made) where
  abbrev olds : List Page
  olds = group_pages level lead cells

  abbrev news : List Page
  news = group_pages level lead others

  abbrev fresh : List Page
  fresh = pages_from level lead made.kept made.cells.cells

  abbrev rest : List Page
  rest = drop (made.kept + made.count) olds

  stay_long : length (take made.kept olds) ≡ made.kept
  stay_long = omega (arith, length-take made.kept olds, within)

  news_long : length news ≡ made.kept + (length fresh + length rest)
  news_long = omega (
    arith,
    ap length m.pages,
    stay_long,
    length-append (take made.kept olds)
        (fresh ++ rest),
    length-append fresh rest,
  )

  -- the pages that stay before the change
  taken : take made.kept news ≡ take made.kept olds
  taken = ap (take made.kept) m.pages
      ∙ subst (λ n. take n (take made.kept olds ++ (fresh ++ rest)) ≡ take made.kept olds) stay_long
      (take-append_seam (take made.kept olds) (fresh ++ rest))

  pub is_run : IsCellRun level lead made.kept made.count made.cells.cells olds news
  is_run = record {
    start = ap (λ ps. ps ++ drop made.kept olds) taken ∙ take-append-drop made.kept olds;
    put = λ i page there.
        let place : made.kept + i ≡ length (take made.kept olds) + i = omega (arith, stay_long) in
        ap (slice_get news) place ∙ ap (λ ps. slice_get ps (length (take made.kept olds) + i)) m.pages
        ∙ get_behind (take made.kept olds) (fresh ++ rest) i
        ∙ get_front fresh rest i page there;
    dropped = λ i past few.
        elim (below_or_not (made.kept + made.count) (length olds)) [
          | inl further ↦ absurd (omega (arith, m.fits further, past, few))
          | inr end ↦ omega (arith, news_long, past, length-drop (made.kept + made.count) olds)
        ];
    within = within;
  }

  pub all_changed : (past : ℕ) → past ≡ max made.count (length fresh)
      → changed_pages (made.kept + past) olds news ≡ news
  all_changed past past_is = elim (below_or_not (made.kept + made.count) (length olds))
      [ inl further ↦ part further | inr end ↦ whole end ]
    where
      part : made.kept + made.count < length olds → changed_pages (made.kept + past) olds news ≡ news
      part further =
          let few = m.fits further in
          let here : made.kept + past ≡ made.kept + made.count = omega (arith, past_is, few) in
          let long : length (take made.kept olds ++ fresh) ≡ made.kept + past =
          omega (arith, here, stay_long, few, length-append (take made.kept olds) fresh) in
          let parts = m.pages ∙ sym (append_assoc (take made.kept olds) fresh rest) in
          let front : take (made.kept + past) news ≡ take made.kept olds ++ fresh =
          ap (take (made.kept + past)) parts
          ∙ subst (λ n. take n ((take made.kept olds ++ fresh) ++ rest) ≡ take made.kept olds ++ fresh) long
          (take-append_seam (take made.kept olds ++ fresh) rest) in
          ap (λ ps. ps ++ drop (made.kept + past) olds) front
          ∙ ap (λ n. (take made.kept olds ++ fresh) ++ drop n olds) here ∙ sym parts

      whole : length olds ≤ made.kept + made.count → changed_pages (made.kept + past) olds news ≡ news
      whole end =
          let front = take_all (made.kept + past) news
          (omega (arith, news_long, past_is, end, length-drop (made.kept + made.count) olds)) in
          let back = drop_all (made.kept + past) olds (omega (arith, past_is, end)) in
          ap (λ ps. ps ++ drop (made.kept + past) olds) front ∙ ap (λ ps. news ++ ps) back ∙ append-nil news

-- ---- the calls

module _ {old mid : PagesState} {level : ℕ} {lead : Lead} {key : List ℕ} {own : List Cell} {made : NewCells}
    {S : Type 0} {answer : S} (read : IsNewCellsRead {T = S} old mid level lead key own made (Ok answer)) where
  pub room_to_change : length own ≤ 1 → (IsObservable old → PagesHaveRoom old.pages level lead) → IsObservable mid
      → maps.len mid.pages + (made.count + length made.cells.cells) < most_pages
  room_to_change one room o =
      let h = room (read.hidden o) in
      let r = read.observed (read.hidden o) in
      let n = r.found h.cells h.holds (omega (arith, h.few)) in
      omega (arith, one, n.within, n.few, h.few, few_group_pages level lead h.cells, ap maps.len r.unchanged, h.room)

  pub cells_set : {T : Type 0} {new : PagesState} {unit : T} {past : ℕ}
      → past ≡ max made.count (length (runs (page_room level) made.cells.cells))
      → IsRunChange mid new level lead made.kept made.count made.cells.cells past (Ok unit)
      → SetsCells old new level lead key own (Ok made.next)
  cells_set {past = past} past_is write = record {
    call = record {
      faults = write.faults ∙ read.faults;
      lookups_kept = omega (arith, write.lookups, read.lookups_kept);
      hidden = λ o. read.hidden (write.hidden o);
      observable = λ o. (write.observed (read.observed o).observable).observable;
    };
    set = λ o group front back h.
        let r = read.observed o in
        let n = r.found group h.holds h.few in
        let m = n.become h.rising h.valid in
        let olds = group_pages level lead group in
        let news = group_pages level lead (merged key group own group) in
        record {
          pages_are = (write.observed r.observable).changed olds news front back
              (is_run n.within m.renewed) h.change (r.unchanged ∙ h.pages_are)
              ∙ ap (λ ps. map_of_pages (front ++ (ps ++ back)))
              (all_changed n.within m.renewed past
              (past_is ∙ ap (max made.count) (sym (length-pages_from level lead made.kept made.cells.cells))));
          next_is = m.next;
        };
    lookups = λ o group holds. omega (arith, write.lookups, (read.observed o).lookups group holds);
  }

  pub cells_not_set : {T : Type 0} {new : PagesState} {past : ℕ} {fault : Fault}
      → IsRunChange {T = T} mid new level lead made.kept made.count made.cells.cells past (Err fault)
      → SetsCells old new level lead key own (Err fault)
  cells_not_set {T = T} {fault = fault} write = record {
    call = record {
      faults = write.faults ∙ ap (λ n. disk_faults_after {T = T} n (Err fault)) read.faults
          ∙ same_count T declared.Lead old.faults fault;
      lookups_kept = omega (arith, write.lookups, read.lookups_kept);
      hidden = λ o. read.hidden (write.hidden o);
      observable = λ o. (write.observed (read.observed o).observable).observable;
    };
    set = λ o group front back h. tt;
    lookups = λ o group holds. omega (arith, write.lookups, (read.observed o).lookups group holds);
  }

-- cells that one page has room for make one run
one_run : (level : ℕ) (cells : List Cell) → length cells ≤ page_room level → length (runs (page_room level) cells) ≤ 1
one_run level cells few = omega (arith, length-runs level cells, at_most_one (level == 0) (length cells) few)
  where
    at_most_one : (b : Bool) (count : ℕ) → count ≤ cond b 10 31 → run_count (cond b 10 31) count ≤ 1
    at_most_one true count is = omega arith
    at_most_one false count is = omega arith

-- one page of the group takes the key's cell
module _ {old mid : PagesState} {level : ℕ} {lead : Lead} {key : List ℕ} {own : List Cell} {made : NewCells}
    {at : ℕ} {S : Type 0} {answer : S} (read : IsPlaceRead {T = S} old mid level lead key own made at (Ok answer)) where
  abbrev cell : Cell
  cell = read.place.cell

  abbrev now : NewCells
  now = with_place made read.page at cell

  own_cell : (given : Cell) → given ≡ get_or own 0 given → given ≡ cell
  own_cell given is = is ∙ ap (λ xs. get_or xs 0 given) read.place.own_is

  pub takes_cell : {given : Cell} {l : Label} → given ≡ get_or own 0 given → l ≡ label_of level lead made.kept
      → IsObservable mid → HasPlace mid.pages l at given
  takes_cell {given = given} {l = l} is label_is o = subst (HasPlace mid.pages l at) (sym (own_cell given is))
      (record { page = read.page; found = ap (page_at mid.pages) label_is ∙ read.found o; takes = read.place.takes })

  module _ {T : Type 0} {new : PagesState} {l : Label} {result : Result T Fault} {given : Cell}
      (below : made.kept < 4294967296)
      (map : IsObservable mid → IsPageMap mid.pages) (label_is : l ≡ label_of level lead made.kept)
      (is : given ≡ get_or own 0 given) (insert : IsCellInsert mid new l at given result) where
    changes : IsRunChange mid new level lead made.kept 1 now.cells.cells 1 result
    changes =
        run_inserts mid new level lead made.kept read.page at cell l result below read.place.room map
        read.found label_is (subst (λ c. IsCellInsert mid new l at c result) (own_cell given is) insert)

  pub cell_inserted : {T : Type 0} {new : PagesState} {l : Label} {unit : T} {given : Cell} → made.kept < 4294967296
      → (IsObservable mid → IsPageMap mid.pages) → l ≡ label_of level lead made.kept
      → given ≡ get_or own 0 given → IsCellInsert mid new l at given (Ok unit)
      → SetsCells old new level lead key own (Ok made.next)
  cell_inserted below map label_is is insert =
      cells_set read.read one (changes below map label_is is insert)
    where
      one : 1 ≡ max 1 (length (runs (page_room level) now.cells.cells))
      one =
          let longer : length now.cells.cells ≡ length read.page.cells + 1 =
          omega (
            arith,
            length-append (take at read.page.cells)
                (cell ∷ drop at read.page.cells),
            length-append (take at read.page.cells)
                (drop at read.page.cells),
            ap length (take-append-drop at read.page.cells),
          ) in
          omega (
            arith,
            one_run level now.cells.cells
                (omega (arith, longer, read.place.room)),
          )

  pub cell_not_inserted : {T : Type 0} {new : PagesState} {l : Label} {fault : Fault} {given : Cell}
      → made.kept < 4294967296 → (IsObservable mid → IsPageMap mid.pages) → l ≡ label_of level lead made.kept
      → given ≡ get_or own 0 given → IsCellInsert {T = T} mid new l at given (Err fault)
      → SetsCells old new level lead key own (Err fault)
  cell_not_inserted below map label_is is insert = cells_not_set read.read (changes below map label_is is insert)

pub cells_not_read : {T : Type 0} {old mid : PagesState} {level : ℕ} {lead : Lead} {key : List ℕ} {own : List Cell}
    {fault : Fault} {IsFound : List Cell → Type 0} → IsGroupWalk {T = T} old mid level lead IsFound (Err fault)
    → SetsCells old mid level lead key own (Err fault)
cells_not_read {T = T} {old = old} {fault = fault} read = record {
  call = record {
    faults = read.faults ∙ same_count T declared.Lead old.faults fault;
    lookups_kept = read.lookups_kept;
    hidden = read.hidden;
    observable = λ o. (read.observed o).observable;
  };
  set = λ o group front back h. tt;
  lookups = λ o group holds. (read.observed o).lookups group holds;
}
