-- A group cut in two by a key, or two joined: the pages that come of it, and the calls that read and change them.
use Rattle.std.proofs.Common.{◌≡◌, ℕ, ◌+◌, ◌<◌, ◌≤◌, max, List, [], ◌∷◌, ◌++◌, length, Bool, true, false, cond, Less}
use Rattle.std.proofs.Common.{Equal, Greater, Result, Ok, Err, refl, sym, ap, ap₂, subst, ◌∙◌, append_assoc, arith}
use Rattle.std.specs.List.{slice_get}
use Rattle.std.specs.FinMap as maps
use Rattle.std.proofs.lemmas.List.{length-append, append-nil, take_all, drop_all}
use Rattle.std.proofs.lemmas.List.Elements.{filter-append}
use Rattle.store_base.specs.declared.label.Lead as declared
use Rattle.store_base.specs.declared.store_fault.Fault.{Fault}
use Rattle.store_base.specs.declared.store_fault.Fault.TheVariants.{NoMemory}
use Rattle.store_base.specs.Leads as leads
use Rattle.store_model.specs.Lists.{runs}
use Rattle.store_model.specs.Labels.{Lead}
use Rattle.store_model.specs.Labels.Lead.{Leader}
use Rattle.store_model.specs.Pages.{Cell, Page, page_room, group_pages}
use Rattle.store_model.specs.PageMaps.{map_of_pages}
use Rattle.node_pages.specs.PagesState.{PagesState, IsObservable, most_pages}
use Rattle.node_pages.proofs.Joined.{cells_of_group}
use Rattle.node_pages.proofs.Runs.{all_pages, no_page, length-pages_from}
use Rattle.skip_groups.specs.declared.new_cells.NewCells.{NewCells}
use Rattle.skip_groups.specs.Floors.{last_of, lead_from}
use Rattle.skip_groups.specs.Groups.{HoldsGroup}
use Rattle.skip_groups.specs.GroupCells.{AreCells, compares, side, merged}
use Rattle.skip_groups.specs.GroupChanges.{changed_pages, IsChange, IsCellRun, IsRunChange}
use Rattle.skip_groups.specs.GroupParts.{IsParted, IsGroupParted, run_past}
use Rattle.skip_levels.specs.CellChanges.{IsPagesCall, PagesHaveRoom, SplitsGroup, JoinsGroups}
use Rattle.skip_groups.specs.NewCells.{cells_gathered, IsRenewed}
use Rattle.skip_groups.specs.Searches.{IsGroupWalk}
use Rattle.skip_levels.proofs.CallsBehind.{failed_call, walk_call}
use Rattle.skip_groups.proofs.CellLists.{front_cells, back_cells}
use Rattle.skip_groups.proofs.GroupEnds.{few_runs, few_group_pages, length_of_group}
use Rattle.skip_groups.proofs.KeptPages.{kept_below, low_behind, lead_on}
use Rattle.skip_groups.proofs.NewCellsMade.{cells_both, are_full, renewed_to_end}
use Rattle.skip_groups.proofs.Sides.{side_no}
use Rattle.skip_levels.proofs.SetCalls.{is_run, all_changed}

-- ---- pages put where there were none, and all pages dropped

module _ (level : ℕ) (lead : Lead) (cells : List Cell) where
  pub is_put : IsCellRun level lead 0 0 cells [] (group_pages level lead cells)
  is_put = record {
    start = refl;
    put = λ i page there.
        let first : 0 + i ≡ i = omega arith in
        ap₂ slice_get (sym (all_pages level lead cells)) first ∙ there;
    dropped = λ i past few. absurd (omega arith);
    within = omega arith;
  }

  pub all_put : (past : ℕ) → past ≡ max 0 (length (runs (page_room level) cells))
      → changed_pages (0 + past) [] (group_pages level lead cells) ≡ group_pages level lead cells
  all_put past past_is =
      let news = group_pages level lead cells in
      let long : length news ≤ 0 + past = omega (arith, past_is, length_of_group level lead cells) in
      ap₂ (λ ps qs. ps ++ qs) (take_all (0 + past) news long) (drop_all (0 + past) [] (omega arith)) ∙ append-nil news

  module _ (olds : List Page) (count : ℕ) (none : cells ≡ []) (all : count ≡ length olds) where
    pub is_drop : IsCellRun level lead 0 count cells olds []
    is_drop = record {
      start = refl;
      put = λ i page there. absurd (let gone = ap (λ ps. slice_get ps i) (no_page level lead 0 cells none)
          in cc);
      dropped = λ i past few. omega arith;
      within = omega (arith, all);
    }

    pub all_dropped : (past : ℕ) → past ≡ max count (length (runs (page_room level) cells))
        → changed_pages (0 + past) olds [] ≡ []
    all_dropped past past_is = ap₂ (λ ps qs. ps ++ qs) (take_all (0 + past) [] (omega arith))
        (drop_all (0 + past) olds (omega (arith, past_is, all)))

-- no more pages are changed than there are old ones and new cells
pub past_few : (level : ℕ) (moved : Bool) (made : NewCells)
    → cond moved (run_past level made) 0 ≤ made.count + length made.cells.cells
past_few level true made = omega (arith, few_runs level made.cells.cells)
past_few level false made = omega arith

-- ---- a group parted by a key

module _ {level : ℕ} {lead : Lead} {key : List ℕ} (cells : List Cell) {start : List Cell} {made : NewCells}
    {above : List Cell} (h : IsParted level lead key (group_pages level lead cells) start made above) where
  abbrev gone : List Cell
  gone = cells_gathered h.gone

  pub whole : made.kept + made.count ≡ length (group_pages level lead cells)
  whole = omega (arith, h.kept_is, h.count_is, ap length h.parts, length-append h.stay h.gone)

  all_cells : cells ≡ cells_gathered h.stay ++ gone
  all_cells = sym (cells_of_group level lead cells) ∙ ap cells_gathered h.parts ∙ cells_both h.stay h.gone

  few_gone : length gone ≤ length cells
  few_gone = omega (arith, ap length all_cells, length-append (cells_gathered h.stay) gone)

  pub few_lows : length made.cells.cells ≤ length cells
  few_lows = omega (arith, h.few_low, few_gone)

  pub few_above : length above ≤ length start + length cells
  few_above = omega (arith, h.few_high, few_gone)

  pub lows_are : side Less key cells ≡ cells_gathered h.stay ++ side Less key gone
  lows_are = ap (side Less key) all_cells
      ∙ low_behind key (cells_gathered h.stay) (kept_below level key h.stay h.kept) gone

  pub low_is : AreCells level (side Less key cells) → made.cells.cells ≡ side Less key gone
  low_is valid =
      h.low (back_cells level (cells_gathered h.stay) (side Less key gone) (subst (AreCells level) lows_are valid))

  pub above_is : AreCells level (start ++ side Greater key cells) → above ≡ start ++ side Greater key cells
  above_is = subst (λ xs. AreCells level (start ++ xs) → above ≡ start ++ xs) (sym highs_are) h.high
    where
      highs_are : side Greater key cells ≡ side Greater key gone
      highs_are = ap (side Greater key) all_cells ∙ filter-append (compares Greater key) (cells_gathered h.stay) gone
          ∙ ap (λ xs. xs ++ side Greater key gone)
          (side_no Greater Less key (cells_gathered h.stay) refl (kept_below level key h.stay h.kept))

  -- what leads on from the cells below the key
  pub next_is : AreCells level (side Less key cells)
      → lead_from (last_of made.cells.cells) (leads.model_lead made.next)
      ≡ lead_from (last_of (side Less key cells)) lead
  next_is valid = ap₂ (λ xs l. lead_from (last_of xs) l) (low_is valid) h.next
      ∙ lead_on (cells_gathered h.stay) (side Less key gone) lead
      ∙ ap (λ xs. lead_from (last_of xs) lead) (sym lows_are)

  -- other cells behind them
  pub goes_with : (more news : List Cell) (others : NewCells) → AreCells level (side Less key cells)
      → news ≡ side Less key cells ++ more → others.kept ≡ made.kept → others.count ≡ made.count
      → others.cells.cells ≡ made.cells.cells ++ more → IsRenewed level lead cells news others
  goes_with more news others valid news_are kept count are =
      renewed_to_end level lead cells h.stay h.gone news others h.parts (are_full level lead key [] cells h.stay h.kept)
      (kept ∙ h.kept_is) (count ∙ h.count_is)
      (news_are ∙ ap (λ xs. xs ++ more) lows_are ∙ append_assoc (cells_gathered h.stay) (side Less key gone) more
      ∙ ap (λ xs. cells_gathered h.stay ++ (xs ++ more)) (sym (low_is valid))
      ∙ ap (λ xs. cells_gathered h.stay ++ xs) (sym are))

  -- they are changed, unless all cells are where they were
  pub goes_to : (news : List Cell) (others : NewCells) (moved : Bool)
      → others.kept + others.count ≤ length (group_pages level lead cells) → IsRenewed level lead cells news others
      → (moved ≡ false → cells ≡ news)
      → changed_pages (others.kept + cond moved (run_past level others) 0) (group_pages level lead cells)
      (group_pages level lead news) ≡ group_pages level lead news
  goes_to news others true within renewed still =
      all_changed within renewed (run_past level others)
      (ap (max others.count) (sym (length-pages_from level lead others.kept others.cells.cells)))
  goes_to news others false within renewed still =
      let here : others.kept + 0 ≡ others.kept = omega arith in
      ap (λ n. changed_pages n (group_pages level lead cells) (group_pages level lead news)) here
      ∙ (is_run within renewed).start ∙ ap (group_pages level lead) (still refl)

-- ---- a group cut in two

-- the cells of a list are no more than those of another, and begin with them
none_behind : (xs ys zs : List Cell) → zs ≡ xs ++ ys → length zs ≤ length xs → ys ≡ []
none_behind xs [] zs is few = refl
none_behind xs (y ∷ ys) zs is few = absurd (omega (arith, ap length is, length-append xs (y ∷ ys)))

module _ {old mid : PagesState} {level : ℕ} {lead : Lead} {key : List ℕ} {start : List Cell} {made : NewCells}
    {above : List Cell}
    (read : IsGroupParted {T = Unit {0}} old mid level lead key start made above (Ok (tt {0}))) where
  pub room_to_split : (IsObservable old → PagesHaveRoom old.pages level lead) → IsObservable mid
      → maps.len mid.pages + (made.count + length made.cells.cells) < most_pages
  room_to_split room o =
      let h = room (read.hidden o) in
      let r = read.observed (read.hidden o) in
      let p = r.found h.cells h.holds (omega (arith, h.few)) in
      omega (
        arith,
        whole h.cells p,
        few_lows h.cells p,
        h.few,
        few_group_pages level lead h.cells,
        ap maps.len r.unchanged,
        h.room,
      )

  pub room_behind : {T : Type 0} {between : PagesState} {unit : T} (moved : Bool) → length start ≤ 1
      → (IsObservable old → PagesHaveRoom old.pages level lead)
      → IsRunChange mid between level lead made.kept made.count made.cells.cells (cond moved (run_past level made) 0)
      (Ok unit) → IsObservable between → maps.len between.pages + (0 + length above) < most_pages
  room_behind moved few room write o =
      let seen = write.hidden o in
      let h = room (read.hidden seen) in
      let r = read.observed (read.hidden seen) in
      let p = r.found h.cells h.holds (omega (arith, h.few)) in
      omega (
        arith,
        few,
        (write.observed seen).room,
        past_few level moved made,
        whole h.cells p,
        few_lows h.cells p,
        few_above h.cells p,
        h.few,
        few_group_pages level lead h.cells,
        ap maps.len r.unchanged,
        h.room,
      )

  pub group_split : {own : List Cell} {T S : Type 0} {between new : PagesState} {unit : T} {unit' : S} (moved : Bool)
      {past : ℕ} {next : declared.Lead} → (AreCells level (side Equal key own) → start ≡ side Equal key own)
      → (moved ≡ false → length above ≤ length start)
      → past ≡ max 0 (length (runs (page_room level) above))
      → leads.model_lead next ≡ lead_from (last_of made.cells.cells) (leads.model_lead made.next)
      → IsRunChange mid between level lead made.kept made.count made.cells.cells (cond moved (run_past level made) 0)
      (Ok unit) → IsRunChange between new level (Leader key) 0 0 above past (Ok unit')
      → SplitsGroup old new level lead key own (Ok next)
  group_split {own = own} moved {past = past} added still past_is next_leads write write' = record {
    call = record {
      faults = write'.faults ∙ write.faults ∙ read.faults;
      lookups_kept = omega (arith, write'.lookups, write.lookups, read.lookups_kept);
      hidden = λ o. read.hidden (write.hidden (write'.hidden o));
      observable = λ o. (write'.observed (write.observed (read.observed o).observable).observable).observable;
    };
    split = λ o group front back h.
        let r = read.observed o in
        let p = r.found group h.holds h.few in
        let w = write.observed r.observable in
        let w' = write'.observed w.observable in
        let lows = merged key group [] [] in
        let highs = merged key [] own group in
        let low_pages = group_pages level lead lows in
        let high_pages = group_pages level (Leader key) highs in
        let lows_is : lows ≡ side Less key group =
        append-nil (side Less key group ++ []) ∙ append-nil (side Less key group) in
        let valid : AreCells level (side Less key group) = subst (AreCells level) lows_is h.low_valid in
        let start_is = added (front_cells level (side Equal key own) (side Greater key group) h.high_valid) in
        let above_are : above ≡ highs =
        above_is group p (subst (λ xs. AreCells level (xs ++ side Greater key group)) (sym start_is) h.high_valid)
        ∙ ap (λ xs. xs ++ side Greater key group) start_is in
        let within : made.kept + made.count ≤ length (group_pages level lead group) = omega (arith, whole group p) in
        let renewed = goes_with group p [] lows made valid
        (lows_is ∙ sym (append-nil (side Less key group))) refl refl (sym (append-nil made.cells.cells)) in
        let stays = λ (e : moved ≡ false).
        let none = none_behind start (side Greater key group)
        above (above_are ∙ ap (λ xs. xs ++ side Greater key group) (sym start_is)) (still e) in
        h.sides ∙ ap (λ xs. side Less key group ++ xs) none ∙ append-nil (side Less key group) ∙ sym lows_is in
        let kept = w.changed (group_pages level lead group) low_pages front back
        (is_run within renewed) h.first (r.unchanged ∙ h.pages_are)
        ∙ ap (λ ps. map_of_pages (front ++ (ps ++ back)))
        (goes_to group p lows made moved within renewed stays) in
        let put_pages = group_pages level (Leader key) above in
        let put_are : put_pages ≡ high_pages = ap (group_pages level (Leader key)) above_are in
        let high_change = subst (IsChange level (Leader key) (front ++ low_pages) back []) (sym put_are) h.second in
        record {
          pages_are =
              w'.changed [] put_pages (front ++ low_pages) back (is_put level (Leader key) above) high_change
              (kept ∙ ap map_of_pages (sym (append_assoc front low_pages back)))
              ∙ ap (λ ps. map_of_pages ((front ++ low_pages) ++ (ps ++ back)))
              (all_put level (Leader key) above past past_is ∙ put_are)
              ∙ ap map_of_pages (append_assoc front low_pages (high_pages ++ back));
          next_is = next_leads ∙ next_is group p valid;
        };
    lookups = λ o group holds. omega (arith, write'.lookups, write.lookups, (read.observed o).lookups group holds);
  }

-- memory ran out before anything was read
pub group_not_begun : {old : PagesState} {level : ℕ} {lead : Lead} {key : List ℕ} {own : List Cell}
    → SplitsGroup old old level lead key own (Err NoMemory)
group_not_begun = record {
  call = record { faults = refl; lookups_kept = omega arith; hidden = λ o. o; observable = λ o. o };
  split = λ o cells front back h. tt;
  lookups = λ o cells holds. omega arith;
}

-- a call failed
pub group_not_split : {T : Type 0} {old mid new : PagesState} {level : ℕ} {lead : Lead} {key : List ℕ} {own : List Cell}
    {fault : Fault} {IsFound : List Cell → Type 0} {result : Result T Fault}
    → IsGroupWalk old mid level lead IsFound result → new.lookups ≡ mid.lookups
    → IsPagesCall {T = declared.Lead} old new (Err fault)
    → SplitsGroup old new level lead key own (Err fault)
group_not_split read same call = record {
  call = call;
  split = λ o cells front back h. tt;
  lookups = λ o cells holds. omega (arith, same, (read.observed o).lookups cells holds);
}

-- ---- two groups joined

module _ {old mid read_all : PagesState} {level : ℕ} {lead : Lead} {key : List ℕ} {none : List Cell} {lows : NewCells}
    {passed : List Cell} {highs : NewCells} {above : List Cell}
    (read : IsGroupParted {T = Unit {0}} old mid level lead key none lows passed (Ok (tt {0})))
    (read' : IsGroupParted {T = Unit {0}} mid read_all level
    (Leader key) key lows.cells.cells highs above (Ok (tt {0}))) where
  -- the group of the lead behind the change
  abbrev joined : NewCells
  joined = record {
    next = lows.next;
    kept = lows.kept;
    count = lows.count;
    cells = record { level = level; cells = above };
  }

  pub room_to_drop : {count : ℕ} (empty : List Cell) → count ≡ highs.kept + highs.count → empty ≡ []
      → (IsObservable old → PagesHaveRoom old.pages level (Leader key)) → IsObservable read_all
      → maps.len read_all.pages + (count + length empty) < most_pages
  room_to_drop empty count_is empty_is room o =
      let seen = read'.hidden o in
      let h = room (read.hidden seen) in
      let r = read.observed (read.hidden seen) in
      let r' = read'.observed seen in
      let p = r'.found h.cells (subst (λ m. HoldsGroup m level (Leader key) h.cells) (sym r.unchanged) h.holds)
      (omega (arith, h.few)) in
      omega (
        arith,
        count_is,
        ap length empty_is,
        whole h.cells p,
        h.few,
        few_group_pages level (Leader key) h.cells,
        ap maps.len r.unchanged,
        ap maps.len r'.unchanged,
        h.room,
      )

  module _ {T : Type 0} {between : PagesState} {unit : T} {count past : ℕ} {empty : List Cell}
      (count_is : count ≡ highs.kept + highs.count) (empty_is : empty ≡ [])
      (past_is : past ≡ max count (length (runs (page_room level) empty)))
      (write : IsRunChange read_all between level (Leader key) 0 count empty past (Ok unit)) where
    pub room_to_join : (IsObservable old → PagesHaveRoom old.pages level lead)
        → (IsObservable old → PagesHaveRoom old.pages level (Leader key)) → IsObservable between
        → maps.len between.pages + (lows.count + length above) < most_pages
    room_to_join room own_room o =
        let seen' = write.hidden o in
        let seen = read'.hidden seen' in
        let h = room (read.hidden seen) in
        let h' = own_room (read.hidden seen) in
        let r = read.observed (read.hidden seen) in
        let r' = read'.observed seen in
        let p = r.found h.cells h.holds (omega (arith, h.few)) in
        let p' = r'.found h'.cells (subst (λ m. HoldsGroup m level (Leader key) h'.cells) (sym r.unchanged) h'.holds)
        (omega (arith, h'.few)) in
        omega (
          arith,
          count_is,
          past_is,
          ap length empty_is,
          few_runs level empty,
          (write.observed seen').room,
          whole h.cells p,
          few_lows h.cells p,
          whole h'.cells p',
          few_above h'.cells p',
          h.few,
          h'.few,
          few_group_pages level lead h.cells,
          few_group_pages level (Leader key) h'.cells,
          ap maps.len r.unchanged,
          ap maps.len r'.unchanged,
          h.room,
        )

    pub groups_joined : {S : Type 0} {new : PagesState} {unit' : S} (moved : Bool) {next : declared.Lead}
        → (moved ≡ false → length above ≤ length lows.cells.cells)
        → leads.model_lead next ≡ lead_from (last_of lows.cells.cells) (leads.model_lead lows.next)
        → IsRunChange between new level lead lows.kept lows.count above (cond moved (run_past level joined) 0)
        (Ok unit') → JoinsGroups old new level lead key (Ok next)
    groups_joined moved still next_leads write' = record {
      call = record {
        faults = write'.faults ∙ write.faults ∙ read'.faults ∙ read.faults;
        lookups_kept = omega (arith, write'.lookups, write.lookups, read.lookups_kept, read'.lookups_kept);
        hidden = λ o. read.hidden (read'.hidden (write.hidden (write'.hidden o)));
        observable =
            λ o. (write'.observed
            (write.observed (read'.observed (read.observed o).observable).observable).observable).observable;
      };
      joined = λ o low high front back h.
          let r = read.observed o in
          let r' = read'.observed r.observable in
          let w = write.observed r'.observable in
          let w' = write'.observed w.observable in
          let p = r.found low h.low_holds h.low_few in
          let p' = r'.found high (subst (λ m. HoldsGroup m level (Leader key) high) (sym r.unchanged) h.high_holds)
          h.high_few in
          let low_pages = group_pages level lead low in
          let high_pages = group_pages level (Leader key) high in
          let below = side Less key low in
          let more = side Greater key high in
          let news = merged key low [] high in
          let news_is : news ≡ below ++ more = ap (λ xs. xs ++ more) (append-nil below) in
          let all : AreCells level (below ++ more) = subst (AreCells level) news_is h.valid in
          let valid = front_cells level below more all in
          let stay = cells_gathered p.stay in
          let gone = side Less key (cells_gathered p.gone) in
          let rest = back_cells level stay (gone ++ more)
          (subst (AreCells level) (ap (λ xs. xs ++ more) (lows_are low p) ∙ append_assoc stay gone more) all) in
          let above_are = above_is high p'
          (subst (λ xs. AreCells level (xs ++ more)) (sym (low_is low p valid)) rest) in
          let within : lows.kept + lows.count ≤ length low_pages = omega (arith, whole low p) in
          let renewed = goes_with low p more news joined valid news_is refl refl above_are in
          let stays = λ (e : moved ≡ false). sym h.below ∙ sym (append-nil below)
          ∙ ap (λ xs. below ++ xs) (sym (none_behind lows.cells.cells more above above_are (still e)))
          ∙ sym news_is in
          let all_gone : count ≡ length high_pages = count_is ∙ whole high p' in
          let dropped = w.changed high_pages [] (front ++ low_pages) back
          (is_drop level (Leader key) empty high_pages count empty_is all_gone) h.first
          (r'.unchanged ∙ r.unchanged ∙ h.pages_are
          ∙ ap map_of_pages (sym (append_assoc front low_pages (high_pages ++ back))))
          ∙ ap (λ ps. map_of_pages ((front ++ low_pages) ++ (ps ++ back)))
          (all_dropped level (Leader key) empty high_pages count empty_is all_gone past past_is)
          ∙ ap map_of_pages (append_assoc front low_pages back) in
          record {
            pages_are = w'.changed low_pages (group_pages level lead news) front back (is_run within renewed) h.second
                dropped
                ∙ ap (λ ps. map_of_pages (front ++ (ps ++ back)))
                (goes_to low p news joined moved within renewed stays);
            next_is = next_leads ∙ next_is low p valid;
          };
      lookups = λ o low high low_holds high_holds.
          let r = read.observed o in
          let r' = read'.observed r.observable in
          omega (
            arith,
            write'.lookups,
            write.lookups,
            r.lookups low low_holds,
            r'.lookups high
                (subst (λ m. HoldsGroup m level (Leader key) high) (sym r.unchanged) high_holds),
          );
    }

-- the first group was not read
pub first_not_read : {T : Type 0} {old mid : PagesState} {level : ℕ} {lead : Lead} {key : List ℕ}
    {fault : Fault} {IsFound : List Cell → Type 0} → IsGroupWalk {T = T} old mid level lead IsFound (Err fault)
    → JoinsGroups old mid level lead key (Err fault)
first_not_read read = record {
  call = failed_call (walk_call read);
  joined = λ o low high front back h. tt;
  lookups = λ o low high low_holds high_holds. omega (arith, (read.observed o).lookups low low_holds);
}

-- a call behind it failed
pub groups_not_joined : {T S : Type 0} {old mid read_all new : PagesState} {level : ℕ} {lead : Lead} {key : List ℕ}
    {fault : Fault} {IsFound IsFound' : List Cell → Type 0} {result : Result T Fault} {result' : Result S Fault}
    → IsGroupWalk old mid level lead IsFound result → IsGroupWalk mid read_all level (Leader key) IsFound' result'
    → new.lookups ≡ read_all.lookups → IsPagesCall {T = declared.Lead} old new (Err fault)
    → JoinsGroups old new level lead key (Err fault)
groups_not_joined {level = level} {key = key} read read' same call = record {
  call = call;
  joined = λ o low high front back h. tt;
  lookups = λ o low high low_holds high_holds.
      let r = read.observed o in
      let r' = read'.observed r.observable in
      omega (
        arith,
        same,
        r.lookups low low_holds,
        r'.lookups high
            (subst (λ m. HoldsGroup m level (Leader key) high) (sym r.unchanged) high_holds),
      );
}
