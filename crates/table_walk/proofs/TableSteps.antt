-- The walk over the groups that the start leads, level by level, and what it tells of the table.
use Rattle.std.specs.Prelude.{IsTrue}
use Rattle.std.proofs.Common.{◌≡◌, ◌↔◌, ℕ, zero, suc, ◌+◌, ◌-◌, ◌<◌, ◌⊎◌, inl, inr, Bool, true, false, List, [], ◌++◌}
use Rattle.std.proofs.Common.{Option, None, Ok, Err, length, map, refl, sym, ap, subst, ◌∙◌, arith, length-append}
use Rattle.std.specs.Bool.{MatchBool}
use Rattle.std.specs.List.{Contains}
use Rattle.std.specs.FinMap as maps
use Rattle.std.proofs.Math.Nat.{eq-or-lt_of_le}
use Rattle.std.proofs.lemmas.List.Elements.{Contains-append_left, Contains-append_right}
use Rattle.std.proofs.lemmas.List.Sorted.{length_permutation}
use Rattle.store_model.specs.Lists.{in_order}
use Rattle.store_model.specs.Paths.{key_cmp}
use Rattle.store_model.specs.Labels.{Lead, Label}
use Rattle.store_model.specs.Labels.Lead.{Start, Leader}
use Rattle.store_model.specs.Pairs.{Pair}
use Rattle.store_model.specs.Draws.{Draw, IsLawful}
use Rattle.store_model.specs.Pages.{Cell, Page, page_room}
use Rattle.store_model.specs.Placement.{Table, pages_in, page_cmp}
use Rattle.store_model.specs.Images.{slots_of}
use Rattle.store_model.specs.PageMaps.{PageMap, map_of_pages, HoldsPages, IsTableOf}
use Rattle.store_model.proofs.ListsLemmas.{rising_to_map}
use Rattle.store_model.proofs.ListsLemmasOrder.{IsPermutation-in_order}
use Rattle.store_model.proofs.PlacementLemmasTables.{distinct_labels_of_table}
use Rattle.store_model.proofs.PageMapsLemmas.{pages_of_map-map_of_pages, len-pages_of_map, HoldsPages-slots_of}
use Rattle.store_model.proofs.PageMapsLemmas.{found_stands, standing_found}
use Rattle.store_base.specs.declared.store_fault.Fault.{Fault}
use Rattle.store_base.specs.SlotsState.{SlotsState, IsObservable}
use Rattle.store_base.proofs.SlotsCalls.{IsObservable-later}
use Rattle.layout_conditions.specs.Conditions.{StandsIn, IsSound}
use Rattle.layout_conditions.specs.Pages.{HasCell, HasKey, IsLed}
use Rattle.skip_groups.specs.Groups.{label_of}
use Rattle.table_walk.specs.IndexLookups.{ReadsOnly}
use Rattle.table_walk.specs.Streams.{GoesOn, Progress}
use Rattle.table_walk.specs.Walked.{InMap, IsLedBy, MeetWalk, Walked, ComesTo}
use Rattle.table_walk.specs.Walks.{HandsOn, pair_of, IsGroupWalked, WalksGroup, HoldsList, WalksTable}
use Rattle.table_walk.proofs.IndexReading.{reads_none, reads_then, reads_value}
use Rattle.table_walk.proofs.KeyOrder.{none_in, goes_nowhere, goes_on_both, rise_behind}
use Rattle.table_walk.proofs.MetPages.{follows_more, leads_more, cell_more, key_more, led_more, met_none, met_both}
use Rattle.table_walk.proofs.MetGroups.{label_is, met_raised}
use Rattle.table_walk.proofs.KeysBelow.{stream_below}
use Rattle.table_walk.proofs.Counts.{all_in_map, many_in_map}
use Rattle.table_walk.proofs.CellSteps.{above_by, passed_in, still_holds}
use Rattle.table_walk.proofs.GroupSteps.{one_in_map}
use Rattle.table_walk.proofs.Handing.{hands_none, hands_both, handed_none, handed_both}

-- ---- the levels so far

pub record LevelsMet (d : Draw) (m : PageMap) (level used : ℕ) (met : Progress)
    (Took TookNow : List Pair → Type 0) : Type 0 where
  pub pages : List Page
  pub stream : List Cell
  pub walked : Walked d (InMap m) level [] pages stream
  pub goes_on : GoesOn None stream met.last
  pub left : met.left + length pages ≡ used
  pub handed_on : (pairs : List Pair) → Took pairs → TookNow (pairs ++ map pair_of stream)
  pub starts : (page : Page) → InMap m page → page.label.lead ≡ Start → page.label.index ≡ 0
      → page.label.level < level → Contains pages page

-- the groups of the start on the first so many levels were walked over, and all below them
pub record LevelsSoFar (d : Draw) (old now : SlotsState) (level used : ℕ) (met : Progress)
    (Took TookNow : List Pair → Type 0) : Type 0 where
  pub reads : ReadsOnly {T = Unit {0}} old now (Ok tt)
  pub handed : HandsOn Took TookNow
  pub walked : (m : PageMap) → IsObservable old → HoldsPages d old.slots m → LevelsMet d m level used met Took TookNow

pub levels_begin : (d : Draw) (state : SlotsState) (used : ℕ) (met : Progress) (Took : List Pair → Type 0)
    → met.left ≡ used → met.last ≡ None → LevelsSoFar d state state 0 used met Took Took
levels_begin d state used met Took left last = record {
  reads = reads_none state tt;
  handed = hands_none Took;
  walked = λ m observable holds. record {
    pages = [];
    stream = [];
    walked = met_none d (InMap m) 0;
    goes_on = subst (λ (o : Option (List ℕ)). GoesOn None [] o) (sym last) (goes_nowhere None);
    left = omega (arith, left);
    handed_on = handed_none Took;
    starts = λ page there lead index below. absurd (omega arith);
  };
}

-- ---- pages that stand in the table are those of the map

module _ (d : Draw) (There Same : Page → Type 0) (more : (page : Page) → There page → Same page)
    (less : (page : Page) → Same page → There page) where
  pub meets_as : MeetWalk d There → MeetWalk d Same
  meets_as meets = record {
    runs = record {
      levels = λ page there. meets.runs.levels page (less page there);
      numbered = λ page there above. follows_more There Same more page
          (meets.runs.numbered page (less page there) above);
    };
    groups = record {
      leads = λ level key has. leads_more There Same more level key
          (meets.groups.leads level key (key_more Same There less (level + 1) key has));
      rise = λ a b there other. meets.groups.rise a b (less a there) (less b other);
    };
    met = λ page there. led_more There Same more page.label.level page.label.lead (meets.met page (less page there));
  }

-- ---- all pages are met, where they meet the conditions

module _ (d : Draw) (m : PageMap) (meets : MeetWalk d (InMap m)) (height : ℕ) (pages : List Page) (stream : List Cell)
    (w : Walked d (InMap m) height [] pages stream)
    (levels : (page : Page) → InMap m page → page.label.level < height)
    (starts : (page : Page) → InMap m page → page.label.lead ≡ Start → page.label.index ≡ 0 → page.label.level < height
    → Contains pages page) where
  -- the first page of a group, where all pages of the level above were met
  first_met : (level : ℕ) (lead : Lead)
      → ((page : Page) → InMap m page → page.label.level ≡ level + 1 → Contains pages page) → IsLed (InMap m) level lead
      → (page : Page) → InMap m page → page.label ≡ label_of level lead 0 → Contains pages page
  first_met level Start upper led page there named =
      starts page there (ap (λ (l : Label). l.lead) named) (ap (λ (l : Label). l.index) named) (levels page there)
  first_met level (Leader key) upper led page there named =
      let has : HasKey (Contains pages) (level + 1) key = record {
        cell = led.cell;
        key_is = led.key_is;
        has = record {
          page = led.has.page;
          there = upper led.has.page led.has.there led.has.on_level;
          on_level = led.has.on_level;
          in_page = led.has.in_page;
        };
      } in
      let leads = w.groups.leads level key has in
      subst (Contains pages) (one_in_map m leads.page page (w.there leads.page leads.there) there
      (leads.label_is ∙ sym named)) leads.there

  -- the pages of a group, where its first was met
  run_met : (index level : ℕ) → ((page : Page) → InMap m page → page.label.level ≡ level + 1 → Contains pages page)
      → (page : Page) → InMap m page → page.label.level ≡ level → page.label.index ≡ index → Contains pages page
  run_met zero level upper page there level_is index_is =
      first_met level page.label.lead upper
      (subst (λ (n : ℕ). IsLed (InMap m) n page.label.lead) level_is (meets.met page there)) page there
      (label_is page.label level page.label.lead 0 level_is refl index_is)
  run_met (suc index) level upper page there level_is index_is =
      let follows = meets.runs.numbered page there (omega (arith, index_is)) in
      let before = run_met index level upper follows.before follows.there (follows.same_level ∙ level_is)
      (omega (arith, follows.index_is, index_is)) in
      w.whole follows.before page before there (record {
        level_is = sym follows.same_level;
        lead_is = sym follows.same_lead;
        index_is = sym follows.index_is;
      })
      (follows.full ∙ ap page_room (sym follows.same_level))

  level_met : (n level : ℕ) → level + n ≡ height → (page : Page) → InMap m page
      → page.label.level ≡ level → Contains pages page
  level_met zero level is page there level_is = let below = levels page there
      in absurd (omega (arith, below, level_is, is))
  level_met (suc n) level is page there level_is =
      run_met page.label.index level (level_met n (level + 1) (omega (arith, is))) page there level_is refl

  pub all_met : (page : Page) → InMap m page → Contains pages page
  all_met page there = let below = levels page there
      in level_met (height - page.label.level) page.label.level (omega (arith, below)) page there refl

-- ---- one more level

module _ (d : Draw) (old now new : SlotsState) (level used : ℕ) (mid after : Progress)
    (Took TookMid TookNow : List Pair → Type 0) (far : LevelsSoFar d old now level used mid Took TookMid) where
  later : IsObservable old → IsObservable now
  later = IsObservable-later old now (Ok tt) far.reads.calls

  pub levels_next : WalksGroup d now new level Start mid after TookMid TookNow (Ok true)
      → LevelsSoFar d old new (level + 1) used after Took TookNow
  levels_next walks = record {
    reads = reads_then old now new tt (Ok tt) far.reads (reads_value now new true tt walks.reads);
    handed = hands_both Took TookMid TookNow far.handed walks.handed;
    walked = λ m observable holds. grown m (far.walked m observable holds)
        (walks.walked m (later observable) (still_holds d old now m (Ok tt) far.reads observable holds) tt);
  }
    where
      grown : (m : PageMap) → LevelsMet d m level used mid Took TookMid
          → IsGroupWalked d m level Start mid after TookMid TookNow → LevelsMet d m (level + 1) used after Took TookNow
      grown m met group =
          let below = group.below in
          record {
            pages = met.pages ++ below.pages;
            stream = met.stream ++ below.stream;
            walked = met_both d (InMap m) (level + 1) [] []
                met.pages below.pages met.stream below.stream
                (met_raised d (InMap m) level met.pages met.stream met.walked) below.walked
                (rise_behind None mid.last after.last met.stream below.stream met.goes_on below.goes_on)
                (λ p q in2 start in1. let is = (group.starts p in2 start).1 in let lower = met.walked.lower q in1
                in omega (arith, is, lower));
            goes_on = goes_on_both None mid.last after.last met.stream below.stream met.goes_on below.goes_on;
            left = let first = met.left in let then = below.left
                in omega (arith, length-append met.pages below.pages, first, then);
            handed_on = λ pairs took. handed_both TookNow pairs
                met.stream below.stream (below.handed_on _ (met.handed_on pairs took));
            starts = λ page there lead index lower. starts_by met group page there lead index
                (eq-or-lt_of_le (omega (arith, lower)));
          }
        where
          starts_by : (met : LevelsMet d m level used mid Took TookMid)
              (group : IsGroupWalked d m level Start mid after TookMid TookNow) (page : Page) → InMap m page
              → page.label.lead ≡ Start → page.label.index ≡ 0
              → (page.label.level ≡ level) ⊎ (page.label.level < level) → Contains (met.pages ++ group.below.pages) page
          starts_by met group page there lead index (inl same) =
              Contains-append_right met.pages group.below.pages page
              (group.first page there (label_is page.label level Start 0 same lead index))
          starts_by met group page there lead index (inr lower) =
              Contains-append_left met.pages group.below.pages page (met.starts page there lead index lower)

  pub levels_failed : (fault : Fault) → WalksGroup d now new level Start mid after TookMid TookNow (Err fault)
      → WalksTable d old new used Took TookNow (Err fault)
  levels_failed fault walks = record {
    reads = reads_then old now new tt (Err fault) far.reads walks.reads;
    handed = hands_both Took TookMid TookNow far.handed walks.handed;
    walked = λ table observable slots_are sound count. tt;
  }

  -- the walk comes to the start's group
  comes_to_start : (m : PageMap) → maps.len m ≡ used → (met : LevelsMet d m level used mid Took TookMid)
      → ComesTo d m level Start mid.left mid.last met.pages
  comes_to_start m count met = record {
    met = record {
      there = met.walked.there;
      distinct = met.walked.distinct;
      count = let left = met.left in omega (arith, left, count);
    };
    passed = λ page held lower. passed_in met.stream None
        mid.last page.label.lead met.goes_on (met.walked.lead_keys page held);
    apart = λ page held level_is lead_is. let lower = met.walked.lower page held in omega (arith, lower, level_is);
    led = tt;
    ahead = λ meets page cell there named held.
        let has : HasKey (InMap m) level cell.key = record {
          cell = cell;
          key_is = refl;
          has = record { page = page; there = there; on_level = ap (λ (l : Label). l.level) named; in_page = held };
        }
        in
        above_by met.stream None mid.last cell.key met.goes_on
        (stream_below d (InMap m) meets level [] met.pages met.stream met.walked cell.key has
        (λ other none. absurd (none_in other none))) tt;
  }

-- ---- the table

module _ (d : Draw) (law : IsLawful d) (old : SlotsState) (table : Table) (slots_are : old.slots ≡ slots_of table)
    (sound : IsSound d table) where
  abbrev the_map : PageMap
  the_map = map_of_pages (pages_in table)

  pub holds_table : HoldsPages d old.slots the_map
  holds_table = subst (λ (slots : List (List ℕ)). HoldsPages d slots the_map) (sym slots_are)
      (HoldsPages-slots_of d table law sound.ordered)

  pub table_count : maps.len the_map ≡ length (pages_in table)
  table_count =
      let by_rank = pages_of_map-map_of_pages (pages_in table) (distinct_labels_of_table d table law sound.ordered) in
      omega (
        arith,
        len-pages_of_map the_map,
        ap length by_rank,
        length_permutation (pages_in table)
            (in_order page_cmp (pages_in table)) (IsPermutation-in_order page_cmp (pages_in table)),
      )

  is_table : IsTableOf d old.slots the_map table
  is_table = record { ordered = sound.ordered; slots_are = slots_are; pages_are = refl }

  pub stands : (page : Page) → InMap the_map page → StandsIn table page
  stands page there = found_stands d old.slots the_map table page is_table there

  pub found : (page : Page) → StandsIn table page → InMap the_map page
  found page (slot, held) = standing_found d old.slots the_map table slot page law is_table held

  -- what the walk met is a whole table's list
  pub holds_list : (used : ℕ) (met : Progress) (Took TookNow : List Pair → Type 0)
      → LevelsMet d the_map d.height used met Took TookNow → used ≡ length (pages_in table) → met.left ≡ 0
      → HoldsList d table Took TookNow
  holds_list used met Took TookNow so_far count none = record {
    meets = meets_as d (Contains so_far.pages) (StandsIn table) (λ page held. stands page (w.there page held))
        (λ page stand. all page (found page stand))
        (record { runs = w.runs; groups = w.groups; met = λ page held. led_by page (w.led page held) });
    cells = so_far.stream;
    cells_are = λ cell. (
      λ held. cell_more (Contains so_far.pages) (StandsIn table) (λ page in_pages. stands page (w.there page in_pages))
          0 cell (from_by cell (w.cells_from cell held)),
      λ has. w.cells_of cell (cell_more (StandsIn table) (Contains so_far.pages)
          (λ page stand. all page (found page stand)) 0 cell has),
    );
    rising = rising_to_map key_cmp (λ c. c.key) so_far.stream w.rising;
    handed_on = so_far.handed_on;
  }
    where
      w : Walked d (InMap the_map) d.height [] so_far.pages so_far.stream
      w = so_far.walked

      all : (page : Page) → InMap the_map page → Contains so_far.pages page
      all = all_in_map the_map so_far.pages (holds_table).pages w.distinct w.there (let left = so_far.left
          in omega (arith, left, none, count, table_count))

      led_by : (page : Page) → IsLed (Contains so_far.pages) page.label.level page.label.lead ⊎ IsLedBy d.height [] page
          → IsLed (Contains so_far.pages) page.label.level page.label.lead
      led_by page (inl led) = led
      led_by page (inr by) = absurd (none_in by.has.cell by.has.is_in)

      from_by : (cell : Cell) → HasCell (Contains so_far.pages) 0 cell ⊎ ((d.height ≡ 0) × Contains [] cell)
          → HasCell (Contains so_far.pages) 0 cell
      from_by cell (inl has) = has
      from_by cell (inr held) = absurd (none_in cell held.1)

  -- a page that was not met refutes the conditions
  pub not_all : (used : ℕ) (met : Progress) (Took TookNow : List Pair → Type 0)
      → LevelsMet d the_map d.height used met Took TookNow → used ≡ length (pages_in table) → (met.left ≡ 0 → ⊥)
      → MeetWalk d (StandsIn table) → ⊥
  not_all used met Took TookNow so_far count some meets =
      let all = all_met d the_map (meets_as d (StandsIn table) (InMap the_map) found stands meets)
      d.height so_far.pages so_far.stream so_far.walked (λ page there. sound.levels page (stands page there))
      so_far.starts in
      let many = many_in_map the_map so_far.pages (holds_table).pages all in
      let left = so_far.left in
      some (omega (arith, left, many, count, table_count))

module _ (d : Draw) (law : IsLawful d) (old now : SlotsState) (level used : ℕ) (mid : Progress)
    (Took TookMid : List Pair → Type 0) (far : LevelsSoFar d old now level used mid Took TookMid) where
  -- what is below the start's group refutes the conditions
  pub levels_refuted : (new : SlotsState) (after : Progress) (TookNow : List Pair → Type 0)
      → WalksGroup d now new level Start mid after TookMid TookNow (Ok false)
      → WalksTable d old new used Took TookNow (Ok false)
  levels_refuted new after TookNow walks = record {
    reads = reads_then old now new tt (Ok false) far.reads walks.reads;
    handed = hands_both Took TookMid TookNow far.handed walks.handed;
    walked = λ table observable slots_are sound count meets.
        let m = map_of_pages (pages_in table) in
        let holds = holds_table d law old table slots_are sound in
        let so_far = far.walked m observable holds in
        walks.walked m (IsObservable-later old now (Ok tt) far.reads.calls observable)
        (still_holds d old now m (Ok tt) far.reads observable holds) tt so_far.pages
        (comes_to_start d old now new level used mid after Took TookMid TookNow far m
        (table_count d law old table slots_are sound ∙ count) so_far)
        (meets_as d (StandsIn table) (InMap m) (found d law old table slots_are sound)
        (stands d law old table slots_are sound) meets);
  }

  -- all levels were walked over
  pub levels_done : (all_met : Bool) → level ≡ d.height → IsTrue all_met ↔ (mid.left ≡ 0)
      → WalksTable d old now used Took TookMid (Ok all_met)
  levels_done all_met is told = record {
    reads = reads_value old now tt all_met far.reads;
    handed = far.handed;
    walked = λ table observable slots_are sound count.
        let so_far = subst (λ (n : ℕ). LevelsMet d (map_of_pages (pages_in table)) n used mid Took TookMid) is
        (far.walked (map_of_pages (pages_in table)) observable (holds_table d law old table slots_are sound)) in
        ended all_met told table slots_are sound (sym count) so_far;
  }
    where
      ended : (b : Bool) → IsTrue b ↔ (mid.left ≡ 0) → (table : Table) → old.slots ≡ slots_of table → IsSound d table
          → used ≡ length (pages_in table) → LevelsMet d (map_of_pages (pages_in table)) d.height used mid Took TookMid
          → MatchBool b (HoldsList d table Took TookMid) (MeetWalk d (StandsIn table) → ⊥)
      ended true told table slots_are sound count so_far =
          holds_list d law old table slots_are sound used mid Took TookMid so_far count (told.0 refl)
      ended false told table slots_are sound count so_far =
          not_all d law old table slots_are sound used mid Took TookMid so_far count
          (λ none. let yes = told.1 none in cc)
