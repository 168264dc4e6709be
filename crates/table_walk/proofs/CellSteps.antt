-- The walk over the cells of a page, cell by cell.
use Rattle.std.proofs.Common.{◌≡◌, ℕ, ◌+◌, ◌<◌, ◌≤◌, ◌⊎◌, inl, inr, true, false, List, [], ◌∷◌, ◌++◌, Option, Some}
use Rattle.std.proofs.Common.{None, Result, Ok, Err, length, take, slice_get, refl, sym, ap, subst, ◌∙◌, arith}
use Rattle.std.proofs.Common.{length-append}
use Rattle.std.specs.List.{Contains}
use Rattle.std.specs.declared.cmp.Ordering.TheVariants.{Less}
use Rattle.std.proofs.Math.Nat.{eq-or-lt_of_le}
use Rattle.std.proofs.lemmas.List.{take_all}
use Rattle.std.proofs.lemmas.List.Elements.{Contains-append_cases}
use Rattle.std.proofs.lemmas.Option.{same_Some, slice_get_within}
use Rattle.store_model.specs.Paths.{key_cmp}
use Rattle.store_model.specs.Labels.{Lead, Label, label_bytes}
use Rattle.store_model.specs.Labels.Lead.{Start, Leader}
use Rattle.store_model.specs.Pairs.{Pair}
use Rattle.store_model.specs.Draws.{Draw}
use Rattle.store_model.specs.Pages.{Cell, Page, IsPage}
use Rattle.store_model.specs.PageMaps.{PageMap, HoldsPages}
use Rattle.store_base.specs.declared.store_fault.Fault.{Fault}
use Rattle.store_base.specs.SlotsState.{SlotsState, IsObservable}
use Rattle.store_base.proofs.SlotsCalls.{IsObservable-later}
use Rattle.node_pages.proofs.Joined.{take_next}
use Rattle.layout_conditions.specs.Pages.{HasCell, HasKey}
use Rattle.table_walk.specs.IndexLookups.{ReadsOnly}
use Rattle.table_walk.specs.Streams.{HasKeyIn, IsAbove, IsReached, GoesOn, Progress}
use Rattle.table_walk.specs.Walked.{InMap, AreDistinct, IsLeadIn, IsPassed, LeadsOn, IsInPlace, AreMetOf, ComesToCell}
use Rattle.table_walk.specs.Walked.{ComesToCells}
use Rattle.table_walk.specs.Walks.{HandsOn, AreCellsWalked, WalksCell, WalksCells}
use Rattle.table_walk.proofs.IndexReading.{reads_none, reads_then, reads_value}
use Rattle.table_walk.proofs.KeyOrder.{none_in, not_below_itself, reached_below, goes_nowhere, goes_on_both}
use Rattle.table_walk.proofs.KeyOrder.{rise_behind}
use Rattle.table_walk.proofs.MetPages.{met_none, met_both, distinct_both}
use Rattle.table_walk.proofs.KeysBelow.{stream_below}
use Rattle.table_walk.proofs.Places.{held_at, below_in_page, run_of_places, place_of_run, level_of_place}
use Rattle.table_walk.proofs.Handing.{hands_none, hands_both, handed_none, handed_both}

-- ---- what was walked, one part behind another

pub walked_none : (d : Draw) (m : PageMap) (level : ℕ) (met : Progress) (Took : List Pair → Type 0)
    → AreCellsWalked d m level [] met met Took Took
walked_none d m level met Took = record {
  below = record {
    pages = [];
    stream = [];
    walked = met_none d (InMap m) level;
    goes_on = goes_nowhere met.last;
    left = omega arith;
    handed_on = handed_none Took;
  };
  keyed = λ page held. absurd (none_in page held);
}

pub walked_both : (d : Draw) (m : PageMap) (level : ℕ) (own1 own2 : List Cell) (before mid after : Progress)
    (Took TookMid TookNow : List Pair → Type 0)
    → AreCellsWalked d m level own1 before mid Took TookMid → AreCellsWalked d m level own2 mid after TookMid TookNow
    → AreCellsWalked d m level (own1 ++ own2) before after Took TookNow
walked_both d m level own1 own2 before mid after Took TookMid TookNow a b = record {
  below = record {
    pages = a.below.pages ++ b.below.pages;
    stream = a.below.stream ++ b.below.stream;
    walked = met_both d (InMap m) level own1 own2
        a.below.pages b.below.pages a.below.stream b.below.stream a.below.walked b.below.walked
        (rise_behind before.last mid.last after.last a.below.stream b.below.stream a.below.goes_on b.below.goes_on)
        (λ p q in2 start in1. absurd (b.keyed p in2 start));
    goes_on = goes_on_both before.last mid.last after.last a.below.stream b.below.stream
        a.below.goes_on b.below.goes_on;
    left = let first = a.below.left in let second = b.below.left
        in omega (arith, length-append a.below.pages b.below.pages, first, second);
    handed_on = λ pairs took. handed_both TookNow pairs
        a.below.stream b.below.stream (b.below.handed_on _ (a.below.handed_on pairs took));
  };
  keyed = λ page held start. by_place page start (Contains-append_cases a.below.pages b.below.pages page held);
}
  where
    by_place : (page : Page) → page.label.lead ≡ Start → Contains a.below.pages page ⊎ Contains b.below.pages page → ⊥
    by_place page start (inl held) = a.keyed page held start
    by_place page start (inr held) = b.keyed page held start

-- ---- the last key, and the pages met before

-- a key above all that was handed on, and above the last one before that, is above the last one now
pub above_by : (stream : List Cell) (last now : Option (List ℕ)) (key : List ℕ) → GoesOn last stream now
    → ((k : List ℕ) → HasKeyIn stream k → key_cmp k key ≡ Less) → IsAbove last key → IsAbove now key
above_by stream last now key on below above = by_last now refl
  where
    by_from : (k : List ℕ) → HasKeyIn stream k ⊎ (last ≡ Some k) → key_cmp k key ≡ Less
    by_from k (inl has) = below k has
    by_from k (inr is) = subst (λ (o : Option (List ℕ)). IsAbove o key) is above

    by_last : (o : Option (List ℕ)) → now ≡ o → IsAbove o key
    by_last None is = tt
    by_last (Some k) is = by_from k (on.from k is)

-- a lead that is passed stays so
pub passed_on : (stream : List Cell) (last now : Option (List ℕ)) (lead : Lead) → GoesOn last stream now
    → IsPassed last lead → IsPassed now lead
passed_on stream last now Start on passed = tt
passed_on stream last now (Leader key) on passed = on.kept key passed

-- one whose key was handed on is passed
pub passed_in : (stream : List Cell) (last now : Option (List ℕ)) (lead : Lead) → GoesOn last stream now
    → IsLeadIn stream lead → IsPassed now lead
passed_in stream last now Start on has = tt
passed_in stream last now (Leader key) on has = subst (IsReached now) has.key_is (on.reached has.cell has.is_in)

-- pages met behind others
pub met_of_both : (m : PageMap) (before after : ℕ) (first second : List Page) → AreMetOf m before first
    → ((page : Page) → Contains second page → InMap m page) → AreDistinct second
    → ((p q : Page) → Contains first p → Contains second q → q.label ≡ p.label → ⊥) → after + length second ≡ before
    → AreMetOf m after (first ++ second)
met_of_both m before after first second met there distinct apart count = record {
  there = λ page held. by_place page (Contains-append_cases first second page held);
  distinct = distinct_both first second met.distinct distinct apart;
  count = let sum = met.count in omega (arith, length-append first second, sum, count);
}
  where
    by_place : (page : Page) → Contains first page ⊎ Contains second page → InMap m page
    by_place page (inl held) = met.there page held
    by_place page (inr held) = there page held

-- pages below a level whose leads are passed are other pages than those that are met behind the last key
pub apart_behind : (level : ℕ) (stream : List Cell) (last now : Option (List ℕ)) (first second : List Page)
    → GoesOn last stream now
    → ((p : Page) → Contains first p → p.label.level < level → IsPassed last p.label.lead)
    → ((q : Page) → Contains second q → q.label.level < level)
    → ((q : Page) → Contains second q → q.label.lead ≡ Start → ⊥)
    → ((q : Page) → Contains second q → IsLeadIn stream q.label.lead)
    → (p q : Page) → Contains first p → Contains second q → q.label ≡ p.label → ⊥
apart_behind level stream last now first second on passed lower keyed leads p q in_first in_second same =
    by_lead q.label.lead refl
  where
    level_is : q.label.level ≡ p.label.level
    level_is = ap (λ (l : Label). l.level) same

    by_lead : (lead : Lead) → q.label.lead ≡ lead → ⊥
    by_lead Start is = keyed q in_second is
    by_lead (Leader key) is =
        let below = lower q in_second in
        let has = subst (IsLeadIn stream) is (leads q in_second) in
        let reached = subst (IsPassed last) (sym (ap (λ (l : Label). l.lead) same) ∙ is)
        (passed p in_first (omega (arith, level_is))) in
        not_below_itself key (reached_below last key key reached
        (subst (IsAbove last) has.key_is (on.above has.cell has.is_in)))

-- ---- the cells of a page

pub record CellsMet (d : Draw) (m : PageMap) (page : Page) (i : ℕ) (before after : Progress)
    (Took TookNow : List Pair → Type 0) : Type 0 where
  pub cells : AreCellsWalked d m page.label.level (take i page.cells) before after Took TookNow
  pub placed : (j : ℕ) (cell : Cell) → j < i → slice_get page.cells j ≡ Some cell
      → IsInPlace d page.label.level page.label.lead page.label.index j cell.key

-- the first cells of a page were walked over, so many
pub record CellsSoFar (d : Draw) (old now : SlotsState) (page : Page) (i : ℕ) (before after : Progress)
    (Took TookNow : List Pair → Type 0) : Type 0 where
  pub reads : ReadsOnly {T = Unit {0}} old now (Ok tt)
  pub fewer : after.left ≤ before.left
  pub handed : HandsOn Took TookNow
  pub walked : (m : PageMap) → IsObservable old → HoldsPages d old.slots m → InMap m page
      → LeadsOn d page.label.level page.label.lead → CellsMet d m page i before after Took TookNow

pub cells_begin : (d : Draw) (state : SlotsState) (page : Page) (met : Progress) (Took : List Pair → Type 0)
    → CellsSoFar d state state page 0 met met Took Took
cells_begin d state page met Took = record {
  reads = reads_none state tt;
  fewer = omega arith;
  handed = hands_none Took;
  walked = λ m observable holds there leads. record {
    cells = walked_none d m page.label.level met Took;
    placed = λ j cell below. absurd (omega (arith, below));
  };
}

-- a page of the map is one
pub valid_in : (d : Draw) (slots : List (List ℕ)) (m : PageMap) (page : Page) → HoldsPages d slots m
    → InMap m page → IsPage page
valid_in d slots m page holds there = (holds.pages (label_bytes page.label) page there).valid

-- slots that were only read hold the same map
pub still_holds : {T : Type 0} (d : Draw) (old new : SlotsState) (m : PageMap) (result : Result T Fault)
    → ReadsOnly old new result → IsObservable old → HoldsPages d old.slots m → HoldsPages d new.slots m
still_holds d old new m result reads observable holds =
    subst (λ (slots : List (List ℕ)). HoldsPages d slots m) (sym (reads.slots observable)) holds

module _ (d : Draw) (old now new : SlotsState) (page : Page) (i : ℕ) (cell : Cell) (before mid after : Progress)
    (Took TookMid TookNow : List Pair → Type 0)
    (far : CellsSoFar d old now page i before mid Took TookMid) (is : slice_get page.cells i ≡ Some cell) where
  -- the cell stands on the level of the page
  cell_there : (m : PageMap) → InMap m page → HasCell (InMap m) page.label.level cell
  cell_there m there = record { page = page; there = there; on_level = refl; in_page = held_at page.cells i cell is }

  module _ (place : IsInPlace d page.label.level page.label.lead page.label.index i cell.key)
      (above : IsAbove mid.last cell.key) where
    pub cells_next : WalksCell d now new page.label.level cell mid after TookMid TookNow (Ok true)
        → CellsSoFar d old new page (i + 1) before after Took TookNow
    cells_next walks = record {
      reads = reads_then old now new tt (Ok tt) far.reads (reads_value now new true tt walks.reads);
      fewer = let first = far.fewer in let then = walks.fewer in omega (arith, first, then);
      handed = hands_both Took TookMid TookNow far.handed walks.handed;
      walked = λ m observable holds there leads.
          let so_far = far.walked m observable holds there leads in
          let more = walks.walked m (IsObservable-later old now (Ok tt) far.reads.calls observable)
          (still_holds d old now m (Ok tt) far.reads observable holds) (cell_there m there)
          (level_of_place d page.label.level page.label.lead page.label.index i cell.key leads place) above in
          record {
            cells = subst (λ (own : List Cell). AreCellsWalked d m page.label.level own before after Took TookNow)
                (sym (take_next page.cells i cell is))
                (walked_both d m page.label.level (take i page.cells)
                (cell ∷ []) before mid after Took TookMid TookNow so_far.cells more);
            placed = λ j other below at. placed_by so_far j other at (eq-or-lt_of_le (omega (arith, below)));
          };
    }
      where
        placed_by : {m : PageMap} → CellsMet d m page i before mid Took TookMid → (j : ℕ) (other : Cell)
            → slice_get page.cells j ≡ Some other → (j ≡ i) ⊎ (j < i)
            → IsInPlace d page.label.level page.label.lead page.label.index j other.key
        placed_by so_far j other at (inr below) = so_far.placed j other below at
        placed_by so_far j other at (inl same) =
            let cell_is : cell ≡ other = same_Some cell other (sym is ∙ ap (slice_get page.cells) (sym same) ∙ at) in
            subst (λ (n : ℕ). IsInPlace d page.label.level page.label.lead page.label.index n other.key) (sym same)
            (subst (λ (c : Cell). IsInPlace d page.label.level page.label.lead page.label.index i c.key) cell_is
            place)

    -- the walk comes to the cell
    comes_to_cell : (m : PageMap) (pages : List Page) → CellsMet d m page i before mid Took TookMid
        → (comes : ComesToCells d m page before.left before.last pages)
        → (all : List Page) × ComesToCell d m page.label.level cell mid.left mid.last all
    comes_to_cell m pages so_far comes =
        let below = so_far.cells.below in (
          pages ++ below.pages,
          record {
            met = met_of_both m before.left mid.left pages
                below.pages comes.met below.walked.there below.walked.distinct
                (apart_behind page.label.level below.stream before.last mid.last pages
                below.pages below.goes_on comes.passed below.walked.lower so_far.cells.keyed below.walked.lead_keys)
                below.left;
            passed = λ other held lower. passed_by so_far comes other lower
                (Contains-append_cases pages below.pages other held);
            there = cell_there m comes.there;
            above = above;
          },
        )
      where
        passed_by : (so_far : CellsMet d m page i before mid Took TookMid)
            → ComesToCells d m page before.left before.last pages → (other : Page)
            → other.label.level < page.label.level
            → Contains pages other ⊎ Contains so_far.cells.below.pages other → IsPassed mid.last other.label.lead
        passed_by so_far comes other lower (inl held) =
            passed_on so_far.cells.below.stream before.last mid.last other.label.lead so_far.cells.below.goes_on
            (comes.passed other held lower)
        passed_by so_far comes other lower (inr held) =
            passed_in so_far.cells.below.stream before.last mid.last other.label.lead so_far.cells.below.goes_on
            (so_far.cells.below.walked.lead_keys other held)

    -- what is below the cell refutes the conditions
    pub cells_refuted : WalksCell d now new page.label.level cell mid after TookMid TookNow (Ok false)
        → WalksCells d old new page before after Took TookNow (Ok false)
    cells_refuted walks = record {
      reads = reads_then old now new tt (Ok false) far.reads walks.reads;
      fewer = let first = far.fewer in let then = walks.fewer in omega (arith, first, then);
      handed = hands_both Took TookMid TookNow far.handed walks.handed;
      walked = λ m observable holds there leads pages comes meets.
          let so_far = far.walked m observable holds there leads in
          let (all, to_cell) = comes_to_cell m pages so_far comes in
          walks.walked m (IsObservable-later old now (Ok tt) far.reads.calls observable)
          (still_holds d old now m (Ok tt) far.reads observable holds) (cell_there m there)
          (level_of_place d page.label.level page.label.lead page.label.index i cell.key leads place)
          above all to_cell meets;
    }

  pub cells_failed : (fault : Fault) → WalksCell d now new page.label.level cell mid after TookMid TookNow (Err fault)
      → WalksCells d old new page before after Took TookNow (Err fault)
  cells_failed fault walks = record {
    reads = reads_then old now new tt (Err fault) far.reads walks.reads;
    fewer = let first = far.fewer in let then = walks.fewer in omega (arith, first, then);
    handed = hands_both Took TookMid TookNow far.handed walks.handed;
    walked = λ m observable holds there leads. tt;
  }

  -- a key that is in no place, or not above the last, refutes the conditions
  pub cells_wrong : (IsInPlace d page.label.level page.label.lead page.label.index i cell.key
      × IsAbove mid.last cell.key → ⊥) → WalksCells d old now page before mid Took TookMid (Ok false)
  cells_wrong not = record {
    reads = reads_value old now tt false far.reads;
    fewer = far.fewer;
    handed = far.handed;
    walked = λ m observable holds there leads pages comes meets.
        let so_far = far.walked m observable holds there leads in
        let below = so_far.cells.below in
        let has : HasKey (InMap m) page.label.level cell.key = record {
          cell = cell;
          key_is = refl;
          has = cell_there m there;
        } in
        not (
          place_of_run d page.label.level page.label.lead page.label.index page.cells i cell
              (meets.runs.levels page there) is,
          above_by below.stream before.last mid.last cell.key below.goes_on
              (stream_below d (InMap m) meets page.label.level (take i page.cells)
              below.pages below.stream below.walked cell.key has
              (λ other held. below_in_page page i cell other (valid_in d old.slots m page holds there) is held))
              (comes.ahead meets cell (held_at page.cells i cell is)),
        );
  }

-- all cells were walked over
pub cells_done : (d : Draw) (old now : SlotsState) (page : Page) (i : ℕ) (before after : Progress)
    (Took TookNow : List Pair → Type 0) → CellsSoFar d old now page i before after Took TookNow → length page.cells ≤ i
    → WalksCells d old now page before after Took TookNow (Ok true)
cells_done d old now page i before after Took TookNow far all = record {
  reads = reads_value old now tt true far.reads;
  fewer = far.fewer;
  handed = far.handed;
  walked = λ m observable holds there leads.
      let so_far = far.walked m observable holds there leads in
      record {
        cells = subst (λ (own : List Cell). AreCellsWalked d m page.label.level own before after Took TookNow)
            (take_all i page.cells all) so_far.cells;
        run = run_of_places d page.label.level page.label.lead page.label.index page.cells
            (valid_in d old.slots m page holds there).some_cell leads
            (λ j cell at. so_far.placed j cell (let within = slice_get_within page.cells j cell at
            in omega (arith, within, all)) at);
      };
}
