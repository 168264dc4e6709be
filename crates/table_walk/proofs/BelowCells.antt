-- The walk below one cell: down to the group that it leads, or on level 0 its pair.
use Rattle.std.proofs.Common.{◌≡◌, ℕ, ◌+◌, Bool, true, false, List, [], ◌∷◌, ◌++◌, Option, Some, None, Result, Ok, Err}
use Rattle.std.proofs.Common.{refl, sym, subst, arith}
use Rattle.std.specs.Prelude.{unwrap_or}
use Rattle.store_model.specs.Labels.Lead.{Leader}
use Rattle.store_model.specs.Pairs.{Pair}
use Rattle.store_model.specs.Draws.{Draw}
use Rattle.store_model.specs.Pages.{Cell, Page, IsCell, IsCellValue}
use Rattle.store_model.specs.PageMaps.{PageMap}
use Rattle.store_model.proofs.ListsLemmasOrder.{held_all}
use Rattle.store_base.specs.declared.store_fault.Fault.{Fault}
use Rattle.store_base.specs.SlotsState.{SlotsState}
use Rattle.table_walk.specs.Streams.{GoesOn, Progress}
use Rattle.table_walk.specs.Walked.{InMap, IsPassed, ComesTo, ComesToCell}
use Rattle.table_walk.specs.Walks.{AreCellsWalked, IsGroupWalked, WalksGroup, WalksCell}
use Rattle.table_walk.proofs.IndexReading.{reads_none}
use Rattle.table_walk.proofs.KeyOrder.{none_in, not_below_itself, reached_below, goes_on_one}
use Rattle.table_walk.proofs.MetGroups.{met_pair, met_as}
use Rattle.table_walk.proofs.CellSteps.{valid_in}
use Rattle.table_walk.proofs.Handing.{hands_none}

module _ (d : Draw) (old new : SlotsState) (low level : ℕ) (cell : Cell) (before after : Progress)
    (Took TookNow : List Pair → Type 0) (next : level ≡ low + 1) where
  -- the group that the cell leads was met
  group_met : (m : PageMap) → IsGroupWalked d m low (Leader cell.key) before after Took TookNow
      → AreCellsWalked d m (low + 1) (cell ∷ []) before after Took TookNow
  group_met m group =
      let below = group.below in
      record {
        below = record {
          pages = below.pages;
          stream = below.stream;
          walked = met_as d (InMap m) low (record {
            key = cell.key;
            value = None;
          }) cell below.pages below.stream refl below.walked;
          goes_on = below.goes_on;
          left = below.left;
          handed_on = below.handed_on;
        };
        keyed = λ page held start. let led = (group.starts page held start).0 in absurd (cc);
      }

  -- the walk that comes to the cell comes to its group
  comes_to_group : (m : PageMap) (pages : List Page) → ComesToCell d m (low + 1) cell before.left before.last pages
      → ComesTo d m low (Leader cell.key) before.left before.last pages
  comes_to_group m pages comes = record {
    met = comes.met;
    passed = comes.passed;
    apart = λ page held level_is lead_is.
        not_below_itself cell.key
        (reached_below before.last cell.key cell.key
        (subst (IsPassed before.last) lead_is (comes.passed page held (omega (arith, level_is)))) comes.above);
    led = record { cell = cell; key_is = refl; has = comes.there };
    ahead = comes.above;
  }

  pub walks_group_below : (result : Result Bool Fault)
      → WalksGroup d old new low (Leader cell.key) before after Took TookNow result
      → WalksCell d old new level cell before after Took TookNow result
  walks_group_below (Err fault) walks = record {
    reads = walks.reads;
    fewer = walks.fewer;
    handed = walks.handed;
    walked = λ m observable holds there on_level above. tt;
  }
  walks_group_below (Ok true) walks = record {
    reads = walks.reads;
    fewer = walks.fewer;
    handed = walks.handed;
    walked = λ m observable holds there on_level above.
        subst (λ (n : ℕ). AreCellsWalked d m n (cell ∷ []) before after Took TookNow) (sym next)
        (group_met m (walks.walked m observable holds (omega (arith, on_level, next))));
  }
  walks_group_below (Ok false) walks = record {
    reads = walks.reads;
    fewer = walks.fewer;
    handed = walks.handed;
    walked = λ m observable holds there on_level above pages comes meets.
        walks.walked m observable holds (omega (arith, on_level, next)) pages
        (comes_to_group m pages
        (subst (λ (n : ℕ). ComesToCell d m n cell before.left before.last pages) next comes)) meets;
  }

-- the pair of a cell of level 0
pub walks_pair : (d : Draw) (state : SlotsState) (cell : Cell) (value : List ℕ) (before after : Progress)
    (Took TookNow : List Pair → Type 0) → cell.value ≡ Some value → after.left ≡ before.left
    → after.last ≡ Some cell.key
    → ((pairs : List Pair) → Took pairs → TookNow (pairs ++ (cell.key, value) ∷ []))
    → WalksCell d state state 0 cell before after Took TookNow (Ok true)
walks_pair d state cell value before after Took TookNow is left last takes = record {
  reads = reads_none state true;
  fewer = omega (arith, left);
  handed = λ pairs took. ((cell.key, value) ∷ [], takes pairs took);
  walked = λ m observable holds there on_level above. record {
    below = record {
      pages = [];
      stream = cell ∷ [];
      walked = met_pair d (InMap m) cell;
      goes_on = subst (λ (o : Option (List ℕ)). GoesOn before.last (cell ∷ []) o) (sym last)
          (goes_on_one before.last cell above);
      left = omega (arith, left);
      handed_on = λ pairs took. subst (λ (v : Option (List ℕ)). TookNow (pairs ++ (cell.key, unwrap_or v []) ∷ []))
          (sym is) (takes pairs took);
    };
    keyed = λ page held. absurd (none_in page held);
  };
}

-- on level 0 each cell has a value
pub walks_no_pair : (d : Draw) (state : SlotsState) (cell : Cell) (met : Progress) (Took : List Pair → Type 0)
    → cell.value ≡ None → WalksCell d state state 0 cell met met Took Took (Ok false)
walks_no_pair d state cell met Took is = record {
  reads = reads_none state false;
  fewer = omega arith;
  handed = hands_none Took;
  walked = λ m observable holds there on_level above pages comes meets.
      let valid = valid_in d state.slots m there.page holds there.there in
      let has = held_all (IsCell there.page.label.level) there.page.cells cell valid.cells there.in_page in
      let none : IsCellValue there.page.label.level None = subst (IsCellValue there.page.label.level) is has.value in
      absurd (omega (arith, none, there.on_level));
}
