-- Tables that are gone round from a slot on, and the ways of their pages.
use Rattle.std.specs.Prelude.{◌≡◌, ◌↔◌, ℕ, zero, suc, ◌+◌, ◌-◌, ◌*◌, ◌<◌, ◌≤◌, List, Bool, IsTrue, Option, Some, None}
use Rattle.std.specs.Prelude.{Result, IfOk, IfSome, MatchOption, length, slice_index}
use Rattle.std.specs.List.{AllByRecursion}
use Rattle.std.specs.declared.cmp.Ordering.TheVariants.{Less}
use Rattle.std.specs.Ordering.{nat_cmp}
use Rattle.std.specs.Cmp.Lexicographic.{slice_cmp}
use Rattle.store_model.specs.Labels.{Label, label_bytes, label_cmp}
use Rattle.store_model.specs.Draws.{Draw}
use Rattle.store_model.specs.Pages.{Page, IsPage}
use Rattle.store_model.specs.Placement.{Table, probe, pages_in, HoldsPage}
use Rattle.store_model.specs.Images.{slot_bytes, slots_of}
use Rattle.store_base.specs.declared.store_fault.Fault.{Fault}
use Rattle.store_base.specs.SlotsState.{SlotsState, IsObservable, AreSlotCalls}
use Rattle.table_walk.specs.declared.round.Round.{Round}
use Rattle.table_walk.specs.declared.way.Standing.{Standing}
use Rattle.table_walk.specs.OrderCalls.{Checks}

-- the slot at a place of a round
abbrev pub slot_at : Round → ℕ → ℕ
slot_at round place = probe round.count round.first place

-- the slots are those of a table, each free or with a page
pub record IsTable (count : ℕ) (slots : List (List ℕ)) (table : Table) : Type 0 where
  pub length_is : length table ≡ count
  pub pages : AllByRecursion IsPage (pages_in table)
  pub slots_are : slots ≡ slots_of table

-- the slot holds a page of smaller label
abbrev pub HoldsSmaller : Table → ℕ → Label → Type 0
HoldsSmaller table slot l = (other : Page) × HoldsPage table slot other × (label_cmp other.label l ≡ Less)

-- no page of a table in order passes the slot on its way: it is free, or no label of the table is greater than its own
abbrev pub IsBar : Table → ℕ → Type 0
IsBar table slot = (at : ℕ) (page : Page) → HoldsPage table at page → HoldsSmaller table slot page.label → ⊥

-- what the search for a slot that no page passes does, with a step for each look at a slot
pub record FindsBar (old new : SlotsState) (before after : ℕ) (result : Result ℕ Fault) : Type 0 where
  pub calls : AreSlotCalls old new result
  pub reads : IsObservable old → new.slots ≡ old.slots
  pub within : IfOk result (λ at. at < old.count)
  pub most : after ≤ before + old.count
  pub bar : (table : Table) → IsObservable old → IsTable old.count old.slots table → IfOk result (IsBar table)

-- whether a slot of a table holds a page of smaller label than the one of these bytes
pub record HoldsLess (slot wanted : List ℕ) (holds : Bool) : Type 0 where
  pub free : slot ≡ slot_bytes None → IsTrue holds → ⊥
  pub page : (page : Page) → IsPage page → slot ≡ slot_bytes (Some page) → IsTrue holds
      ↔ (slice_cmp nat_cmp (label_bytes page.label) wanted ≡ Less)

-- the slots from this place on, up to another one, hold pages of smaller label
abbrev pub AreSmaller : Table → Round → Label → ℕ → ℕ → Type 0
AreSmaller table round l from place = (at : ℕ) → from ≤ at → at < place → HoldsSmaller table (slot_at round at) l

-- one of the slots at these places does not
pub record IsOneGreater (table : Table) (round : Round) (l : Label) (from place : ℕ) : Type 0 where
  pub at : ℕ
  pub behind : from ≤ at
  pub before : at < place
  pub greater : HoldsSmaller table (slot_at round at) l → ⊥

-- the number kept of each of the first places that holds a page is one from which on the labels before it are smaller
abbrev pub AreReaches : Table → Round → List ℕ → ℕ → Type 0
AreReaches table round reach place = (at : ℕ) (page : Page) → at < place → HoldsPage table (slot_at round at) page
    → AreSmaller table round page.label (slice_index reach at) at

-- so many jumps lead from a place back to where the run of pages begins
abbrev pub LeadsBack : List ℕ → ℕ → ℕ → ℕ → Type 0
LeadsBack reach run from zero = from ≡ run
LeadsBack reach run from (suc jumps) = (run < from) × LeadsBack reach run (slice_index reach (from - 1)) jumps

-- a number of jumps leads back from a place, and they are counted with the steps so far
pub record JumpsLeft (reach : List ℕ) (run from steps most : ℕ) : Type 0 where
  pub jumps : ℕ
  pub back : LeadsBack reach run from jumps
  pub counted : steps + jumps ≤ most

-- what going back over the way of a page does, with a step for each look at a slot
pub record Passes (round : Round) (old new : SlotsState) (page : Standing) (reach : List ℕ) (before after : ℕ)
    (result : Result (Option ℕ) Fault) : Type 0 where
  pub calls : AreSlotCalls old new result
  pub reads : IsObservable old → new.slots ≡ old.slots
  pub within : IfOk result (λ found. IfSome found (λ from. from + page.way ≤ page.place))
  pub most : (run most : ℕ) → JumpsLeft reach run page.place before most → run + page.way ≤ page.place → after ≤ most
  pub left : (run most : ℕ) → JumpsLeft reach run page.place before most → run + page.way ≤ page.place
      → IfOk result (λ found. IfSome found (λ from. JumpsLeft reach run from after most))
  pub way : (table : Table) → IsObservable old → IsTable round.count old.slots table
      → AreReaches table round reach page.place
      → IfOk result (λ found. MatchOption found (IsOneGreater table round page.label (page.place - page.way) page.place)
      (λ from. AreSmaller table round page.label from page.place))

-- what the check does on a round behind a slot that no page passes
pub record ChecksRound (d : Draw) (height : ℕ) (round : Round) (old new : SlotsState) (before after : ℕ)
    (result : Result (Option ℕ) Fault) : Type 0 where
  pub calls : AreSlotCalls old new result
  pub reads : IsObservable old → new.slots ≡ old.slots
  pub within : IfOk result (λ found. IfSome found (λ used. used ≤ old.count))
  pub most : after ≤ before + 3 * old.count
  pub checked : IsObservable old
      → ((table : Table) → IsTable round.count old.slots table → IsBar table (slot_at round (round.count - 1)))
      → IfOk result (Checks d height old.slots)
