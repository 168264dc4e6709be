-- What the check of the order answers.
use Rattle.std.specs.Prelude.{◌≡◌, ℕ, ◌+◌, ◌*◌, ◌<◌, ◌≤◌, List, Option, Result, IfOk, IfSome, MatchOption, length}
use Rattle.std.specs.List.{AllByRecursion}
use Rattle.store_model.specs.Draws.{Draw}
use Rattle.store_model.specs.Pages.{Page}
use Rattle.store_model.specs.Placement.{Table, pages_in, IsOrderedTable}
use Rattle.store_model.specs.Images.{slots_of}
use Rattle.store_base.specs.declared.store_fault.Fault.{Fault}
use Rattle.store_base.specs.SlotsState.{SlotsState, IsObservable, AreSlotCalls}

-- the level of the page is below the height
abbrev pub IsBelow : ℕ → Page → Type 0
IsBelow height page = page.label.level < height

-- the slots are those of this table, which is in order, and the levels of its pages are below the height
pub record IsOrderedBelow (d : Draw) (height : ℕ) (slots : List (List ℕ)) (table : Table) : Type 0 where
  pub ordered : IsOrderedTable d table
  pub slots_are : slots ≡ slots_of table
  pub below : AllByRecursion (IsBelow height) (pages_in table)

-- they are those of such a table with so many pages, or of none where no number is told
abbrev pub Checks : Draw → ℕ → List (List ℕ) → Option ℕ → Type 0
Checks d height slots found = MatchOption found
    ((table : Table) → IsOrderedBelow d height slots table → ⊥)
    (λ used. (table : Table) × IsOrderedBelow d height slots table × (used ≡ length (pages_in table)))

-- what the check of the order does, with a step for each look at a slot and for each start that is drawn
pub record ChecksOrder (d : Draw) (height : ℕ) (old new : SlotsState) (before after : ℕ)
    (result : Result (Option ℕ) Fault) : Type 0 where
  pub calls : AreSlotCalls old new result
  pub reads : IsObservable old → new.slots ≡ old.slots
  pub within : IfOk result (λ found. IfSome found (λ used. used ≤ old.count))
  pub most : after ≤ before + 4 * old.count
  pub ordered : IsObservable old → IfOk result (Checks d height old.slots)
