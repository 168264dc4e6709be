-- What a search in the pages of one group does.
use Rattle.std.specs.Prelude.{◌≡◌, ℕ, ◌+◌, ◌<◌, ◌≤◌, List, length, Option, Some, None, Result, IfOk}
use Rattle.store_base.specs.declared.store_fault.Fault.{Fault}
use Rattle.store_base.specs.Faults.{disk_faults_after}
use Rattle.store_model.specs.Labels.{Lead}
use Rattle.store_model.specs.Pages.{Cell}
use Rattle.node_pages.specs.PagesState.{PagesState, IsObservable, most_pages}
use Rattle.skip_groups.specs.Floors.{floor_of, after_of}
use Rattle.skip_groups.specs.Groups.{HoldsGroup, group_cost}

-- what a cell makes of what was found before, where there is one
abbrev pub seen : {T : Type 0} (see : Cell → T → T) → Option Cell → T → T
seen see None found = found
seen see (Some cell) found = see cell found

-- what the cells next to a key, in cells that rise, make of what was there before
abbrev pub IsSeen : {T : Type 0} (floor after : Cell → T → T) (key : List ℕ) (before now : T) → List Cell → Type 0
IsSeen floor after key before now cells = now ≡ seen after (after_of key cells) (seen floor (floor_of key cells) before)

-- a call that reads pages, and what it leaves of observable ones
pub record IsPagesRead {T : Type 0} (old new : PagesState) (Leaves : Type 0) (result : Result T Fault) : Type 0 where
  pub faults : new.faults ≡ disk_faults_after old.faults result
  pub lookups_kept : old.lookups ≤ new.lookups
  pub hidden : IsObservable new → IsObservable old
  pub observed : IsObservable old → Leaves

-- what a walk over the pages of a group leaves of observable pages
pub record ReadsGroup (old new : PagesState) (level : ℕ) (lead : Lead) (IsFound : List Cell → Type 0) : Type 0 where
  pub observable : IsObservable new
  pub unchanged : new.pages ≡ old.pages
  pub found : (cells : List Cell) → HoldsGroup old.pages level lead cells → length cells < most_pages → IsFound cells
  pub lookups : (cells : List Cell) → HoldsGroup old.pages level lead cells
      → new.lookups ≤ old.lookups + group_cost level cells

-- a walk over the pages of the group that the lead leads on the level, for what is found in its cells
abbrev pub IsGroupWalk : {T : Type 0} (old new : PagesState) (level : ℕ) (lead : Lead) (IsFound : List Cell → Type 0)
    (result : Result T Fault) → Type 0
IsGroupWalk old new level lead IsFound result = IsPagesRead old new (ReadsGroup old new level lead IsFound) result

-- a search in a group for what the cells next to a key make of what was there before
abbrev pub IsGroupSearch : {S T : Type 0} (floor after : Cell → T → T) (old new : PagesState) (level : ℕ) (lead : Lead)
    (key : List ℕ) (before now : T) (result : Result S Fault) → Type 0
IsGroupSearch floor after old new level lead key before now result =
    IsGroupWalk old new level lead (λ cells. IfOk result (λ done. IsSeen floor after key before now cells)) result
