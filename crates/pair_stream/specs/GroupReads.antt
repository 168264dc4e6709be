-- What is read next in a group.
use Rattle.std.specs.Prelude.{◌≡◌, ℕ, ◌+◌, ◌/◌, ◌%◌, ◌≤◌, List, Option, Some, None, Result, Ok, Err, IfOk, OnOk}
use Rattle.std.specs.Prelude.{slice_get}
use Rattle.std.specs.Prelude.{cond, nat_eq}
use Rattle.std.specs.Option.{option_map}
use Rattle.store_base.specs.declared.store_fault.Fault.{Fault}
use Rattle.store_base.specs.Leads.{model_lead}
use Rattle.store_model.specs.Pairs.{Pair}
use Rattle.store_model.specs.Pages.{Cell, Page, page_room}
use Rattle.store_model.specs.PageMaps.{PageMap, page_at}
use Rattle.node_pages.specs.PagesState.{PagesState, IsObservable}
use Rattle.skip_groups.specs.Floors.{pair_in}
use Rattle.skip_groups.specs.Groups.{HoldsGroup, label_of}
use Rattle.skip_groups.specs.Searches.{IsPagesRead}
use Rattle.pair_stream.specs.declared.places.LevelPlace.{LevelPlace}

-- the cell of a page that has this number, if there is one
abbrev pub cell_in : Option Page → ℕ → Option Cell
cell_in None at = None
cell_in (Some page) at = slice_get page.cells at

-- what reading the key of the next cell of a group leaves of observable pages: one page was asked for
pub record ReadsKey (old new : PagesState) (level : ℕ) (place : LevelPlace)
    (result : Result (Option (List ℕ)) Fault) : Type 0 where
  pub observable : IsObservable new
  pub unchanged : new.pages ≡ old.pages
  pub found : (cells : List Cell) → HoldsGroup old.pages level (model_lead place.lead) cells
      → IfOk result (λ key. key ≡ option_map (λ (cell : Cell). cell.key) (slice_get cells place.count))
  pub lookups : new.lookups ≤ old.lookups + 1

-- reading the key of the cell behind those that were read, if the group has one more
abbrev pub IsKeyRead : (old new : PagesState) (level : ℕ) (place : LevelPlace)
    (result : Result (Option (List ℕ)) Fault) → Type 0
IsKeyRead old new level place result = IsPagesRead old new (ReadsKey old new level place result) result

-- ---- level 0

-- what a read that did not fail holds
abbrev pub held_by : {T : Type 0} → Result T Fault → Option Page → Result (Option Page) Fault
held_by (Ok done) held = Ok held
held_by (Err fault) held = Err fault

-- the page of the next cell of a group of level 0
abbrev pub page_ahead : PageMap → LevelPlace → Option Page
page_ahead m place = page_at m (label_of 0 (model_lead place.lead) (place.count / page_room 0))

-- the page of the next cell is held; it need not be where that cell is the first of a page
abbrev pub IsHeld : PageMap → LevelPlace → Option Page → Type 0
IsHeld m place held = (place.count % page_room 0 ≡ 0 → ⊥) → held ≡ page_ahead m place

-- a page is asked for where the next cell is the first of one
abbrev pub turn_cost : LevelPlace → ℕ
turn_cost place = cond (nat_eq (place.count % page_room 0) 0) 1 0

-- what asking for the page of the next cell leaves of observable pages
pub record TurnsPage {T : Type 0} (old new : PagesState) (place : LevelPlace) (before after : Option Page)
    (result : Result T Fault) : Type 0 where
  pub observable : IsObservable new
  pub unchanged : new.pages ≡ old.pages
  pub held : IsHeld old.pages place before → OnOk result (after ≡ page_ahead old.pages place)
  pub lookups : new.lookups ≤ old.lookups + turn_cost place

-- asking for the page of the next cell, where it is not held
abbrev pub IsPageTurn : {T : Type 0} (old new : PagesState) (place : LevelPlace) (before after : Option Page)
    (result : Result T Fault) → Type 0
IsPageTurn old new place before after result =
    IsPagesRead old new (TurnsPage old new place before after result) result

-- what reading the next pair of a group leaves of observable pages
pub record ReadsPair (old new : PagesState) (place : LevelPlace) (before after : Option Page)
    (result : Result (Option Pair) Fault) : Type 0 where
  pub turns : TurnsPage old new place before after result
  pub found : IsHeld old.pages place before
      → (cells : List Cell) → HoldsGroup old.pages 0 (model_lead place.lead) cells
      → IfOk result (λ pair. pair ≡ pair_in (slice_get cells place.count))

-- reading the pair behind those that were read, if the group has one more
abbrev pub IsPairRead : (old new : PagesState) (place : LevelPlace) (before after : Option Page)
    (result : Result (Option Pair) Fault) → Type 0
IsPairRead old new place before after result =
    IsPagesRead old new (ReadsPair old new place before after result) result
