-- An insertion on its way: a page in hand, and an ordered table of all the others.
use Rattle.std.specs.Prelude.{◌≡◌, ℕ, ◌+◌, ◌<◌, ◌≤◌, ◌⊎◌, List, Option, Some, None, Result, Ok, Err, IfOk, IfSome}
use Rattle.std.specs.Prelude.{MatchOption, MatchResult, slice_get}
use Rattle.std.specs.declared.cmp.Ordering.TheVariants.{Less}
use Rattle.store_model.specs.Labels.{Label, label_cmp}
use Rattle.store_model.specs.Draws.{Draw}
use Rattle.store_model.specs.Pages.{Page, IsPage}
use Rattle.store_model.specs.Placement.{Table, probe, HoldsPage, IsOrderedTable}
use Rattle.store_model.specs.Images.{slot_bytes, slots_of}
use Rattle.store_model.specs.PageMaps.{PageMap, page_at, with_page}
use Rattle.store_base.specs.declared.store_fault.Fault.{Fault}
use Rattle.store_base.specs.SlotsState.{SlotsState, IsObservable, AreSlotCalls}
use Rattle.ordered_table.specs.Tables.{HasRoomFor, Inserts}
use Rattle.ordered_table.specs.declared.change.Way.{Way}

-- each slot from the page's start on, this many, holds a page of smaller label
abbrev pub SmallerFirst : Draw → Table → Page → ℕ → Type 0
SmallerFirst d table page way = (k : ℕ) → k < way
    → (other : Page) × HoldsPage table (probe d.slots (d.start page.label) k) other
    × (label_cmp other.label page.label ≡ Less)

-- The slots are those of an ordered table of all pages of a map but the one in hand. That one came to its slot over
-- smaller pages alone, and from the first page's start on there is a free slot that wasn't looked at yet.
pub record Carries (d : Draw) (slots : List (List ℕ)) (m : PageMap) (first : Label) (look at : ℕ) (label : Label)
    (hand : List ℕ) : Type 0 where
  pub table : Table
  pub carried : Page
  pub label_is : label ≡ carried.label
  pub hand_is : hand ≡ slot_bytes (Some carried)
  pub valid : IsPage carried
  pub in_map : page_at m carried.label ≡ Some carried
  pub ordered : IsOrderedTable d table
  pub slots_are : slots ≡ slots_of table
  pub there : (slot : ℕ) (page : Page) → HoldsPage table slot page → page_at m page.label ≡ Some page
  pub apart : (slot : ℕ) (page : Page) → HoldsPage table slot page → page.label ≡ carried.label → ⊥
  pub rest : (page : Page) → page_at m page.label ≡ Some page
      → (page ≡ carried) ⊎ ((slot : ℕ) × HoldsPage table slot page)
  pub way : ℕ
  pub way_is : at ≡ probe d.slots (d.start carried.label) way
  pub smaller : SmallerFirst d table carried way
  pub free : ℕ
  pub ahead : look ≤ free
  pub within : free < d.slots
  pub is_free : slice_get table (probe d.slots (d.start first) free) ≡ Some None

-- An insertion has come so far: a page in hand comes to a slot, and so many slots of the first page's probe sequence
-- are left to look at.
pub record Inserting (d : Draw) (old now : SlotsState) (page : Page) (left at : ℕ) (label : Label)
    (hand : List ℕ) : Type 0 where
  pub valid : IsPage page
  pub calls : AreSlotCalls {T = Unit {0}} old now (Ok tt)
  pub looked : ℕ
  pub all : looked + left ≡ d.slots
  pub place : at ≡ probe d.slots (d.start page.label) looked
  pub carries : (m : PageMap) → IsObservable old → HasRoomFor d old.slots m page
      → Carries d now.slots (with_page m page) page.label looked at label hand

-- the insertion of a page is done, or a displaced page whose bytes are there is in hand
abbrev pub InsertsOrCarries : Draw → SlotsState → SlotsState → Page → List ℕ → Result (Option Way) Fault → Type 0
InsertsOrCarries d old new page there result = MatchResult result
    (λ displaced. MatchOption displaced (Inserts {T = Unit {0}} d old new page (Ok tt))
    (λ onward. Inserting d old new page onward.left onward.at onward.label there))
    (λ fault. Inserts {T = Unit {0}} d old new page (Err fault))

-- what taking a page in hand to a slot does for the insertion that it is part of
pub record Displaces (d : Draw) (old new : SlotsState) (way : Way) (hand there : List ℕ)
    (result : Result (Option Way) Fault) : Type 0 where
  pub calls : AreSlotCalls old new result
  pub within : IfOk result (λ displaced. IfSome displaced (λ onward. onward.at < d.slots))
  pub fewer : IfOk result (λ displaced. IfSome displaced (λ onward. onward.left < way.left))
  pub inserting : (before : SlotsState) (page : Page) → Inserting d before old page way.left way.at way.label hand
      → InsertsOrCarries d before new page there result

-- what carrying a displaced page on does for the insertion that it is part of
pub record CarriesOn {T : Type 0} (d : Draw) (old new : SlotsState) (way : Way) (hand : List ℕ)
    (result : Result T Fault) : Type 0 where
  pub calls : AreSlotCalls old new result
  pub inserts : (before : SlotsState) (page : Page) → Inserting d before old page way.left way.at way.label hand
      → Inserts d before new page result
