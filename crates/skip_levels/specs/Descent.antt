-- What a descent from level to level on the search path of a key does.
use Rattle.std.specs.Prelude.{◌≡◌, ℕ, suc, ◌+◌, ◌-◌, ◌<◌, ◌≤◌, List, length, Bool, true, Option, Some, None, Result, Ok}
use Rattle.std.specs.Prelude.{Err, IfOk}
use Rattle.std.specs.FinMap.{find}
use Rattle.store_base.specs.declared.store_fault.Fault.{Fault}
use Rattle.store_base.specs.declared.label.Lead as declared
use Rattle.store_base.specs.declared.label.Lead.TheVariants as leads
use Rattle.skip_levels.specs.declared.walk.PathEnd.{PathEnd}
use Rattle.skip_levels.specs.declared.walk.KeyPlace.{KeyPlace}
use Rattle.store_base.specs.Leads.{model_lead}
use Rattle.std.specs.Ordering.{is_le, is_lt}
use Rattle.store_model.specs.Paths.{key_cmp}
use Rattle.store_model.specs.Labels.{Lead}
use Rattle.store_model.specs.Labels.Lead.{Start, Leader}
use Rattle.store_model.specs.Draws.{Draw, IsLawful}
use Rattle.store_model.specs.Pairs.{Pair, IsPairs}
use Rattle.store_model.specs.Pages.{pages_of_pairs, Cell}
use Rattle.store_model.specs.PageMaps.{PageMap, map_of_pages}
use Rattle.node_pages.specs.PagesState.{PagesState, IsObservable}
use Rattle.ordered_pairs.specs.PairsState.{most_pairs}
use Rattle.skip_levels.specs.SearchPath.{leader_behind, leader_ahead, not_above, above, levels_cost, path_cost}
use Rattle.skip_groups.specs.Searches.{IsPagesRead}

-- the map is that of the pages of a list of pairs
pub record HoldsPairs (d : Draw) (s : List Pair) (m : PageMap) : Type 0 where
  pub lawful : IsLawful d
  pub height : d.height ≤ 256
  pub pairs : IsPairs s
  pub few : length s ≤ most_pairs
  pub map_is : m ≡ map_of_pages (pages_of_pairs d s)

-- what is known at a level on the search path of a key: what leads the group of the level, and the next one of that
-- level
pub record IsPlace (d : Draw) (s : List Pair) (level : ℕ) (key : List ℕ) (place : PathEnd) : Type 0 where
  pub lead : model_lead place.lead ≡ leader_behind d level (not_above key s)
  pub next : place.next ≡ leader_ahead d level (above key s)

-- whether a key is at or above what leads a group, and below the next leader
abbrev pub is_from : Lead → List ℕ → Bool
is_from Start key = true
is_from (Leader leader) key = is_le (key_cmp leader key)

abbrev pub is_before : Option (List ℕ) → List ℕ → Bool
is_before None key = true
is_before (Some leader) key = is_lt (key_cmp key leader)

-- a key lies in a group of level 0, or would lie there
pub record LiesIn (place : PathEnd) (key : List ℕ) : Type 0 where
  pub from : is_from (model_lead place.lead) key ≡ true
  pub before : is_before place.next key ≡ true

-- a key lies in the group of level 0 that is known
abbrev pub LiesInKnown : Option PathEnd → List ℕ → Type 0
LiesInKnown None key = ⊥
LiesInKnown (Some place) key = LiesIn place key

-- what is known of a group of level 0, if anything is: that it is the place of each key that lies in it
abbrev pub IsKnownGroup : Draw → List Pair → Option PathEnd → Type 0
IsKnownGroup d s None = Unit {0}
IsKnownGroup d s (Some place) = (key : List ℕ) → LiesIn place key → IsPlace d s 0 key place

-- the map is that of the pages of a list under a draw of this height, and what is known is right of that list
pub record IsSearched (d : Draw) (s : List Pair) (m : PageMap) (height : ℕ) (known : Option PathEnd) : Type 0 where
  pub holds : HoldsPairs d s m
  pub high : height ≡ d.height
  pub right : IsKnownGroup d s known

-- what leads the group of level 0 that is known, and what leads the next one
abbrev pub lead_in : Option PathEnd → declared.Lead
lead_in None = leads.Start
lead_in (Some place) = place.lead

abbrev pub lead_known : Option PathEnd → Lead
lead_known known = model_lead (lead_in known)

abbrev pub next_known : Option PathEnd → Option (List ℕ)
next_known None = None
next_known (Some place) = place.next

-- the place of a key on level 0 is what is known
abbrev pub IsAt : Draw → List Pair → List ℕ → Option PathEnd → Type 0
IsAt d s key None = ⊥
IsAt d s key (Some place) = IsPlace d s 0 key place

-- the map is that of the pages of a list, and this is the place of the key at a level of it
pub record IsWayFrom (d : Draw) (s : List Pair) (m : PageMap) (top : ℕ) (key : List ℕ) (from : PathEnd) : Type 0 where
  pub holds : HoldsPairs d s m
  pub within : top < d.height
  pub place : IsPlace d s top key from

-- of a place on the search path the cell that is not above the key becomes the lead, and the one above it what comes
-- next
abbrev pub led_by : Cell → PathEnd → PathEnd
led_by cell end = record { lead = leads.Key cell.key; next = end.next }

abbrev pub followed_by : Cell → PathEnd → PathEnd
followed_by cell end = record { lead = end.lead; next = Some cell.key }

-- what going down from one level to another leaves of observable pages
pub record GoesDown (old new : PagesState) (top : ℕ) (from : PathEnd) (bottom : ℕ) (key : List ℕ)
    (result : Result PathEnd Fault) : Type 0 where
  pub observable : IsObservable new
  pub unchanged : new.pages ≡ old.pages
  pub found : (d : Draw) (s : List Pair) → IsWayFrom d s old.pages top key from → IfOk result (IsPlace d s bottom key)
  pub lookups : (d : Draw) (s : List Pair) → IsWayFrom d s old.pages top key from
      → new.lookups ≤ old.lookups + levels_cost d s key (suc bottom) (top - bottom)

-- going down from one level to another on the search path of the key
abbrev pub IsWayDown : (old new : PagesState) (top : ℕ) (from : PathEnd) (bottom : ℕ) (key : List ℕ)
    (result : Result PathEnd Fault) → Type 0
IsWayDown old new top from bottom key result = IsPagesRead old new (GoesDown old new top from bottom key result) result

-- a way that did not fail ends at a place
abbrev pub ends_at : {T : Type 0} → Result T Fault → PathEnd → Result PathEnd Fault
ends_at (Ok done) end = Ok end
ends_at (Err fault) end = Err fault

-- a search that did not fail leaves what is known: it leads the group of level 0, and this is the place of a key
-- there with its value
abbrev pub leads_in : {T : Type 0} → Option PathEnd → Result T Fault → Result declared.Lead Fault
leads_in behind (Ok done) = Ok (lead_in behind)
leads_in behind (Err fault) = Err fault

abbrev pub placed : Option PathEnd → Result (Option (List ℕ)) Fault → Result KeyPlace Fault
placed behind (Ok value) = Ok (record { lead = lead_in behind; value = value })
placed behind (Err fault) = Err fault

-- what a search for the group of a level and for the place of the key on level 0 leaves of observable pages, and what
-- is then known
pub record FindsLead (old new : PagesState) (height : ℕ) (known : Option PathEnd) (top : ℕ) (key : List ℕ)
    (behind : Option PathEnd) (result : Result declared.Lead Fault) : Type 0 where
  pub observable : IsObservable new
  pub unchanged : new.pages ≡ old.pages
  pub lead : (d : Draw) (s : List Pair) → IsSearched d s old.pages height known
      → IfOk result (λ lead. model_lead lead ≡ leader_behind d top (not_above key s))
  pub place : (d : Draw) (s : List Pair) → IsSearched d s old.pages height known
      → IfOk result (λ lead. IsAt d s key behind)
  pub right : (d : Draw) (s : List Pair) → IsSearched d s old.pages height known → IsKnownGroup d s behind
  pub lookups : (d : Draw) (s : List Pair) → IsSearched d s old.pages height known
      → new.lookups ≤ old.lookups + levels_cost d s key 1 (height - 1)

-- a search for what leads the group of a level, and for the place on level 0, on the search path of the key; at level
-- 0 the answer leads the group that is then known
abbrev pub IsPlaceSearch : (old new : PagesState) (height : ℕ) (known : Option PathEnd) (top : ℕ) (key : List ℕ)
    (behind : Option PathEnd) (result : Result declared.Lead Fault) → Type 0
IsPlaceSearch old new height known top key behind result =
    IsPagesRead old new (FindsLead old new height known top key behind result) result

-- the group of a level on the search path of a key, and its value
pub record IsKeyPlace (d : Draw) (s : List Pair) (top : ℕ) (key : List ℕ) (place : KeyPlace) : Type 0 where
  pub lead : model_lead place.lead ≡ leader_behind d top (not_above key s)
  pub value : place.value ≡ find key_cmp key s

-- what a search for the place of a key leaves of observable pages, and what is then known
pub record FindsKeyPlace (old new : PagesState) (height : ℕ) (known : Option PathEnd) (top : ℕ) (key : List ℕ)
    (behind : Option PathEnd) (result : Result KeyPlace Fault) : Type 0 where
  pub observable : IsObservable new
  pub unchanged : new.pages ≡ old.pages
  pub found : (d : Draw) (s : List Pair) → IsSearched d s old.pages height known → IfOk result (IsKeyPlace d s top key)
  pub place : (d : Draw) (s : List Pair) → IsSearched d s old.pages height known
      → IfOk result (λ found. IsAt d s key behind)
  pub right : (d : Draw) (s : List Pair) → IsSearched d s old.pages height known → IsKnownGroup d s behind
  pub lookups : (d : Draw) (s : List Pair) → IsSearched d s old.pages height known
      → new.lookups ≤ old.lookups + path_cost d s key

-- a search for the place of a key, in pages of lists of this height
abbrev pub IsKeySearch : (old new : PagesState) (height : ℕ) (known : Option PathEnd) (top : ℕ) (key : List ℕ)
    (behind : Option PathEnd) (result : Result KeyPlace Fault) → Type 0
IsKeySearch old new height known top key behind result =
    IsPagesRead old new (FindsKeyPlace old new height known top key behind result) result
