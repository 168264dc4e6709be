-- A stream of the pairs of a list: where it stands, what a call of it gives, and what the pairs cost.
use Rattle.std.specs.Prelude.{◌≡◌, ℕ, ◌+◌, ◌-◌, ◌*◌, ◌<◌, ◌≤◌, List, [], ◌∷◌, ◌++◌, length, nat_lt, Option, Some, None}
use Rattle.std.specs.Prelude.{Result, Ok, Err, IfSome, IfOk, slice_get}
use Rattle.std.specs.List.{count_by}
use Rattle.store_base.specs.declared.store_fault.Fault.{Fault}
use Rattle.store_base.specs.Leads.{model_lead}
use Rattle.store_model.specs.Draws.{Draw}
use Rattle.store_model.specs.Pairs.{Pair}
use Rattle.store_model.specs.Pages.{groups, pages_of_pairs}
use Rattle.store_model.specs.PageMaps.{PageMap}
use Rattle.node_pages.specs.PagesState.{PagesState, IsObservable}
use Rattle.layout_scratch.specs.Counting.{last_length}
use Rattle.skip_groups.specs.Searches.{IsPagesRead}
use Rattle.ordered_pairs.specs.PairsState.{most_pairs}
use Rattle.skip_levels.specs.Descent.{HoldsPairs}
use Rattle.skip_levels.specs.SearchPath.{leader_behind}
use Rattle.pair_stream.specs.GroupReads.{IsHeld}
use Rattle.pair_stream.specs.declared.places.LevelPlace.{LevelPlace}
use Rattle.pair_stream.specs.declared.places.PairStream.{PairStream}

-- ---- where a stream stands

-- a level is read so far as these pairs go: up to the end of the last group that they have there
pub record IsReadTo (d : Draw) (passed : List Pair) (level : ℕ) (place : LevelPlace) : Type 0 where
  pub lead : model_lead place.lead ≡ leader_behind d level passed
  pub count : place.count ≡ last_length (groups d passed level)

-- each level is
abbrev pub AreReadTo : Draw → List Pair → List LevelPlace → Type 0
AreReadTo d passed places = (level : ℕ) → level < d.height → IfSome (slice_get places level) (IsReadTo d passed level)

-- The map is that of the pages of a list, and the stream stands in it behind these pairs, which are its first: next it
-- gives the first of the others.
pub record StandsBehind (d : Draw) (s : List Pair) (m : PageMap) (passed : List Pair) (stream : PairStream)
    : Type 0 where
  pub holds : HoldsPairs d s m
  pub height : stream.height ≡ d.height
  pub left : List Pair
  pub parts : s ≡ passed ++ left
  pub places : AreReadTo d passed stream.places
  pub page : IfSome (slice_get stream.places 0) (λ place. IsHeld m place stream.page)

-- one pair more is passed, whose key stands on the levels up to this one
pub record PassesPair (level : ℕ) (key : List ℕ) (before after : PairStream) : Type 0 where
  pub height : after.height ≡ before.height
  pub page : after.page ≡ before.page
  pub places : (d : Draw) (passed : List Pair) (pair : Pair) → before.height ≡ d.height → level < d.height
      → AreReadTo d passed before.places → length passed < most_pairs → key ≡ pair.0 → level ≡ d.level pair.0
      → AreReadTo d (passed ++ pair ∷ []) after.places

-- ---- what pairs cost

-- how many keys lead a group of level 0
abbrev pub leader_count : Draw → List Pair → ℕ
leader_count d s = count_by (λ pair. nat_lt 0 (d.level pair.0)) s

-- what reading a list up to the last of these pairs costs: a lookup for each of their pages, and two for each group of
-- level 0 that a key leads
unfoldable pub stream_cost : Draw → List Pair → ℕ
stream_cost d passed = length (pages_of_pairs d passed) + 2 * leader_count d passed

-- ---- the next group

-- the next pair, if there is one, leads a group of each level below this one
abbrev pub LeadsBelow : Draw → List Pair → List Pair → ℕ → Type 0
LeadsBelow d s passed level = (pair : Pair) (rest : List Pair) → s ≡ passed ++ pair ∷ rest → level ≤ d.level pair.0

-- the next pair has this key, which stands on this level and on none above
pub record IsNextKey (d : Draw) (s passed : List Pair) (level : ℕ) (key : List ℕ) : Type 0 where
  pub pair : Pair
  pub rest : List Pair
  pub parts : s ≡ passed ++ pair ∷ rest
  pub key_is : key ≡ pair.0
  pub level_is : level ≡ d.level pair.0

-- that is told of the next key, or that there is none
abbrev pub TellsNext : Draw → List Pair → List Pair → Option (ℕ × List ℕ) → Type 0
TellsNext d s passed None = passed ≡ s
TellsNext d s passed (Some next) = IsNextKey d s passed next.0 next.1

-- a page is asked for on each level up to that of the key, or on all levels above level 0
abbrev pub leader_cost : ℕ → Result (Option (ℕ × List ℕ)) Fault → ℕ
leader_cost height (Ok (Some next)) = next.0
leader_cost height (Ok None) = height - 1
leader_cost height (Err fault) = height - 1

-- what a search for the key that leads the next group of level 0 leaves of observable pages
pub record FindsLeader (old new : PagesState) (stream : PairStream) (result : Result (Option (ℕ × List ℕ)) Fault)
    : Type 0 where
  pub observable : IsObservable new
  pub unchanged : new.pages ≡ old.pages
  pub found : (d : Draw) (s passed : List Pair) → StandsBehind d s old.pages passed stream → LeadsBelow d s passed 1
      → IfOk result (TellsNext d s passed)
  pub lookups : new.lookups ≤ old.lookups + leader_cost stream.height result

-- a search for that key, from level 1 up
abbrev pub IsLeaderSearch : (old new : PagesState) (stream : PairStream)
    (result : Result (Option (ℕ × List ℕ)) Fault) → Type 0
IsLeaderSearch old new stream result = IsPagesRead old new (FindsLeader old new stream result) result

-- ---- a call

-- the pairs that a call gave, one or none
abbrev pub given : Result (Option Pair) Fault → List Pair
given (Ok (Some pair)) = pair ∷ []
given (Ok None) = []
given (Err fault) = []

-- what is asked for in vain by a call that gave no pair: a page on each level, and one more where the page of a pair
-- could not be read
abbrev pub vain_cost : ℕ → Result (Option Pair) Fault → ℕ
vain_cost height (Ok (Some pair)) = 0
vain_cost height (Ok None) = height
vain_cost height (Err fault) = height + 1

-- What a call of a stream leaves of observable pages. The stream then stands behind one pair more, the one that it
-- gave. It gives none exactly where it stands behind all of them. After a fault it stands where it stood. Lookups are
-- added up from call to call: those of calls that give pairs are within what these pairs cost.
pub record GivesNext (old new : PagesState) (before after : PairStream) (result : Result (Option Pair) Fault)
    : Type 0 where
  pub observable : IsObservable new
  pub unchanged : new.pages ≡ old.pages
  pub next : (d : Draw) (s passed : List Pair) → StandsBehind d s old.pages passed before
      → StandsBehind d s old.pages (passed ++ given result) after
  pub all : (d : Draw) (s passed : List Pair) → StandsBehind d s old.pages passed before
      → result ≡ Ok None → passed ≡ s
  pub lookups : (d : Draw) (s passed : List Pair) → StandsBehind d s old.pages passed before
      → new.lookups + stream_cost d passed
      ≤ old.lookups + stream_cost d (passed ++ given result) + vain_cost d.height result

-- a call of a stream
abbrev pub IsNextCall : (old new : PagesState) (before after : PairStream) (result : Result (Option Pair) Fault)
    → Type 0
IsNextCall old new before after result = IsPagesRead old new (GivesNext old new before after result) result
