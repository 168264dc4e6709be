-- The place at which a pair is put into the pages of a list, and what a search for it does.
use Rattle.std.specs.Prelude.{◌≡◌, ◌⊎◌, ℕ, ◌+◌, ◌≤◌, List, Bool, false, Option, Some, None, Result, IfOk, ◌==◌}
use Rattle.std.specs.Prelude.{if◌then◌else◌}
use Rattle.store_base.specs.declared.store_fault.Fault.{Fault}
use Rattle.store_base.specs.declared.label.Lead.TheVariants as leads
use Rattle.skip_levels.specs.declared.walk.PathEnd.{PathEnd}
use Rattle.skip_levels.specs.declared.put_place.PutPlace.{PutPlace}
use Rattle.store_base.specs.Faults.{disk_faults_after}
use Rattle.store_base.specs.Leads.{model_lead}
use Rattle.std.specs.Ordering.{is_eq}
use Rattle.store_model.specs.Paths.{key_cmp}
use Rattle.store_model.specs.Draws.{Draw}
use Rattle.store_model.specs.Labels.{Lead}
use Rattle.store_model.specs.Labels.Lead.{Start, Leader}
use Rattle.store_model.specs.Pairs.{Pair}
use Rattle.node_pages.specs.PagesState.{PagesState, IsObservable}
use Rattle.skip_levels.specs.Descent.{HoldsPairs, IsKnownGroup, IsAt}
use Rattle.skip_levels.specs.PairChanges.{IsNew, IsThere}
use Rattle.skip_levels.specs.SearchPath.{leader_behind, not_above, path_cost}

-- a new key is put from its own level down, and one that is there on level 0 alone; the group of that level on its
-- search path
pub record IsPutPlace (d : Draw) (s : List Pair) (key : List ℕ) (place : PutPlace) : Type 0 where
  pub lead : model_lead place.lead ≡ leader_behind d place.top (not_above key s)
  pub own : IsNew d s key place.top ⊎ IsThere s key place.top

-- whether a key is what leads a group
abbrev pub is_leader : List ℕ → Lead → Bool
is_leader key Start = false
is_leader key (Leader leader) = is_eq (key_cmp leader key)

-- what is known after a put of the key from a level down: a new key above level 0 leads a group of its own
abbrev pub leads_own : List ℕ → Option PathEnd → Option PathEnd
leads_own key None = None
leads_own key (Some place) = Some (record { lead = leads.Key key; next = place.next })

abbrev pub behind : ℕ → List ℕ → Option PathEnd → Option PathEnd
behind top key known = if top == 0 then known else leads_own key known

-- what a search for the place of a put leaves of observable pages, and what is then known
pub record FindsPutPlace (d : Draw) (old new : PagesState) (known : Option PathEnd) (key : List ℕ)
    (then_known : Option PathEnd) (result : Result PutPlace Fault) : Type 0 where
  pub observable : IsObservable new
  pub unchanged : new.pages ≡ old.pages
  pub found : (s : List Pair) → HoldsPairs d s old.pages → IsKnownGroup d s known → IfOk result (IsPutPlace d s key)
  pub place : (s : List Pair) → HoldsPairs d s old.pages → IsKnownGroup d s known
      → IfOk result (λ place. IsAt d s key then_known)
  pub lookups : (s : List Pair) → HoldsPairs d s old.pages → IsKnownGroup d s known
      → new.lookups ≤ old.lookups + path_cost d s key

-- a search for the place of a put, in pages of lists under this draw
pub record IsPutSearch (d : Draw) (old new : PagesState) (known : Option PathEnd) (key : List ℕ)
    (then_known : Option PathEnd) (result : Result PutPlace Fault) : Type 0 where
  pub faults : new.faults ≡ disk_faults_after old.faults result
  pub lookups_kept : old.lookups ≤ new.lookups
  pub hidden : IsObservable new → IsObservable old
  pub observed : IsObservable old → FindsPutPlace d old new known key then_known result
