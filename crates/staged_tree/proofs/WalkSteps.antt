-- A call for the next pair of a tree, by a stream over its staged pages.
use Rattle.std.proofs.Common.{◌≡◌, ℕ, false, List, [], ◌∷◌, ◌++◌, length, Option, Some, None, Result, Ok}
use Rattle.std.proofs.Common.{Err, refl, sym, ap, subst, ◌∙◌, arith, append-nil, append_assoc, length-append}
use Rattle.store_base.specs.declared.store_fault.Fault.{Fault}
use Rattle.store_model.specs.Parameters.{Parameters}
use Rattle.store_model.specs.Trees.{Tree}
use Rattle.store_model.specs.Draws.{draw_of}
use Rattle.store_model.specs.Pairs.{Pair, pairs}
use Rattle.store_model.specs.Pages.{pages}
use Rattle.store_model.specs.PageMaps.{PageMap, map_of_pages}
use Rattle.disk_model.specs.DiskState.{DiskState, IsObservable}
use Rattle.seeded_draw.specs.declared.any.AnyDraw.{AnyDraw}
use Rattle.page_store.specs.StagedState.{StagedState, Follows, pages_state, without_changes}
use Rattle.skip_groups.specs.Searches.{IsPagesRead}
use Rattle.skip_levels.specs.SearchPath.{below}
use Rattle.pair_stream.specs.Starts.{StartsAt}
use Rattle.pair_stream.specs.Streams.{StandsBehind, GivesNext, given}
use Rattle.pair_stream.specs.declared.places.PairStream.{PairStream}
use Rattle.image_check.specs.declared.fault.ApplyFault.{ApplyFault}
use Rattle.staged_tree.specs.StagedTree.{TreeList, IsListAt}
use Rattle.staged_tree.specs.Steps.{EndsStep}
use Rattle.staged_tree.specs.Walks.{StandsIn, passed_after, IsNextFor}
use Rattle.staged_tree.proofs.ListSteps.{Stay, over_table, seen_at, follows_stay, back_stays}
use Rattle.staged_tree.proofs.StagedSteps.{read_step, taken_back, same_staged}
use Rattle.staged_tree.proofs.TreePages.{tree_holds}

-- ---- what is passed

-- after a call that gave none, what was passed before
given_after : (passed : List Pair) (pair : Option Pair)
    → passed ++ given (Ok pair) ≡ passed_after {E = ApplyFault} passed (Ok pair)
given_after passed None = append-nil passed
given_after passed (Some pair) = refl

-- one more pair is passed, and others are left
left_behind : (s passed left : List Pair) (pair : Pair) → s ≡ (passed ++ pair ∷ []) ++ left → s ≡ passed ++ pair ∷ left
left_behind s passed left pair parts = parts ∙ append_assoc passed (pair ∷ []) left

-- so that those were not all
not_all : (s passed left : List Pair) (pair : Pair) → s ≡ passed ++ pair ∷ left → passed ≡ s → ⊥
not_all s passed left pair parts all =
    omega (arith, ap length (all ∙ parts), length-append passed (pair ∷ left))

-- ---- a call that reads the staged pages of a tree

module _ {D T X : Type 0} (state : D → DiskState) (t : Tree) (p : Parameters) (old : TreeList D)
    (mid : StagedState D AnyDraw) (list : IsListAt state t p old) (runs : old.pages.is_spent ≡ false)
    (follows : Follows state old.pages mid) (same : X → mid.map ≡ old.pages.map) {result : Result T Fault}
    (call : IsPagesRead (pages_state state old.pages) (pages_state state mid) X result) where
  pub leaves : IsObservable (state old.pages.disk) → X
  leaves observable = call.observed (seen_at state t t p old (over_table list runs) runs observable).1.0

  -- the pages are those that they were, and nothing is to be taken back
  same_read : IsObservable (state old.pages.disk) → mid.map ≡ old.pages.map
  same_read observable = same (leaves observable)

  pub stay_read : Stay state old.pages mid
  stay_read = follows_stay state old.pages mid follows same_read

  pub back_read : Stay state mid (without_changes mid)
  back_read = back_stays state mid (λ observable. same_staged state t p old.pages mid list.pages runs follows same_read
      observable (follows.runs ∙ runs))

-- it answered
pub read_ends : {D T X : Type 0} (state : D → DiskState) (t : Tree) (p : Parameters) (old : TreeList D)
    (mid : StagedState D AnyDraw) (list : IsListAt state t p old) (runs : old.pages.is_spent ≡ false)
    (follows : Follows state old.pages mid) (same : X → mid.map ≡ old.pages.map) (IsAnswer : T → Type 0) (value : T)
    → IsPagesRead (pages_state state old.pages) (pages_state state mid) X (Ok value)
    → (IsObservable (state old.pages.disk) → X → IsAnswer value)
    → EndsStep state t t IsAnswer p old.pages (without_changes mid) (Ok value)
read_ends state t p old mid list runs follows same IsAnswer value call answer = record {
  step = read_step state t t IsAnswer p old.pages (without_changes mid) (Ok value) list.fitting list.pages runs
      (taken_back state old.pages mid follows) call.faults (λ e. cc) (λ observable. refl)
      (λ observable. answer observable (leaves state t p old mid list runs follows same call observable));
  none_staged = λ observable still. refl;
}

-- ---- a search for the place of a key

-- the stream stands in the pages of the tree before the first pair from the key on
pub starts_told : {D : Type 0} {state : D → DiskState} {t : Tree} {p : Parameters} {old : TreeList D}
    {mid : StagedState D AnyDraw} → IsListAt state t p old → old.pages.is_spent ≡ false
    → (height : ℕ) (key : List ℕ) (stream : PairStream) → height ≡ p.height → IsObservable (state old.pages.disk)
    → StartsAt (pages_state state old.pages) (pages_state state mid) height key (Ok stream)
    → StandsIn t p (below key (pairs t p)) stream
unfolding draw_of
starts_told {t = t} {p = p} {old = old} list runs height key stream high observable starts =
    let tree_map = (list.pages.held observable runs).map_is in
    subst (λ (m : PageMap). StandsBehind (draw_of p) (pairs t p) m (below key (pairs t p)) stream) tree_map
    (starts.stands (draw_of p) (pairs t p) (record {
      holds = tree_holds t p old.pages.map list.fitting tree_map;
      high = high;
    }))

-- ---- a call for the next pair

-- the pages of the list are those of the tree
pub tree_map : {D : Type 0} {state : D → DiskState} {t : Tree} {p : Parameters} {old : TreeList D}
    → IsListAt state t p old → old.pages.is_spent ≡ false → IsObservable (state old.pages.disk)
    → old.pages.map ≡ map_of_pages (pages t p)
tree_map list runs observable = (list.pages.held observable runs).map_is

module _ {D : Type 0} {state : D → DiskState} {t : Tree} {p : Parameters} {old : TreeList D}
    {mid : StagedState D AnyDraw} (list : IsListAt state t p old) (runs : old.pages.is_spent ≡ false)
    {before after : PairStream} {result : Result (Option Pair) Fault}
    (gives : GivesNext (pages_state state old.pages) (pages_state state mid) before after result)
    (observable : IsObservable (state old.pages.disk)) (passed : List Pair) (stands : StandsIn t p passed before) where
  stood : StandsBehind (draw_of p) (pairs t p) old.pages.map passed before
  stood = subst (λ (m : PageMap). StandsBehind (draw_of p) (pairs t p) m passed before)
      (sym (tree_map list runs observable)) stands

  pub stands_given : StandsIn t p (passed ++ given result) after
  stands_given = subst (λ (m : PageMap). StandsBehind (draw_of p) (pairs t p) m (passed ++ given result) after)
      (tree_map list runs observable) (gives.next (draw_of p) (pairs t p) passed stood)

  pub all_given : result ≡ Ok None → passed ≡ pairs t p
  all_given none = gives.all (draw_of p) (pairs t p) passed stood none

-- what it tells that gave a pair, or none
pub next_told : {D : Type 0} {state : D → DiskState} {t : Tree} {p : Parameters} {old : TreeList D}
    {mid : StagedState D AnyDraw} → IsListAt state t p old → old.pages.is_spent ≡ false
    → {before after : PairStream} (pair : Option Pair) → IsObservable (state old.pages.disk)
    → GivesNext (pages_state state old.pages) (pages_state state mid) before after (Ok pair) → IsNextFor t p before pair
next_told list runs None observable gives passed stands =
    let all = all_given list runs gives observable passed stands refl in
    record { none = (λ e. all, λ e. refl); some = tt }
next_told {t = t} {p = p} list runs (Some pair) observable gives passed stands =
    let then = stands_given list runs gives observable passed stands in
    let rest = left_behind (pairs t p) passed then.left pair then.parts in
    record {
      none = (λ e. absurd (some_pair pair e), λ e. absurd (not_all (pairs t p) passed then.left pair rest e));
      some = (then.left, rest);
    }
  where
    some_pair : (x : Pair) → Some x ≡ None → ⊥
    some_pair x e = cc

-- where the stream then stands
pub stands_after : {D : Type 0} {state : D → DiskState} {t : Tree} {p : Parameters} {old : TreeList D}
    {mid : StagedState D AnyDraw} → IsListAt state t p old → old.pages.is_spent ≡ false
    → {before after : PairStream} (pair : Option Pair) → IsObservable (state old.pages.disk)
    → GivesNext (pages_state state old.pages) (pages_state state mid) before after (Ok pair)
    → (passed : List Pair) → StandsIn t p passed before
    → StandsIn t p (passed_after {E = ApplyFault} passed (Ok pair)) after
stands_after {t = t} {p = p} list runs {after = after} pair observable gives passed stands =
    subst (λ (ps : List Pair). StandsIn t p ps after) (given_after passed pair)
    (stands_given list runs gives observable passed stands)

pub stands_still : {D : Type 0} {state : D → DiskState} {t : Tree} {p : Parameters} {old : TreeList D}
    {mid : StagedState D AnyDraw} → IsListAt state t p old → old.pages.is_spent ≡ false
    → {before after : PairStream} {fault : Fault} → IsObservable (state old.pages.disk)
    → GivesNext (pages_state state old.pages) (pages_state state mid) before after (Err fault)
    → (passed : List Pair) → StandsIn t p passed before → StandsIn t p passed after
stands_still {t = t} {p = p} list runs {after = after} observable gives passed stands =
    subst (λ (ps : List Pair). StandsIn t p ps after) (append-nil passed)
    (stands_given list runs gives observable passed stands)
