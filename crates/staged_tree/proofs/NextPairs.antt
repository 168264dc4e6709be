-- A search for the next pair in the list of a tree over its staged pages.
use Rattle.std.proofs.Common.{◌≡◌, ℕ, true, false, List, Option, Result, Ok, Err, refl, sym, ap, subst, ◌∙◌}
use Rattle.store_base.specs.declared.store_fault.Fault.{Fault}
use Rattle.store_model.specs.Parameters.{Parameters}
use Rattle.store_model.specs.Trees.{Tree}
use Rattle.store_model.specs.Draws.{Draw, draw_of}
use Rattle.store_model.specs.Pairs.{Pair, pairs}
use Rattle.store_model.specs.Pages.{pages}
use Rattle.store_model.specs.PageMaps.{map_of_pages}
use Rattle.disk_model.specs.DiskState.{DiskState, IsObservable}
use Rattle.seeded_draw.specs.AnyDrawn.{any_draw}
use Rattle.skip_levels.specs.Descent.{HoldsPairs}
use Rattle.ordered_pairs.specs.PairsState.{IsNextPair, FindsNextPair, next_pair}
use Rattle.page_store.specs.StagedState.{without_changes}
use Rattle.image_check.specs.Faults.{apply_fault_of}
use Rattle.staged_tree.specs.StagedTree.{TreeList, IsListAt, FollowsList, HoldsTable}
use Rattle.staged_tree.specs.Steps.{EndsStep}
use Rattle.staged_tree.proofs.ListSteps.{pairs_state, over_table, own_pairs, seen_at, table_behind}
use Rattle.staged_tree.proofs.StagedSteps.{read_step, taken_back, failed_step}
use Rattle.staged_tree.proofs.TreePages.{held_map}

-- the next pair of a tree, as an answer
abbrev pub IsNextOf : List ℕ → Parameters → Tree → Option Pair → Type 0
IsNextOf key p t pair = pair ≡ next_pair key (pairs t p)

module _ {D : Type 0} (state : D → DiskState) (t : Tree) (p : Parameters) (old mid : TreeList D)
    (list : IsListAt state t p old) (runs : old.pages.is_spent ≡ false) (follows : FollowsList state old mid)
    (key : List ℕ) (result : Result (Option Pair) Fault)
    (call : IsNextPair (pairs_state state old) (pairs_state state mid) key result) where
  finds : IsObservable (state old.pages.disk) → FindsNextPair (pairs_state state old) (pairs_state state mid) key result
  finds observable = call.observed (seen_at state t t p old (over_table list runs) runs observable)

  before : IsObservable (state mid.pages.disk) → IsObservable (state old.pages.disk)
  before observable = sym follows.0.disk.observable ∙ observable

  -- the pages are those that they were
  map_is : IsObservable (state old.pages.disk) → mid.pages.map ≡ map_of_pages (pages t p)
  map_is observable =
      let found = finds observable in
      let same : (pairs_state state mid).pairs ≡ pairs t p =
      found.unchanged ∙ own_pairs state t t p old (over_table list runs) runs observable in
      let drawn : any_draw mid.draw ≡ draw_of p = ap any_draw follows.1 ∙ list.draw in
      held_map t p mid.pages.map (subst (λ (d : Draw). HoldsPairs d (pairs t p) mid.pages.map) drawn
      (subst (λ (s : List Pair). HoldsPairs (any_draw mid.draw) s mid.pages.map) same found.observable.1.1))

  -- so that nothing is to be taken back
  pub same_next : IsObservable (state mid.pages.disk) → mid.pages.map ≡ mid.pages.table
  same_next observable = let seen = before observable
      in map_is seen ∙ sym (list.pages.held seen runs).table_is ∙ sym (follows.0.table seen)

  pub whole_next : IsObservable (state mid.pages.disk) → mid.is_whole ≡ true
  whole_next observable = (finds (before observable)).observable.0

  pub table_next : HoldsTable state mid
  table_next = table_behind state t t p old (over_table list runs) runs mid follows

-- it was found, or there is none
pub next_ends : {D : Type 0} (state : D → DiskState) (t : Tree) (p : Parameters) (old mid : TreeList D)
    → IsListAt state t p old → old.pages.is_spent ≡ false → FollowsList state old mid
    → (key : List ℕ) (pair : Option Pair) → IsNextPair (pairs_state state old) (pairs_state state mid) key (Ok pair)
    → EndsStep state t t (IsNextOf key p t) p old.pages (without_changes mid.pages) (Ok pair)
next_ends state t p old mid list runs follows key pair call = record {
  step = read_step state t t (IsNextOf key p t) p old.pages (without_changes mid.pages)
      (Ok pair) list.fitting list.pages runs (taken_back state old.pages mid.pages follows.0)
      call.faults (λ e. cc) (λ observable. refl)
      (λ observable. (finds state t p old mid list runs follows key (Ok pair) call observable).found
      ∙ ap (next_pair key) (own_pairs state t t p old (over_table list runs) runs observable));
  none_staged = λ observable still. refl;
}

-- it failed
pub next_fails : {D : Type 0} (state : D → DiskState) (t : Tree) (p : Parameters) (old mid : TreeList D)
    → IsListAt state t p old → old.pages.is_spent ≡ false → FollowsList state old mid → (key : List ℕ) (fault : Fault)
    → IsNextPair (pairs_state state old) (pairs_state state mid) key (Err fault)
    → EndsStep state t t (IsNextOf key p t) p old.pages (without_changes mid.pages) (Err (apply_fault_of fault))
next_fails state t p old mid list runs follows key fault call =
    failed_step state t t (IsNextOf key p t) p old.pages mid.pages list.fitting list.pages runs
    follows.0 fault call.faults
