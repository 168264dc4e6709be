-- The list of a tree, whose pairs become those of version 2.
use Rattle.std.proofs.Common.{◌≡◌, true, false, List, Result, Ok, Err, sym, ap, subst, ◌∙◌}
use Rattle.store_base.specs.declared.store_fault.Fault.{Fault}
use Rattle.store_model.specs.declared.version.Version.TheVariants.{Two}
use Rattle.store_model.specs.Parameters.{Parameters, with_version}
use Rattle.store_model.specs.Trees.{Tree}
use Rattle.store_model.specs.Draws.{Draw, draw_of}
use Rattle.store_model.specs.Pairs.{Pair, pairs}
use Rattle.disk_model.specs.DiskState.{DiskState, IsObservable}
use Rattle.seeded_draw.specs.AnyDrawn.{any_draw}
use Rattle.skip_levels.specs.Descent.{HoldsPairs}
use Rattle.skip_levels.specs.PagePairs.{pairs_of_map}
use Rattle.tree_pairs.specs.TreeCalls.{HoldsTree}
use Rattle.file_blocks.specs.UpgradeCalls.{InlinesShortFiles}
use Rattle.page_store.specs.StagedState.{without_changes}
use Rattle.image_check.specs.declared.fault.ApplyFault.{ApplyFault}
use Rattle.image_check.specs.Faults.{apply_fault_of}
use Rattle.staged_tree.specs.StagedTree.{TreeList, IsUpgradeStaged, IsListAt, FollowsList}
use Rattle.staged_tree.specs.Steps.{EndsUpgrade}
use Rattle.staged_tree.proofs.ListSteps.{pairs_state, own_pairs, seen_at, over_table}
use Rattle.staged_tree.proofs.Unchanged.{stands_reading}
use Rattle.staged_tree.proofs.UpgradeSteps.{upgrade_then, upgrade_failed}

module _ {D : Type 0} (state : D → DiskState) (t : Tree) (p : Parameters) (old : TreeList D)
    (list : IsListAt state t p old) (runs : old.pages.is_spent ≡ false) (mid : TreeList D)
    (follows : FollowsList state old mid) where
  before : IsObservable (state mid.pages.disk) → IsObservable (state old.pages.disk)
  before observable = sym follows.0.disk.observable ∙ observable

  module _ (inlines : InlinesShortFiles {T = Unit {0}} (pairs_state state old) (pairs_state state mid) (Ok tt)) where
    -- behind it the list is whole
    pub whole_upgraded : IsObservable (state mid.pages.disk) → mid.is_whole ≡ true
    whole_upgraded observable =
        (inlines.observable (seen_at state t t p old (over_table list runs) runs (before observable))).0

    -- and holds the tree under version 2
    held : IsObservable (state mid.pages.disk) → HoldsPairs (draw_of p) (pairs t (with_version p Two)) mid.pages.map
    held observable =
        let told = before observable in
        let seen = seen_at state t t p old (over_table list runs) runs told in
        let upgraded : HoldsTree (pairs_state state mid) t (with_version p Two) =
        inlines.upgraded seen t p (record {
          tree = list.fitting.tree;
          pairs_are = own_pairs state t t p old (over_table list runs) runs told;
        }) in
        subst (λ (s : List Pair). HoldsPairs (draw_of p) s mid.pages.map) upgraded.pairs_are
        (subst (λ (d : Draw). HoldsPairs d (pairs_of_map mid.pages.map) mid.pages.map)
        (ap any_draw follows.1 ∙ list.draw) (inlines.observable seen).1.1)

    -- so its pages are staged
    pub upgrade_staged : IsUpgradeStaged state t p mid.pages
    upgrade_staged = record {
      fitting = list.fitting;
      params = follows.0.disk.params ∙ list.pages.params;
      draw = ap any_draw follows.0.draw ∙ list.pages.draw;
      size_is = follows.0.disk.size ∙ list.pages.size_is;
      stands = λ observable. stands_reading (state old.pages.disk) (state mid.pages.disk) t p
          (follows.0.disk.reads (before observable)) (list.pages.held (before observable) runs).stands;
      table_is = λ observable. follows.0.table (before observable)
          ∙ (list.pages.held (before observable) runs).table_is;
      holds = held;
    }

    -- and they are settled
    pub list_upgraded : (new : TreeList D) (result : Result (Unit {0}) ApplyFault)
        → EndsUpgrade state t p mid.pages new.pages result → EndsUpgrade state t p old.pages new.pages result
    list_upgraded new result ends =
        upgrade_then state t p old.pages mid.pages new.pages result list.fitting list.pages runs
        follows.0 inlines.faults ends

  -- they could not be staged, and all is taken back
  pub list_failed : (fault : Fault) → InlinesShortFiles {T = Unit {0}} (pairs_state state old) (pairs_state state mid)
      (Err fault) → EndsUpgrade state t p old.pages (without_changes mid.pages) (Err (apply_fault_of fault))
  list_failed fault inlines = upgrade_failed state t p old.pages mid.pages list.fitting list.pages runs
      follows.0 fault inlines.faults
