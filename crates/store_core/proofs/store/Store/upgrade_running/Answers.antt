use Rattle.std.proofs.Common.{ap, ◌∙◌}
use Rattle.staged_tree.specs.StagedTree.{TreeList}
use Rattle.store_core.proofs.UpgradeStores.{upgraded_store, upgraded_observable, upgraded_bytes, known_upgraded}
use Rattle.store_core.proofs.UpgradeStores.{upgrades_ok, known_stays, upgrades_err}
use Rattle.store_core.proofs.store.Store.upgrade_running.Goals as goal

pub upgrade-requires-clause-same : goal.upgrade-requires-clause-same
upgrade-requires-clause-same g c =
    let is = upgraded_store g.D.Disk.state c.self.inside.known c.self.inside.pairs c.upgrade_list-result.new.pairs
    c.args.self.now c.upgrade_list-result.result c.self.invariant c.self.view_is c.requires.runs c.requires.version
    c.upgrade_list-result.ensures.list c.upgrade_list-result.ensures.call in
    let disk_is = c.disk.ensures ∙ ap (λ (v : TreeList g.row.D.Denot). v.pages.disk) c.pairs.view_is in
    upgraded_observable g.D.Disk.state _ _ _ _ _ is _ c.is_ok.ensures.value c.if-is_ok.true c.disk.result.now disk_is

pub upgrade-requires-clause-tree : goal.upgrade-requires-clause-tree
upgrade-requires-clause-tree g c =
    let is = upgraded_store g.D.Disk.state c.self.inside.known c.self.inside.pairs c.upgrade_list-result.new.pairs
    c.args.self.now c.upgrade_list-result.result c.self.invariant c.self.view_is c.requires.runs c.requires.version
    c.upgrade_list-result.ensures.list c.upgrade_list-result.ensures.call in
    let disk_is = c.disk.ensures ∙ ap (λ (v : TreeList g.row.D.Denot). v.pages.disk) c.pairs.view_is in
    upgraded_bytes g.D.Disk.state _ _ _ _ _ is _ c.is_ok.ensures.value c.if-is_ok.true c.disk.result.now disk_is

pub invariant_of-self : goal.invariant_of-self
invariant_of-self g c =
    let is = upgraded_store g.D.Disk.state c.self.inside.known c.self.inside.pairs c.upgrade_list-result.new.pairs
    c.args.self.now c.upgrade_list-result.result c.self.invariant c.self.view_is c.requires.runs c.requires.version
    c.upgrade_list-result.ensures.list c.upgrade_list-result.ensures.call in
    let disk_is = c.disk.ensures ∙ ap (λ (v : TreeList g.row.D.Denot). v.pages.disk) c.pairs.view_is in
    known_upgraded g.D.Disk.state _ _ _ _ _ is _ c.is_ok.ensures.value c.if-is_ok.true c.disk.result.now disk_is
    c.upgrade.new.self c.upgrade.ensures

pub returns-then-is_ok : goal.returns-then-is_ok
returns-then-is_ok g c =
    let is = upgraded_store g.D.Disk.state c.self.inside.known c.self.inside.pairs c.upgrade_list-result.new.pairs
    c.args.self.now c.upgrade_list-result.result c.self.invariant c.self.view_is c.requires.runs c.requires.version
    c.upgrade_list-result.ensures.list c.upgrade_list-result.ensures.call in
    let disk_is = c.disk.ensures ∙ ap (λ (v : TreeList g.row.D.Denot). v.pages.disk) c.pairs.view_is in
    record {
      call = upgrades_ok g.D.Disk.state _ _ _ _ _ is _
          c.is_ok.ensures.value c.if-is_ok.true c.disk.result.now disk_is c.upgrade.new.self c.upgrade.ensures;
    }

pub returns-else-is_ok : goal.returns-else-is_ok
returns-else-is_ok g c =
    let is = upgraded_store g.D.Disk.state c.self.inside.known c.self.inside.pairs c.upgrade_list-result.new.pairs
    c.args.self.now c.upgrade_list-result.result c.self.invariant c.self.view_is c.requires.runs c.requires.version
    c.upgrade_list-result.ensures.list c.upgrade_list-result.ensures.call in
    record { call = upgrades_err g.D.Disk.state _ _ _ _ _ is _ c.is_ok.ensures.value c.if-is_ok.false }

pub invariant_of-self-else-is_ok : goal.invariant_of-self-else-is_ok
invariant_of-self-else-is_ok g c =
    let is = upgraded_store g.D.Disk.state c.self.inside.known c.self.inside.pairs c.upgrade_list-result.new.pairs
    c.args.self.now c.upgrade_list-result.result c.self.invariant c.self.view_is c.requires.runs c.requires.version
    c.upgrade_list-result.ensures.list c.upgrade_list-result.ensures.call in
    known_stays g.D.Disk.state _ _ _ _ _ is _ c.is_ok.ensures.value c.if-is_ok.false
