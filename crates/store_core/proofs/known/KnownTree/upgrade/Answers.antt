use Rattle.std.proofs.Common.{◌≡◌, sym, ap, subst, ◌∙◌}
use Rattle.store_model.specs.declared.version.Version.TheVariants.{Two}
use Rattle.store_model.specs.Parameters.{Parameters, with_version}
use Rattle.store_model.specs.Images.{layout}
use Rattle.disk_model.specs.DiskState.{DiskState, IsObservable}
use Rattle.store_core.specs.Known.{KnownState, IsKnownTree, TellsTree}
use Rattle.staged_tree.proofs.TreePages.{fitting_upgraded}
use Rattle.store_core.proofs.known.KnownTree.upgrade.Goals as goal

-- the tree that was known is known under version 2
there : {D : Type 0} (state : D → DiskState) (p : Parameters) (settled disk : D) (known : TellsTree (state settled) p)
    (now : KnownState D) → ◌≡◌ {A = KnownState D} (record { params = p; tree = known.0; settled = settled }) now
    → (state disk).is_observable ≡ (state now.settled).is_observable
    → (IsObservable (state disk) → (state disk).bytes ≡ layout now.tree (with_version now.params Two))
    → IsKnownTree (state disk) (with_version p Two) known.0
there {D} state p settled disk known now is same reads = record {
  fitting = fitting_upgraded known.0 p known.1.fitting;
  seen = λ observable. reads observable ∙ ap (λ (k : KnownState D). layout k.tree (with_version k.params Two)) (sym is);
  unseen = λ hidden. known.1.unseen (λ seen.
      hidden (same ∙ sym (ap (λ (k : KnownState D). (state k.settled).is_observable) is) ∙ seen));
}

pub new-requires : goal.new-requires
new-requires g c =
    let state = g.D.Disk.state in
    let s = c.self.inside in
    let disk = c.args.disk.now in (
      s.known.0,
      subst (λ (q : Parameters). IsKnownTree (state disk) q s.known.0) (sym c.with_version.ensures.value)
          (there state s.params s.settled.value disk
          s.known c.args.self.now c.self.view_is c.requires.same c.requires.tree),
    )

pub returns : goal.returns
returns g c =
    let state = g.D.Disk.state in
    let s = c.self.inside in
    let disk = c.args.disk.now in
    let known = subst (λ (q : Parameters). IsKnownTree (state disk) q s.known.0) (sym c.with_version.ensures.value)
    (there state s.params s.settled.value disk
    s.known c.args.self.now c.self.view_is c.requires.same c.requires.tree) in
    let named : ◌≡◌ {A = KnownState g.row.D.Denot} (record {
      params = c.with_version.result;
      tree = s.known.0;
      settled = disk;
    })
    (record { params = with_version s.params Two; tree = s.known.0; settled = disk }) =
    ap (λ (q : Parameters). record { params = q; tree = s.known.0; settled = disk }) c.with_version.ensures.value in
    let viewed : ◌≡◌ {A = KnownState g.row.D.Denot} (record {
      params = with_version s.params Two;
      tree = s.known.0;
      settled = disk;
    })
    (record { params = with_version c.args.self.now.params Two; tree = c.args.self.now.tree; settled = disk }) =
    ap (λ (k : KnownState g.row.D.Denot). record {
      params = with_version k.params Two;
      tree = k.tree;
      settled = disk;
    }) c.self.view_is in
    c.drop.view_is ∙ c.new.ensures s.known.0 known ∙ named ∙ viewed
