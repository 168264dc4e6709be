use Rattle.std.proofs.Common.{◌≡◌, ◌<◌, ◌++◌, ◌+◌, Equal, length, sym, ap, subst, ◌∙◌, arith}
use Rattle.std.specs.Ordering.{is_eq}
use Rattle.store_model.specs.Paths.{key_cmp}
use Rattle.store_model.specs.Pages.{Cell}
use Rattle.node_pages.specs.Cells.{CellList}
use Rattle.skip_groups.specs.GroupCells.{AreCells, IsRisingList, compares}
use Rattle.skip_groups.proofs.CellLists.{side_step, side_stays, side_within}
use Rattle.skip_groups.proofs.KeyRanges.{tied}
use Rattle.skip_groups.proofs.cells.append_own.Goals as goal
use Rattle.skip_groups.proofs.cells.append_own.Goals.{then-is_eq+in_ok-push_rising, else-is_eq}

pub loop-cell-preserved : goal.loop-cell-preserved
loop-cell-preserved c =
    let key = c.args.key.now in
    let own = c.args.own.now in
    let i = c.loop-cell.cell-index in
    let level = c.args.level in
    let old = c.args.cells.now in
    let item = c.cell-item.result in
    let before = c.loop-cell.invariant in
    let below : i < length own = omega arith in
    let test : compares Equal key item ≡ c.is_eq.result =
    tied (key_cmp item.key key) ∙ ap is_eq
    (sym (c.cmp.ensures.value ∙ ap (λ (x : Cell). key_cmp x.key key) c.cell.view_is)) ∙ sym c.is_eq.ensures in
    elim c.if-is_eq.branch [
      | then-is_eq+in_ok-push_rising w ↦ record {
        valid = subst (IsRisingList level) (sym w.cells-is)
            w.in_ok-push_rising.ensures.valid;
        added = λ all.
            let line = side_step Equal key old.cells own c.loop-cell.cells.cells i item below
            c.cell-item.is (test ∙ w.if-is_eq.true) (before.added all) in
            ap (λ (list : CellList). list.cells) w.cells-is
            ∙ w.in_ok-push_rising.ensures.added
            (subst (AreCells level) line (side_within Equal key level old.cells own (i + 1) all))
            ∙ sym line;
        few = omega (
          arith,
          ap (λ (list : CellList). length list.cells) w.cells-is,
          w.in_ok-push_rising.ensures.few,
          before.few,
        );
      }
      | else-is_eq w ↦ record {
        valid = subst (IsRisingList level) (sym w.cells-is) before.valid;
        added = λ all. ap (λ (list : CellList). list.cells) w.cells-is ∙ before.added all
            ∙ ap (λ xs. old.cells ++ xs)
            (sym (side_stays Equal key own i item below c.cell-item.is (test ∙ w.if-is_eq.false)));
        few = omega (arith, ap (λ (list : CellList). length list.cells) w.cells-is, before.few);
      }
    ]
