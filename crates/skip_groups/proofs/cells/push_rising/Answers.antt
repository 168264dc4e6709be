use Rattle.std.proofs.Common.{◌≡◌, true, sym, ap, subst, ◌∙◌}
use Rattle.store_model.specs.Pages.{Cell}
use Rattle.skip_groups.specs.GroupCells.{IsRisingList, is_behind, last_key_of}
use Rattle.skip_groups.proofs.CellLists.{cells_push, last_is_cell, last_is_above, not_both}
use Rattle.skip_groups.proofs.KeyRanges.{either_way}
use Rattle.skip_groups.proofs.cells.push_rising.Goals as goal
use Rattle.skip_groups.proofs.cells.push_rising.Goals.{then-not-is_of-via-then-not-is_of}
use Rattle.skip_groups.proofs.cells.push_rising.Goals.{then-not-is_of-via-else-not-is_of+then-not-is_above}

-- no other cell is left out
pub returns-then-not-is_of-clause-added : goal.returns-then-not-is_of-clause-added
returns-then-not-is_of-clause-added c all =
    let old = c.args.cells.now in
    elim c.then-not-is_of.branch [
      | then-not-is_of-via-then-not-is_of w ↦
          let is = last_is_cell c.args.level old.cells c.args.cell.now all in
          absurd (not_both c.is_of.result (c.is_of.ensures.1 is) w.if-not-is_of.true)
      | then-not-is_of-via-else-not-is_of+then-not-is_above w ↦
          let key = ap (λ (x : Cell). x.key) c.cell.view_is in
          let above = subst (λ k. is_behind k (last_key_of old.cells) ≡ true) (sym key)
          (last_is_above c.args.level old.cells c.args.cell.now all) in
          absurd (not_both w.is_above.result (w.is_above.ensures ∙ rw w.last_key.ensures above) w.if-not-is_above.true)
    ]

pub returns-clause-valid : goal.returns-clause-valid
returns-clause-valid c =
    let level = c.args.level in
    let old = c.args.cells.now in
    let key = ap (λ (x : Cell). x.key) c.cell.view_is in
    let is = c.is_of.ensures.0 c.if-not-is_of.false in
    let above = sym (rw c.last_key.ensures at c.is_above.ensures) ∙ c.if-not-is_above.false in
    either_way c.push.result c.push.ensures.ok c.push.ensures.err
    (λ e. subst (IsRisingList level) (sym e) (record {
      level_is = c.requires.level_is;
      cells = cells_push level old.cells c.args.cell.now c.requires.cells is
          (subst (λ k. is_behind k (last_key_of old.cells) ≡ true) key above);
    }))
    (λ e. subst (IsRisingList level) (sym e) c.requires)
