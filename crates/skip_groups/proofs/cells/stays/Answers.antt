use Rattle.std.proofs.Common.{◌≡◌, inl, inr, true, false, sym, ap, ◌∙◌}
use Rattle.std.specs.Ordering.{is_lt}
use Rattle.store_model.specs.Paths.{key_cmp}
use Rattle.store_model.specs.Pages.{Cell}
use Rattle.store_model.proofs.ListsLemmas.{rising_from_map}
use Rattle.skip_groups.proofs.CellLists.{less_from_test}
use Rattle.skip_groups.proofs.GroupEnds.{no_room}
use Rattle.skip_groups.proofs.KeptPages.{below_last, ends_above}
use Rattle.skip_groups.proofs.cells.stays.Goals as goal

pub returns-then-is_last-clause-goes : goal.returns-then-is_last-clause-goes
returns-then-is_last-clause-goes c goes = inl (c.is_last.ensures.0 c.if-is_last.true)

pub returns-clause-stays : goal.returns-clause-stays
returns-clause-stays c below =
    let key = c.args.key.now in
    let cells = c.args.page.now.cells in
    let less = less_from_test (key_cmp c.key.result key)
    (ap is_lt (sym c.cmp.ensures.value) ∙ sym c.is_lt.ensures ∙ below) in
    record {
      full = no_room c.is_last.result _ _ c.is_last.ensures c.if-is_last.false;
      below = below_last key c.key.result cells
          (rising_from_map key_cmp (λ (x : Cell). x.key) cells c.len.ensures.valid.rising)
          (rw c.len.ensures.value at c.key.ensures.value) less;
    }

pub returns-clause-goes : goal.returns-clause-goes
returns-clause-goes c other =
    let key = c.args.key.now in
    let tells = ap is_lt (sym c.cmp.ensures.value) ∙ sym c.is_lt.ensures ∙ other in
    inr (ends_above key c.key.result c.args.page.now.cells c.len.ensures.valid.some_cell
    (rw c.len.ensures.value at c.key.ensures.value)
    (λ less. let wrong : true ≡ false = sym (ap is_lt less) ∙ tells in cc))
