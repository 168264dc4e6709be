use Rattle.std.proofs.Common.{◌≡◌, ◌++◌, ◌↔◌, true, sym, ap, subst, ◌∙◌, arith}
use Rattle.std.proofs.lemmas.List.{append-nil}
use Rattle.store_model.specs.Labels.{Label}
use Rattle.skip_groups.specs.GroupCells.{IsRisingList, is_behind, last_key_of}
use Rattle.skip_groups.proofs.CellLists.{not_both}
use Rattle.skip_groups.proofs.KeyRanges.{either_way, no_range, range_fits, same_level, goes_behind, stands_above}
use Rattle.skip_groups.proofs.cells.append_rising.Goals as goal
use Rattle.skip_groups.proofs.cells.append_rising.Goals.{then-first-past-via-then-first-past}
use Rattle.skip_groups.proofs.cells.append_rising.Goals.{then-first-past-via-else-first-past+then-not-have_same_cells}
use Rattle.skip_groups.proofs.cells.append_rising.Goals.{then-first-past-via-else-first-past+else-not-have_same_cells+then-not-is_above}

-- no other cells are left out
pub returns-then-first-past-clause-added : goal.returns-then-first-past-clause-added
returns-then-first-past-clause-added c all =
    let old = c.args.cells.now in
    elim c.then-first-past.branch [
      | then-first-past-via-then-first-past w
          ↦ sym (ap (λ xs. old.cells ++ xs)
          (no_range c.args.page.now.cells c.args.first c.args.past w.if-first-past.true) ∙ append-nil old.cells)
      | then-first-past-via-else-first-past+then-not-have_same_cells w ↦
          let same = same_level _ _ _ _ c.requires.order c.requires.within
          w.label.ensures.valid (omega arith) old.cells all in
          let asked = subst (λ b. (c.args.level ≡ 0) ↔ (b ≡ 0))
          (sym (ap (λ (l : Label). l.level) (w.have_same_cells.view_is ∙ w.label.ensures.value))) same in
          absurd (not_both w.have_same_cells-else-first-past.result (w.have_same_cells-else-first-past.ensures.1 asked)
          w.if-not-have_same_cells.true)
      | then-first-past-via-else-first-past+else-not-have_same_cells+then-not-is_above w ↦
          let above = stands_above _ _ _ _ c.requires.order c.requires.within
          w.label.ensures.valid (omega arith) old.cells w.key.result w.key.ensures.value all in
          absurd (not_both w.is_above.result (w.is_above.ensures ∙ ap (is_behind w.key.result) w.last_key.ensures
          ∙ above) w.if-not-is_above.true)
    ]

pub append_from-requires-clause-fits : goal.append_from-requires-clause-fits
append_from-requires-clause-fits c =
    let same = subst (λ b. (c.args.level ≡ 0) ↔ (b ≡ 0))
    (ap (λ (l : Label). l.level) (c.have_same_cells.view_is ∙ c.label.ensures.value))
    (c.have_same_cells-else-first-past.ensures.0 c.if-not-have_same_cells.false) in
    rw c.requires.cells.level_is (range_fits _ _ _ _ c.requires.order c.requires.within c.label.ensures.valid same).each

pub returns-clause-valid : goal.returns-clause-valid
returns-clause-valid c =
    let level = c.args.level in
    let old = c.args.cells.now in
    let same = subst (λ b. (c.args.level ≡ 0) ↔ (b ≡ 0))
    (ap (λ (l : Label). l.level) (c.have_same_cells.view_is ∙ c.label.ensures.value))
    (c.have_same_cells-else-first-past.ensures.0 c.if-not-have_same_cells.false) in
    let above : is_behind c.key.result (last_key_of old.cells) ≡ true =
    ap (is_behind c.key.result) (sym c.last_key.ensures) ∙ sym c.is_above.ensures ∙ c.if-not-is_above.false in
    let goes = goes_behind _ _ _ _ c.requires.order c.requires.within
    c.label.ensures.valid (omega arith) old.cells c.key.result c.key.ensures.value c.requires.cells.cells same above in
    either_way c.append_from.result c.append_from.ensures.ok c.append_from.ensures.err
    (λ e. subst (IsRisingList level) (sym e) (record { level_is = c.requires.cells.level_is; cells = goes }))
    (λ e. subst (IsRisingList level) (sym e) c.requires.cells)
