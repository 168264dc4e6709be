use Rattle.std.proofs.Common.{◌≡◌, true, sym, ap, ◌∙◌, arith}
use Rattle.std.proofs.Math.Path.{subst₂}
use Rattle.std.specs.Ordering.{is_eq, is_lt}
use Rattle.store_model.specs.Paths.{key_cmp}
use Rattle.store_model.proofs.TreesLemmasPaths.{tie_from_test}
use Rattle.store_model.specs.Pages.{Cell}
use Rattle.store_model.proofs.ListsLemmas.{rising_from_map}
use Rattle.skip_groups.specs.GroupCells.{AreBetween}
use Rattle.skip_groups.proofs.CellLists.{less_from_test, not_both}
use Rattle.skip_groups.proofs.KeptPages.{below_last}
use Rattle.skip_groups.proofs.KeyRanges.{all_between, place_in, has_own, lacks_own, has_none}
use Rattle.skip_groups.proofs.cells.places_of.Goals as goal
use Rattle.skip_groups.proofs.cells.places_of.Goals.{else-past-gt0-via-then-past-gt0+else-is_eq}
use Rattle.skip_groups.proofs.cells.places_of.Goals.{else-past-gt0-via-else-past-gt0}

-- a page all of whose cells are below the key
pub returns-then-is_lt-clause-between : goal.returns-then-is_lt-clause-between
returns-then-is_lt-clause-between c =
    let key = c.args.key.now in
    let cells = c.args.page.now.cells in
    let less = less_from_test (key_cmp c.key.result key)
    (ap is_lt (sym c.cmp.ensures.value) ∙ sym c.is_lt.ensures ∙ c.if-is_lt.true) in
    let below = below_last key c.key.result cells
    (rising_from_map key_cmp (λ (x : Cell). x.key) cells c.len.ensures.valid.rising)
    (rw c.len.ensures.value at c.key.ensures.value) less in
    subst₂ (AreBetween key cells) (sym c.len-then-is_lt.ensures.value) (sym c.len-then-is_lt-2.ensures.value)
    (all_between key cells below)

pub returns-then-is_eq-clause-between : goal.returns-then-is_eq-clause-between
returns-then-is_eq-clause-between c =
    let past = c.count_not_above-past.result in
    let place = place_in c.args.key.now c.args.page.now.cells past
    c.len.ensures.valid.rising c.count_not_above-past.ensures.count in
    let test : is_eq (key_cmp c.key-then-past-gt0.result c.args.key.now) ≡ true =
    ap is_eq (sym c.cmp-then-past-gt0.ensures.value) ∙ sym c.is_eq.ensures ∙ c.if-is_eq.true in
    has_own c.args.key.now c.args.page.now.cells past place c.key-then-past-gt0.result (omega arith)
    c.count_not_above-past.ensures.within c.key-then-past-gt0.ensures.value
    (tie_from_test _ test)

pub returns-else-past-gt0-clause-between : goal.returns-else-past-gt0-clause-between
returns-else-past-gt0-clause-between c =
    let past = c.count_not_above-past.result in
    let place = place_in c.args.key.now c.args.page.now.cells past
    c.len.ensures.valid.rising c.count_not_above-past.ensures.count in
    elim c.else-past-gt0.branch [
      | else-past-gt0-via-then-past-gt0+else-is_eq w ↦
          lacks_own c.args.key.now c.args.page.now.cells past place w.key-then-past-gt0.result (omega arith)
          c.count_not_above-past.ensures.within w.key-then-past-gt0.ensures.value
          (λ equal. not_both w.is_eq.result (w.is_eq.ensures ∙ ap is_eq (w.cmp-then-past-gt0.ensures.value ∙ equal))
          w.if-is_eq.false)
      | else-past-gt0-via-else-past-gt0 w ↦ has_none c.args.key.now c.args.page.now.cells past place (omega arith)
    ]
