use Rattle.std.proofs.Common.{◌≡◌, suc, ◌+◌, ◌≤◌, length, [], ◌∷◌, Some, None, sym, ap, subst, ◌∙◌, arith, inl, inr}
use Rattle.std.proofs.Math.Nat.{lt_of_not-le}
use Rattle.store_model.specs.Labels.{Label}
use Rattle.store_model.specs.Pages.{Cell, Page, page_room}
use Rattle.rising_pages.specs.OpenPages.{Comes, HasCome, HasRoom}
use Rattle.rising_pages.proofs.OpenPages.{top_of_cell, come_first, come_behind, number_behind}
use Rattle.rising_pages.proofs.open.OpenPage.begin.Goals as goal

-- the page that begins with a cell
begun : Cell → Label → Page
begun cell label = record { label = label; cells = cell ∷ [] }

pub returns-in_default : goal.returns-in_default
unfolding begun
returns-in_default c = λ d s y comes.
    let level = c.args.level in
    let top = c.args.top in
    let held = c.args.self.now in
    let cell = c.args.cell.now in
    let none : held ≡ None = sym c.self.view_is ∙ c.in_default.is in
    subst (λ o. HasCome d level s y (Some c.with_first.result) o) none
    (come_first d level top s y held cell c.with_first.result comes (inr none)
    (c.with_first.ensures.value
    ∙ ap (begun cell) (c.first_label.ensures.value d (top_of_cell d level top s y held cell comes))))

pub returns-then-top-level : goal.returns-then-top-level
unfolding begun
returns-then-top-level c = λ d s y comes.
    let level = c.args.level in
    let top = c.args.top in
    let held = c.args.self.now in
    let cell = c.args.cell.now in
    let some : held ≡ Some c.replace.result =
    sym c.self.view_is ∙ c.in-Some.is ∙ ap Some (sym c.replace.ensures.value) in
    subst (λ o. HasCome d level s y (Some c.replace.new.dest) o) some
    (come_first d level top s y held cell c.replace.new.dest comes (inl (omega (arith, c.if-top-level.true)))
    (c.replace.ensures.after ∙ c.with_first-then-top-level.ensures.value
    ∙ ap (begun cell) (c.first_label-then-top-level.ensures.value d (top_of_cell d level top s y held cell comes))))

pub returns : goal.returns
unfolding begun
returns c = λ d s y comes.
    let level = c.args.level in
    let top = c.args.top in
    let cell = c.args.cell.now in
    let last = c.in-Some.page in
    let some : c.args.self.now ≡ Some last = sym c.self.view_is ∙ c.in-Some.is in
    let comes_there = subst (λ o. Comes d level top s y o cell) some comes in
    let high : top ≤ level = omega (arith, c.if-top-level.false) in
    let no_room : HasRoom (Some last) level top → ⊥ = subst (λ o. HasRoom o level top → ⊥) some c.requires.no_room in
    let below = lt_of_not-le {n = suc (length last.cells)} {m = page_room level} (λ less. no_room (high, less)) in
    let full : page_room level ≤ length last.cells = omega (arith, below) in
    let label_is = c.label.ensures.value in
    let number = number_behind d level top s y last cell comes_there high full in
    let next : Label → Label = λ l. record { level = l.level; lead = l.lead; index = l.index + 1 } in
    let page_is : c.replace-2.new.dest ≡ begun cell (next last.label) =
    c.replace-2.ensures.after ∙ c.with_first-2.ensures.value
    ∙ ap (begun cell) (c.next_label-label.ensures.value (omega (arith, number, ap (λ l. l.index) label_is))
    ∙ ap next label_is) in
    subst (λ p. HasCome d level s y (Some p) (Some c.replace-2.result)) (sym page_is)
    (subst (λ p. HasCome d level s y (Some (begun cell (next last.label))) (Some p)) (sym c.replace-2.ensures.value)
    (come_behind d level top s y last cell comes_there high full))
