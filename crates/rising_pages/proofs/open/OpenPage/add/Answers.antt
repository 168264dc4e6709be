use Rattle.std.proofs.Common.{◌≡◌, Some, None, sym, subst, ◌∙◌}
use Rattle.rising_pages.specs.OpenPages.{Comes, HasCome, HasRoom}
use Rattle.rising_pages.proofs.OpenPages.{come_onto}
use Rattle.rising_pages.proofs.open.OpenPage.add.Goals as goal

pub returns-in_default : goal.returns-in_default
returns-in_default c = λ d s y comes.
    let none : c.args.self.now ≡ None = sym c.self.view_is ∙ c.in_default.is in
    absurd (subst (λ o. HasRoom o c.args.level c.args.top) none c.requires.room)

pub returns : goal.returns
returns c = λ d s y comes.
    let level = c.args.level in
    let top = c.args.top in
    let cell = c.args.cell.now in
    let last = c.in-Some.page in
    let some : c.args.self.now ≡ Some last = sym c.self.view_is ∙ c.in-Some.is in
    let room : HasRoom (Some last) level top = subst (λ o. HasRoom o level top) some c.requires.room in
    subst (λ p. HasCome d level s y (Some p) None) (sym c.add.ensures.value)
    (come_onto d level top s y last cell (subst (λ o. Comes d level top s y o cell) some comes) room.0 room.1)
