use Rattle.std.proofs.Common.{◌<◌, [], ◌∷◌, ◌++◌, map, length, subst, sym, ap, ◌∙◌}
use Rattle.std.specs.List.Sorted.{IsStrictlySortedBy}
use Rattle.store_model.specs.Paths.{key_cmp}
use Rattle.store_model.specs.Pages.{Cell, Page, page_room, IsCell}
use Rattle.node_pages.specs.PageSlots.{page_in}
use Rattle.node_pages.proofs.PageBytes.{grown, blank_behind, count_in_slot}
use Rattle.node_pages.proofs.page.Page.add.Goals as goal

pub append-requires-clause-room : goal.append-requires-clause-room
append-requires-clause-room c =
    let page = page_in c.self.inside.label c.self.inside.slot in
    let room = subst (λ (p : Page). length p.cells < page_room p.label.level) (sym c.self.view_is) c.requires.room in
    subst (λ n. n < page_room page.label.level)
    (sym (count_in_slot page c.self.inside.slot c.self.invariant.page.label c.self.invariant.bytes)) room

pub append-requires-clause-blank : goal.append-requires-clause-blank
append-requires-clause-blank c =
    let page = page_in c.self.inside.label c.self.inside.slot in
    blank_behind page c.self.inside.slot c.self.invariant.page.label c.self.invariant.page.cells c.self.invariant.bytes

pub invariant_of-self : goal.invariant_of-self
invariant_of-self c =
    let page = page_in c.self.inside.label c.self.inside.slot in
    let cell = subst (λ (p : Page). IsCell p.label.level c.args.cell.now) (sym c.self.view_is) c.requires.cell in
    let room = subst (λ (p : Page). length p.cells < page_room p.label.level) (sym c.self.view_is) c.requires.room in
    let rising =
    subst (λ (p : Page). IsStrictlySortedBy key_cmp (map (λ (x : Cell). x.key) (p.cells ++ c.args.cell.now ∷ [])))
    (sym c.self.view_is) c.requires.rising in
    (grown page c.self.inside.slot c.append.new.slot c.args.cell.now c.self.invariant.page.label
    c.self.invariant.page.cells c.self.invariant.bytes cell room rising c.append.ensures).holds

pub returns-clause-value : goal.returns-clause-value
returns-clause-value c =
    let page = page_in c.self.inside.label c.self.inside.slot in
    let cell = subst (λ (p : Page). IsCell p.label.level c.args.cell.now) (sym c.self.view_is) c.requires.cell in
    let room = subst (λ (p : Page). length p.cells < page_room p.label.level) (sym c.self.view_is) c.requires.room in
    let rising =
    subst (λ (p : Page). IsStrictlySortedBy key_cmp (map (λ (x : Cell). x.key) (p.cells ++ c.args.cell.now ∷ [])))
    (sym c.self.view_is) c.requires.rising in
    (grown page c.self.inside.slot c.append.new.slot c.args.cell.now c.self.invariant.page.label
    c.self.invariant.page.cells c.self.invariant.bytes cell room rising c.append.ensures).read
    ∙ ap (λ (p : Page). record { label = p.label; cells = p.cells ++ c.args.cell.now ∷ [] }) c.self.view_is

pub returns-clause-valid : goal.returns-clause-valid
returns-clause-valid c = (invariant_of-self c).page
