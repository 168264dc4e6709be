use Rattle.std.proofs.Common.{sym, ap, subst, ◌∙◌}
use Rattle.store_model.specs.Draws.{Draw, draw_of}
use Rattle.store_model.specs.PageMaps.{PageMap}
use Rattle.seeded_draw.specs.AnyDrawn.{any_draw}
use Rattle.seeded_draw.specs.declared.any.AnyDraw.{AnyDraw}
use Rattle.page_store.specs.PageImages.{pages_in_table, SlotStandsAt}
use Rattle.page_store.specs.StagedState.{StagedState}
use Rattle.store_core.specs.Known.{KnownState, IsKnownTree}
use Rattle.staged_tree.specs.StagedTree.{AreAt}
use Rattle.store_core.specs.StoreFields.{HoldsKnown}
use Rattle.staged_tree.proofs.AnswerSteps.{list_at}
use Rattle.store_core.proofs.OpeningLemmas.{open_pages}
use Rattle.staged_tree.proofs.TreePages.{tree_holds, held_count, stands_pages, table_pages}
use Rattle.store_core.proofs.store.Store.open.Goals as goal

pub new-pages-requires-clause-drawn : goal.new-pages-requires-clause-drawn
unfolding draw_of
new-pages-requires-clause-drawn g c = ap (λ (d : Draw). d.slots) c.new-draw.ensures

pub new-pages-requires-clause-stands : goal.new-pages-requires-clause-stands
new-pages-requires-clause-stands g c observable =
    let disk = g.D.Disk.state c.args.disk in
    let p = c.args.contents.params in
    let t = c.requires.stands.0 in
    let fit = c.requires.stands.1.fitting in
    let stands = c.requires.stands.1.stands observable in
    subst (λ (d : Draw). SlotStandsAt d p (pages_in_table p.slots disk.bytes) disk) (sym c.new-draw.ensures)
    (subst (λ (m : PageMap). SlotStandsAt (draw_of p) p m disk) (sym (table_pages t p disk.bytes fit stands.layout_is))
    (stands_pages t p disk fit stands))

pub new-pages-requires-clause-count : goal.new-pages-requires-clause-count
new-pages-requires-clause-count g c observable =
    let disk = g.D.Disk.state c.args.disk in
    let p = c.args.contents.params in
    let t = c.requires.stands.0 in
    let fit = c.requires.stands.1.fitting in
    let table = pages_in_table p.slots disk.bytes in
    let stands = c.requires.stands.1.stands observable in
    c.requires.stands.1.used_is observable
    ∙ sym (held_count t p table (tree_holds t p table fit (table_pages t p disk.bytes fit stands.layout_is)))

pub new-requires : goal.new-requires
new-requires g c =
    let state = g.D.Disk.state in
    let p = c.args.contents.params in
    let t = c.requires.stands.0 in
    let at = c.requires.stands.1 in
    let ends = c.new-pages.ensures in
    let staged = c.new-pages.result in
    let pages = open_pages state c.args.disk c.args.contents t staged c.new-draw.result at
    c.new-draw.ensures ends.params ends.drawn ends.disk ends.table ends.map in
    list_at state p staged (any_draw c.new-draw.result) c.new-draw.ensures (t, (at.fitting, pages))

pub invariant_of-result : goal.invariant_of-result
invariant_of-result g c =
    let state = g.D.Disk.state in
    let disk = c.args.disk in
    let p = c.args.contents.params in
    let t = c.requires.stands.0 in
    let at = c.requires.stands.1 in
    let fit = at.fitting in
    let ends = c.new-pages.ensures in
    let pages = open_pages state disk c.args.contents t c.new-pages.result c.new-draw.result at
    c.new-draw.ensures ends.params ends.drawn ends.disk ends.table ends.map in
    let known : IsKnownTree (state disk) p t = record {
      fitting = fit;
      seen = λ observable. (at.stands observable).layout_is;
      unseen = at.unseen;
    } in
    let served : HoldsKnown state (record { params = p; tree = t; settled = disk }) c.new.result = record {
      at = record {
        fitting = fit;
        pages = subst (λ (s : StagedState g.row.D.Denot AnyDraw). AreAt state t p s) (sym c.new.ensures.pages) pages;
        draw = ap any_draw c.new.ensures.draw ∙ c.new-draw.ensures;
        whole = λ observable. c.new.ensures.whole;
      };
      observable = ap (λ (s : StagedState g.row.D.Denot AnyDraw). (state s.disk).is_observable) c.new.ensures.pages
          ∙ ap (λ (d : g.row.D.Denot). (state d).is_observable) ends.disk;
    } in
    subst (λ (k : KnownState g.row.D.Denot). HoldsKnown state k c.new.result) (sym (c.new-known.ensures t known)) served
