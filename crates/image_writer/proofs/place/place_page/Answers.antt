use Rattle.std.proofs.Common.{◌≡◌, ◌<◌, [], ◌∷◌, ◌++◌, Some, None, sym, subst, ◌∙◌, arith}
use Rattle.store_model.specs.Parameters.{table_at}
use Rattle.store_model.specs.Images.{page_bytes}
use Rattle.disk_model.specs.DiskCalls.{IsWrite}
use Rattle.store_model.proofs.ImagesLemmas.{length-page_bytes}
use Rattle.rising_pages.specs.FreePlaces.{AreFree}
use Rattle.image_writer.specs.Placing.{placed}
use Rattle.image_writer.proofs.PlacedPages.{places_one, free_more, found_by_label, some_free}
use Rattle.image_writer.proofs.place.place_page.Goals as goal

pub write_page-requires-clause-below : goal.write_page-requires-clause-below
write_page-requires-clause-below g c =
    omega (arith, c.in-Some.ensures.within, c.requires.slots, c.slots.ensures)

pub returns-in-Some-clause-free : goal.returns-in-Some-clause-free
returns-in-Some-clause-free g c = λ pages are.
    let d = g.W.Draw.drawn c.args.draw.now in
    let page = c.args.page.now in
    subst (AreFree (placed d (pages ++ page ∷ []))) (sym c.take_first.ensures.taken)
    (free_more d pages page c.take_first.result c.args.free.now
    (found_by_label d pages page c.start-start.result c.label.result c.take_first.result c.label.ensures.value
    c.start-start.ensures.value (c.take_first.ensures.first (placed d pages) are)) are)

pub returns-in-None-clause-free : goal.returns-in-None-clause-free
returns-in-None-clause-free g c = λ pages are.
    let d = g.W.Draw.drawn c.args.draw.now in
    let page = c.args.page.now in
    subst (AreFree (placed d (pages ++ page ∷ []))) (sym c.take_first.ensures.taken)
    (free_more d pages page c.take_first.result c.args.free.now
    (found_by_label d pages page c.start-start.result c.label.result c.take_first.result c.label.ensures.value
    c.start-start.ensures.value (c.take_first.ensures.first (placed d pages) are)) are)

pub returns-in-Some-clause-places : goal.returns-in-Some-clause-places
returns-in-Some-clause-places g c = λ start pages room are before.
    let d = g.W.Draw.drawn c.args.draw.now in
    let page = c.args.page.now in
    let at = c.in-Some.at in
    let below : at < d.slots = omega (arith, c.in-Some.ensures.within, c.requires.slots) in
    let found = sym (found_by_label d pages page c.start-start.result c.label.result (Some at)
    c.label.ensures.value c.start-start.ensures.value (c.in-Some.ensures.first (placed d pages) are)) in
    places_one d pages page at (g.D.Disk.state start) (g.D.Disk.state c.args.disk.now)
    (g.D.Disk.state c.write_page.new.disk) below (length-page_bytes page c.label.ensures.valid) before found
    c.write_page.result
    (subst (λ slots. IsWrite (g.D.Disk.state c.args.disk.now) (g.D.Disk.state c.write_page.new.disk) (table_at slots at)
    (page_bytes page) c.write_page.result) c.slots.ensures c.write_page.ensures)
    (g.met.D.Disk.sound c.args.disk.now)

pub returns-in-None-clause-places : goal.returns-in-None-clause-places
returns-in-None-clause-places g c = λ start pages room are before.
    let d = g.W.Draw.drawn c.args.draw.now in
    let page = c.args.page.now in
    let free = some_free d pages page (g.met.W.Draw.lawful c.args.draw.now) room in
    let found : None ≡ Some free.0 = found_by_label d pages page c.start-start.result c.label.result None
    c.label.ensures.value c.start-start.ensures.value (c.in-None.ensures.first (placed d pages) are) ∙ free.1 in
    cc
