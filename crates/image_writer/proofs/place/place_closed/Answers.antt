use Rattle.std.proofs.Common.{◌≡◌, ◌<◌, [], ◌∷◌, ◌++◌, Option, Ok, length, sym, ap, subst, ◌∙◌, arith}
use Rattle.std.proofs.Common.{append-nil}
use Rattle.std.proofs.lemmas.List.{length-append}
use Rattle.store_base.specs.declared.fault.DiskFault.{DiskFault}
use Rattle.store_model.specs.Pages.{Page}
use Rattle.rising_pages.specs.Ends.{list_of}
use Rattle.rising_pages.specs.FreePlaces.{AreFree}
use Rattle.image_writer.specs.Placing.{placed, Places}
use Rattle.image_writer.proofs.PlacedPages.{places_none}
use Rattle.image_writer.proofs.place.place_closed.Goals as goal

pub returns-in-Some-clause-free : goal.returns-in-Some-clause-free
returns-in-Some-clause-free g c = λ pages are.
    subst (λ (o : Option Page). AreFree (placed (g.W.Draw.drawn c.args.draw.now) (pages ++ list_of o))
    c.place_page.new.free) (sym c.in-Some.is) (c.place_page.ensures.free pages are)

pub returns-in-Some-clause-places : goal.returns-in-Some-clause-places
returns-in-Some-clause-places g c = λ start pages fits are before.
    let page = c.in-Some.page in
    let room : length pages < (g.W.Draw.drawn c.args.draw.now).slots =
    omega (
      arith,
      fits,
      ap (λ (o : Option Page). length (pages ++ list_of o)) c.in-Some.is,
      length-append pages (page ∷ []),
    ) in
    subst (λ (o : Option Page). Places (g.W.Draw.drawn c.args.draw.now) (pages ++ list_of o) (g.D.Disk.state start)
    (g.D.Disk.state c.place_page.new.disk) c.place_page.result) (sym c.in-Some.is)
    (c.place_page.ensures.places start pages room are before)

pub returns-in-None-clause-free : goal.returns-in-None-clause-free
returns-in-None-clause-free g c = λ pages are.
    let same : pages ≡ pages ++ list_of c.args.closed.now =
    sym (append-nil pages) ∙ sym (ap (λ (o : Option Page). pages ++ list_of o) c.in-None.is) in
    subst (λ ps. AreFree (placed (g.W.Draw.drawn c.args.draw.now) ps) c.args.free.now) same are

pub returns-in-None-clause-places : goal.returns-in-None-clause-places
returns-in-None-clause-places g c = λ start pages fits are before.
    subst (λ (o : Option Page). Places {T = Unit {0}} {E = DiskFault} (g.W.Draw.drawn c.args.draw.now)
    (pages ++ list_of o) (g.D.Disk.state start)
    (g.D.Disk.state c.args.disk.now) (Ok tt)) (sym c.in-None.is)
    (places_none (g.W.Draw.drawn c.args.draw.now) pages (g.D.Disk.state start) (g.D.Disk.state c.args.disk.now) before)
