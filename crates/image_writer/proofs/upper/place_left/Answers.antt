use Rattle.std.proofs.Common.{[], ◌++◌, length, OnOk, sym, ap, subst, arith}
use Rattle.store_model.specs.Pairs.{IsPairs}
use Rattle.store_model.specs.Pages.{pages_of_pairs}
use Rattle.rising_pages.specs.Ends.{list_of}
use Rattle.rising_pages.specs.FreePlaces.{AreFree}
use Rattle.rising_pages.specs.OpenPages.{closed_pages}
use Rattle.rising_pages.specs.Raised.{AreRaised, key_pairs}
use Rattle.rising_pages.proofs.RaisedPairs.{are_raised, few_raised, raised_are_pairs}
use Rattle.image_writer.specs.Placing.{placed, Places}
use Rattle.image_writer.proofs.LevelsPlaced.{places_short}
use Rattle.image_writer.proofs.UpperPlaced.{last_closed, all_pages, level_fits}
use Rattle.image_writer.proofs.upper.place_left.Goals as goal

pub place_upper-requires-clause-rising : goal.place_upper-requires-clause-rising
place_upper-requires-clause-rising g c =
    let (s, complete) = c.requires.complete in
    subst (λ keys. IsPairs (key_pairs keys)) (sym (c.raised.ensures _ s complete.kept_is complete.fits))
    (raised_are_pairs (g.W.Draw.drawn c.args.draw.now) s complete.pairs)

pub place_upper-requires-clause-levels : goal.place_upper-requires-clause-levels
place_upper-requires-clause-levels g c =
    let d = g.W.Draw.drawn c.args.draw.now in
    let (s, complete) = c.requires.complete in
    subst (AreRaised d) (sym (c.raised.ensures d s complete.kept_is complete.fits)) (are_raised d s)

pub place_upper-requires-clause-few : goal.place_upper-requires-clause-few
place_upper-requires-clause-few g c =
    let d = g.W.Draw.drawn c.args.draw.now in
    let (s, complete) = c.requires.complete in
    omega (arith, ap length (c.raised.ensures d s complete.kept_is complete.fits), few_raised d s, complete.few)

pub returns-in_err-place_closed-clause-places : goal.returns-in_err-place_closed-clause-places
returns-in_err-place_closed-clause-places g c = λ start s complete are placed_so.
    let d = g.W.Draw.drawn c.args.draw.now in
    let some = (g.met.W.Draw.lawful c.args.draw.now).level_in_range [] in
    let closed = closed_pages d s 0 in
    let last_is = c.last.ensures d s complete.kept_is complete.fits in
    let whole = last_closed d s (omega (arith, some)) c.last.result.now last_is in
    let room = level_fits d s (omega (arith, some)) in
    places_short d (closed ++ list_of c.last.result.now) (pages_of_pairs d s)
    (g.D.Disk.state start) (g.D.Disk.state c.place_closed.new.disk) c.in_err-place_closed.field-0.0
    c.from_residual.result c.from_residual.ensures.0
    (c.in_err-place_closed.ensures.places start closed (omega (arith, ap length whole, room, complete.fits)) are
    placed_so)

pub returns-clause-free : goal.returns-clause-free
returns-clause-free g c = λ s complete are.
    let d = g.W.Draw.drawn c.args.draw.now in
    let some = (g.met.W.Draw.lawful c.args.draw.now).level_in_range [] in
    let last_is = c.last.ensures d s complete.kept_is complete.fits in
    let keys_are = c.raised.ensures d s complete.kept_is complete.fits in
    let whole = all_pages d s (omega (arith, some)) c.last.result.now c.raised.result.now last_is keys_are in
    subst (λ ps. OnOk c.place_upper.result (AreFree (placed d ps) c.place_upper.new.free)) whole
    (c.place_upper.ensures.free (closed_pages d s 0 ++ list_of c.last.result.now)
    (c.in_ok-place_closed.ensures.free (closed_pages d s 0) are))

pub returns-clause-places : goal.returns-clause-places
returns-clause-places g c = λ start s complete are placed_so.
    let d = g.W.Draw.drawn c.args.draw.now in
    let some = (g.met.W.Draw.lawful c.args.draw.now).level_in_range [] in
    let closed = closed_pages d s 0 in
    let last_is = c.last.ensures d s complete.kept_is complete.fits in
    let keys_are = c.raised.ensures d s complete.kept_is complete.fits in
    let level = last_closed d s (omega (arith, some)) c.last.result.now last_is in
    let room = level_fits d s (omega (arith, some)) in
    let whole = all_pages d s (omega (arith, some)) c.last.result.now c.raised.result.now last_is keys_are in
    subst (λ ps. Places d ps (g.D.Disk.state start) (g.D.Disk.state c.place_upper.new.disk) c.place_upper.result) whole
    (c.place_upper.ensures.places start (closed ++ list_of c.last.result.now)
    (omega (arith, ap length whole, complete.fits)) (c.in_ok-place_closed.ensures.free closed are)
    (c.in_ok-place_closed.ensures.places start closed (omega (arith, ap length level, room, complete.fits)) are
    placed_so).done)
