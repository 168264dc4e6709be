use Rattle.std.proofs.Common.{rules, ◌≡◌, ◌+◌, IfSome, length, drop, slice_get, sym, subst, arith}
use Rattle.std.proofs.lemmas.List.{take_at}
use Rattle.store_model.specs.Placement.{put_first_free}
use Rattle.layout_scratch.specs.Layouts.{table_of}
use Rattle.layout_scratch.proofs.Placing.{ArePlaced, none_placed, one_more_placed, all_placed, are_places}
use Rattle.layout_scratch.proofs.place.place_pages.Goals as goal

pub loop-number-init : goal.loop-number-init
loop-number-init g c =
    none_placed (g.W.Draw.drawn c.args.draw.now)
    c.args.pages c.slots.result c.in_ok-places.places.items c.slots.ensures
    (c.in_ok-places.ensures.items_if_clones_equal (λ y clone. search rules))

pub loop-number-preserved : goal.loop-number-preserved
loop-number-preserved g c =
    let d = g.W.Draw.drawn c.args.draw.now in
    let pages = c.args.pages in
    let after = c.put.new.places in
    let number = c.loop-number.number in
    subst (λ places. ArePlaced d pages places (number + 1))
    (sym (take_at after (drop (length after) c.loop-number.places.items)
    c.loop-number.places.len (omega (arith, c.loop-number.places.ok, c.put.auto.places, c.deref_mut.ensures.len))))
    (one_more_placed d pages c.loop-number.places.items after number
    c.loop-number.invariant (omega arith) c.put.ensures.numbers
    (subst (λ before. IfSome (slice_get pages number)
    (λ page. table_of pages after ≡ put_first_free d (table_of pages before) page))
    c.deref_mut.ensures.value c.put.ensures.value))

pub invariant_of-result : goal.invariant_of-result
invariant_of-result g c =
    are_places (g.W.Draw.drawn c.args.draw.now)
    c.args.pages c.loop-number.places.items c.loop-number.number (g.met.W.Draw.lawful c.args.draw.now)
    c.loop-number.invariant (omega arith) c.requires.fits c.requires.ranked

pub returns : goal.returns
returns g c =
    all_placed (g.W.Draw.drawn c.args.draw.now)
    c.args.pages c.loop-number.places.items c.loop-number.number c.loop-number.invariant
    (omega arith) c.requires.ranked
