use Rattle.std.proofs.Common.{rules, ◌≡◌, ◌+◌, ◌≤◌, ◌<◌, List, [], ◌++◌, take, length, sym, ap, subst, ◌∙◌, arith}
use Rattle.std.proofs.Common.{append-nil}
use Rattle.std.proofs.lemmas.List.{length-map}
use Rattle.store_model.specs.Pages.{Page, level_pages}
use Rattle.gate_journal.proofs.Calls.{AreCalls-none}
use Rattle.rising_pages.specs.Ends.{list_of}
use Rattle.rising_pages.specs.FreePlaces.{AreFree}
use Rattle.rising_pages.specs.OpenPages.{open_page, closed_pages}
use Rattle.rising_pages.specs.Raised.{key_pair, key_pairs}
use Rattle.rising_pages.proofs.RaisedLevels.{key_stands_behind}
use Rattle.image_writer.specs.Placing.{placed, ArePlaced, Places}
use Rattle.image_writer.proofs.LevelsPlaced.{open_none, closed_none, one_more_key, key_comes, grown, closed_fit}
use Rattle.image_writer.proofs.LevelsPlaced.{all_closed}
use Rattle.image_writer.proofs.LevelsPlaced.{places_short, on_ok}
use Rattle.image_writer.proofs.level.place_level.Goals as goal

pub loop-key-init : goal.loop-key-init
loop-key-init g c =
    let d = g.W.Draw.drawn c.args.draw.now in
    let level = c.args.level in
    let same : (before : List Page) → before ≡ before ++ closed_pages d [] level =
    λ before. sym (append-nil before) ∙ sym (ap (λ ps. before ++ ps) (closed_none d level)) in
    record {
      last_is = c.new-last.ensures ∙ sym (open_none d level);
      calls = AreCalls-none (g.D.Disk.state c.args.disk.now) tt;
      slots = c.requires.slots;
      free_are = λ before are. subst (λ ps. AreFree (placed d ps) c.args.free.now) (same before) are;
      places = λ start before fits are placed_so.
          subst (λ ps. ArePlaced d ps (g.D.Disk.state start) (g.D.Disk.state c.args.disk.now)) (same before) placed_so;
    }

pub take_key-closed-requires-clause-behind : goal.take_key-closed-requires-clause-behind
take_key-closed-requires-clause-behind g c stands =
    let d = g.W.Draw.drawn c.args.draw.now in
    let keys = c.args.keys.now in
    let k = c.loop-key.key-index in
    let key = c.key-item.result in
    let below : k < length keys = omega (arith, c.loop-key-test.true) in
    key_stands_behind d c.args.level (take k (key_pairs keys)) key c.loop-key.last
    (key_comes d c.args.level keys k key below c.key-item.is c.loop-key.last c.requires.above (omega arith)
    c.requires.rising c.requires.levels c.requires.few c.loop-key.invariant.last_is) stands

pub loop-key-preserved : goal.loop-key-preserved
loop-key-preserved g c =
    let d = g.W.Draw.drawn c.args.draw.now in
    let level = c.args.level in
    let keys = c.args.keys.now in
    let k = c.loop-key.key-index in
    let key = c.key-item.result in
    let below : k < length keys = omega (arith, c.loop-key-test.true) in
    let closed = closed_pages d (take k (key_pairs keys)) level in
    let has = c.take_key-closed.ensures d (take k (key_pairs keys))
    (key_comes d level keys k key below c.key-item.is c.loop-key.last c.requires.above (omega arith)
    c.requires.rising c.requires.levels c.requires.few c.loop-key.invariant.last_is) in
    let more : (before : List Page) → before ++ closed ++ list_of c.take_key-closed.result
    ≡ before ++ closed_pages d (take (k + 1) (key_pairs keys)) level =
    λ before. grown d level keys k key below c.key-item.is before c.take_key-closed.new.self c.take_key-closed.result
    has
    in
    record {
      last_is = has.last_is
          ∙ ap (λ s. open_page d s level) (sym (one_more_key d level keys k key below c.key-item.is));
      calls = search rules;
      slots = c.in_ok-place_closed.ensures.slots;
      free_are = λ before are. subst (λ ps. AreFree (placed d ps) c.place_closed.new.free) (more before)
          (c.in_ok-place_closed.ensures.free (before ++ closed) (c.loop-key.invariant.free_are before are));
      places = λ start before fits are placed_so.
          let room = closed_fit d level (k + 1) d.slots (key_pairs keys) before fits in
          subst (λ ps. ArePlaced d ps (g.D.Disk.state start) (g.D.Disk.state c.place_closed.new.disk)) (more before)
          (c.in_ok-place_closed.ensures.places start (before ++ closed)
          (omega (arith, ap length (more before), room)) (c.loop-key.invariant.free_are before are)
          (c.loop-key.invariant.places start before fits are placed_so)).done;
    }

pub returns-in_err-place_closed-clause-places : goal.returns-in_err-place_closed-clause-places
returns-in_err-place_closed-clause-places g c = λ start before fits are placed_so.
    let d = g.W.Draw.drawn c.args.draw.now in
    let level = c.args.level in
    let keys = c.args.keys.now in
    let k = c.loop-key.key-index in
    let key = c.key-item.result in
    let below : k < length keys = omega (arith, c.loop-key-test.true) in
    let closed = closed_pages d (take k (key_pairs keys)) level in
    let has = c.take_key-closed.ensures d (take k (key_pairs keys))
    (key_comes d level keys k key below c.key-item.is c.loop-key.last c.requires.above (omega arith)
    c.requires.rising c.requires.levels c.requires.few c.loop-key.invariant.last_is) in
    let more = grown d level keys k key below c.key-item.is before c.take_key-closed.new.self c.take_key-closed.result
    has
    in
    let room = closed_fit d level (k + 1) d.slots (key_pairs keys) before fits in
    places_short d (before ++ closed ++ list_of c.take_key-closed.result)
    (before ++ level_pages d (key_pairs keys) level) (g.D.Disk.state start) (g.D.Disk.state c.place_closed.new.disk)
    c.in_err-place_closed.field-0.0 c.from_residual.result c.from_residual.ensures.0
    (c.in_err-place_closed.ensures.places start (before ++ closed) (omega (arith, ap length more, room))
    (c.loop-key.invariant.free_are before are) (c.loop-key.invariant.places start before fits are placed_so))

pub returns-clause-free : goal.returns-clause-free
returns-clause-free g c = λ before are.
    let d = g.W.Draw.drawn c.args.draw.now in
    let level = c.args.level in
    let pairs = key_pairs c.args.keys.now in
    let k = c.loop-key.key-index in
    let end : length pairs ≤ k = omega (arith, c.loop-key-test.false, length-map c.args.keys.now key_pair) in
    let whole = all_closed d level k pairs before c.page.result.now end
    (c.page.ensures ∙ c.loop-key.invariant.last_is) in
    on_ok c.place_closed-2.result (AreFree (placed d (before ++ level_pages d pairs level)) c.place_closed-2.new.free)
    (subst (λ ps. AreFree (placed d ps) c.place_closed-2.new.free) whole
    (c.place_closed-2.ensures.free (before ++ closed_pages d (take k pairs) level)
    (c.loop-key.invariant.free_are before are)))

pub returns-clause-places : goal.returns-clause-places
returns-clause-places g c = λ start before fits are placed_so.
    let d = g.W.Draw.drawn c.args.draw.now in
    let level = c.args.level in
    let pairs = key_pairs c.args.keys.now in
    let k = c.loop-key.key-index in
    let end : length pairs ≤ k = omega (arith, c.loop-key-test.false, length-map c.args.keys.now key_pair) in
    let whole = all_closed d level k pairs before c.page.result.now end
    (c.page.ensures ∙ c.loop-key.invariant.last_is) in
    subst (λ ps. Places d ps (g.D.Disk.state start) (g.D.Disk.state c.place_closed-2.new.disk) c.place_closed-2.result)
    whole
    (c.place_closed-2.ensures.places start (before ++ closed_pages d (take k pairs) level)
    (omega (arith, ap length whole, fits)) (c.loop-key.invariant.free_are before are)
    (c.loop-key.invariant.places start before fits are placed_so))
