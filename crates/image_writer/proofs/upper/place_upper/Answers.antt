use Rattle.std.proofs.Common.{rules, ◌≡◌, ◌+◌, List, [], ◌++◌, length, ap, subst, arith}
use Rattle.store_model.specs.Pages.{Page, level_pages}
use Rattle.gate_journal.proofs.Calls.{AreCalls-none}
use Rattle.rising_pages.specs.FreePlaces.{AreFree}
use Rattle.rising_pages.specs.Raised.{key_pairs, upper_pages}
use Rattle.image_writer.specs.Placing.{placed, ArePlaced}
use Rattle.image_writer.proofs.LevelsPlaced.{places_short}
use Rattle.image_writer.proofs.UpperPlaced.{levels_below, no_level, one_level_more, levels_fit, all_levels}
use Rattle.image_writer.proofs.UpperPlaced.{places_so_far}
use Rattle.image_writer.proofs.upper.place_upper.Goals as goal

pub loop-level-init : goal.loop-level-init
loop-level-init g c =
    let d = g.W.Draw.drawn c.args.draw.now in
    let pairs = key_pairs c.args.keys.now in
    record {
      calls = AreCalls-none (g.D.Disk.state c.args.disk.now) tt;
      slots = c.requires.slots;
      free_are = λ before are. subst (λ ps. AreFree (placed d ps) c.args.free.now) (no_level d pairs before) are;
      places = λ start before fits are placed_so.
          subst (λ ps. ArePlaced d ps (g.D.Disk.state start) (g.D.Disk.state c.args.disk.now))
          (no_level d pairs before) placed_so;
    }

pub loop-level-preserved : goal.loop-level-preserved
loop-level-preserved g c =
    let d = g.W.Draw.drawn c.args.draw.now in
    let pairs = key_pairs c.args.keys.now in
    let level = c.loop-level.level in
    let more : (before : List Page) → before ++ levels_below d pairs level ++ level_pages d pairs level
    ≡ before ++ levels_below d pairs (level + 1) =
    λ before. one_level_more d pairs level before c.loop-level.auto.level in
    record {
      calls = search rules;
      slots = c.in_ok-place_level.ensures.slots;
      free_are = λ before are. subst (λ ps. AreFree (placed d ps) c.place_level.new.free) (more before)
          (c.in_ok-place_level.ensures.free (before ++ levels_below d pairs level)
          (c.loop-level.invariant.free_are before are));
      places = λ start before fits are placed_so.
          let room = levels_fit d pairs level before
          (omega (arith, c.loop-level-test.true, c.height-level-end.ensures)) fits in
          subst (λ ps. ArePlaced d ps (g.D.Disk.state start) (g.D.Disk.state c.place_level.new.disk)) (more before)
          (c.in_ok-place_level.ensures.places start (before ++ levels_below d pairs level)
          (omega (arith, ap length (more before), room)) (c.loop-level.invariant.free_are before are)
          (c.loop-level.invariant.places start before fits are placed_so)).done;
    }

pub returns-in_err-place_level-clause-places : goal.returns-in_err-place_level-clause-places
returns-in_err-place_level-clause-places g c = λ start before fits are placed_so.
    let d = g.W.Draw.drawn c.args.draw.now in
    let pairs = key_pairs c.args.keys.now in
    let level = c.loop-level.level in
    let more = one_level_more d pairs level before c.loop-level.auto.level in
    let room = levels_fit d pairs level before (omega (arith, c.loop-level-test.true, c.height-level-end.ensures))
    fits in
    places_short d (before ++ levels_below d pairs level ++ level_pages d pairs level) (before ++ upper_pages d pairs)
    (g.D.Disk.state start) (g.D.Disk.state c.place_level.new.disk) c.in_err-place_level.field-0.0
    c.from_residual.result c.from_residual.ensures.0
    (c.in_err-place_level.ensures.places start (before ++ levels_below d pairs level)
    (omega (arith, ap length more, room)) (c.loop-level.invariant.free_are before are)
    (c.loop-level.invariant.places start before fits are placed_so))

pub returns-clause-free : goal.returns-clause-free
returns-clause-free g c = λ before are.
    let d = g.W.Draw.drawn c.args.draw.now in
    let pairs = key_pairs c.args.keys.now in
    let level = c.loop-level.level in
    let some = (g.met.W.Draw.lawful c.args.draw.now).level_in_range [] in
    let end : level ≡ d.height =
    omega (arith, some, c.loop-level-test.false, c.loop-level.auto.level-end, c.height-level-end.ensures) in
    subst (λ ps. AreFree (placed d ps) c.loop-level.free) (all_levels d pairs level before end)
    (c.loop-level.invariant.free_are before are)

pub returns-clause-places : goal.returns-clause-places
returns-clause-places g c = λ start before fits are placed_so.
    let d = g.W.Draw.drawn c.args.draw.now in
    let pairs = key_pairs c.args.keys.now in
    let level = c.loop-level.level in
    let some = (g.met.W.Draw.lawful c.args.draw.now).level_in_range [] in
    let end : level ≡ d.height =
    omega (arith, some, c.loop-level-test.false, c.loop-level.auto.level-end, c.height-level-end.ensures) in
    places_so_far d (before ++ upper_pages d pairs) (g.D.Disk.state start) (g.D.Disk.state c.loop-level.disk)
    (subst (λ ps. ArePlaced d ps (g.D.Disk.state start) (g.D.Disk.state c.loop-level.disk))
    (all_levels d pairs level before end) (c.loop-level.invariant.places start before fits are placed_so))
