use Rattle.std.proofs.Common.{refl, ap, sym, subst, ◌∙◌, arith}
use Rattle.seeded_draw.specs.AnyDrawn.{any_draw}
use Rattle.store_model.specs.Parameters.{image_len}
use Rattle.store_model.specs.Draws.{draw_of}
use Rattle.rising_pages.specs.Kept.{PairCame}
use Rattle.image_writer.proofs.Written.{next_comes, old_size, kept_alone, placed_page, written_more, stays_none}
use Rattle.image_writer.proofs.writer.ImageWriter.push_onto.Goals as goal

pub push-requires : goal.push-requires
push-requires g c =
    let (p, start, s, next) = c.requires in (
      draw_of p,
      s,
      next_comes p s c.args.level c.args.pair (g.D.Disk.state start) (g.D.Disk.state c.args.disk.now) c.args.self.now
          next,
    )

pub place_page-requires-clause-in_range : goal.place_page-requires-clause-in_range
unfolding draw_of
place_page-requires-clause-in_range g c =
    let (p, start, s, next) = c.requires in
    omega (
      arith,
      ap (λ d. d.slots) (c.new-draw.ensures ∙ ap draw_of next.writing.params_are),
      next.writing.valid.slots_in_range,
    )

pub place_page-requires-clause-size : goal.place_page-requires-clause-size
unfolding draw_of
place_page-requires-clause-size g c =
    let (p, start, s, next) = c.requires in
    old_size p s c.args.level c.args.pair (g.D.Disk.state start) (g.D.Disk.state c.args.disk.now) c.args.self.now next
    ∙ ap (λ d. image_len d.slots) (sym (c.new-draw.ensures ∙ ap draw_of next.writing.params_are))

pub place_page-requires-clause-slots : goal.place_page-requires-clause-slots
unfolding draw_of
place_page-requires-clause-slots g c =
    let (p, start, s, next) = c.requires in
    next.writing.slots ∙ ap (λ d. d.slots) (sym (c.new-draw.ensures ∙ ap draw_of next.writing.params_are))

-- nothing was written
pub returns-in_err-closed-clause-none : goal.returns-in_err-closed-clause-none
returns-in_err-closed-clause-none g c = λ p start s next observable differs.
    stays_none p.slots (g.D.Disk.state start) (g.D.Disk.state c.args.disk.now) differs (next.writing.keeps observable)

pub returns-in-None-clause-writes : goal.returns-in-None-clause-writes
returns-in-None-clause-writes g c = λ p start s next.
    let first = g.D.Disk.state start in
    let old = g.D.Disk.state c.args.disk.now in
    let writer = c.args.self.now in
    let pair = c.args.pair in
    kept_alone p s c.args.level pair first old writer next _
    (subst (λ o. PairCame (draw_of p) s pair o c.push.new.self) c.in-None.is
    (c.in_ok-closed.ensures (draw_of p) s (next_comes p s c.args.level pair first old writer next))) refl refl

pub returns-in-None-clause-none : goal.returns-in-None-clause-none
returns-in-None-clause-none g c = λ p start s next observable differs.
    stays_none p.slots (g.D.Disk.state start) (g.D.Disk.state c.args.disk.now) differs (next.writing.keeps observable)

-- the page that was closed was placed
pub returns-in_err-place_page-in-Some-clause-none : goal.returns-in_err-place_page-in-Some-clause-none
unfolding draw_of
returns-in_err-place_page-in-Some-clause-none g c = λ p start s next observable differs.
    let first = g.D.Disk.state start in
    let old = g.D.Disk.state c.args.disk.now in
    let new = g.D.Disk.state c.place_page.new.disk in
    let writer = c.args.self.now in
    let pair = c.args.pair in
    let came = subst (λ o. PairCame (draw_of p) s pair o c.push.new.self) c.in-Some.is
    (c.in_ok-closed.ensures (draw_of p) s (next_comes p s c.args.level pair first old writer next)) in
    stays_none p.slots first new differs
    ((placed_page p s c.args.level pair first old writer next c.in-Some.closed c.push.new.self came
    (any_draw c.new-draw.result) (c.new-draw.ensures ∙ ap draw_of next.writing.params_are) new
    c.place_page.result (c.place_page.ensures.places start)).keeps observable)

pub returns-in_ok-place_page-in-Some-clause-writes : goal.returns-in_ok-place_page-in-Some-clause-writes
returns-in_ok-place_page-in-Some-clause-writes g c = λ p start s next.
    let first = g.D.Disk.state start in
    let old = g.D.Disk.state c.args.disk.now in
    let new = g.D.Disk.state c.place_page.new.disk in
    let writer = c.args.self.now in
    let pair = c.args.pair in
    let came = subst (λ o. PairCame (draw_of p) s pair o c.push.new.self) c.in-Some.is
    (c.in_ok-closed.ensures (draw_of p) s (next_comes p s c.args.level pair first old writer next)) in
    written_more p s c.args.level pair first old writer next c.in-Some.closed c.push.new.self came
    (any_draw c.new-draw.result) (c.new-draw.ensures ∙ ap draw_of next.writing.params_are) new _ _ refl refl
    c.place_page.ensures.slots c.place_page.ensures.free (c.in_ok-place_page-in-Some.ensures.places start)

pub returns-in_ok-place_page-in-Some-clause-none : goal.returns-in_ok-place_page-in-Some-clause-none
unfolding draw_of
returns-in_ok-place_page-in-Some-clause-none g c = λ p start s next observable differs.
    let first = g.D.Disk.state start in
    let old = g.D.Disk.state c.args.disk.now in
    let new = g.D.Disk.state c.place_page.new.disk in
    let writer = c.args.self.now in
    let pair = c.args.pair in
    let came = subst (λ o. PairCame (draw_of p) s pair o c.push.new.self) c.in-Some.is
    (c.in_ok-closed.ensures (draw_of p) s (next_comes p s c.args.level pair first old writer next)) in
    stays_none p.slots first new differs
    ((placed_page p s c.args.level pair first old writer next c.in-Some.closed c.push.new.self came
    (any_draw c.new-draw.result) (c.new-draw.ensures ∙ ap draw_of next.writing.params_are) new
    c.place_page.result (c.place_page.ensures.places start)).keeps observable)
