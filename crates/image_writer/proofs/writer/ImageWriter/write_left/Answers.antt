use Rattle.std.proofs.Common.{Ok, ap, sym, subst, ◌∙◌, arith}
use Rattle.seeded_draw.specs.AnyDrawn.{any_draw}
use Rattle.store_base.specs.declared.fault.DiskFault.{DiskFault}
use Rattle.store_model.specs.Parameters.{IsParameters, image_len}
use Rattle.store_model.specs.Draws.{draw_of}
use Rattle.image_writer.specs.Sealing.{image_of_pairs}
use Rattle.image_writer.specs.Writing.{AreComplete}
use Rattle.image_writer.proofs.Sealed.{becomes_none}
use Rattle.image_writer.proofs.Written.{complete, now_size, left_placed, left_free, sealed}
use Rattle.image_writer.proofs.writer.ImageWriter.write_left.Goals as goal

pub place_left-requires-clause-in_range : goal.place_left-requires-clause-in_range
unfolding draw_of
place_left-requires-clause-in_range g c =
    let (p, start, s, writing, fits) = c.requires in
    omega (
      arith,
      ap (λ d. d.slots) (c.new-draw.ensures ∙ ap draw_of writing.params_are),
      writing.valid.slots_in_range,
    )

pub place_left-requires-clause-size : goal.place_left-requires-clause-size
unfolding draw_of
place_left-requires-clause-size g c =
    let (p, start, s, writing, fits) = c.requires in
    now_size p s (g.D.Disk.state start) (g.D.Disk.state c.args.disk.now) c.args.self.now writing fits
    ∙ ap (λ d. image_len d.slots) (sym (c.new-draw.ensures ∙ ap draw_of writing.params_are))

pub place_left-requires-clause-slots : goal.place_left-requires-clause-slots
unfolding draw_of
place_left-requires-clause-slots g c =
    let (p, start, s, writing, fits) = c.requires in
    writing.slots ∙ ap (λ d. d.slots) (sym (c.new-draw.ensures ∙ ap draw_of writing.params_are))

pub place_left-requires-clause-complete : goal.place_left-requires-clause-complete
place_left-requires-clause-complete g c =
    let (p, start, s, writing, fits) = c.requires in (
      s,
      subst (λ d. AreComplete d s c.args.self.now.kept) (sym (c.new-draw.ensures ∙ ap draw_of writing.params_are))
          (complete p s (g.D.Disk.state start) (g.D.Disk.state c.args.disk.now) c.args.self.now writing fits),
    )

pub seal-requires-clause-valid : goal.seal-requires-clause-valid
seal-requires-clause-valid g c =
    let (p, start, s, writing, fits) = c.requires in
    subst IsParameters (sym writing.params_are) writing.valid

pub seal-requires-clause-slots : goal.seal-requires-clause-slots
unfolding draw_of
seal-requires-clause-slots g c = c.in_ok-place_left.ensures.slots ∙ ap (λ d. d.slots) c.new-draw.ensures

pub seal-requires-clause-size : goal.seal-requires-clause-size
seal-requires-clause-size g c =
    let (p, start, s, writing, fits) = c.requires in
    c.in_ok-place_left.ensures.calls.size
    ∙ now_size p s (g.D.Disk.state start) (g.D.Disk.state c.args.disk.now) c.args.self.now writing fits
    ∙ ap (λ q. image_len q.slots) (sym writing.params_are)

pub returns-in_err-place_left-clause-becomes : goal.returns-in_err-place_left-clause-becomes
unfolding draw_of
returns-in_err-place_left-clause-becomes g c = λ p start s writing fits observable differs.
    let first = g.D.Disk.state start in
    let old = g.D.Disk.state c.args.disk.now in
    let mid = g.D.Disk.state c.place_left.new.disk in
    becomes_none p (image_of_pairs p s) first mid differs
    ((left_placed p s first old c.args.self.now writing fits (any_draw c.new-draw.result)
    (c.new-draw.ensures ∙ ap draw_of writing.params_are) c.place_left.new.free mid c.place_left.result
    (c.place_left.ensures.places start s)).keeps observable)
    c.from_residual.result c.from_residual.ensures.0

pub returns-clause-becomes : goal.returns-clause-becomes
returns-clause-becomes g c = λ p start s writing fits observable differs.
    let first = g.D.Disk.state start in
    let old = g.D.Disk.state c.args.disk.now in
    let mid = g.D.Disk.state c.place_left.new.disk in
    let drawn = any_draw c.new-draw.result in
    let drawn_is = c.new-draw.ensures ∙ ap draw_of writing.params_are in
    let free = c.place_left.new.free in
    sealed p s first old c.args.self.now writing fits free mid (g.D.Disk.state c.seal.new.disk) c.seal.result
    (λ pages room are there. c.seal.ensures.becomes start pages observable differs room are there)
    (left_free p s first old c.args.self.now writing fits {T = Unit {0}} {E = DiskFault} drawn drawn_is free mid (Ok tt)
    (c.in_ok-place_left.ensures.free s))
    (left_placed p s first old c.args.self.now writing fits {T = Unit {0}} {E = DiskFault} drawn drawn_is free mid
    (Ok tt)
    (c.in_ok-place_left.ensures.places start s)).done
