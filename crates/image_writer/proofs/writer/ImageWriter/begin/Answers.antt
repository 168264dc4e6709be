use Rattle.std.proofs.Common.{replicate, true, refl, ap, ◌∙◌}
use Rattle.store_model.specs.Draws.{draw_of}
use Rattle.image_writer.proofs.Written.{begun}
use Rattle.image_writer.proofs.writer.ImageWriter.begin.Goals as goal

pub returns : goal.returns
unfolding draw_of
returns g c =
    begun c.args.params.now (g.D.Disk.state c.args.disk.now) _ c.slots-slots.ensures.valid c.requires
    (g.met.D.Disk.sound c.args.disk.now) refl
    (c.new-kept.ensures (draw_of c.args.params.now) c.slots-slots.ensures.value)
    (c.in_ok-free.ensures ∙ ap (λ n. replicate n true) c.slots-slots.ensures.value)
