use Rattle.std.proofs.Common.{◌≤◌, List, length, sym, ap, subst, ◌∙◌}
use Rattle.store_model.specs.Draws.{draw_of}
use Rattle.store_model.specs.Pages.{pages_of_pairs}
use Rattle.store_model.specs.Pairs.{Pair}
use Rattle.image_writer.specs.Sealing.{image_of_pairs, Becomes}
use Rattle.image_create.proofs.Empties.{none_fit, none_image}
use Rattle.image_create.proofs.creating.create_empty.Goals as goal

pub returns-clause-becomes : goal.returns-clause-becomes
returns-clause-becomes g c was =
    let p = c.args.params.now in
    subst (λ image. Becomes p image (g.D.Disk.state c.args.disk.now) (g.D.Disk.state c.write_pairs-2.new.disk)
    c.write_pairs-2.result) (ap (image_of_pairs p) c.new.ensures ∙ none_image p)
    (c.write_pairs-2.ensures.becomes was.0 was.1)

pub returns-clause-faults : goal.returns-clause-faults
returns-clause-faults g c =
    let d = draw_of c.args.params.now in
    c.write_pairs-2.ensures.fits
    (subst (λ (s : List Pair). length (pages_of_pairs d s) ≤ d.slots) (sym c.new.ensures) (none_fit d))
