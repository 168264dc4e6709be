use Rattle.std.proofs.Common.{false, subst}
use Rattle.box_calls.specs.Makings.{EndsMade}
use Rattle.box_calls.proofs.Storing.{create_untold}
use Rattle.box_calls.proofs.create.create_image.Goals as goal

pub returns-clause-untold : goal.returns-clause-untold
returns-clause-untold g c kept untold none =
    let disk = g.D.Disk.state in
    let folder = g.F.Folder.state in
    let say = g.E.Sink.state in
    let plan = c.args.planned.plan in
    let packed = c.args.packed in
    let made = c.create-disk in
    let ended = c.end_part-status in
    create_untold plan.params plan.is_laddered packed.found.items (folder packed.folder) (folder made.result.folder)
    (disk c.args.disk) (disk made.result.disk) false packed.left_out ended.result
    (say c.args.say) (say ended.new.sink) untold none made.result.done
    (subst (λ done. EndsMade false done packed.left_out ended.result (say c.args.say)
    (say ended.new.sink)) c.create_trouble-trouble.ensures ended.ensures) made.ensures.unmade
