use Rattle.std.proofs.Common.{sym, ap, subst, ◌∙◌, Err}
use Rattle.store_core.specs.StoreCalls.{IsAttached, IsRefused}
use Rattle.box_calls.specs.Endings.{Ends}
use Rattle.box_changes.specs.declared.noted.NotedDisk.{NotedDisk}
use Rattle.box_changes.specs.Changing.{ChangesImage}
use Rattle.box_changes.specs.Endings.{EndsChange}
use Rattle.box_changes.proofs.Opened.{unopened_image, changed_image}
use Rattle.box_changes.proofs.change.change_image.Goals as goal

pub returns-in-Err : goal.returns-in-Err
returns-in-Err g c =
    let st = g.D.Disk.state in
    let say = g.E.Sink.state in
    let ended = c.ended-status in
    unopened_image c.args.place.now.sums_up (g.C.Change.means c.args.change) (g.C.Change.refuses c.args.change)
    c.in-Err.fault (st c.args.disk) (st c.into_disk.result) (say c.args.say) (say ended.new.sink) ended.result
    (subst (λ d. IsRefused (st d) c.in-Err.fault (st c.into_disk.result)) c.new.ensures.disk
    (subst (λ d. IsRefused (st c.new.result.disk) c.in-Err.fault (st d)) (sym c.into_disk.ensures)
    c.in-Err.ensures.call.refused))
    (subst (λ t. Ends (Err t) ended.result (say c.args.say) (say ended.new.sink)) c.open_trouble.ensures ended.ensures)

pub returns : goal.returns
returns g c =
    let st = g.D.Disk.state in
    let say = g.E.Sink.state in
    let means = g.C.Change.means c.args.change in
    let refuses = g.C.Change.refuses c.args.change in
    let ended = c.end_change-status in
    let left = c.make-done.new.store in
    let sums = c.args.place.now.sums_up in
    subst (λ d. ChangesImage sums means refuses (st c.args.disk) (st d) (say c.args.say) (say ended.new.sink)
    ended.result) (sym (c.into_disk-3.ensures ∙ ap (λ (d : NotedDisk _). d.disk) c.into_disk-2.ensures))
    (changed_image (λ (d : NotedDisk _). st d.disk) sums c.of-full.result.recovered means refuses c.args.there
    (st c.args.disk) c.in-Ok.store left c.make-done.result (say c.args.say) (say ended.new.sink) ended.result
    (subst (λ d. IsAttached (λ (n : NotedDisk _). st n.disk) (st d) c.in-Ok.store) c.new.ensures.disk
    c.in-Ok.ensures.call.attached) c.make-done.ensures
    (subst (λ done. EndsChange sums c.of-full.result.recovered done 0 ended.result (say c.args.say)
    (say ended.new.sink)) c.change_done.ensures ended.ensures))
