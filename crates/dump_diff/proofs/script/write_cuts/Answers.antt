use Rattle.std.proofs.Common.{◌≡◌, ◌<◌, List, length, get_or, ap, subst, ◌∙◌}
use Rattle.std.proofs.lemmas.Result.{err_from_is_err_and}
use Rattle.dump_diff.specs.declared.difference.Difference.{Difference}
use Rattle.dump_diff.specs.Differences.{marks_of}
use Rattle.dump_diff.specs.Scripts.{commands_in, cut_commands}
use Rattle.dump_diff.proofs.Written.{wrote_no_command, wrote_item, puts_failed_item}
use Rattle.dump_diff.proofs.script.write_cuts.Goals as goal

pub loop-difference-init : goal.loop-difference-init
loop-difference-init g c rising = wrote_no_command (g.W.Sink.state c.args.sink.now)

pub loop-difference-preserved : goal.loop-difference-preserved
loop-difference-preserved g c rising =
    let st = g.W.Sink.state in
    let items = c.args.found.now.paths.items in
    let within : c.loop-difference.difference-index < length items =
    subst (λ (xs : List Difference). c.loop-difference.difference-index < length xs)
    c.paths-difference-items.ensures c.loop-difference-test.true in
    let at : c.difference-item.result ≡ get_or items c.loop-difference.difference-index c.difference-item.result =
    c.difference-item.is
    ∙ ap (λ (xs : List Difference). get_or xs c.loop-difference.difference-index c.difference-item.result)
    c.paths-difference-items.ensures in
    wrote_item (st c.args.sink.now) (st c.loop-difference.sink) (st c.write_if.new.sink)
    (cut_commands (marks_of items)) items c.loop-difference.difference-index c.difference-item.result
    (commands_in c.cut_of.result)
    (c.cut_of.ensures rising) within at (c.loop-difference.invariant rising) c.in_ok-write_if.ensures

pub returns-in_err-write_if : goal.returns-in_err-write_if
returns-in_err-write_if g c rising =
    let st = g.W.Sink.state in
    let items = c.args.found.now.paths.items in
    let within : c.loop-difference.difference-index < length items =
    subst (λ (xs : List Difference). c.loop-difference.difference-index < length xs)
    c.paths-difference-items.ensures c.loop-difference-test.true in
    let at : c.difference-item.result ≡ get_or items c.loop-difference.difference-index c.difference-item.result =
    c.difference-item.is
    ∙ ap (λ (xs : List Difference). get_or xs c.loop-difference.difference-index c.difference-item.result)
    c.paths-difference-items.ensures in
    let fault = err_from_is_err_and c.from_residual.result c.from_residual.ensures.1 in
    rw fault.1
    (puts_failed_item (st c.args.sink.now) (st c.loop-difference.sink) (st c.write_if.new.sink)
    (cut_commands (marks_of items)) items c.loop-difference.difference-index c.difference-item.result
    (commands_in c.cut_of.result) fault.0
    (c.cut_of.ensures rising) within at (c.loop-difference.invariant rising) c.in_err-write_if.ensures)
