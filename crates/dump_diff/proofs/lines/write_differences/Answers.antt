use Rattle.std.proofs.Common.{◌≡◌, ◌<◌, List, take, length, get_or, Ok, sym, ap, subst, ◌∙◌}
use Rattle.std.specs.List.{flat_map}
use Rattle.std.proofs.lemmas.Result.{err_from_is_err_and}
use Rattle.dump_diff.specs.declared.difference.Difference.{Difference}
use Rattle.dump_diff.specs.Scripts.{WroteText, difference_line}
use Rattle.script_lines.proofs.Putting.{Puts-none, Puts-one, Puts-then}
use Rattle.dump_diff.proofs.Written.{one_more, puts_failed}
use Rattle.dump_diff.proofs.lines.write_differences.Goals as goal

pub loop-difference-init : goal.loop-difference-init
loop-difference-init g c = Puts-none (g.W.Sink.state c.args.sink.now) tt

pub loop-difference-preserved : goal.loop-difference-preserved
loop-difference-preserved g c =
    let st = g.W.Sink.state in
    let items = c.args.found.now.paths.items in
    let i = c.loop-difference.difference-index in
    let d = c.difference-item.result in
    let within : i < length items =
    subst (λ (xs : List Difference). i < length xs) c.paths-difference-items.ensures c.loop-difference-test.true in
    let at : d ≡ get_or items i d = c.difference-item.is
    ∙ ap (λ (xs : List Difference). get_or xs i d) c.paths-difference-items.ensures in
    subst (WroteText (st c.args.sink.now) (st c.write_difference.new.sink))
    (sym (one_more difference_line items i d within at))
    (Puts-then (st c.args.sink.now) (st c.loop-difference.sink) (st c.write_difference.new.sink)
    (flat_map difference_line (take i items)) (difference_line d) tt (Ok tt) c.loop-difference.invariant
    (Puts-one (st c.loop-difference.sink) (st c.write_difference.new.sink) (difference_line d)
    (Ok tt) c.in_ok-write_difference.ensures))

pub returns-in_err-write_difference : goal.returns-in_err-write_difference
returns-in_err-write_difference g c =
    let st = g.W.Sink.state in
    let items = c.args.found.now.paths.items in
    let i = c.loop-difference.difference-index in
    let d = c.difference-item.result in
    let within : i < length items =
    subst (λ (xs : List Difference). i < length xs) c.paths-difference-items.ensures c.loop-difference-test.true in
    let at : d ≡ get_or items i d = c.difference-item.is
    ∙ ap (λ (xs : List Difference). get_or xs i d) c.paths-difference-items.ensures in
    let fault = err_from_is_err_and c.from_residual.result c.from_residual.ensures.1 in
    rw fault.1
    (puts_failed (st c.args.sink.now) (st c.loop-difference.sink) (st c.write_difference.new.sink) difference_line items
    i d fault.0 within at c.loop-difference.invariant
    (Puts-one (st c.loop-difference.sink) (st c.write_difference.new.sink)
    (difference_line d) _ c.in_err-write_difference.ensures))
