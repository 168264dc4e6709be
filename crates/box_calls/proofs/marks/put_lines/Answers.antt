use Rattle.box_calls.proofs.Printing.{lines_broken}
use Rattle.box_calls.proofs.marks.put_lines.Goals as goal

pub returns-in_err-put_line : goal.returns-in_err-put_line
returns-in_err-put_line g c =
    let st = g.W.Sink.state in
    lines_broken (st c.args.sink.now) (st c.loop-difference.sink) (st c.put_line.new.sink) c.args.form c.args.found.now
    c.loop-difference.difference-index c.difference-item.result c.from_residual.result c.in_err-put_line.field-0.0
    c.loop-difference-test.true c.difference-item.is c.from_residual.ensures.1 c.loop-difference.invariant
    c.in_err-put_line.ensures
