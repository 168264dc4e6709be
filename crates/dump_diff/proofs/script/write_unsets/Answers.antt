use Rattle.std.proofs.lemmas.Result.{err_from_is_err_and}
use Rattle.dump_diff.specs.Scripts.{commands_in, unset_commands}
use Rattle.dump_diff.proofs.Written.{wrote_no_command, wrote_item, puts_failed_item}
use Rattle.dump_diff.proofs.script.write_unsets.Goals as goal

pub loop-attribute-init : goal.loop-attribute-init
loop-attribute-init g c = wrote_no_command (g.W.Sink.state c.args.sink.now)

pub loop-attribute-preserved : goal.loop-attribute-preserved
loop-attribute-preserved g c =
    let st = g.W.Sink.state in
    wrote_item (st c.args.sink.now) (st c.loop-attribute.sink)
    (st c.write_if.new.sink) unset_commands
    c.args.attributes.now c.loop-attribute.attribute-index c.attribute-item.result (commands_in c.unset_of.result)
    c.unset_of.ensures c.loop-attribute-test.true c.attribute-item.is c.loop-attribute.invariant
    c.in_ok-write_if.ensures

pub returns-in_err-write_if : goal.returns-in_err-write_if
returns-in_err-write_if g c =
    let st = g.W.Sink.state in
    let fault = err_from_is_err_and c.from_residual.result c.from_residual.ensures.1 in
    rw fault.1
    (puts_failed_item (st c.args.sink.now) (st c.loop-attribute.sink)
    (st c.write_if.new.sink) unset_commands
    c.args.attributes.now c.loop-attribute.attribute-index c.attribute-item.result
    (commands_in c.unset_of.result) fault.0
    c.unset_of.ensures c.loop-attribute-test.true c.attribute-item.is c.loop-attribute.invariant
    c.in_err-write_if.ensures)
