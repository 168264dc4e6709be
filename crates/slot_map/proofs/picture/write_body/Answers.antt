use Rattle.std.proofs.Common.{◌++◌}
use Rattle.std.proofs.lemmas.Result.{err_from_is_err_and}
use Rattle.slot_map.specs.Pictures.{gate_text, rows_text, journal_text}
use Rattle.script_lines.proofs.Putting.{Puts-one, Puts-then, Puts-cut}
use Rattle.slot_map.proofs.picture.write_body.Goals as goal

pub returns-in_err-write_gate : goal.returns-in_err-write_gate
returns-in_err-write_gate g c =
    let st = g.W.Sink.state in
    let gate = gate_text c.args.flag in
    let rows = rows_text c.args.chars.now in
    let journal = journal_text c.args.slots c.args.flag c.args.marks.now in
    let p = err_from_is_err_and c.from_residual.result c.from_residual.ensures.1 in
    rw p.1 (Puts-cut (st c.args.sink.now) (st c.write_gate.new.sink)
    (gate ++ rows) journal p.0 p.0 (Puts-cut {U = Unit {0}} _ _ gate rows _
    p.0 (Puts-one _ _ gate _ c.in_err-write_gate.ensures)))

pub returns-in_err-write_rows : goal.returns-in_err-write_rows
returns-in_err-write_rows g c =
    let st = g.W.Sink.state in
    let gate = gate_text c.args.flag in
    let rows = rows_text c.args.chars.now in
    let journal = journal_text c.args.slots c.args.flag c.args.marks.now in
    let p = err_from_is_err_and c.from_residual-in_err-write_rows.result c.from_residual-in_err-write_rows.ensures.1 in
    rw p.1 (Puts-cut (st c.args.sink.now) (st c.write_rows.new.sink) (gate ++ rows) journal _ p.0
    (Puts-then (st c.args.sink.now) (st c.write_gate.new.sink) (st c.write_rows.new.sink) gate rows _ _
    (Puts-one _ _ gate _ c.in_ok-write_gate.ensures) c.in_err-write_rows.ensures))

pub returns : goal.returns
returns g c =
    let st = g.W.Sink.state in
    let gate = gate_text c.args.flag in
    let rows = rows_text c.args.chars.now in
    let journal = journal_text c.args.slots c.args.flag c.args.marks.now in
    Puts-then (st c.args.sink.now) (st c.write_rows.new.sink) (st c.write_journal.new.sink) (gate ++ rows) journal _ _
    (Puts-then (st c.args.sink.now) (st c.write_gate.new.sink) (st c.write_rows.new.sink) gate rows _ _
    (Puts-one _ _ gate _ c.in_ok-write_gate.ensures) c.in_ok-write_rows.ensures)
    c.write_journal.ensures
