use Rattle.std.proofs.Common.{ℕ, subst, Result, Ok, Err}
use Rattle.std.proofs.lemmas.Result.{err_from_is_err_and}
use Rattle.script_lines.proofs.ReplyLemmas.{IsPut-cut}
use Rattle.script_lines.specs.declared.fault.SinkFault.{SinkFault}
use Rattle.script_lines.specs.SinkState.{IsPut, Puts}
use Rattle.slot_map.specs.Pictures.{used_count, title_text, body_text, picture_text}
use Rattle.slot_map.proofs.Putting.{IsPut-from}
use Rattle.slot_map.proofs.picture.write_picture.Goals as goal

pub returns-in_err-write_title : goal.returns-in_err-write_title
unfolding picture_text
returns-in_err-write_title g c =
    let st = g.W.Sink.state in
    let p = c.args.params.now in
    let title = title_text p (used_count c.args.chars.now) in
    let body = body_text p.slots c.args.flag c.args.chars.now c.args.marks.now in
    let fault = err_from_is_err_and c.from_residual.result c.from_residual.ensures.1 in
    let failed : Result (Unit {0}) SinkFault = Err c.in_err-write_title.field-0.0 in
    rw fault.1 (IsPut-cut (st c.args.sink.now) (st c.write_title.new.sink) title body _
    fault.0 (subst (λ (n : ℕ). IsPut (st c.args.sink.now) (st c.write_title.new.sink) (title_text p n) failed)
    c.used_count.ensures c.in_err-write_title.ensures))

pub returns : goal.returns
unfolding picture_text
returns g c =
    let st = g.W.Sink.state in
    let p = c.args.params.now in
    let title = title_text p (used_count c.args.chars.now) in
    let body = body_text p.slots c.args.flag c.args.chars.now c.args.marks.now in
    let written : Result (Unit {0}) SinkFault = Ok c.in_ok-write_title.field-0 in
    IsPut-from (st c.args.sink.now) (st c.write_title.new.sink) (st c.write_body.new.sink) title body _ _
    (subst (λ (n : ℕ). IsPut (st c.args.sink.now) (st c.write_title.new.sink) (title_text p n) written)
    c.used_count.ensures c.in_ok-write_title.ensures)
    (subst (λ (n : ℕ). Puts (st c.write_title.new.sink) (st c.write_body.new.sink)
    (body_text n c.args.flag c.args.chars.now c.args.marks.now) c.write_body.result)
    c.slots-slots.ensures.value c.write_body.ensures)
