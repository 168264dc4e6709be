use Rattle.std.proofs.Common.{◌≡◌, take, List, ◌++◌, sym, ap, arith, codes}
use Rattle.std.specs.List.{flat_map}
use Rattle.std.proofs.lemmas.List.{take_all}
use Rattle.std.proofs.lemmas.Result.{err_from_is_err_and}
use Rattle.store_model.specs.Commands.{reply_text, attribute_line, line, AttributeSize}
use Rattle.script_lines.proofs.ReplyLemmas.{PutsPart-trans, PutsPart-push, IsPut-last, IsPut-fails, flat_map-one_more}
use Rattle.script_lines.proofs.ReplyLemmas.{flat_map-front}
use Rattle.script_lines.proofs.reply.write_attributes.Goals as goal

pub returns-in_err-make_room : goal.returns-in_err-make_room
unfolding reply_text
returns-in_err-make_room g c =
    let st = g.W.Sink.state in
    let attributes = c.args.attributes.now in
    let p = err_from_is_err_and c.from_residual.result c.from_residual.ensures.1 in
    rw p.1 (IsPut-fails (st c.args.sink.now) (st c.loop-index.sink) (st c.make_room.new.sink)
    (flat_map attribute_line (take c.loop-index.index attributes)) c.loop-index.text _ _ _
    c.loop-index.invariant c.in_err-make_room.ensures.puts
    (flat_map-front attribute_line attributes c.loop-index.index (line (codes "end"))))

pub loop-index-preserved : goal.loop-index-preserved
loop-index-preserved g c =
    let st = g.W.Sink.state in
    let attributes = c.args.attributes.now in
    let before = flat_map attribute_line (take c.loop-index.index attributes) in
    let attribute : AttributeSize = (c.get-size.result.0.now, c.get-size.result.1) in
    PutsPart-push (st c.args.sink.now) (st c.make_room.new.sink) before
    c.make_room.new.text (attribute_line attribute) _ _
    (PutsPart-trans (st c.args.sink.now) (st c.loop-index.sink)
    (st c.make_room.new.sink) before c.loop-index.text c.make_room.new.text c.loop-index.invariant
    c.in_ok-make_room.ensures.puts)
    (flat_map-one_more attribute_line attributes c.loop-index.index attribute (omega arith) c.get-size.ensures.value)
    c.push_attribute.ensures

pub returns-in_err-make_room-2 : goal.returns-in_err-make_room-2
unfolding reply_text
returns-in_err-make_room-2 g c =
    let st = g.W.Sink.state in
    let attributes = c.args.attributes.now in
    let p = err_from_is_err_and c.from_residual-in_err-make_room-2.result c.from_residual-in_err-make_room-2.ensures.1
    in
    rw p.1 (IsPut-fails (st c.args.sink.now) (st c.loop-index.sink) (st c.make_room-2.new.sink)
    (flat_map attribute_line (take c.loop-index.index attributes)) c.loop-index.text _ _ _
    c.loop-index.invariant c.in_err-make_room-2.ensures.puts
    (flat_map-front attribute_line attributes c.loop-index.index (line (codes "end"))))

pub returns : goal.returns
unfolding reply_text
returns g c =
    let st = g.W.Sink.state in
    let attributes = c.args.attributes.now in
    let before = flat_map attribute_line (take c.loop-index.index attributes) in
    let all : flat_map attribute_line attributes ++ line (codes "end") ≡ before ++ line (codes "end") =
    ap (λ (xs : List AttributeSize). flat_map attribute_line xs ++ line (codes "end"))
    (sym (take_all c.loop-index.index attributes (omega arith))) in
    IsPut-last (st c.args.sink.now) (st c.make_room-2.new.sink) (st c.put.new.self) _ c.push.new.self c.put.result
    (PutsPart-push (st c.args.sink.now) (st c.make_room-2.new.sink) before
    c.make_room-2.new.text (line (codes "end")) _ _
    (PutsPart-trans (st c.args.sink.now) (st c.loop-index.sink)
    (st c.make_room-2.new.sink) before c.loop-index.text c.make_room-2.new.text c.loop-index.invariant
    c.in_ok-make_room-2.ensures.puts)
    all c.push.ensures)
    (rw c.as_slice.ensures at c.put.ensures)
