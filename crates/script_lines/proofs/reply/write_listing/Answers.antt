use Rattle.std.proofs.Common.{◌≡◌, take, List, ◌++◌, sym, ap, arith, codes}
use Rattle.std.specs.List.{flat_map}
use Rattle.std.proofs.lemmas.List.{take_all}
use Rattle.std.proofs.lemmas.Result.{err_from_is_err_and}
use Rattle.store_model.specs.Commands.{reply_text, child_line, line, Child}
use Rattle.script_lines.proofs.ReplyLemmas.{PutsPart-trans, PutsPart-push, IsPut-last, IsPut-fails, flat_map-one_more}
use Rattle.script_lines.proofs.ReplyLemmas.{flat_map-front}
use Rattle.script_lines.proofs.reply.write_listing.Goals as goal

pub returns-in_err-make_room : goal.returns-in_err-make_room
unfolding reply_text
returns-in_err-make_room g c =
    let st = g.W.Sink.state in
    let children = c.args.entries.now in
    let p = err_from_is_err_and c.from_residual.result c.from_residual.ensures.1 in
    rw p.1 (IsPut-fails (st c.args.sink.now) (st c.loop-index.sink) (st c.make_room.new.sink)
    (flat_map child_line (take c.loop-index.index children)) c.loop-index.text _ _ _
    c.loop-index.invariant c.in_err-make_room.ensures.puts
    (flat_map-front child_line children c.loop-index.index (line (codes "end"))))

pub loop-index-preserved : goal.loop-index-preserved
loop-index-preserved g c =
    let st = g.W.Sink.state in
    let children = c.args.entries.now in
    let before = flat_map child_line (take c.loop-index.index children) in
    let child : Child = (c.get-size.result.0.now, c.get-size.result.1) in
    PutsPart-push (st c.args.sink.now) (st c.make_room.new.sink) before c.make_room.new.text (child_line child) _ _
    (PutsPart-trans (st c.args.sink.now) (st c.loop-index.sink)
    (st c.make_room.new.sink) before c.loop-index.text c.make_room.new.text c.loop-index.invariant
    c.in_ok-make_room.ensures.puts)
    (flat_map-one_more child_line children c.loop-index.index child (omega arith) c.get-size.ensures.value)
    c.push_child.ensures

pub returns-in_err-make_room-2 : goal.returns-in_err-make_room-2
unfolding reply_text
returns-in_err-make_room-2 g c =
    let st = g.W.Sink.state in
    let children = c.args.entries.now in
    let p = err_from_is_err_and c.from_residual-in_err-make_room-2.result c.from_residual-in_err-make_room-2.ensures.1
    in
    rw p.1 (IsPut-fails (st c.args.sink.now) (st c.loop-index.sink) (st c.make_room-2.new.sink)
    (flat_map child_line (take c.loop-index.index children)) c.loop-index.text _ _ _
    c.loop-index.invariant c.in_err-make_room-2.ensures.puts
    (flat_map-front child_line children c.loop-index.index (line (codes "end"))))

pub returns : goal.returns
unfolding reply_text
returns g c =
    let st = g.W.Sink.state in
    let children = c.args.entries.now in
    let before = flat_map child_line (take c.loop-index.index children) in
    let all : flat_map child_line children ++ line (codes "end") ≡ before ++ line (codes "end") =
    ap (λ (xs : List Child). flat_map child_line xs ++ line (codes "end"))
    (sym (take_all c.loop-index.index children (omega arith))) in
    IsPut-last (st c.args.sink.now) (st c.make_room-2.new.sink) (st c.put.new.self) _ c.push.new.self c.put.result
    (PutsPart-push (st c.args.sink.now) (st c.make_room-2.new.sink) before
    c.make_room-2.new.text (line (codes "end")) _ _
    (PutsPart-trans (st c.args.sink.now) (st c.loop-index.sink)
    (st c.make_room-2.new.sink) before c.loop-index.text c.make_room-2.new.text c.loop-index.invariant
    c.in_ok-make_room-2.ensures.puts)
    all c.push.ensures)
    (rw c.as_slice.ensures at c.put.ensures)
