use Rattle.std.proofs.Common.{◌++◌, codes}
use Rattle.std.specs.Fmt.{decimal}
use Rattle.std.proofs.lemmas.Result.{err_from_is_err_and}
use Rattle.store_model.specs.Commands.{reply_text, line}
use Rattle.script_lines.specs.Replies.{reply_of}
use Rattle.script_lines.specs.Sessions.{session_text}
use Rattle.script_lines.proofs.ReplyLemmas.{IsPut-more, IsPut-cut}
use Rattle.script_lines.proofs.session_reply.write_conflict.Goals as goal

pub returns-in_err-write_conflict_line : goal.returns-in_err-write_conflict_line
unfolding session_text
returns-in_err-write_conflict_line g c =
    let st = g.W.Sink.state in
    let old = st c.args.sink.now in
    let new = st c.write_conflict_line.new.sink in
    let head = line (codes "conflict " ++ decimal c.args.question) in
    let was = reply_text (reply_of c.args.was.now) in
    let p = err_from_is_err_and c.from_residual.result c.from_residual.ensures.1 in
    rw p.1 (IsPut-cut old new (head ++ was) _ p.0 _
    (IsPut-cut {U = Unit {0}} old new head was _ _ c.in_err-write_conflict_line.ensures))

pub returns-in_err-write_reply : goal.returns-in_err-write_reply
unfolding session_text
returns-in_err-write_reply g c =
    let st = g.W.Sink.state in
    let old = st c.args.sink.now in
    let mid = st c.write_conflict_line.new.sink in
    let new = st c.write_reply.new.sink in
    let head = line (codes "conflict " ++ decimal c.args.question) in
    let was = reply_text (reply_of c.args.was.now) in
    let p = err_from_is_err_and c.from_residual-in_err-write_reply.result c.from_residual-in_err-write_reply.ensures.1
    in
    rw p.1 (IsPut-cut old new (head ++ was) _ _ _
    (IsPut-more {U = Unit {0}} old mid new head was _ _
    c.in_ok-write_conflict_line.ensures c.in_err-write_reply.ensures))

pub returns : goal.returns
unfolding session_text
returns g c =
    let st = g.W.Sink.state in
    let old = st c.args.sink.now in
    let mid = st c.write_conflict_line.new.sink in
    let next = st c.write_reply.new.sink in
    let head = line (codes "conflict " ++ decimal c.args.question) in
    let was = reply_text (reply_of c.args.was.now) in
    IsPut-more old next (st c.write_reply-2.new.sink) (head ++ was) _ _ _
    (IsPut-more {U = Unit {0}} old mid next head was _ _
    c.in_ok-write_conflict_line.ensures c.in_ok-write_reply.ensures) c.write_reply-2.ensures
