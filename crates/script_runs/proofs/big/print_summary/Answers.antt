use Rattle.std.proofs.Common.{◌++◌, List, ℕ, Ok, Err, refl, subst, append_assoc}
use Rattle.std.proofs.lemmas.Result.{err_from_is_err_and}
use Rattle.store_model.specs.Commands.{reply_text}
use Rattle.script_lines.specs.Replies.{reply_of}
use Rattle.script_lines.specs.SinkState.{IsPut}
use Rattle.script_lines.proofs.ReplyLemmas.{PutsPart-refl, PutsPart-trans, PutsPart-push, IsPut-fails, IsPut-last}
use Rattle.script_runs.proofs.GenerationTurns.{put_part, put_fails}
use Rattle.script_runs.proofs.big.print_summary.Goals as goal

pub returns-in_err-put : goal.returns-in_err-put
returns-in_err-put g c =
    let st = g.W.Sink.state in
    let counts : List ℕ = c.args.counts.now in
    let space : List ℕ = reply_text (reply_of c.args.space.now) in
    let digest : List ℕ = reply_text (reply_of c.args.digest.now) in
    let p = err_from_is_err_and c.from_residual.result c.from_residual.ensures.1 in
    let put = subst (λ text. IsPut (st c.args.sink.now) (st c.put.new.self) text (Err c.in_err-put.field-0.0))
    c.as_slice.ensures c.in_err-put.ensures in
    rw p.1 (IsPut-fails (st c.args.sink.now) (st c.args.sink.now) (st c.put.new.self) counts counts
    (counts ++ space ++ digest) (space ++ digest) _ (PutsPart-refl (st c.args.sink.now) counts)
    (put_fails (st c.args.sink.now) (st c.put.new.self) counts _ put) (append_assoc counts space digest))

pub returns-in_err-write_reply : goal.returns-in_err-write_reply
returns-in_err-write_reply g c =
    let st = g.W.Sink.state in
    let counts : List ℕ = c.args.counts.now in
    let space : List ℕ = reply_text (reply_of c.args.space.now) in
    let digest : List ℕ = reply_text (reply_of c.args.digest.now) in
    let p = err_from_is_err_and c.from_residual-in_err-write_reply.result c.from_residual-in_err-write_reply.ensures.1
    in
    let put = subst (λ text. IsPut (st c.args.sink.now) (st c.put.new.self) text (Ok c.in_ok-put.field-0))
    c.as_slice.ensures c.in_ok-put.ensures in
    rw p.1 (IsPut-fails (st c.args.sink.now) (st c.put.new.self) (st c.write_reply.new.sink) (counts ++ space) space
    (counts ++ space ++ digest) digest _
    (put_part (st c.args.sink.now) (st c.put.new.self) counts space _ put)
    (put_fails (st c.put.new.self) (st c.write_reply.new.sink) space _ c.in_err-write_reply.ensures) refl)

pub returns : goal.returns
returns g c =
    let st = g.W.Sink.state in
    let counts : List ℕ = c.args.counts.now in
    let space : List ℕ = reply_text (reply_of c.args.space.now) in
    let digest : List ℕ = reply_text (reply_of c.args.digest.now) in
    let put = subst (λ text. IsPut (st c.args.sink.now) (st c.put.new.self) text (Ok c.in_ok-put.field-0))
    c.as_slice.ensures c.in_ok-put.ensures in
    IsPut-last (st c.args.sink.now) (st c.write_reply.new.sink) (st c.write_reply-2.new.sink)
    (counts ++ space ++ digest) digest c.write_reply-2.result
    (PutsPart-trans (st c.args.sink.now) (st c.put.new.self) (st c.write_reply.new.sink) (counts ++ space ++ digest)
    (space ++ digest) digest
    (PutsPart-push (st c.args.sink.now) (st c.put.new.self) (counts ++ space) space digest (counts ++ space ++ digest)
    (space ++ digest) (put_part (st c.args.sink.now) (st c.put.new.self) counts space _ put) refl refl)
    (put_part (st c.put.new.self) (st c.write_reply.new.sink) space digest _ c.in_ok-write_reply.ensures))
    c.write_reply-2.ensures
