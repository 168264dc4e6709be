use Rattle.std.proofs.lemmas.Result.{err_from_is_err_and}
use Rattle.script_runs.proofs.ScriptTurns.{line_more, line_cut_off}
use Rattle.script_runs.proofs.lines.ScriptWork.answered.Goals as goal

pub returns-in_err-write_reply-clause-turn : goal.returns-in_err-write_reply-clause-turn
returns-in_err-write_reply-clause-turn g c =
    let status = err_from_is_err_and c.from_residual.result c.from_residual.ensures.1 in
    λ start first done asked due replies. rw (status.1, status.2)
    (line_cut_off start first due.kept due.reads c.args.reply.now replies c.write_reply.new.sink
    c.in_err-write_reply.ensures)

pub returns-clause-turn : goal.returns-clause-turn
returns-clause-turn g c =
    λ start first done asked due replies. line_more start first due.kept due.reads c.args.reply.now replies
    c.write_reply.new.sink c.in_ok-write_reply.ensures
