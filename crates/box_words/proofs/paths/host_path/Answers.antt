use Rattle.std.proofs.lemmas.Result.{err_from_is_err_and}
use Rattle.box_words.proofs.PathWords.{front_of, too_long}
use Rattle.box_words.proofs.paths.host_path.Goals as goal

pub returns-in_err-path-clause-too_long : goal.returns-in_err-path-clause-too_long
returns-in_err-path-clause-too_long c =
    let front = front_of (λ r. r.now) c.cut_part.result.0.now c.loop-path.rest.now c.cut_part.result.1
    c.cut_part.ensures.parts in
    let p = err_from_is_err_and c.from_residual.result c.from_residual.ensures.1 in
    rw (p.1, p.2) (λ h. too_long c.args.text.now c.loop-path.path c.loop-path.rest.now c.cut_part.result.0.now
    c.loop-path.invariant front (c.in_err-path.ensures.too_long h))
