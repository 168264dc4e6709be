use Rattle.std.proofs.Common.{◌≡◌, ◌+◌, arith, Ok, Err}
use Rattle.std.proofs.lemmas.Result.{err_from_is_err_and}
use Rattle.script_lines.proofs.CallEnds.{EndsCall-answer, EndsCall-last, EndsCall-fails, EndsCall-after}
use Rattle.script_lines.proofs.StateLemmas.{NextLine-after}
use Rattle.script_lines.proofs.Search.{found_at, none_found, NextLine-answer, NextLine-last, NextLine-fails}
use Rattle.script_lines.proofs.Search.{Searches-blank, Searches-adds, GoesOn-adds, still_observable, none_whole}
use Rattle.script_lines.proofs.lines.LineReader.next_line.Goals as goal

pub returns-then-scanned-place-gt0-clause-answer :
    goal.returns-then-scanned-place-gt0-clause-answer
returns-then-scanned-place-gt0-clause-answer g c observable =
    let ends = found_at _ _ c.loop-place.scanned c.in-Some.place c.held.ensures.value c.loop-place.invariant.within
    c.loop-place.invariant.plain c.in-Some.ensures in
    NextLine-after g.R.Source.state c.args.self.now c.loop-place.self c.answer.new.self (Ok c.answer.result)
    (c.loop-place.invariant.answers observable)
    (NextLine-answer g.R.Source.state c.loop-place.self c.answer.new.self (c.loop-place.scanned + c.in-Some.place)
    c.answer.result ends c.if-scanned-place-gt0.true c.loop-place.invariant.goes.going c.answer.ensures.state
    c.answer.ensures.answer)

pub loop-place-preserved-in-Some : goal.loop-place-preserved-in-Some
loop-place-preserved-in-Some g c =
    let inv = c.loop-place.invariant in
    let ends = found_at _ _ c.loop-place.scanned c.in-Some.place c.held.ensures.value c.loop-place.invariant.within
    c.loop-place.invariant.plain c.in-Some.ensures in
    let none : c.loop-place.scanned + c.in-Some.place ≡ 0 = omega arith in
    let start : c.loop-place.scanned ≡ 0 = omega arith in
    rw start (Searches-blank g.R.Source.state c.args.self.now c.loop-place.self c.pass.new.self (rw start at inv)
    (rw none at ends) c.pass.ensures)

pub pass_long-requires-clause-plain : goal.pass_long-requires-clause-plain
pass_long-requires-clause-plain g c =
    none_found _ _ c.loop-place.scanned c.held.ensures.value c.loop-place.invariant.plain c.in_default.ensures

pub loop-place-preserved : goal.loop-place-preserved
loop-place-preserved g c =
    let plain = none_found _ _ c.loop-place.scanned c.held.ensures.value c.loop-place.invariant.plain
    c.in_default.ensures in
    let searches = Searches-adds g.R.Source.state c.args.self.now c.loop-place.self c.fill.new.self c.loop-place.scanned
    c.in_ok-fill.field-0 c.loop-place.invariant plain c.in_ok-fill.ensures.source c.in_ok-fill.ensures.fills in
    rw c.held-scanned.ensures.value searches

-- no line was held where bytes are taken
pub returns-then-scanned-gt-MAX_LINE-clause-no_take :
    goal.returns-then-scanned-gt-MAX_LINE-clause-no_take
returns-then-scanned-gt-MAX_LINE-clause-no_take g c some =
    absurd (none_whole g.R.Source.state c.args.self.now c.loop-place.self c.loop-place.scanned c.loop-place.invariant
    (none_found _ _ c.loop-place.scanned c.held.ensures.value c.loop-place.invariant.plain c.in_default.ensures) some)

pub returns-in_err-fill-clause-no_take : goal.returns-in_err-fill-clause-no_take
returns-in_err-fill-clause-no_take g c some =
    absurd (none_whole g.R.Source.state c.args.self.now c.loop-place.self c.loop-place.scanned c.loop-place.invariant
    (none_found _ _ c.loop-place.scanned c.held.ensures.value c.loop-place.invariant.plain c.in_default.ensures) some)

pub returns-then-branch-eq0-clause-no_take : goal.returns-then-branch-eq0-clause-no_take
returns-then-branch-eq0-clause-no_take g c some =
    absurd (none_whole g.R.Source.state c.args.self.now c.loop-place.self c.loop-place.scanned c.loop-place.invariant
    (none_found _ _ c.loop-place.scanned c.held.ensures.value c.loop-place.invariant.plain c.in_default.ensures) some)

-- the answers after a take
pub returns-then-scanned-gt-MAX_LINE-clause-answer :
    goal.returns-then-scanned-gt-MAX_LINE-clause-answer
returns-then-scanned-gt-MAX_LINE-clause-answer g c observable =
    let here = still_observable g.R.Source.state c.args.self.now c.loop-place.self
    c.loop-place.invariant.goes.observable observable in
    NextLine-after g.R.Source.state c.args.self.now c.loop-place.self c.pass_long.new.self c.pass_long.result
    (c.loop-place.invariant.answers observable) (c.pass_long.ensures.answer here)

pub returns-in_err-fill-clause-answer : goal.returns-in_err-fill-clause-answer
returns-in_err-fill-clause-answer g c observable =
    let plain = none_found _ _ c.loop-place.scanned c.held.ensures.value c.loop-place.invariant.plain
    c.in_default.ensures in
    let here = still_observable g.R.Source.state c.args.self.now c.loop-place.self
    c.loop-place.invariant.goes.observable observable in
    let p = err_from_is_err_and c.from_residual.result c.from_residual.ensures.1 in
    rw (p.1, p.2) (NextLine-after g.R.Source.state c.args.self.now c.loop-place.self c.fill.new.self
    (Err c.in_err-fill.field-0.0) (c.loop-place.invariant.answers observable)
    (NextLine-fails g.R.Source.state c.loop-place.self c.fill.new.self c.in_err-fill.field-0.0 plain
    c.loop-place.invariant.goes.going c.in_err-fill.ensures.fills here))

pub returns-then-branch-eq0-clause-answer : goal.returns-then-branch-eq0-clause-answer
returns-then-branch-eq0-clause-answer g c observable =
    let plain = none_found _ _ c.loop-place.scanned c.held.ensures.value c.loop-place.invariant.plain
    c.in_default.ensures in
    let adds = rw c.if-branch-eq0.true at c.in_ok-fill.ensures.fills in
    let here = still_observable g.R.Source.state c.args.self.now c.loop-place.self
    c.loop-place.invariant.goes.observable observable in
    NextLine-after g.R.Source.state c.args.self.now c.loop-place.self c.finish.new.self (Ok c.finish.result)
    (c.loop-place.invariant.answers observable)
    (NextLine-last g.R.Source.state c.loop-place.self c.fill.new.self c.finish.new.self c.finish.result plain adds
    c.finish.ensures.state c.finish.ensures.answer here)

-- what each answer makes of the reader
pub returns-then-scanned-place-gt0-clause-ends :
    goal.returns-then-scanned-place-gt0-clause-ends
returns-then-scanned-place-gt0-clause-ends g c =
    let ends = found_at _ _ c.loop-place.scanned c.in-Some.place c.held.ensures.value c.loop-place.invariant.within
    c.loop-place.invariant.plain c.in-Some.ensures in
    EndsCall-answer g.R.Source.state c.args.self.now c.loop-place.self c.answer.new.self
    (c.loop-place.scanned + c.in-Some.place)
    c.answer.result c.loop-place.invariant.goes ends.within c.answer.ensures.state c.answer.ensures.answer

pub returns-then-scanned-gt-MAX_LINE-clause-ends :
    goal.returns-then-scanned-gt-MAX_LINE-clause-ends
returns-then-scanned-gt-MAX_LINE-clause-ends g c =
    EndsCall-after g.R.Source.state c.args.self.now c.loop-place.self c.pass_long.new.self c.pass_long.result
    c.loop-place.invariant.goes c.pass_long.ensures.ends

pub returns-in_err-fill-clause-ends : goal.returns-in_err-fill-clause-ends
returns-in_err-fill-clause-ends g c =
    let p = err_from_is_err_and c.from_residual.result c.from_residual.ensures.1 in
    rw (p.1, p.2) (EndsCall-fails g.R.Source.state c.args.self.now c.loop-place.self c.fill.new.self
    c.in_err-fill.field-0.0 c.loop-place.invariant.goes c.in_err-fill.ensures.fills)

pub returns-then-branch-eq0-clause-ends : goal.returns-then-branch-eq0-clause-ends
returns-then-branch-eq0-clause-ends g c =
    let goes = GoesOn-adds g.R.Source.state c.args.self.now c.loop-place.self c.fill.new.self c.in_ok-fill.field-0
    c.loop-place.invariant.goes c.in_ok-fill.ensures.source c.in_ok-fill.ensures.fills in
    EndsCall-last g.R.Source.state c.args.self.now c.fill.new.self c.finish.new.self c.finish.result goes
    c.finish.ensures.state c.finish.ensures.answer
