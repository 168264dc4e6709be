use Rattle.std.proofs.Common.{ℕ, ◌+◌, List, [], refl, ap, ◌∙◌, arith, Some, None, ◌==◌}
use Rattle.std.specs.List.{position}
use Rattle.std.proofs.lemmas.Result.{err_from_is_err_and}
use Rattle.script_lines.proofs.CallEnds.{EndsCall-long-fails, EndsCall-long-line, EndsCall-long-last}
use Rattle.script_lines.proofs.StateLemmas.{Moves-refl}
use Rattle.script_lines.proofs.Search.{PassesLong-adds, Long-line, Long-last, Long-fails, pass_all}
use Rattle.script_lines.proofs.LineLemmas.{FindsEnd-position}
use Rattle.script_lines.proofs.lines.LineReader.pass_long.Goals as goal

pub loop-self-init : goal.loop-self-init
loop-self-init g c = record {
  goes = record {
    live = c.requires.live;
    going = c.requires.going;
    text = c.requires.text;
    limit = refl;
    taken = omega arith;
    in_limit = c.requires.in_limit;
    observable = refl;
    faults = refl;
    shrinks = omega arith;
  };
  passed = [];
  plain = c.requires.plain;
  long = c.requires.long;
  moves = λ observable. Moves-refl g.R.Source.state c.args.self.now;
  shorter = omega arith;
}

pub returns-in_err-fill-clause-answer : goal.returns-in_err-fill-clause-answer
returns-in_err-fill-clause-answer g c observable =
    let p = err_from_is_err_and c.from_residual.result c.from_residual.ensures.1 in
    let same = pass_all c.loop-self.self c.pass.new.self c.held.result.now c.held.ensures.value c.pass.ensures in
    rw (p.1, p.2) (Long-fails g.R.Source.state c.args.self.now c.loop-self.self c.pass.new.self c.fill.new.self
    c.loop-self.invariant same c.in_err-fill.field-0.0 c.in_err-fill.ensures.fills c.requires.going observable)

pub returns-then-branch-eq0-clause-answer : goal.returns-then-branch-eq0-clause-answer
returns-then-branch-eq0-clause-answer g c observable =
    let same = pass_all c.loop-self.self c.pass.new.self c.held.result.now c.held.ensures.value c.pass.ensures in
    let adds = rw c.if-branch-eq0.true at c.in_ok-fill.ensures.fills in
    Long-last g.R.Source.state c.args.self.now c.loop-self.self c.pass.new.self c.fill.new.self c.loop-self.invariant
    same c.finish.new.self adds c.finish.ensures.state observable

pub returns-in-Some-clause-answer : goal.returns-in-Some-clause-answer
returns-in-Some-clause-answer g c observable =
    let same = pass_all c.loop-self.self c.pass.new.self c.held.result.now c.held.ensures.value c.pass.ensures in
    let ends = FindsEnd-position c.fill.new.self.held (Some c.in-Some.place)
    (c.in-Some.ensures ∙ ap (λ (xs : List ℕ). position (λ x. x == 10) xs) c.held-in-loop-self.ensures.value) in
    Long-line g.R.Source.state c.args.self.now c.loop-self.self c.pass.new.self c.fill.new.self c.loop-self.invariant
    same c.in_ok-fill.field-0 c.in-Some.place c.pass-in-Some.new.self c.in_ok-fill.ensures.fills ends
    c.requires.going c.pass-in-Some.ensures observable

pub loop-self-preserved : goal.loop-self-preserved
loop-self-preserved g c =
    let same = pass_all c.loop-self.self c.pass.new.self c.held.result.now c.held.ensures.value c.pass.ensures in
    let plain = FindsEnd-position c.fill.new.self.held None
    (c.in_default.ensures ∙ ap (λ (xs : List ℕ). position (λ x. x == 10) xs) c.held-in-loop-self.ensures.value) in
    PassesLong-adds g.R.Source.state c.args.self.now c.loop-self.self c.pass.new.self c.fill.new.self
    c.loop-self.invariant same c.in_ok-fill.field-0 c.in_ok-fill.ensures.source c.in_ok-fill.ensures.fills plain

-- what each answer makes of the reader
pub returns-in_err-fill-clause-ends : goal.returns-in_err-fill-clause-ends
returns-in_err-fill-clause-ends g c =
    let p = err_from_is_err_and c.from_residual.result c.from_residual.ensures.1 in
    let same = pass_all c.loop-self.self c.pass.new.self c.held.result.now c.held.ensures.value c.pass.ensures in
    rw (p.1, p.2) (EndsCall-long-fails g.R.Source.state c.args.self.now c.loop-self.self c.pass.new.self c.fill.new.self
    c.loop-self.invariant same c.in_err-fill.field-0.0 c.in_err-fill.ensures.fills)

pub returns-then-branch-eq0-clause-ends : goal.returns-then-branch-eq0-clause-ends
returns-then-branch-eq0-clause-ends g c =
    let same = pass_all c.loop-self.self c.pass.new.self c.held.result.now c.held.ensures.value c.pass.ensures in
    EndsCall-long-last g.R.Source.state c.args.self.now c.loop-self.self c.pass.new.self c.fill.new.self
    c.loop-self.invariant same c.in_ok-fill.field-0 c.in_ok-fill.ensures.source c.in_ok-fill.ensures.fills
    c.finish.new.self c.finish.ensures.state

pub returns-in-Some-clause-ends : goal.returns-in-Some-clause-ends
returns-in-Some-clause-ends g c =
    let same = pass_all c.loop-self.self c.pass.new.self c.held.result.now c.held.ensures.value c.pass.ensures in
    EndsCall-long-line g.R.Source.state c.args.self.now c.loop-self.self c.pass.new.self c.fill.new.self
    c.loop-self.invariant same c.in_ok-fill.field-0 c.in_ok-fill.ensures.source c.in_ok-fill.ensures.fills
    (c.in-Some.place + 1) c.pass-in-Some.new.self c.pass-in-Some.ensures
