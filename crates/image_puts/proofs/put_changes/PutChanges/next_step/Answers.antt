use Rattle.std.proofs.Common.{◌++◌, Option, Result, Err, sym, ap, subst, ◌∙◌}
use Rattle.std.proofs.lemmas.Result.{err_from_is_err_and}
use Rattle.store_model.specs.Paths.{Path, fits_field}
use Rattle.script_lines.specs.Sessions.{change_of}
use Rattle.image_puts.proofs.PutStreams.{some_parameters}
use Rattle.staged_tree.specs.declared.guards.When.{When}
use Rattle.image_puts.specs.declared.fault.PutFault.{PutFault}
use Rattle.image_puts.proofs.StepRounds.{Gives, mid, first_round, fails_next, ends_next, too_long, gives_next}
use Rattle.image_puts.proofs.StepRounds.{passes_next}
use Rattle.image_puts.proofs.StepRounds.{kept_mid, kept_begun, too_many}
use Rattle.image_puts.proofs.put_changes.PutChanges.next_step.Goals as goal

pub loop-init : goal.loop-init
loop-init g c = first_round g.S.DumpStream.came g.S.DumpStream.keeps c.args.self.now c.requires

pub returns-clause-next : goal.returns-clause-next
returns-clause-next g c = too_many g.S.DumpStream.came g.S.DumpStream.whole g.S.DumpStream.fails g.S.DumpStream.keeps
    c.args.self.now c.loop.self c.loop.invariant _

pub returns-in_err-next-clause-next : goal.returns-in_err-next-clause-next
returns-in_err-next-clause-next g c =
    let fault = err_from_is_err_and c.from_residual.result c.from_residual.ensures.1 in
    subst (λ (r : Result (Option When) PutFault). Gives g.S.DumpStream.came g.S.DumpStream.whole g.S.DumpStream.fails
    g.S.DumpStream.keeps c.args.self.now c.loop.self c.loop.invariant c.next.new.self c.next.new.into
    (mid g.S.DumpStream.came g.S.DumpStream.whole g.S.DumpStream.fails
    g.S.DumpStream.keeps c.args.self.now c.loop.self c.loop.invariant c.next.new.self c.next.new.into)
    (change_of c.loop.into) r)
    (sym (fault.1 ∙ ap (λ (f : PutFault). Err f) fault.2))
    (fails_next g.S.DumpStream.came g.S.DumpStream.whole g.S.DumpStream.fails g.S.DumpStream.keeps
    c.args.self.now c.loop.self c.loop.invariant c.next.new.self c.next.new.into c.in_err-next.field-0.0
    c.in_err-next.ensures.next (change_of c.loop.into))

pub returns-in_err-next-clause-keeps : goal.returns-in_err-next-clause-keeps
returns-in_err-next-clause-keeps g c first before =
    kept_mid g.S.DumpStream.came g.S.DumpStream.whole g.S.DumpStream.fails g.S.DumpStream.keeps
    c.args.self.now c.loop.self c.loop.invariant c.next.new.self c.next.new.into first c.in_err-next.ensures.keeps
    before

pub returns-then-not-branch-clause-next : goal.returns-then-not-branch-clause-next
returns-then-not-branch-clause-next g c =
    ends_next g.S.DumpStream.came g.S.DumpStream.whole g.S.DumpStream.fails g.S.DumpStream.keeps
    c.args.self.now c.loop.self c.loop.invariant c.next.new.self c.next.new.into c.in_ok-next.field-0
    c.if-not-branch.true c.in_ok-next.ensures.next (change_of c.loop.into)

pub returns-then-not-branch-clause-keeps : goal.returns-then-not-branch-clause-keeps
returns-then-not-branch-clause-keeps g c first before =
    kept_mid g.S.DumpStream.came g.S.DumpStream.whole g.S.DumpStream.fails g.S.DumpStream.keeps
    c.args.self.now c.loop.self c.loop.invariant c.next.new.self c.next.new.into first c.in_ok-next.ensures.keeps before

pub returns-in_default-clause-next : goal.returns-in_default-clause-next
returns-in_default-clause-next g c =
    too_long g.S.DumpStream.came g.S.DumpStream.whole g.S.DumpStream.fails g.S.DumpStream.keeps
    c.args.self.now c.loop.self c.loop.invariant c.next.new.self c.next.new.into c.in_ok-next.field-0
    c.if-not-branch.false c.in_ok-next.ensures.next
    (ap (λ (q : Path). fits_field (c.loop.self.to ++ q)) (sym c.path.ensures) ∙ c.in_default.ensures.none)
    (change_of c.loop.into) c.path-in_default.result.now c.path-in_default.ensures

pub returns-in_default-clause-keeps : goal.returns-in_default-clause-keeps
returns-in_default-clause-keeps g c first before =
    kept_mid g.S.DumpStream.came g.S.DumpStream.whole g.S.DumpStream.fails g.S.DumpStream.keeps
    c.args.self.now c.loop.self c.loop.invariant c.next.new.self c.next.new.into first c.in_ok-next.ensures.keeps before

pub returns-in-Some-begin_step-clause-next : goal.returns-in-Some-begin_step-clause-next
returns-in-Some-begin_step-clause-next g c =
    gives_next g.S.DumpStream.came g.S.DumpStream.whole g.S.DumpStream.fails g.S.DumpStream.keeps
    c.args.self.now c.loop.self c.loop.invariant c.next.new.self c.next.new.into c.in_ok-next.field-0
    c.if-not-branch.false c.in_ok-next.ensures.next some_parameters c.in-Some.place
    ((c.in-Some.ensures.some).0 ∙ ap (λ (q : Path). c.loop.self.to ++ q) c.path.ensures) (c.in-Some.ensures.some).1
    c.begin_step.new.self (change_of c.begin_step.new.into) c.in-Some-begin_step.when c.in-Some-begin_step.ensures

pub returns-in-Some-begin_step-clause-keeps : goal.returns-in-Some-begin_step-clause-keeps
returns-in-Some-begin_step-clause-keeps g c first before =
    kept_begun g.S.DumpStream.came g.S.DumpStream.whole g.S.DumpStream.fails g.S.DumpStream.keeps
    c.args.self.now c.loop.self c.loop.invariant c.next.new.self c.next.new.into first c.begin_step.new.self
    (change_of c.begin_step.new.into) _ c.in-Some.place c.in-Some-begin_step.ensures c.in_ok-next.ensures.keeps before

pub loop-preserved : goal.loop-preserved
loop-preserved g c =
    passes_next g.S.DumpStream.came g.S.DumpStream.whole g.S.DumpStream.fails g.S.DumpStream.keeps
    c.args.self.now c.loop.self c.loop.invariant c.next.new.self c.next.new.into c.in_ok-next.field-0
    c.if-not-branch.false c.in_ok-next.ensures.next some_parameters c.in-Some.place
    ((c.in-Some.ensures.some).0 ∙ ap (λ (q : Path). c.loop.self.to ++ q) c.path.ensures) (c.in-Some.ensures.some).1
    c.begin_step.new.self (change_of c.begin_step.new.into) c.in_default-begin_step.ensures c.in_ok-next.ensures.keeps
