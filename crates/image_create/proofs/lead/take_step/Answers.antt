use Rattle.std.proofs.Common.{Result, sym, subst}
use Rattle.std.specs.Prelude.{OnOk, IfErr}
use Rattle.tree_writer.specs.Writing.{WritesTree, FailsAt, told_of}
use Rattle.tree_writer.specs.declared.fault.TreeFault.{TreeFault}
use Rattle.dump_streams.specs.Dumps.{after_step}
use Rattle.image_create.specs.Faults.{tree_fault}
use Rattle.image_create.specs.Leading.{IsUntaken}
use Rattle.image_create.proofs.Steps.{untaken_first, untaken_last}
use Rattle.image_create.proofs.lead.take_step.Goals as goal

pub returns-in-Ok-clause-takes : goal.returns-in-Ok-clause-takes
returns-in-Ok-clause-takes g c p start t writes goes =
    subst (λ (r : Result (Unit {0}) TreeFault). OnOk r (WritesTree p (after_step t c.args.step.now)
    (g.D.Disk.state start) (g.D.Disk.state c.take.new.disk) c.take.new.self)) c.in-Ok.is
    (c.take.ensures.writes p start t writes goes)

pub returns-in-Err-clause-untaken : goal.returns-in-Err-clause-untaken
returns-in-Err-clause-untaken g c p start t writes goes is_last =
    let step = c.args.step.now in
    let before = told_of c.args.writer.now in
    let fails : FailsAt p t step c.args.told before c.in-Err.cause =
    subst (λ (r : Result (Unit {0}) TreeFault). IfErr r (FailsAt p t step c.args.told before)) c.in-Err.is
    (c.take.ensures.faults p start t writes goes) in
    subst (IsUntaken p t step c.args.told before) (sym c.tree_fault.ensures)
    (subst (λ path. IsUntaken p t step c.args.told before (tree_fault c.in-Err.cause path)) (sym c.path.ensures)
    (untaken_first p t step c.args.told before c.in-Err.cause fails
    (rw c.if-begins_other.true at c.begins_other.ensures.yes)))

pub returns-in-Err-2-clause-untaken : goal.returns-in-Err-2-clause-untaken
returns-in-Err-2-clause-untaken g c p start t writes goes is_last =
    let step = c.args.step.now in
    let before = told_of c.args.writer.now in
    let cause = c.in-Err.cause in
    let fails : FailsAt p t step c.args.told before cause =
    subst (λ (r : Result (Unit {0}) TreeFault). IfErr r (FailsAt p t step c.args.told before)) c.in-Err.is
    (c.take.ensures.faults p start t writes goes) in
    subst (IsUntaken p t step c.args.told before) (sym c.tree_fault-in-Err-2.ensures)
    (untaken_last p t step c.args.told before c.args.last.now cause fails is_last
    (rw c.if-begins_other.false at c.begins_other.ensures.no))
