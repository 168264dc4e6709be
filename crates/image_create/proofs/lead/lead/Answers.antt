use Rattle.std.proofs.Common.{◌+◌, [], ◌∷◌, length, Ok, inr, refl, sym, ap, subst, ◌∙◌, arith}
use Rattle.std.proofs.lemmas.List.{length-append}
use Rattle.gate_journal.proofs.Calls.{AreCalls-none, AreCalls-then}
use Rattle.dump_streams.specs.Dumps.{after_step, dump}
use Rattle.dump_streams.proofs.SpotLemmas.{dump_none}
use Rattle.image_create.specs.Leading.{IsLastPath, IsStopped}
use Rattle.tree_writer.specs.Writing.{told_of}
use Rattle.image_create.proofs.Paths.{no_last, step_ends, ends_last}
use Rattle.image_create.proofs.Steps.{goes_on_so, untaken_stops, same_then, err_so}
use Rattle.image_create.proofs.Writers.{writes_none}
use Rattle.image_create.proofs.lead.lead.Goals as goal

pub loop-init : goal.loop-init
loop-init g c = (
  AreCalls-none (g.D.Disk.state c.args.disk.now) tt,
  record { first = refl; found = refl },
  λ p start two writes. record {
    tree = [];
    came = c.requires.came;
    writes = writes;
    is_last = no_last c.root-last.result;
    count_is = ap length dump_none;
  },
)

pub returns-in_err-next_step-clause-stopped : goal.returns-in_err-next_step-clause-stopped
returns-in_err-next_step-clause-stopped g c p start two writes =
    let led = c.loop.invariant.2 p start two writes in
    err_so c.from_residual.result c.in_err-next_step.field-0.0 (IsStopped g.F.Folder.state p c.next_step.new.stream)
    c.from_residual.ensures.1 (c.in_err-next_step.ensures.stopped led.tree p led.came)

pub returns-in_err-next_step-clause-none : goal.returns-in_err-next_step-clause-none
returns-in_err-next_step-clause-none g c p start two writes was =
    let led = c.loop.invariant.2 p start two writes in
    writes_none p led.tree (g.D.Disk.state start) (g.D.Disk.state c.loop.disk) c.loop.writer led.writes was

pub returns-then-not-branch-clause-led : goal.returns-then-not-branch-clause-led
returns-then-not-branch-clause-led g c p start two writes =
    let led = c.loop.invariant.2 p start two writes in
    let comes = rw c.if-not-branch.true at c.in_ok-next_step.ensures.comes in
    record {
      tree = led.tree;
      packed = (comes led.tree led.came).packed;
      writes = led.writes;
      last_is = led.is_last;
    }

pub returns-then-not-branch-clause-none : goal.returns-then-not-branch-clause-none
returns-then-not-branch-clause-none g c p start two writes was =
    let led = c.loop.invariant.2 p start two writes in
    writes_none p led.tree (g.D.Disk.state start) (g.D.Disk.state c.loop.disk) c.loop.writer led.writes was

pub take_step-requires : goal.take_step-requires
take_step-requires g c =
    let (p, start, two, writes) = c.requires.writes in
    let led = c.loop.invariant.2 p start two writes in
    let comes = rw c.if-not-branch.false at c.in_ok-next_step.ensures.comes in
    let next = comes led.tree led.came in (
      p,
      start,
      led.tree,
      led.writes,
      goes_on_so g.F.Folder.state c.next_step.new.stream led.tree c.next_step.new.into p two next.came next.extends,
    )

pub returns-in_err-take_step-clause-stopped : goal.returns-in_err-take_step-clause-stopped
returns-in_err-take_step-clause-stopped g c p start two writes =
    let state = g.F.Folder.state in
    let led = c.loop.invariant.2 p start two writes in
    let comes = rw c.if-not-branch.false at c.in_ok-next_step.ensures.comes in
    let next = comes led.tree led.came in
    let step = c.next_step.new.into in
    let stream = c.next_step.new.stream in
    let goes = goes_on_so state stream led.tree step p two next.came next.extends in
    err_so c.from_residual-in_err-take_step.result c.in_err-take_step.field-0.0 (IsStopped state p stream)
    c.from_residual-in_err-take_step.ensures.1
    (untaken_stops state c.loop.stream stream p led.tree step c.told.result (told_of c.loop.writer)
    (led.writes).under goes led.came next.came c.next_step.ensures.same c.in_err-take_step.field-0.0
    (c.in_err-take_step.ensures.untaken p start led.tree led.writes goes led.is_last))

pub returns-in_err-take_step-clause-none : goal.returns-in_err-take_step-clause-none
returns-in_err-take_step-clause-none g c p start two writes was =
    let led = c.loop.invariant.2 p start two writes in
    let comes = rw c.if-not-branch.false at c.in_ok-next_step.ensures.comes in
    let next = comes led.tree led.came in
    let goes = goes_on_so g.F.Folder.state c.next_step.new.stream led.tree c.next_step.new.into p two next.came
    next.extends in
    c.in_err-take_step.ensures.none p start led.tree led.writes goes was

pub loop-preserved : goal.loop-preserved
loop-preserved g c = (
  AreCalls-then (g.D.Disk.state c.args.disk.now) (g.D.Disk.state c.loop.disk) (g.D.Disk.state c.take_step.new.disk) tt
      (Ok tt) c.loop.invariant.0 c.in_ok-take_step.ensures.calls,
  same_then c.args.stream.now c.loop.stream c.next_step.new.stream c.loop.invariant.1 c.next_step.ensures.same,
  λ p start two writes.
      let led = c.loop.invariant.2 p start two writes in
      let comes = rw c.if-not-branch.false at c.in_ok-next_step.ensures.comes in
      let next = comes led.tree led.came in
      let step = c.next_step.new.into in
      let goes = goes_on_so g.F.Folder.state c.next_step.new.stream led.tree step p two next.came next.extends in
      record {
        tree = after_step led.tree step;
        came = next.came;
        writes = c.in_ok-take_step.ensures.takes p start led.tree led.writes goes;
        is_last = subst (IsLastPath (after_step led.tree step)) (sym c.path.ensures)
            (ends_last (after_step led.tree step) _ (step_ends led.tree p (led.writes).under step goes));
        count_is = ap length (next.extends).dump_is ∙ length-append (dump led.tree) (step ∷ [])
            ∙ ap (λ n. n + 1) led.count_is;
      },
)

pub returns-clause-stopped : goal.returns-clause-stopped
returns-clause-stopped g c p start two writes =
    let led = c.loop.invariant.2 p start two writes in
    let count = led.count_is in
    let test = c.loop-test.false in (
      (led.came).faults,
      record {
        tree = led.tree;
        is_tree = ((led.writes).under).is_tree;
        many = inr (omega (arith, count, test));
      },
    )

pub returns-clause-none : goal.returns-clause-none
returns-clause-none g c p start two writes was =
    let led = c.loop.invariant.2 p start two writes in
    writes_none p led.tree (g.D.Disk.state start) (g.D.Disk.state c.loop.disk) c.loop.writer led.writes was
