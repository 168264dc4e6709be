use Rattle.std.proofs.Common.{◌≡◌, map, refl}
use Rattle.dump_diff.specs.Scripts.{removal_command, removal_commands}
use Rattle.synced_trees.specs.Plans.{IsUnplanned}
use Rattle.synced_trees.proofs.Planned.{planned, hides_so, rising_of, ok_through, err_so}
use Rattle.synced_trees.proofs.plan.plan_sync.Goals as goal

pub returns-clause-plans : goal.returns-clause-plans
returns-clause-plans g c came came' =
    let first = g.A.DumpStream.whole c.compare_keeping.new.first in
    let second = g.B.DumpStream.whole c.compare_keeping.new.second in
    let found = c.in_ok-found.field-0.found in
    let additions = c.in_ok-found.field-0.additions.items in
    let with = c.in_ok-found.ensures.found came came' in
    planned first second found additions with c.args.losses.now (record {
      changed = c.in_ok-changed.changed;
      removals = c.in_ok-removals.removals;
      additions = c.in_ok-found.field-0.additions;
    }) (c.in_ok-changed.ensures.counts (rising_of first second found additions with))
    (λ rising. ok_through c.removals.result c.map_err.result
    (λ removals. map removal_command removals.items ≡ removal_commands c.in_ok-changed.changed) _
    c.map_err.ensures.cases c.map_err.ensures.variant (c.removals.ensures rising) c.in_ok-removals.removals
    c.in_ok-removals.was) refl

pub returns-in_err-changed-clause-failed : goal.returns-in_err-changed-clause-failed
returns-in_err-changed-clause-failed g c came came' =
    let first = c.compare_keeping.new.first in
    let second = c.compare_keeping.new.second in
    let found = c.in_ok-found.field-0.found in
    let additions = c.in_ok-found.field-0.additions.items in
    let with = c.in_ok-found.ensures.found came came' in
    err_so c.from_residual-in_err-changed.result c.in_err-changed.field-0.0
    (IsUnplanned c.args.losses.now (g.A.DumpStream.came first) (g.A.DumpStream.whole first) (g.A.DumpStream.fails first)
    (g.B.DumpStream.came second) (g.B.DumpStream.whole second) (g.B.DumpStream.fails second))
    c.from_residual-in_err-changed.ensures.1
    (hides_so (g.A.DumpStream.whole first) (g.B.DumpStream.whole second) found additions with
    (g.A.DumpStream.came first) (g.B.DumpStream.came second) (g.A.DumpStream.fails first) (g.B.DumpStream.fails second)
    c.args.losses.now c.in_err-changed.field-0.0
    (c.in_err-changed.ensures.hidden (rising_of (g.A.DumpStream.whole first) (g.B.DumpStream.whole second) found
    additions
    with)))
