use Rattle.std.proofs.Common.{sym, subst}
use Rattle.store_model.specs.Trees.{empty_tree}
use Rattle.store_model.specs.Images.{Represents}
use Rattle.disk_model.specs.DiskState.{MayLeaveOnly}
use Rattle.disk_model.specs.Memory.{Memory, memory_state}
use Rattle.store_claims.specs.declared.crash.Crash.{Crash}
use Rattle.store_claims.proofs.RunWays.{read_is}
use Rattle.store_claims.specs.LoadCrashes.{LeavesAllOrNothing}
use Rattle.store_claims.proofs.CutLemmas.{leaves_all_or_nothing}
use Rattle.store_claims.proofs.load_crash.a_crash_leaves_all_of_a_load_or_nothing.Goals as goal

pub returns : goal.returns
returns c t p only says =
    let below = c.new-failing.ensures.inner in
    let leaves = subst (λ (disk : Memory). MayLeaveOnly (memory_state disk) (λ image. Represents image empty_tree p))
    (sym below) only in
    let read = read_is c.new-failing.result (λ image. Represents image empty_tree p) leaves in
    let crash : Crash = record { first = c.in_ok-first.first; next = c.in_ok-next.next } in
    subst (λ (disk : Memory). LeavesAllOrNothing t p disk c.args.left.now crash) below
    (leaves_all_or_nothing t p c.new-failing.result c.args.source c.args.sink c.args.left.now crash leaves says
    (c.in_ok-first.ensures.loads empty_tree p read)
    (λ u is. c.in_ok-next.ensures u p is))
