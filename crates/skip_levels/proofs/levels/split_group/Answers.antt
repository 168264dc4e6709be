use Rattle.std.proofs.Common.{nat_lt, length, refl, ap, ◌∙◌, arith}
use Rattle.std.proofs.lemmas.Bool.{ltb-false}
use Rattle.std.proofs.lemmas.Result.{err_from_is_err_and}
use Rattle.node_pages.specs.Cells.{CellList}
use Rattle.skip_levels.proofs.CallsBehind.{goes_behind, failed_call, fails_behind, walk_call, run_call}
use Rattle.skip_groups.proofs.CellLists.{no_list}
use Rattle.skip_levels.proofs.LevelCalls.{room_to_split, room_behind, group_split, group_not_begun, group_not_split}
use Rattle.skip_levels.proofs.levels.split_group.Goals as goal

pub append_own-requires : goal.append_own-requires
append_own-requires g c = no_list c.args.level c.in_ok-high.ensures

pub change_moved-requires-clause-room : goal.change_moved-requires-clause-room
change_moved-requires-clause-room g c = room_to_split c.in_ok-part_group.ensures.call c.requires.room

pub change_run-requires-clause-room : goal.change_run-requires-clause-room
change_run-requires-clause-room g c =
    let none = ap (λ (list : CellList). length list.cells) c.in_ok-high.ensures in
    room_behind c.in_ok-part_group.ensures.call _ (omega (arith, c.in_ok-append_own.ensures.few, none))
    c.requires.room c.in_ok-change_moved.ensures.call

pub returns-clause-call : goal.returns-clause-call
returns-clause-call g c =
    group_split c.in_ok-part_group.ensures.call (nat_lt c.len-first.result c.len.result)
    (rw c.in_ok-high.ensures at c.in_ok-append_own.ensures.added)
    (λ e. let few = ltb-false c.len-first.result c.len.result e
    in omega (arith, few, c.len.ensures.value, c.len-first.ensures.value)) refl
    c.lead_behind.ensures c.in_ok-change_moved.ensures.call c.in_ok-change_run.ensures.call

-- where a call fails
pub returns-in_err-high-clause-call : goal.returns-in_err-high-clause-call
returns-in_err-high-clause-call g c =
    let p = err_from_is_err_and c.from_residual.result c.from_residual.ensures.1 in
    rw (p.1, p.2) group_not_begun

pub returns-in_err-append_own-clause-call : goal.returns-in_err-append_own-clause-call
returns-in_err-append_own-clause-call g c =
    let p = err_from_is_err_and c.from_residual-in_err-append_own.result c.from_residual-in_err-append_own.ensures.1 in
    rw (p.1, p.2) group_not_begun

pub returns-in_err-part_group-clause-call : goal.returns-in_err-part_group-clause-call
returns-in_err-part_group-clause-call g c =
    let p = err_from_is_err_and c.from_residual-in_err-part_group.result c.from_residual-in_err-part_group.ensures.1 in
    let read = c.in_err-part_group.ensures.call in
    rw (p.1, p.2) (group_not_split read refl (failed_call (walk_call read)))

pub returns-in_err-change_moved-clause-call : goal.returns-in_err-change_moved-clause-call
returns-in_err-change_moved-clause-call g c =
    let p = err_from_is_err_and c.from_residual-in_err-change_moved.result c.from_residual-in_err-change_moved.ensures.1
    in
    let read = c.in_ok-part_group.ensures.call in
    let write = c.in_err-change_moved.ensures.call in
    rw (p.1, p.2) (group_not_split read write.lookups (fails_behind (walk_call read) (run_call write)))

pub returns-in_err-change_run-clause-call : goal.returns-in_err-change_run-clause-call
returns-in_err-change_run-clause-call g c =
    let p = err_from_is_err_and c.from_residual-in_err-change_run.result c.from_residual-in_err-change_run.ensures.1 in
    let read = c.in_ok-part_group.ensures.call in
    let first = c.in_ok-change_moved.ensures.call in
    let write = c.in_err-change_run.ensures.call in
    rw (p.1, p.2) (group_not_split read (write.lookups ∙ first.lookups)
    (fails_behind (goes_behind (walk_call read) (run_call first)) (run_call write)))

-- what each call keeps of the state below
pub returns-in_err-high-clause-follows : goal.returns-in_err-high-clause-follows
returns-in_err-high-clause-follows g c = g.met.P.Pages.follows_refl c.args.pages.now

pub returns-in_err-append_own-clause-follows : goal.returns-in_err-append_own-clause-follows
returns-in_err-append_own-clause-follows g c = g.met.P.Pages.follows_refl c.args.pages.now

pub returns-in_err-part_group-clause-follows : goal.returns-in_err-part_group-clause-follows
returns-in_err-part_group-clause-follows g c = c.in_err-part_group.ensures.follows

pub returns-in_err-change_moved-clause-follows : goal.returns-in_err-change_moved-clause-follows
returns-in_err-change_moved-clause-follows g c =
    g.met.P.Pages.follows_trans _ _ _ c.in_ok-part_group.ensures.follows c.in_err-change_moved.ensures.follows

pub returns-in_err-change_run-clause-follows : goal.returns-in_err-change_run-clause-follows
returns-in_err-change_run-clause-follows g c =
    g.met.P.Pages.follows_trans _ _ _ c.in_ok-part_group.ensures.follows
    (g.met.P.Pages.follows_trans _ _ _ c.in_ok-change_moved.ensures.follows c.in_err-change_run.ensures.follows)

pub returns-clause-follows : goal.returns-clause-follows
returns-clause-follows g c =
    g.met.P.Pages.follows_trans _ _ _ c.in_ok-part_group.ensures.follows
    (g.met.P.Pages.follows_trans _ _ _ c.in_ok-change_moved.ensures.follows c.in_ok-change_run.ensures.follows)
