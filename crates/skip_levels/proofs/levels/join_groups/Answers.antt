use Rattle.std.proofs.Common.{nat_lt, refl, ap, ◌∙◌, arith}
use Rattle.std.proofs.lemmas.Bool.{ltb-false}
use Rattle.std.proofs.lemmas.Result.{err_from_is_err_and}
use Rattle.node_pages.specs.Cells.{CellList}
use Rattle.skip_levels.proofs.CallsBehind.{goes_behind, fails_behind, walk_call, run_call}
use Rattle.skip_groups.proofs.CellLists.{no_list}
use Rattle.skip_levels.proofs.LevelCalls.{room_to_drop, room_to_join, groups_joined, first_not_read, groups_not_joined}
use Rattle.skip_levels.proofs.levels.join_groups.Goals as goal

pub part_group-requires-clause-above : goal.part_group-requires-clause-above
part_group-requires-clause-above g c = no_list c.args.level c.new-none.ensures

pub change_run-requires-clause-valid : goal.change_run-requires-clause-valid
change_run-requires-clause-valid g c = no_list c.args.level c.new.ensures

pub change_run-requires-clause-room : goal.change_run-requires-clause-room
change_run-requires-clause-room g c =
    room_to_drop c.in_ok-part_group.ensures.call c.in_ok-part_group-2.ensures.call _ refl
    (ap (λ (list : CellList). list.cells) c.new.ensures) c.requires.own_room

pub change_moved-requires-clause-room : goal.change_moved-requires-clause-room
change_moved-requires-clause-room g c =
    room_to_join c.in_ok-part_group.ensures.call c.in_ok-part_group-2.ensures.call refl
    (ap (λ (list : CellList). list.cells) c.new.ensures) refl c.in_ok-change_run.ensures.call
    c.requires.room c.requires.own_room

pub returns-clause-call : goal.returns-clause-call
returns-clause-call g c =
    groups_joined c.in_ok-part_group.ensures.call c.in_ok-part_group-2.ensures.call refl
    (ap (λ (list : CellList). list.cells) c.new.ensures) refl c.in_ok-change_run.ensures.call
    (nat_lt c.len-first.result c.len.result)
    (λ e. let few = ltb-false c.len-first.result c.len.result e
    in omega (arith, few, c.len.ensures.value, c.len-first.ensures.value))
    c.lead_behind-next.ensures c.in_ok-change_moved.ensures.call

-- where a call fails
pub returns-in_err-part_group-clause-call : goal.returns-in_err-part_group-clause-call
returns-in_err-part_group-clause-call g c =
    let p = err_from_is_err_and c.from_residual.result c.from_residual.ensures.1 in
    rw (p.1, p.2) (first_not_read c.in_err-part_group.ensures.call)

pub returns-in_err-part_group-2-clause-call : goal.returns-in_err-part_group-2-clause-call
returns-in_err-part_group-2-clause-call g c =
    let p = err_from_is_err_and c.from_residual-in_err-part_group-2.result c.from_residual-in_err-part_group-2.ensures.1
    in
    let read = c.in_ok-part_group.ensures.call in
    let read' = c.in_err-part_group-2.ensures.call in
    rw (p.1, p.2) (groups_not_joined read read' refl (fails_behind (walk_call read) (walk_call read')))

pub returns-in_err-change_run-clause-call : goal.returns-in_err-change_run-clause-call
returns-in_err-change_run-clause-call g c =
    let p = err_from_is_err_and c.from_residual-in_err-change_run.result c.from_residual-in_err-change_run.ensures.1 in
    let read = c.in_ok-part_group.ensures.call in
    let read' = c.in_ok-part_group-2.ensures.call in
    let write = c.in_err-change_run.ensures.call in
    rw (p.1, p.2) (groups_not_joined read read' write.lookups
    (fails_behind (goes_behind (walk_call read) (walk_call read')) (run_call write)))

pub returns-in_err-change_moved-clause-call : goal.returns-in_err-change_moved-clause-call
returns-in_err-change_moved-clause-call g c =
    let p = err_from_is_err_and c.from_residual-in_err-change_moved.result c.from_residual-in_err-change_moved.ensures.1
    in
    let read = c.in_ok-part_group.ensures.call in
    let read' = c.in_ok-part_group-2.ensures.call in
    let first = c.in_ok-change_run.ensures.call in
    let write = c.in_err-change_moved.ensures.call in
    rw (p.1, p.2) (groups_not_joined read read' (write.lookups ∙ first.lookups)
    (fails_behind (goes_behind (goes_behind (walk_call read) (walk_call read')) (run_call first)) (run_call write)))

-- what each call keeps of the state below
pub returns-in_err-part_group-clause-follows : goal.returns-in_err-part_group-clause-follows
returns-in_err-part_group-clause-follows g c = c.in_err-part_group.ensures.follows

pub returns-in_err-part_group-2-clause-follows : goal.returns-in_err-part_group-2-clause-follows
returns-in_err-part_group-2-clause-follows g c =
    g.met.P.Pages.follows_trans _ _ _ c.in_ok-part_group.ensures.follows c.in_err-part_group-2.ensures.follows

pub returns-in_err-change_run-clause-follows : goal.returns-in_err-change_run-clause-follows
returns-in_err-change_run-clause-follows g c =
    g.met.P.Pages.follows_trans _ _ _ c.in_ok-part_group.ensures.follows
    (g.met.P.Pages.follows_trans _ _ _ c.in_ok-part_group-2.ensures.follows c.in_err-change_run.ensures.follows)

pub returns-in_err-change_moved-clause-follows : goal.returns-in_err-change_moved-clause-follows
returns-in_err-change_moved-clause-follows g c =
    g.met.P.Pages.follows_trans _ _ _ c.in_ok-part_group.ensures.follows
    (g.met.P.Pages.follows_trans _ _ _ c.in_ok-part_group-2.ensures.follows
    (g.met.P.Pages.follows_trans _ _ _ c.in_ok-change_run.ensures.follows c.in_err-change_moved.ensures.follows))

pub returns-clause-follows : goal.returns-clause-follows
returns-clause-follows g c =
    g.met.P.Pages.follows_trans _ _ _ c.in_ok-part_group.ensures.follows
    (g.met.P.Pages.follows_trans _ _ _ c.in_ok-part_group-2.ensures.follows
    (g.met.P.Pages.follows_trans _ _ _ c.in_ok-change_run.ensures.follows c.in_ok-change_moved.ensures.follows))
