use Rattle.std.proofs.Common.{refl}
use Rattle.std.proofs.lemmas.Result.{err_from_is_err_and}
use Rattle.skip_levels.proofs.SetCalls.{room_to_change, cells_set, cells_not_read, cells_not_set, takes_cell}
use Rattle.skip_levels.proofs.SetCalls.{cell_inserted, cell_not_inserted}
use Rattle.skip_levels.proofs.levels.set_cells.Goals as goal

pub change_run-requires-clause-room : goal.change_run-requires-clause-room
change_run-requires-clause-room g c =
    room_to_change (rw c.in_default.is at c.in_ok-at.ensures.call) c.requires.own c.requires.room

pub returns-clause-call : goal.returns-clause-call
returns-clause-call g c =
    cells_set (rw c.in_default.is at c.in_ok-at.ensures.call) refl c.in_ok-change_run.ensures.call

-- where one page takes the key's cell
pub insert_cell-requires : goal.insert_cell-requires
insert_cell-requires g c = record {
  place = takes_cell (rw c.in-Some.is at c.in_ok-at.ensures.call) c.index-own-0.is c.label_in_group.ensures;
}

pub returns-in-Some-clause-call : goal.returns-in-Some-clause-call
returns-in-Some-clause-call g c =
    cell_inserted (rw c.in-Some.is at c.in_ok-at.ensures.call) (rw c.in-Some.is at c.in_ok-at.ensures.number)
    (g.met.P.Pages.valid c.read_new_cells.new.pages) c.label_in_group.ensures c.index-own-0.is
    c.in_ok-insert_cell.ensures.call

-- where a call fails
pub returns-in_err-at-clause-call : goal.returns-in_err-at-clause-call
returns-in_err-at-clause-call g c =
    let p = err_from_is_err_and c.from_residual.result c.from_residual.ensures.1 in
    rw (p.1, p.2) (cells_not_read c.in_err-at.ensures.call)

pub returns-in_err-insert_cell-clause-call : goal.returns-in_err-insert_cell-clause-call
returns-in_err-insert_cell-clause-call g c =
    let p = err_from_is_err_and c.from_residual-in_err-insert_cell.result c.from_residual-in_err-insert_cell.ensures.1
    in
    rw (p.1, p.2) (cell_not_inserted (rw c.in-Some.is at c.in_ok-at.ensures.call)
    (rw c.in-Some.is at c.in_ok-at.ensures.number) (g.met.P.Pages.valid c.read_new_cells.new.pages)
    c.label_in_group.ensures c.index-own-0.is c.in_err-insert_cell.ensures.call)

pub returns-in_err-change_run-clause-call : goal.returns-in_err-change_run-clause-call
returns-in_err-change_run-clause-call g c =
    let p = err_from_is_err_and c.from_residual-in_err-change_run.result c.from_residual-in_err-change_run.ensures.1 in
    rw (p.1, p.2) (cells_not_set (rw c.in_default.is at c.in_ok-at.ensures.call) c.in_err-change_run.ensures.call)

-- what each call keeps of the state below
pub returns-in_err-at-clause-follows : goal.returns-in_err-at-clause-follows
returns-in_err-at-clause-follows g c = c.in_err-at.ensures.follows

pub returns-in_err-insert_cell-clause-follows : goal.returns-in_err-insert_cell-clause-follows
returns-in_err-insert_cell-clause-follows g c =
    g.met.P.Pages.follows_trans _ _ _ c.in_ok-at.ensures.follows c.in_err-insert_cell.ensures.follows

pub returns-in-Some-clause-follows : goal.returns-in-Some-clause-follows
returns-in-Some-clause-follows g c =
    g.met.P.Pages.follows_trans _ _ _ c.in_ok-at.ensures.follows c.in_ok-insert_cell.ensures.follows

pub returns-in_err-change_run-clause-follows : goal.returns-in_err-change_run-clause-follows
returns-in_err-change_run-clause-follows g c =
    g.met.P.Pages.follows_trans _ _ _ c.in_ok-at.ensures.follows c.in_err-change_run.ensures.follows

pub returns-clause-follows : goal.returns-clause-follows
returns-clause-follows g c =
    g.met.P.Pages.follows_trans _ _ _ c.in_ok-at.ensures.follows c.in_ok-change_run.ensures.follows
