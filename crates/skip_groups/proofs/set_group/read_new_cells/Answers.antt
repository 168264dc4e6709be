use Rattle.std.proofs.Common.{length, ap, arith}
use Rattle.std.proofs.lemmas.List.{length-append}
use Rattle.std.proofs.lemmas.Result.{err_from_is_err_and}
use Rattle.node_pages.specs.Cells.{CellList}
use Rattle.skip_groups.proofs.CellLists.{no_list}
use Rattle.skip_groups.proofs.GroupSteps.{begins, fails, lacks_memory, is_over}
use Rattle.skip_groups.proofs.Looks.{looked_failed, looked_none, looked_some}
use Rattle.skip_groups.proofs.NewCellsReads.{seen_ends, seen_more, seen_done, seen_same, seen_place}
use Rattle.skip_groups.proofs.set_group.read_new_cells.Goals as goal

pub loop-index-init : goal.loop-index-init
loop-index-init g c = record {
  seen = begins (λ cells. c.requires.none);
  valid = c.requires.valid;
  empty = λ none. c.requires.empty;
  counted = omega (
    arith,
    c.requires.none.kept_is,
    c.requires.none.count_is,
    ap length c.requires.none.parts,
    length-append c.requires.none.stay c.requires.none.gone,
  );
  follows = g.met.P.Pages.follows_refl c.args.pages.now;
}

pub returns-in_default-clause-call : goal.returns-in_default-clause-call
returns-in_default-clause-call g c =
    seen_ends c.loop-index.invariant.seen c.in_ok-end.ensures.ends (omega arith)
    (looked_none c.label_in_group.ensures c.look.follows.holds-at-none.0 c.in_ok-found.was c.in_default.is)

pub returns-in-Some-place-clause-call : goal.returns-in-Some-place-clause-call
returns-in-Some-place-clause-call g c =
    let place = c.in-Some-place.ensures in
    seen_place c.loop-index.invariant.seen place.place place.none
    (omega (arith, place.none, c.loop-index.invariant.counted)) c.lead_before-made.ensures (omega arith)
    (looked_some c.label_in_group.ensures c.look.follows.holds-at-none.0 c.in_ok-found.was c.in-Some.is)

pub returns-in-Done-clause-call : goal.returns-in-Done-clause-call
returns-in-Done-clause-call g c =
    seen_done c.loop-index.invariant.seen c.in_ok-go_on.ensures.set (omega arith)
    (looked_some c.label_in_group.ensures c.look.follows.holds-at-none.0 c.in_ok-found.was c.in-Some.is)
    (rw c.in-Done.is at c.in_ok-go_on.ensures.step)

pub returns-in-Same-clause-call : goal.returns-in-Same-clause-call
returns-in-Same-clause-call g c =
    seen_same c.loop-index.invariant.seen c.in_ok-go_on.ensures.set (omega arith)
    (looked_some c.label_in_group.ensures c.look.follows.holds-at-none.0 c.in_ok-found.was c.in-Some.is)
    (rw c.in-Same.is at c.in_ok-go_on.ensures.step) (ap (λ (list : CellList). list.cells) c.restart.ensures)

pub returns-in-Same-clause-valid : goal.returns-in-Same-clause-valid
returns-in-Same-clause-valid g c = no_list c.args.level c.restart.ensures

pub loop-index-preserved : goal.loop-index-preserved
loop-index-preserved g c = record {
  seen = seen_more c.loop-index.invariant.seen c.in_ok-go_on.ensures.set (omega arith)
      (looked_some c.label_in_group.ensures c.look.follows.holds-at-none.0 c.in_ok-found.was c.in-Some.is)
      (rw c.in-More.is at c.in_ok-go_on.ensures.step);
  valid = c.in_ok-go_on.ensures.valid;
  empty = c.in_ok-go_on.ensures.empty;
  counted = omega (arith, c.in_ok-go_on.ensures.counted, c.loop-index.invariant.counted);
  follows = g.met.P.Pages.follows_trans _ _ _ c.loop-index.invariant.follows c.look.follows.holds-at-none.1;
}

-- where a call fails
pub returns-in_err-found-clause-call : goal.returns-in_err-found-clause-call
returns-in_err-found-clause-call g c =
    let p = err_from_is_err_and c.from_residual.result c.from_residual.ensures.1 in
    rw (p.1, p.2) (fails c.loop-index.invariant.seen
    (looked_failed c.label_in_group.ensures c.look.follows.holds-at-none.0 c.in_err-found.field-0.0
    c.in_err-found.was))

pub returns-in_err-end-clause-call : goal.returns-in_err-end-clause-call
returns-in_err-end-clause-call g c =
    let p = err_from_is_err_and c.from_residual-in_err-end.result c.from_residual-in_err-end.ensures.1 in
    rw (p.1, p.2) (lacks_memory c.loop-index.invariant.seen
    (looked_none c.label_in_group.ensures c.look.follows.holds-at-none.0 c.in_ok-found.was c.in_default.is))

pub returns-in_err-go_on-clause-call : goal.returns-in_err-go_on-clause-call
returns-in_err-go_on-clause-call g c =
    let p = err_from_is_err_and c.from_residual-in_err-go_on.result c.from_residual-in_err-go_on.ensures.1 in
    rw (p.1, p.2) (lacks_memory c.loop-index.invariant.seen
    (looked_some c.label_in_group.ensures c.look.follows.holds-at-none.0 c.in_ok-found.was c.in-Some.is))

-- what each call keeps of the state below
pub returns-in_err-found-clause-follows : goal.returns-in_err-found-clause-follows
returns-in_err-found-clause-follows g c =
    g.met.P.Pages.follows_trans _ _ _ c.loop-index.invariant.follows c.look.follows.holds-at-none.1

pub returns-in_err-end-clause-follows : goal.returns-in_err-end-clause-follows
returns-in_err-end-clause-follows g c =
    g.met.P.Pages.follows_trans _ _ _ c.loop-index.invariant.follows c.look.follows.holds-at-none.1

pub returns-in_err-go_on-clause-follows : goal.returns-in_err-go_on-clause-follows
returns-in_err-go_on-clause-follows g c =
    g.met.P.Pages.follows_trans _ _ _ c.loop-index.invariant.follows c.look.follows.holds-at-none.1

pub returns-in_default-clause-follows : goal.returns-in_default-clause-follows
returns-in_default-clause-follows g c =
    g.met.P.Pages.follows_trans _ _ _ c.loop-index.invariant.follows c.look.follows.holds-at-none.1

pub returns-in-Done-clause-follows : goal.returns-in-Done-clause-follows
returns-in-Done-clause-follows g c =
    g.met.P.Pages.follows_trans _ _ _ c.loop-index.invariant.follows c.look.follows.holds-at-none.1

pub returns-in-Same-clause-follows : goal.returns-in-Same-clause-follows
returns-in-Same-clause-follows g c =
    g.met.P.Pages.follows_trans _ _ _ c.loop-index.invariant.follows c.look.follows.holds-at-none.1

pub returns-clause-follows : goal.returns-clause-follows
returns-clause-follows g c = c.loop-index.invariant.follows

pub returns-clause-call : goal.returns-clause-call
returns-clause-call g c = is_over c.loop-index.invariant.seen (omega arith)
