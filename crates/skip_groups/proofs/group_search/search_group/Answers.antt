use Rattle.std.proofs.Common.{inl, inr, arith}
use Rattle.std.proofs.lemmas.Result.{err_from_is_err_and}
use Rattle.skip_groups.proofs.FloorWalks.{walks_start, search_ends, search_stops, search_goes_on}
use Rattle.skip_groups.proofs.GroupSteps.{fails, is_over}
use Rattle.skip_groups.proofs.GroupEnds.{no_room}
use Rattle.skip_groups.proofs.group_search.search_group.Goals.{then-count-len-via-then-count-len}
use Rattle.skip_groups.proofs.group_search.search_group.Goals.{then-count-len-via-else-count-len+then-is_last}
use Rattle.skip_groups.proofs.Looks.{looked_failed, looked_none, looked_some}
use Rattle.skip_groups.proofs.group_search.search_group.Goals as goal

pub loop-index-init : goal.loop-index-init
loop-index-init g c = record {
  walks = walks_start;
  follows = g.met.P.Pages.follows_refl c.args.pages.now;
}

pub returns-in_err-looked-clause-call : goal.returns-in_err-looked-clause-call
returns-in_err-looked-clause-call g c =
    let p = err_from_is_err_and c.from_residual.result c.from_residual.ensures.1 in
    rw (p.1, p.2) (fails c.loop-index.invariant.walks
    (looked_failed c.label_in_group.ensures c.look.follows.holds-at-none.0
    c.in_err-looked.field-0.0 c.in_err-looked.was))

pub returns-in_default-clause-call : goal.returns-in_default-clause-call
returns-in_default-clause-call g c =
    search_ends c.loop-index.invariant.walks (omega arith)
    (looked_none c.label_in_group.ensures c.look.follows.holds-at-none.0 c.in_ok-looked.was c.in_default.is)

pub returns-then-count-len-clause-call : goal.returns-then-count-len-clause-call
returns-then-count-len-clause-call g c =
    search_stops c.loop-index.invariant.walks (omega arith)
    (looked_some c.label_in_group.ensures c.look.follows.holds-at-none.0 c.in_ok-looked.was c.in-Some.is)
    c.count_in_group-count.ensures.count c.count_in_group-count.ensures.within c.see_last.ensures.none
    c.see_last.ensures.some
    (elim c.then-count-len.branch [
      | then-count-len-via-then-count-len w ↦ inl (omega (arith, w.if-count-len.true, c.len.ensures.value))
      | then-count-len-via-else-count-len+then-is_last w ↦ inr (w.is_last.ensures.0 w.if-is_last.true)
    ])
    c.see_next.ensures

pub loop-index-preserved : goal.loop-index-preserved
loop-index-preserved g c = record {
  walks = search_goes_on c.loop-index.invariant.walks (omega arith)
      (looked_some c.label_in_group.ensures c.look.follows.holds-at-none.0 c.in_ok-looked.was c.in-Some.is)
      c.count_in_group-count.ensures.count c.count_in_group-count.ensures.within c.see_last.ensures.none
      c.see_last.ensures.some
      (omega (arith, c.if-count-len.false, c.len.ensures.value))
      (no_room c.is_last.result _ _ c.is_last.ensures c.if-is_last.false);
  follows = g.met.P.Pages.follows_trans _ _ _ c.loop-index.invariant.follows c.look.follows.holds-at-none.1;
}

pub returns-clause-call : goal.returns-clause-call
returns-clause-call g c = is_over c.loop-index.invariant.walks (omega arith)

-- what each call keeps of the state below
pub returns-in_err-looked-clause-follows : goal.returns-in_err-looked-clause-follows
returns-in_err-looked-clause-follows g c =
    g.met.P.Pages.follows_trans _ _ _ c.loop-index.invariant.follows c.look.follows.holds-at-none.1

pub returns-in_default-clause-follows : goal.returns-in_default-clause-follows
returns-in_default-clause-follows g c =
    g.met.P.Pages.follows_trans _ _ _ c.loop-index.invariant.follows c.look.follows.holds-at-none.1

pub returns-then-count-len-clause-follows : goal.returns-then-count-len-clause-follows
returns-then-count-len-clause-follows g c =
    g.met.P.Pages.follows_trans _ _ _ c.loop-index.invariant.follows c.look.follows.holds-at-none.1

pub returns-clause-follows : goal.returns-clause-follows
returns-clause-follows g c = c.loop-index.invariant.follows
