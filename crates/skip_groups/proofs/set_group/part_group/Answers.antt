use Rattle.std.proofs.Common.{length, ap, arith}
use Rattle.std.proofs.lemmas.List.{length-append}
use Rattle.std.proofs.lemmas.Result.{err_from_is_err_and}
use Rattle.store_base.specs.Leads.{model_lead}
use Rattle.skip_groups.proofs.GroupEnds.{no_room}
use Rattle.skip_groups.proofs.GroupSteps.{begins, fails, lacks_memory, is_over}
use Rattle.skip_groups.proofs.Looks.{looked_failed, looked_none, looked_some}
use Rattle.skip_groups.proofs.PartReads.{parting_ends, parting_goes_on, parting_stops_short}
use Rattle.skip_groups.proofs.set_group.part_group.Goals as goal

pub loop-index-init : goal.loop-index-init
loop-index-init g c = record {
  parted = begins (λ cells. c.requires.none);
  valid = c.requires.valid;
  above = c.requires.above;
  counted = omega (
    arith,
    c.requires.none.kept_is,
    c.requires.none.count_is,
    ap length c.requires.none.parts,
    length-append c.requires.none.stay c.requires.none.gone,
  );
  follows = g.met.P.Pages.follows_refl c.args.pages.now;
}

pub returns-in_default-clause-call : goal.returns-in_default-clause-call
returns-in_default-clause-call g c =
    parting_ends c.loop-index.invariant.parted (omega arith)
    (looked_none c.label_in_group.ensures c.look.follows.holds-at-none.0 c.in_ok-found.was c.in_default.is)

pub returns-then-is_last-clause-call : goal.returns-then-is_last-clause-call
returns-then-is_last-clause-call g c =
    parting_stops_short c.loop-index.invariant.parted
    (c.in_ok-part.ensures.parted (model_lead c.args.lead.now) c.args.above.now.cells) (omega arith)
    (looked_some c.label_in_group.ensures c.look.follows.holds-at-none.0 c.in_ok-found.was c.in-Some.is)
    (c.is_last.ensures.0 c.if-is_last.true)

pub loop-index-preserved : goal.loop-index-preserved
loop-index-preserved g c = record {
  parted = parting_goes_on c.loop-index.invariant.parted
      (c.in_ok-part.ensures.parted (model_lead c.args.lead.now) c.args.above.now.cells) (omega arith)
      (looked_some c.label_in_group.ensures c.look.follows.holds-at-none.0 c.in_ok-found.was c.in-Some.is)
      (no_room c.is_last.result _ _ c.is_last.ensures c.if-is_last.false);
  valid = c.in_ok-part.ensures.low;
  above = c.in_ok-part.ensures.high;
  counted = omega (arith, c.in_ok-part.ensures.counted, c.loop-index.invariant.counted);
  follows = g.met.P.Pages.follows_trans _ _ _ c.loop-index.invariant.follows c.look.follows.holds-at-none.1;
}

pub returns-clause-call : goal.returns-clause-call
returns-clause-call g c = is_over c.loop-index.invariant.parted (omega arith)

-- where a call fails
pub returns-in_err-found-clause-call : goal.returns-in_err-found-clause-call
returns-in_err-found-clause-call g c =
    let p = err_from_is_err_and c.from_residual.result c.from_residual.ensures.1 in
    rw (p.1, p.2) (fails c.loop-index.invariant.parted
    (looked_failed c.label_in_group.ensures c.look.follows.holds-at-none.0 c.in_err-found.field-0.0
    c.in_err-found.was))

pub returns-in_err-part-clause-call : goal.returns-in_err-part-clause-call
returns-in_err-part-clause-call g c =
    let p = err_from_is_err_and c.from_residual-in_err-part.result c.from_residual-in_err-part.ensures.1 in
    rw (p.1, p.2) (lacks_memory c.loop-index.invariant.parted
    (looked_some c.label_in_group.ensures c.look.follows.holds-at-none.0 c.in_ok-found.was c.in-Some.is))

-- what each call keeps of the state below
pub returns-in_err-found-clause-follows : goal.returns-in_err-found-clause-follows
returns-in_err-found-clause-follows g c =
    g.met.P.Pages.follows_trans _ _ _ c.loop-index.invariant.follows c.look.follows.holds-at-none.1

pub returns-in_default-clause-follows : goal.returns-in_default-clause-follows
returns-in_default-clause-follows g c =
    g.met.P.Pages.follows_trans _ _ _ c.loop-index.invariant.follows c.look.follows.holds-at-none.1

pub returns-then-is_last-clause-follows : goal.returns-then-is_last-clause-follows
returns-then-is_last-clause-follows g c =
    g.met.P.Pages.follows_trans _ _ _ c.loop-index.invariant.follows c.look.follows.holds-at-none.1

pub returns-in_err-part-clause-follows : goal.returns-in_err-part-clause-follows
returns-in_err-part-clause-follows g c =
    g.met.P.Pages.follows_trans _ _ _ c.loop-index.invariant.follows c.look.follows.holds-at-none.1

pub returns-clause-follows : goal.returns-clause-follows
returns-clause-follows g c = c.loop-index.invariant.follows
