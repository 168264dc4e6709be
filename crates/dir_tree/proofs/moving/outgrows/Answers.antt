use Rattle.std.proofs.Common.{true, false, refl, sym, ap, not, ◌∙◌}
use Rattle.std.proofs.lemmas.Bool.{not-false}
use Rattle.store_model.specs.Paths.{fits_field, replanted}
use Rattle.dir_tree.proofs.RefusalLemmas.{kept_itself}
use Rattle.dir_tree.proofs.TestLemmas.{none_tested, next_tested, next_grows, none_grows, fits_from_some, walks_on}
use Rattle.dir_tree.proofs.TestLemmas.{answered, told_growth}
use Rattle.dir_tree.proofs.moving.outgrows.Goals as goal

pub loop-init : goal.loop-init
loop-init g c = record {
  walked = record { faults = refl; keeps = kept_itself (g.P.OrderedPairs.state c.args.pairs.now) };
  part = λ seen t p holds. none_tested t p c.args.from.now c.args.to.now c.key-next.result c.key-next.ensures.path
      c.key-next.ensures.value;
  follows = g.met.P.OrderedPairs.follows_refl _;
}

pub loop-preserved : goal.loop-preserved
loop-preserved g c =
    let kept = c.loop.invariant in
    let search = c.in_ok-found.ensures in
    record {
      walked = walks_on _ _ _ _ _ _ kept.walked search.call;
      part = λ seen t p holds.
          let part = kept.part seen t p holds in
          next_tested t p c.args.from.now c.args.to.now c.loop.counter c.loop.next c.last_at-next.result
          c.in_ok-found.field-0 c.in-Some.found holds.tree c.key-next.ensures.path part c.in-Some.is
          (answered _ _ _ _ _ _ kept.walked search.call seen t p holds)
          (λ y i valid inside l key_is. fits_from_some (fits_field (replanted c.args.from.now c.args.to.now y))
          c.is_none.result c.if-is_none.false (λ long.
          not-false c.is_none.result (sym c.is_none.ensures
          ∙ (c.replant.ensures.none y i valid inside l key_is).1 long)))
          (λ y i valid inside l key_is. c.last_at-next.ensures.value y i valid l key_is);
      follows = g.met.P.OrderedPairs.follows_trans _ _ _ kept.follows search.follows;
    }

pub returns-in_default-clause-call : goal.returns-in_default-clause-call
returns-in_default-clause-call g c =
    let kept = c.loop.invariant in
    let search = c.in_ok-found.ensures.call in
    told_growth _ _ _ _ _ _ kept.walked search c.args.to.now false (λ seen t p holds.
    none_grows t p c.args.from.now c.args.to.now c.loop.counter c.loop.next c.in_ok-found.field-0 holds.tree
    c.key-next.ensures.path (kept.part seen t p holds)
    c.in_default.not-Some (answered _ _ _ _ _ _ kept.walked search seen t p holds))

pub returns-then-is_none-clause-call : goal.returns-then-is_none-clause-call
returns-then-is_none-clause-call g c =
    let kept = c.loop.invariant in
    let search = c.in_ok-found.ensures.call in
    told_growth _ _ _ _ _ _ kept.walked search c.args.to.now true (λ seen t p holds.
    next_grows t p c.args.from.now c.args.to.now c.loop.counter c.loop.next c.in_ok-found.field-0 c.in-Some.found
    holds.tree c.key-next.ensures.path (kept.part seen t p holds) c.in-Some.is
    (answered _ _ _ _ _ _ kept.walked search seen t p holds)
    (λ y i valid inside l key_is. (c.replant.ensures.none y i valid inside l key_is).0 (c.is_none.ensures
    ∙ ap not c.if-is_none.true)))

pub returns-in_err-found-clause-follows : goal.returns-in_err-found-clause-follows
returns-in_err-found-clause-follows g c =
    g.met.P.OrderedPairs.follows_trans _ _ _ c.loop.invariant.follows c.next_within.ensures.follows

pub returns-in_default-clause-follows : goal.returns-in_default-clause-follows
returns-in_default-clause-follows g c =
    g.met.P.OrderedPairs.follows_trans _ _ _ c.loop.invariant.follows c.next_within.ensures.follows

pub returns-then-is_none-clause-follows : goal.returns-then-is_none-clause-follows
returns-then-is_none-clause-follows g c =
    g.met.P.OrderedPairs.follows_trans _ _ _ c.loop.invariant.follows c.next_within.ensures.follows

pub returns-clause-follows : goal.returns-clause-follows
returns-clause-follows g c = c.loop.invariant.follows
