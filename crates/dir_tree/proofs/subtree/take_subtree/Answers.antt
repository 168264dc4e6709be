use Rattle.std.proofs.Common.{◌∙◌, arith}
use Rattle.dir_tree.proofs.TakingLemmas.{searched_first, next_taken, none_left}
use Rattle.dir_tree.proofs.subtree.take_subtree.Goals as goal

pub loop-preserved : goal.loop-preserved
loop-preserved g c =
    let here = g.P.OrderedPairs.state c.loop.pairs in
    let search = c.in_ok-found.ensures in
    let kept = c.loop.invariant in
    let take = c.in_ok-take.ensures.call in
    record {
      faults = take.faults ∙ search.call.faults ∙ kept.faults;
      observable = λ seen. (take.observed (search.call.keeps.observable (kept.observable seen))).observable;
      part = λ seen blocks has. next_taken c.args.top.now blocks
          c.loop.counter here.pairs (g.P.OrderedPairs.state c.next_within.new.pairs).pairs
          (g.P.OrderedPairs.state c.take.new.self).pairs c.in_ok-found.field-0 c.in-Some.found
          c.key-first.ensures.path (kept.part seen blocks has)
          c.in-Some.is (searched_first c.key-first.result c.args.top.now here.pairs c.in_ok-found.field-0
          c.key-first.ensures.value (search.call.found (kept.observable seen)))
          (search.call.keeps.unchanged (kept.observable seen))
          (take.observed (search.call.keeps.observable (kept.observable seen))).changed;
      follows = g.met.P.OrderedPairs.follows_trans _ _ _
          kept.follows (g.met.P.OrderedPairs.follows_trans _ _ _ search.follows c.in_ok-take.ensures.follows);
    }

pub returns-after-loop-clause-call : goal.returns-after-loop-clause-call
returns-after-loop-clause-call g c =
    let kept = c.loop.invariant in
    record {
      faults = kept.faults;
      valid = c.key-first.ensures.path;
      observable = kept.observable;
      taken = λ seen blocks has. let few = (kept.part seen blocks has).counted in absurd (omega arith);
    }

pub returns-in_default-clause-call : goal.returns-in_default-clause-call
returns-in_default-clause-call g c =
    let kept = c.loop.invariant in
    let search = c.in_ok-found.ensures in
    record {
      faults = search.call.faults ∙ kept.faults;
      valid = c.key-first.ensures.path;
      observable = λ seen. search.call.keeps.observable (kept.observable seen);
      taken = λ seen blocks has. none_left c.args.top.now blocks
          c.loop.counter (g.P.OrderedPairs.state c.loop.pairs).pairs
          (g.P.OrderedPairs.state c.next_within.new.pairs).pairs c.in_ok-found.field-0 c.key-first.ensures.path
          (kept.part seen blocks has) c.in_default.not-Some
          (searched_first c.key-first.result c.args.top.now
          (g.P.OrderedPairs.state c.loop.pairs).pairs c.in_ok-found.field-0 c.key-first.ensures.value
          (search.call.found (kept.observable seen)))
          (search.call.keeps.unchanged (kept.observable seen));
    }

pub returns-in_err-found-clause-follows : goal.returns-in_err-found-clause-follows
returns-in_err-found-clause-follows g c =
    g.met.P.OrderedPairs.follows_trans _ _ _ c.loop.invariant.follows c.next_within.ensures.follows

pub returns-in_default-clause-follows : goal.returns-in_default-clause-follows
returns-in_default-clause-follows g c =
    g.met.P.OrderedPairs.follows_trans _ _ _ c.loop.invariant.follows c.next_within.ensures.follows

pub returns-in_err-take-clause-follows : goal.returns-in_err-take-clause-follows
returns-in_err-take-clause-follows g c =
    g.met.P.OrderedPairs.follows_trans _ _ _
    (g.met.P.OrderedPairs.follows_trans _ _ _ c.loop.invariant.follows c.next_within.ensures.follows)
    c.take.ensures.follows

pub returns-after-loop-clause-follows : goal.returns-after-loop-clause-follows
returns-after-loop-clause-follows g c = c.loop.invariant.follows
