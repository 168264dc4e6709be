use Rattle.std.proofs.Common.{refl, ◌∙◌}
use Rattle.dir_tree.proofs.TakingLemmas.{searched_first}
use Rattle.dir_tree.proofs.TreeLemmas.{held_blocks}
use Rattle.dir_tree.proofs.MovedLemmas.{is_move}
use Rattle.dir_tree.proofs.PartLemmas.{none_moved, next_moved, none_left}
use Rattle.dir_tree.proofs.moving.move_subtree.Goals as goal

pub loop-init : goal.loop-init
loop-init g c = record {
  faults = refl;
  observable = λ seen. seen;
  part = λ seen path_to t p holds none. none_moved t p
      c.args.from.now c.args.to.now (g.P.OrderedPairs.state c.args.pairs.now).pairs holds.tree path_to
      (is_move t c.args.from.now c.args.to.now none) (held_blocks (g.P.OrderedPairs.state c.args.pairs.now) t p holds)
      (g.met.P.OrderedPairs.few c.args.pairs.now seen);
  follows = g.met.P.OrderedPairs.follows_refl _;
}

pub loop-preserved : goal.loop-preserved
loop-preserved g c =
    let here = g.P.OrderedPairs.state c.loop.pairs in
    let between = g.P.OrderedPairs.state c.next_within.new.pairs in
    let after = g.P.OrderedPairs.state c.move_pair.new.pairs in
    let kept = c.loop.invariant in
    let search = c.in_ok-found.ensures in
    let move = c.in_ok-move_pair.ensures in
    record {
      faults = move.call.faults ∙ search.call.faults ∙ kept.faults;
      observable = λ seen. move.call.observable (search.call.keeps.observable (kept.observable seen));
      part = λ seen path_to t p holds none.
          next_moved t p c.args.from.now c.args.to.now c.loop.counter here.pairs between.pairs after.pairs
          c.in_ok-found.field-0 c.in-Some.found holds.tree (is_move t c.args.from.now c.args.to.now none)
          c.key-first.ensures.path path_to (kept.part seen path_to t p holds none)
          c.in-Some.is (searched_first c.key-first.result c.args.from.now here.pairs c.in_ok-found.field-0
          c.key-first.ensures.value (search.call.found (kept.observable seen)))
          (search.call.keeps.unchanged (kept.observable seen))
          (λ y i v valid inside l key_is found fits.
          move.call.moved (search.call.keeps.observable (kept.observable seen)) y i v valid
          inside l key_is found fits);
      follows = g.met.P.OrderedPairs.follows_trans _ _ _
          kept.follows (g.met.P.OrderedPairs.follows_trans _ _ _ search.follows move.follows);
    }

pub returns-in_default-clause-call : goal.returns-in_default-clause-call
returns-in_default-clause-call g c =
    let here = g.P.OrderedPairs.state c.loop.pairs in
    let between = g.P.OrderedPairs.state c.next_within.new.pairs in
    let kept = c.loop.invariant in
    let search = c.in_ok-found.ensures in
    record {
      faults = search.call.faults ∙ kept.faults;
      observable = λ seen. search.call.keeps.observable (kept.observable seen);
      moved = λ seen path_to t p holds none.
          none_left t p c.args.from.now c.args.to.now c.loop.counter here.pairs between.pairs c.in_ok-found.field-0
          holds.tree c.key-first.ensures.path path_to (is_move t c.args.from.now c.args.to.now none) none
          (kept.part seen path_to t p holds none) c.in_default.not-Some
          (searched_first c.key-first.result c.args.from.now here.pairs c.in_ok-found.field-0 c.key-first.ensures.value
          (search.call.found (kept.observable seen)))
          (search.call.keeps.unchanged (kept.observable seen));
    }

pub returns-in_err-found-clause-follows : goal.returns-in_err-found-clause-follows
returns-in_err-found-clause-follows g c =
    g.met.P.OrderedPairs.follows_trans _ _ _ c.loop.invariant.follows c.next_within.ensures.follows

pub returns-in_err-move_pair-clause-follows : goal.returns-in_err-move_pair-clause-follows
returns-in_err-move_pair-clause-follows g c =
    g.met.P.OrderedPairs.follows_trans _ _ _
    (g.met.P.OrderedPairs.follows_trans _ _ _ c.loop.invariant.follows c.next_within.ensures.follows)
    c.move_pair.ensures.follows

pub returns-in_default-clause-follows : goal.returns-in_default-clause-follows
returns-in_default-clause-follows g c =
    g.met.P.OrderedPairs.follows_trans _ _ _ c.loop.invariant.follows c.next_within.ensures.follows

pub returns-after-loop-clause-follows : goal.returns-after-loop-clause-follows
returns-after-loop-clause-follows g c = c.loop.invariant.follows
