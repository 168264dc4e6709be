use Rattle.std.proofs.Common.{refl, arith}
use Rattle.file_blocks.proofs.WalkLemmas.{none_upgraded, next_upgraded, none_left, few_turns, are_of_entries, walks_on}
use Rattle.file_blocks.proofs.WalkLemmas.{turns_on, blocks_to}
use Rattle.file_blocks.proofs.inlining.inline_short_files.Goals as goal

pub loop-init : goal.loop-init
loop-init g c = record {
  walked = record { faults = refl; hidden = λ seen. seen; observable = λ seen. seen; fewer = λ seen. omega arith };
  part = λ seen t p holds. none_upgraded (g.P.OrderedPairs.state c.args.pairs.now) t p
      c.root-last.result holds c.root-last.ensures;
  follows = g.met.P.OrderedPairs.follows_refl _;
}

pub inline_file-requires : goal.inline_file-requires
inline_file-requires g c = record {
  room = λ seen.
      let walked = walks_on (g.P.OrderedPairs.state c.args.pairs.now) (g.P.OrderedPairs.state c.loop.pairs)
      (g.P.OrderedPairs.state c.next_entry.new.pairs)
      c.loop.last c.in_ok-entry.field-0 c.loop.invariant.walked c.in_ok-entry.ensures.call in
      let was = walked.hidden seen in
      let fewer = walked.fewer was in
      let room = c.requires.room was in
      omega arith;
}

pub loop-preserved : goal.loop-preserved
loop-preserved g c =
    let old = g.P.OrderedPairs.state c.args.pairs.now in
    let here = g.P.OrderedPairs.state c.loop.pairs in
    let between = g.P.OrderedPairs.state c.next_entry.new.pairs in
    let after = g.P.OrderedPairs.state c.inline_file.new.pairs in
    let kept = c.loop.invariant in
    let search = c.in_ok-entry.ensures in
    let change = c.in_ok-inline_file.ensures in
    record {
      walked = turns_on old here between after
          c.loop.last c.in-Some.entry c.in_ok-entry.field-0 kept.walked search.call c.in-Some.is change.call
          (g.met.P.OrderedPairs.valid c.loop.pairs);
      part = λ seen t p holds.
          let at = kept.walked.observable seen in
          let part = kept.part seen t p holds in
          next_upgraded t p c.loop.last c.loop.counter c.in_ok-entry.field-0 c.in-Some.entry here.pairs between.pairs
          after.pairs holds.tree part c.in-Some.is
          (search.call.found at (blocks_to c.loop.last t p) part.has (are_of_entries c.loop.last t p holds.tree))
          search.call.valid (search.call.keeps.unchanged at)
          (change.call.changed (search.call.keeps.observable at));
      follows = g.met.P.OrderedPairs.follows_trans _ _ _
          kept.follows (g.met.P.OrderedPairs.follows_trans _ _ _ search.follows change.follows);
    }

pub returns-in_default-clause-call : goal.returns-in_default-clause-call
returns-in_default-clause-call g c =
    let old = g.P.OrderedPairs.state c.args.pairs.now in
    let here = g.P.OrderedPairs.state c.loop.pairs in
    let between = g.P.OrderedPairs.state c.next_entry.new.pairs in
    let kept = c.loop.invariant in
    let search = c.in_ok-entry.ensures in
    let walked = walks_on old here between c.loop.last c.in_ok-entry.field-0 kept.walked search.call in
    record {
      faults = walked.faults;
      hidden = walked.hidden;
      observable = walked.observable;
      fewer = walked.fewer;
      upgraded = λ seen t p holds.
          let at = kept.walked.observable seen in
          let part = kept.part seen t p holds in
          record {
            tree = holds.tree;
            pairs_are = none_left t p c.loop.last c.loop.counter c.in_ok-entry.field-0 here.pairs between.pairs
                holds.tree part c.in_default.not-Some
                (search.call.found at (blocks_to c.loop.last t p) part.has (are_of_entries c.loop.last t p holds.tree))
                (search.call.keeps.unchanged at);
          };
    }

pub returns-after-loop-clause-call : goal.returns-after-loop-clause-call
returns-after-loop-clause-call g c =
    let kept = c.loop.invariant in
    record {
      faults = kept.walked.faults;
      hidden = kept.walked.hidden;
      observable = kept.walked.observable;
      fewer = kept.walked.fewer;
      upgraded = λ seen t p holds.
          let few = g.met.P.OrderedPairs.few c.args.pairs.now seen in
          let turns = few_turns (g.P.OrderedPairs.state c.args.pairs.now) t p
          c.loop.last c.loop.counter (g.P.OrderedPairs.state c.loop.pairs).pairs holds (kept.part seen t p holds) in
          absurd (omega arith);
    }
