use Rattle.std.proofs.Common.{arith}
use Rattle.dir_tree.proofs.RefusalLemmas.{none_found}
use Rattle.dir_tree.proofs.TreeLemmas.{held_blocks}
use Rattle.dir_tree.proofs.ListingLemmas.{child_read, none_read, read_some, read_none}
use Rattle.dir_tree.proofs.listing.next_child.Goals as goal

pub returns-in_default-clause-call : goal.returns-in_default-clause-call
returns-in_default-clause-call g c =
    let search = c.in_ok-key.ensures.call in
    let old = g.P.OrderedPairs.state c.args.pairs.now in
    record {
      faults = search.faults;
      keeps = search.keeps;
      valid = tt;
      below_root = tt;
      found = λ seen t p holds path directory between.
          none_read t p c.args.path.now c.args.from.now old.pairs c.in_ok-key.field-0 holds.tree
          (held_blocks old t p holds) (search.found seen) (none_found c.in_ok-key.field-0 c.in_default.not-Some);
    }

pub returns-in-Some-of_key-clause-call : goal.returns-in-Some-of_key-clause-call
returns-in-Some-of_key-clause-call g c =
    let search = c.in_ok-key.ensures.call in
    let old = g.P.OrderedPairs.state c.args.pairs.now in
    record {
      faults = search.faults;
      keeps = search.keeps;
      valid = c.in-Some-of_key.ensures.valid;
      below_root = c.in-Some-of_key.ensures.below_root;
      found = λ seen t p holds path directory between.
          child_read t p c.args.path.now c.args.from.now old.pairs c.in_ok-key.field-0 c.in-Some.key _
          holds.tree (held_blocks old t p holds) path directory between (search.found seen) c.in-Some.is
          (λ child valid below key_is. read_some c.of_key.result c.in-Some-of_key.found child
          c.in-Some-of_key.is (c.of_key.ensures.only child 0 valid below (omega arith) key_is));
    }

pub returns-in-None-clause-call : goal.returns-in-None-clause-call
returns-in-None-clause-call g c =
    let search = c.in_ok-key.ensures.call in
    let old = g.P.OrderedPairs.state c.args.pairs.now in
    record {
      faults = search.faults;
      keeps = search.keeps;
      valid = tt;
      below_root = tt;
      found = λ seen t p holds path directory between.
          child_read t p c.args.path.now c.args.from.now old.pairs c.in_ok-key.field-0 c.in-Some.key _
          holds.tree (held_blocks old t p holds) path directory between (search.found seen) c.in-Some.is
          (λ child valid below key_is. read_none c.of_key.result child
          c.in-None.is (c.of_key.ensures.only child 0 valid below (omega arith) key_is));
    }
