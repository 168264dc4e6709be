use Rattle.file_blocks.proofs.EntryLemmas.{IsPast, found_entry, found_no_entry, valid_entry, found_first}
use Rattle.file_blocks.proofs.inlining.next_entry.Goals as goal

pub returns-in-Some-clause-call : goal.returns-in-Some-clause-call
returns-in-Some-clause-call g c =
    let old = g.P.OrderedPairs.state c.args.pairs.now in
    let call = c.in_ok-pair.ensures.call in
    let bound = c.below.ensures in
    let past : IsPast c.args.last.now c.below.result = record {
      blocks = bound.blocks;
      attributes = bound.attributes;
      below = bound.below;
      behind = bound.behind;
    } in
    record {
      faults = call.faults;
      hidden = call.hidden;
      keeps = record {
        observable = λ seen. (call.observed seen).observable;
        unchanged = λ seen. (call.observed seen).unchanged;
      };
      valid = valid_entry c.in-Some.pair c.entry_of.result c.entry_of.ensures;
      there = λ seen. found_first c.below.result old.pairs c.in_ok-pair.field-0 c.in-Some.pair c.entry_of.result
          (g.met.P.OrderedPairs.valid c.args.pairs.now seen) (call.observed seen).found c.in-Some.is c.entry_of.ensures;
      found = λ seen blocks has entries. found_entry c.args.last.now c.below.result blocks
          old.pairs c.in_ok-pair.field-0 c.in-Some.pair c.entry_of.result bound.path past has entries
          (call.observed seen).found c.in-Some.is c.entry_of.ensures;
    }

pub returns-in-None-clause-call : goal.returns-in-None-clause-call
returns-in-None-clause-call g c =
    let old = g.P.OrderedPairs.state c.args.pairs.now in
    let call = c.in_ok-pair.ensures.call in
    let bound = c.below.ensures in
    let past : IsPast c.args.last.now c.below.result = record {
      blocks = bound.blocks;
      attributes = bound.attributes;
      below = bound.below;
      behind = bound.behind;
    } in
    record {
      faults = call.faults;
      hidden = call.hidden;
      keeps = record {
        observable = λ seen. (call.observed seen).observable;
        unchanged = λ seen. (call.observed seen).unchanged;
      };
      valid = tt;
      there = λ seen. tt;
      found = λ seen blocks has entries. found_no_entry c.args.last.now c.below.result blocks
          old.pairs c.in_ok-pair.field-0 bound.path past has (call.observed seen).found c.in-None.is;
    }
