use Rattle.dir_tree.proofs.AttributeLemmas.{no_key_found, some_found, read_named}
use Rattle.dir_tree.proofs.attributes.next_attr.Goals as goal

pub returns-in-Some-clause-call : goal.returns-in-Some-clause-call
returns-in-Some-clause-call g c =
    let call = c.in_ok-pair.ensures.call in
    let old = g.P.OrderedPairs.state c.args.pairs.now in
    record {
      faults = call.faults;
      keeps = record {
        observable = λ seen. (call.observed seen).observable;
        unchanged = λ seen. (call.observed seen).unchanged;
      };
      named = read_named c.args.path.now c.in-Some.pair c.attribute_of.result c.attribute_of.ensures;
      found = λ seen t p holds path low. some_found t p
          c.args.path.now c.args.from.now old.pairs holds.tree holds.pairs_are path low
          c.in_ok-pair.field-0 c.in-Some.pair (call.observed seen).found c.in-Some.is c.attribute_of.result
          c.attribute_of.ensures;
    }

pub returns-in-None-clause-call : goal.returns-in-None-clause-call
returns-in-None-clause-call g c =
    let call = c.in_ok-pair.ensures.call in
    let old = g.P.OrderedPairs.state c.args.pairs.now in
    record {
      faults = call.faults;
      keeps = record {
        observable = λ seen. (call.observed seen).observable;
        unchanged = λ seen. (call.observed seen).unchanged;
      };
      named = tt;
      found = λ seen t p holds path low. no_key_found t p
          c.args.path.now c.args.from.now old.pairs holds.tree holds.pairs_are path low
          c.in_ok-pair.field-0 (call.observed seen).found c.in-None.is;
    }
