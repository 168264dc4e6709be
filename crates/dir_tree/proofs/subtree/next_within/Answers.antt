use Rattle.std.proofs.Common.{sym, ◌∙◌}
use Rattle.std.proofs.lemmas.Bool.{false≢true}
use Rattle.dir_tree.proofs.NextLemmas.{found_none, found_within, found_behind}
use Rattle.dir_tree.proofs.RefusalLemmas.{none_found}
use Rattle.dir_tree.proofs.subtree.next_within.Goals as goal

pub returns-then-is_before_end-clause-call : goal.returns-then-is_before_end-clause-call
returns-then-is_before_end-clause-call g c =
    let call = c.in_ok-pair.ensures.call in
    record {
      faults = call.faults;
      keeps = record {
        observable = λ seen. (call.observed seen).observable;
        unchanged = λ seen. (call.observed seen).unchanged;
      };
      found = λ seen. found_within c.args.from.now c.args.top.now
          (g.P.OrderedPairs.state c.args.pairs.now).pairs c.in_ok-pair.field-0 c.in-Some.pair
          (g.met.P.OrderedPairs.valid c.args.pairs.now seen).sorted (call.observed seen).found c.in-Some.is
          (c.is_before_end.ensures.0 c.if-is_before_end.true);
    }

pub returns-else-is_before_end-clause-call : goal.returns-else-is_before_end-clause-call
returns-else-is_before_end-clause-call g c =
    let call = c.in_ok-pair.ensures.call in
    record {
      faults = call.faults;
      keeps = record {
        observable = λ seen. (call.observed seen).observable;
        unchanged = λ seen. (call.observed seen).unchanged;
      };
      found = λ seen. found_behind c.args.from.now c.args.top.now
          (g.P.OrderedPairs.state c.args.pairs.now).pairs c.in_ok-pair.field-0 c.in-Some.pair
          (g.met.P.OrderedPairs.valid c.args.pairs.now seen).sorted (call.observed seen).found c.in-Some.is
          (λ before. false≢true (sym c.if-is_before_end.false ∙ c.is_before_end.ensures.1 before));
    }

pub returns-in_default-clause-call : goal.returns-in_default-clause-call
returns-in_default-clause-call g c =
    let call = c.in_ok-pair.ensures.call in
    record {
      faults = call.faults;
      keeps = record {
        observable = λ seen. (call.observed seen).observable;
        unchanged = λ seen. (call.observed seen).unchanged;
      };
      found = λ seen. found_none c.args.from.now c.args.top.now
          (g.P.OrderedPairs.state c.args.pairs.now).pairs c.in_ok-pair.field-0 (call.observed seen).found
          (none_found c.in_ok-pair.field-0 c.in_default.not-Some);
    }

pub returns-in_err-pair-clause-follows : goal.returns-in_err-pair-clause-follows
returns-in_err-pair-clause-follows g c = c.next_from.ensures.follows

pub returns-in_default-clause-follows : goal.returns-in_default-clause-follows
returns-in_default-clause-follows g c = c.next_from.ensures.follows

pub returns-then-is_before_end-clause-follows : goal.returns-then-is_before_end-clause-follows
returns-then-is_before_end-clause-follows g c = c.next_from.ensures.follows

pub returns-else-is_before_end-clause-follows : goal.returns-else-is_before_end-clause-follows
returns-else-is_before_end-clause-follows g c = c.next_from.ensures.follows
