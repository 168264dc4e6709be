use Rattle.std.proofs.Common.{◌<◌, ◌≤◌, sym, subst, arith, length, length-set}
use Rattle.std.specs.List.{insert}
use Rattle.std.proofs.lemmas.List.Edits.{length-insert}
use Rattle.store_model.specs.Pairs.{IsPairs, IsValue}
use Rattle.ordered_pairs.specs.PairsState.{most_pairs}
use Rattle.node_pages.proofs.PlaceLemmas.{either}
use Rattle.ordered_pairs.proofs.ValidLemmas.{IsPairs-put}
use Rattle.ordered_pairs.proofs.map.MapPairsOrderedPairs.put.Goals as goal

-- the value is another under the key
pub invariant_of-self : goal.invariant_of-self
invariant_of-self c =
    let is_value : IsValue c.args.value = c.reveal_pair.ensures.value in
    let put = IsPairs-put c.args.key c.args.value c.args.self.now.pairs.items c.reveal_pair.ensures.key is_value
    c.args.self.now.valid in
    let changed = rw c.deref.ensures.value at (c.in-Ok.ensures.put c.args.value) in
    record {
      valid = subst IsPairs changed put;
      few = omega (
        arith,
        length-set c.args.self.now.pairs.items c.in-Ok.at
            (c.args.key, c.args.value),
        c.args.self.now.few,
      );
    }

-- the key is a new one, and memory ran out or its pair was added
pub invariant_of-self-in-Err : goal.invariant_of-self-in-Err
invariant_of-self-in-Err c =
    let is_value : IsValue c.args.value = c.reveal_pair.ensures.value in
    let put = IsPairs-put c.args.key c.args.value c.args.self.now.pairs.items c.reveal_pair.ensures.key is_value
    c.args.self.now.valid in
    let changed = rw c.deref.ensures.value at (c.in-Err.ensures.put c.args.value) in
    let within = rw c.deref.ensures.value at c.in-Err.ensures.within in
    let longer = length-insert c.args.self.now.pairs.items c.in-Err.at (c.args.key, c.args.value) within in
    let room : length c.args.self.now.pairs.items < most_pairs = c.requires tt in
    record {
      valid = subst IsPairs (sym c.insert.ensures.items)
          (either IsPairs _ _ _ (subst IsPairs changed put) c.args.self.now.valid);
      few = subst (λ s. length s ≤ most_pairs) (sym c.insert.ensures.items)
          (either (λ s. length s ≤ most_pairs) _
          (insert c.args.self.now.pairs.items c.in-Err.at (c.args.key, c.args.value))
          c.args.self.now.pairs.items (omega (arith, longer)) c.args.self.now.few);
    }
