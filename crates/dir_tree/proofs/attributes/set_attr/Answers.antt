use Rattle.std.proofs.Common.{List, ℕ, length, ap, ap₂, refl, subst, ◌∙◌, arith}
use Rattle.std.specs.FinMap.{put as put_in}
use Rattle.store_model.specs.Paths.{key_cmp}
use Rattle.store_model.specs.Commands.Command.{SetAttribute}
use Rattle.store_model.specs.Commands.Reply.{Acknowledged}
use Rattle.store_model.specs.Steps.{reply_of}
use Rattle.tree_pairs.proofs.CallLemmas.{step_done, step_refused}
use Rattle.dir_tree.specs.AttributeCalls.{IsSetPair}
use Rattle.dir_tree.proofs.AttributeLemmas.{refused_before, passed, found_path, set_refused, set_decided, set_done}
use Rattle.dir_tree.proofs.AttributeLemmas.{set_pair_ok, set_pair_err}
use Rattle.dir_tree.proofs.attributes.set_attr.Goals as goal

pub put-requires : goal.put-requires
put-requires g c seen =
    let before = c.in_ok-refusal.ensures.hidden seen in
    let few = c.requires.room before in
    let same = c.in_ok-refusal.ensures.call.keeps.unchanged before in
    omega (arith, ap length same)

pub returns-in-Some-clause-call : goal.returns-in-Some-clause-call
returns-in-Some-clause-call g c =
    refused_before (λ x. Acknowledged) (SetAttribute c.args.path.now c.args.name.now c.args.bytes.now)
    c.args.path.now c.in-Some.refusal c.in_ok-refusal.field-0 _ _ c.in_ok-refusal.ensures.call c.in-Some.is
    (λ t is. set_refused t c.args.path.now c.args.name.now c.args.bytes.now c.in-Some.refusal is)

pub returns-in_ok-put-in-Ok-clause-call : goal.returns-in_ok-put-in-Ok-clause-call
unfolding reply_of
returns-in_ok-put-in-Ok-clause-call g c =
    let x = c.args.path.now in
    let a = c.args.name.now in
    let bytes = c.args.bytes.now in
    let between = g.P.OrderedPairs.state c.refusal_to_find.new.pairs in
    let tells = c.in_ok-refusal.ensures.call in
    let stored = c.in_ok-put-in-Ok.ensures.call in
    record {
      faults = stored.faults ∙ tells.faults;
      observable = λ seen. (stored.observed (tells.keeps.observable seen)).observable;
      carried = λ seen t p holds.
          let front = passed x c.in_ok-refusal.field-0 _ _ tells c.in_default.not-Some seen t p holds in
          let call = stored.observed (tells.keeps.observable seen) in
          let is = tells.keeps.unchanged seen ∙ holds.pairs_are in
          let pair = set_pair_ok x a bytes c.set_pair.result c.in-Ok.pair c.in-Ok.is
          (subst (λ (b : List ℕ). IsSetPair x a b c.set_pair.result)
          c.as_slice.ensures.value (c.set_pair.ensures (found_path t x front).0)) in
          let none = set_decided t x a bytes front ∙ pair.allowed in
          step_done (λ x. Acknowledged) tt t (SetAttribute x a bytes) p
          (g.P.OrderedPairs.state c.put.new.self) none refl
          (call.changed ∙ ap₂ (λ (k v : List ℕ). put_in key_cmp k v between.pairs) pair.key_is pair.value_is
          ∙ set_done t p x a bytes between.pairs holds.tree pair.path_is pair.named pair.fits
          c.as_slice.ensures.bytes front none is);
    }

pub returns-in-Err-clause-call : goal.returns-in-Err-clause-call
returns-in-Err-clause-call g c =
    let x = c.args.path.now in
    let a = c.args.name.now in
    let bytes = c.args.bytes.now in
    let tells = c.in_ok-refusal.ensures.call in
    record {
      faults = tells.faults;
      observable = tells.keeps.observable;
      carried = λ seen t p holds.
          let front = passed x c.in_ok-refusal.field-0 _ _ tells c.in_default.not-Some seen t p holds in
          let why = set_pair_err x a bytes c.set_pair.result c.in-Err.refusal c.in-Err.is
          (subst (λ (b : List ℕ). IsSetPair x a b c.set_pair.result)
          c.as_slice.ensures.value (c.set_pair.ensures (found_path t x front).0)) in
          step_refused (λ x. Acknowledged) c.in-Err.refusal t (SetAttribute x a bytes) p
          (g.P.OrderedPairs.state c.refusal_to_find.new.pairs) (set_decided t x a bytes front ∙ why)
          (tells.keeps.unchanged seen ∙ holds.pairs_are);
    }
