use Rattle.std.proofs.Common.{List, ℕ, sym, ap, refl, ◌∙◌}
use Rattle.std.specs.FinMap.{find}
use Rattle.store_model.specs.declared.refusal.Refusal.TheVariants as refusals
use Rattle.store_model.specs.Paths.{key_cmp}
use Rattle.store_model.specs.Commands.Command.{UnsetAttribute}
use Rattle.store_model.specs.Commands.Reply.{Acknowledged}
use Rattle.store_model.specs.Steps.{reply_of}
use Rattle.ordered_pairs.specs.PairsState.{without}
use Rattle.tree_pairs.proofs.CallLemmas.{step_done, step_refused}
use Rattle.tree_pairs.proofs.AttributeLemmas.{unfit_attribute}
use Rattle.dir_tree.proofs.AttributeLemmas.{refused_before, passed, found_path, no_room, has_room, unset_refused}
use Rattle.dir_tree.proofs.AttributeLemmas.{unset_of_none, unset_of_one, unset_done, without_none, attribute_value_is}
use Rattle.dir_tree.proofs.AttributeLemmas.{attribute_missing}
use Rattle.dir_tree.proofs.attributes.unset_attr.Goals as goal

pub returns-in-Some-clause-call : goal.returns-in-Some-clause-call
returns-in-Some-clause-call g c =
    refused_before (λ x. Acknowledged) (UnsetAttribute c.args.path.now c.args.name.now)
    c.args.path.now c.in-Some.refusal c.in_ok-refusal.field-0 _ _ c.in_ok-refusal.ensures.call c.in-Some.is
    (λ t is. unset_refused t c.args.path.now c.args.name.now c.in-Some.refusal is)

-- no key, no attribute
pub returns-in_default-attr_key-clause-call : goal.returns-in_default-attr_key-clause-call
returns-in_default-attr_key-clause-call g c =
    let x = c.args.path.now in
    let a = c.args.name.now in
    let tells = c.in_ok-refusal.ensures.call in
    record {
      faults = tells.faults;
      observable = tells.keeps.observable;
      carried = λ seen t p holds.
          let front = passed x c.in_ok-refusal.field-0 _ _ tells c.in_default.not-Some seen t p holds in
          let long = no_room x a c.attr_key.result c.in_default-attr_key.not-Some c.attr_key.ensures.none
          (found_path t x front).0 in
          step_refused (λ x. Acknowledged) refusals.NoAttr t (UnsetAttribute x a) p
          (g.P.OrderedPairs.state c.refusal_to_find.new.pairs)
          (unset_of_none t x a front (unfit_attribute t x a holds.tree long))
          (tells.keeps.unchanged seen ∙ holds.pairs_are);
    }

pub returns-in-Some-2-clause-call : goal.returns-in-Some-2-clause-call
unfolding reply_of
returns-in-Some-2-clause-call g c =
    let x = c.args.path.now in
    let a = c.args.name.now in
    let between = g.P.OrderedPairs.state c.refusal_to_find.new.pairs in
    let tells = c.in_ok-refusal.ensures.call in
    let taken = c.in_ok-take.ensures.call in
    record {
      faults = taken.faults ∙ tells.faults;
      observable = λ seen. (taken.observed (tells.keeps.observable seen)).observable;
      carried = λ seen t p holds.
          let front = passed x c.in_ok-refusal.field-0 _ _ tells c.in_default.not-Some seen t p holds in
          let call = taken.observed (tells.keeps.observable seen) in
          let is = tells.keeps.unchanged seen ∙ holds.pairs_are in
          let fits = has_room x a c.attr_key.result c.in-Some-attr_key.key c.in-Some-attr_key.is c.attr_key.ensures.none
          in
          let there = attribute_value_is t p x a
          between.pairs holds.tree c.attr_key.ensures.path c.attr_key.ensures.name is _ fits
          (ap (λ (k : List ℕ). find key_cmp k between.pairs) (sym c.in-Some-attr_key.ensures.value)
          ∙ sym call.found ∙ c.in-Some-2.is) in
          let none = unset_of_one t x a there.0 front there.1 in
          step_done (λ x. Acknowledged) tt t (UnsetAttribute x a) p (g.P.OrderedPairs.state c.take.new.self) none refl
          (call.changed ∙ ap (λ (k : List ℕ). without k between.pairs) c.in-Some-attr_key.ensures.value
          ∙ unset_done t p x a between.pairs holds.tree c.attr_key.ensures.path c.attr_key.ensures.name fits front
          none is);
    }

pub returns-in-None-clause-call : goal.returns-in-None-clause-call
returns-in-None-clause-call g c =
    let x = c.args.path.now in
    let a = c.args.name.now in
    let between = g.P.OrderedPairs.state c.refusal_to_find.new.pairs in
    let tells = c.in_ok-refusal.ensures.call in
    let taken = c.in_ok-take.ensures.call in
    record {
      faults = taken.faults ∙ tells.faults;
      observable = λ seen. (taken.observed (tells.keeps.observable seen)).observable;
      carried = λ seen t p holds.
          let front = passed x c.in_ok-refusal.field-0 _ _ tells c.in_default.not-Some seen t p holds in
          let call = taken.observed (tells.keeps.observable seen) in
          let is = tells.keeps.unchanged seen ∙ holds.pairs_are in
          let missing = attribute_missing t p x a
          between.pairs holds.tree c.attr_key.ensures.path c.attr_key.ensures.name is
          (has_room x a c.attr_key.result c.in-Some-attr_key.key c.in-Some-attr_key.is c.attr_key.ensures.none)
          (ap (λ (k : List ℕ). find key_cmp k between.pairs) (sym c.in-Some-attr_key.ensures.value)
          ∙ sym call.found ∙ c.in-None.is) in
          step_refused (λ x. Acknowledged) refusals.NoAttr t (UnsetAttribute x a) p
          (g.P.OrderedPairs.state c.take.new.self) (unset_of_none t x a front missing)
          (call.changed ∙ without_none c.in-Some-attr_key.key between.pairs (sym call.found ∙ c.in-None.is) ∙ is);
    }
