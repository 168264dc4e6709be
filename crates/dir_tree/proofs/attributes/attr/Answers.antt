use Rattle.std.proofs.Common.{List, [], ℕ, sym, ap, ◌∙◌}
use Rattle.std.specs.Prelude.{unwrap_or}
use Rattle.std.specs.FinMap.{find}
use Rattle.store_model.specs.declared.refusal.Refusal.TheVariants as refusals
use Rattle.store_model.specs.Paths.{key_cmp}
use Rattle.store_model.specs.Commands.Command.{GetAttribute}
use Rattle.store_model.specs.Commands.Reply.{Content}
use Rattle.store_model.specs.Steps.{reply_of, next_tree}
use Rattle.tree_pairs.proofs.CallLemmas.{step_done, step_refused}
use Rattle.tree_pairs.proofs.AttributeLemmas.{unfit_attribute, attribute_found}
use Rattle.dir_tree.proofs.AttributeLemmas.{refused_before, passed, found_path, no_room, has_room, unset_refused}
use Rattle.dir_tree.proofs.AttributeLemmas.{unset_of_none, unset_of_one, get_is_unset, attribute_value_is}
use Rattle.dir_tree.proofs.AttributeLemmas.{attribute_missing}
use Rattle.dir_tree.proofs.attributes.attr.Goals as goal

pub returns-in-Some-clause-call : goal.returns-in-Some-clause-call
returns-in-Some-clause-call g c =
    refused_before (λ x. Content x) (GetAttribute c.args.path.now c.args.name.now)
    c.args.path.now c.in-Some.refusal c.in_ok-refusal.field-0 _ _ c.in_ok-refusal.ensures.call c.in-Some.is
    (λ t is. get_is_unset t c.args.path.now c.args.name.now
    ∙ unset_refused t c.args.path.now c.args.name.now c.in-Some.refusal is)

-- no key, no attribute
pub returns-in_default-attr_key-clause-call : goal.returns-in_default-attr_key-clause-call
returns-in_default-attr_key-clause-call g c =
    let x = c.args.path.now in
    let a = c.args.name.now in
    let tells = c.in_ok-refusal.ensures.call in
    record {
      faults = tells.faults;
      observable = tells.keeps.observable;
      carried = λ seen t p holds.
          let front = passed x c.in_ok-refusal.field-0 _ _ tells c.in_default.not-Some seen t p holds in
          let long = no_room x a c.attr_key.result c.in_default-attr_key.not-Some c.attr_key.ensures.none
          (found_path t x front).0 in
          step_refused (λ x. Content x) refusals.NoAttr t (GetAttribute x a) p
          (g.P.OrderedPairs.state c.refusal_to_find.new.pairs)
          (get_is_unset t x a ∙ unset_of_none t x a front (unfit_attribute t x a holds.tree long))
          (tells.keeps.unchanged seen ∙ holds.pairs_are);
    }

pub returns-in-Some-2-clause-call : goal.returns-in-Some-2-clause-call
unfolding reply_of next_tree
returns-in-Some-2-clause-call g c =
    let x = c.args.path.now in
    let a = c.args.name.now in
    let between = g.P.OrderedPairs.state c.refusal_to_find.new.pairs in
    let tells = c.in_ok-refusal.ensures.call in
    let got = c.in_ok-value.ensures.call in
    record {
      faults = got.faults ∙ tells.faults;
      observable = λ seen. (got.observed (tells.keeps.observable seen)).observable;
      carried = λ seen t p holds.
          let front = passed x c.in_ok-refusal.field-0 _ _ tells c.in_default.not-Some seen t p holds in
          let call = got.observed (tells.keeps.observable seen) in
          let is = tells.keeps.unchanged seen ∙ holds.pairs_are in
          let there = attribute_value_is t p x a
          between.pairs holds.tree c.attr_key.ensures.path c.attr_key.ensures.name is
          c.in-Some-2.value (has_room x a c.attr_key.result c.in-Some-attr_key.key c.in-Some-attr_key.is
          c.attr_key.ensures.none)
          (ap (λ (k : List ℕ). find key_cmp k between.pairs) (sym c.in-Some-attr_key.ensures.value)
          ∙ sym call.found ∙ c.in-Some-2.is) in
          let short = (attribute_found t x a there.0 holds.tree there.1).short in
          step_done (λ x. Content x) c.bytes_in.result t (GetAttribute x a) p (g.P.OrderedPairs.state c.get.new.self)
          (get_is_unset t x a ∙ unset_of_one t x a there.0 front there.1)
          (ap Content (c.bytes_in.ensures.value there.0 short there.2 ∙ sym (ap (λ o. unwrap_or o []) there.1)))
          (call.unchanged ∙ is);
    }

pub returns-in-None-clause-call : goal.returns-in-None-clause-call
returns-in-None-clause-call g c =
    let x = c.args.path.now in
    let a = c.args.name.now in
    let between = g.P.OrderedPairs.state c.refusal_to_find.new.pairs in
    let tells = c.in_ok-refusal.ensures.call in
    let got = c.in_ok-value.ensures.call in
    record {
      faults = got.faults ∙ tells.faults;
      observable = λ seen. (got.observed (tells.keeps.observable seen)).observable;
      carried = λ seen t p holds.
          let front = passed x c.in_ok-refusal.field-0 _ _ tells c.in_default.not-Some seen t p holds in
          let call = got.observed (tells.keeps.observable seen) in
          let is = tells.keeps.unchanged seen ∙ holds.pairs_are in
          let missing = attribute_missing t p x a
          between.pairs holds.tree c.attr_key.ensures.path c.attr_key.ensures.name is
          (has_room x a c.attr_key.result c.in-Some-attr_key.key c.in-Some-attr_key.is c.attr_key.ensures.none)
          (ap (λ (k : List ℕ). find key_cmp k between.pairs) (sym c.in-Some-attr_key.ensures.value)
          ∙ sym call.found ∙ c.in-None.is) in
          step_refused (λ x. Content x) refusals.NoAttr t (GetAttribute x a) p (g.P.OrderedPairs.state c.get.new.self)
          (get_is_unset t x a ∙ unset_of_none t x a front missing) (call.unchanged ∙ is);
    }
