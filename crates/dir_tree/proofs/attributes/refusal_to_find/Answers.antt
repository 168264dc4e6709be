use Rattle.std.proofs.Common.{refl, sym, ◌∙◌}
use Rattle.store_model.specs.Trees.{node_at}
use Rattle.dir_tree.proofs.RefusalLemmas.{nothing_stands, something_stands, find_at_root, find_of_none, find_of_one}
use Rattle.dir_tree.proofs.RefusalLemmas.{kept_itself, told_by_kind}
use Rattle.dir_tree.proofs.attributes.refusal_to_find.Goals as goal

pub returns-then-is_root-clause-call : goal.returns-then-is_root-clause-call
returns-then-is_root-clause-call g c = record {
  faults = refl;
  keeps = kept_itself (g.P.OrderedPairs.state c.args.pairs.now);
  told = λ seen t p holds. find_at_root t c.args.path.now (sym c.is_root.ensures.value ∙ c.if-is_root.true);
}

pub returns-in-None-clause-call : goal.returns-in-None-clause-call
returns-in-None-clause-call g c =
    told_by_kind _ c.args.path.now c.in_ok-kind_of.field-0 _ _ _ c.in_ok-kind_of.ensures.call
    (λ t told. find_of_none t c.args.path.now (sym c.is_root.ensures.value ∙ c.if-is_root.false)
    (nothing_stands (node_at t c.args.path.now) c.in_ok-kind_of.field-0 told c.in-None.is))

pub returns-in-Some-clause-call : goal.returns-in-Some-clause-call
returns-in-Some-clause-call g c =
    told_by_kind _ c.args.path.now c.in_ok-kind_of.field-0 _ _ _ c.in_ok-kind_of.ensures.call (λ t told.
    let stands = something_stands (node_at t c.args.path.now) c.in_ok-kind_of.field-0 told
    (λ none. let is = c.in-Some.is in cc) in
    find_of_one t c.args.path.now (sym c.is_root.ensures.value ∙ c.if-is_root.false) stands.0 stands.1)
